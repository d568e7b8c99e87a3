-- A float is finite where it lies between the two infinities. Assumes nothing.
use Rattle.std.proofs.Common.{◌≡◌, true, false, refl, true≢false}
use mathlib.Core.Bool.{false≢true}
use lib.Ieee.{Float, nan, inf, fin, lt}
use lib.Ieee.Scale.{finite}

-- below +infinity, what is above -infinity is finite
pub both : (x : Float) → lt x (inf false) ≡ true → lt (inf true) x ≡ finite x
unfolding lt
both nan h = refl
both (inf true) h = refl
both (inf false) h = absurd (false≢true h)
both (fin s m e) h = refl

-- what is not below +infinity is not finite
pub one : (x : Float) → lt x (inf false) ≡ false → lt x (inf false) ≡ finite x
unfolding lt
one nan h = refl
one (inf true) h = absurd (true≢false h)
one (inf false) h = refl
one (fin s m e) h = absurd (true≢false h)
