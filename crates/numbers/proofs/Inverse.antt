-- What `inverse_length` gives, by its test. Assumes nothing.
use Rattle.std.proofs.Common.{◌≡◌, Bool, sym, ap, ◌∙◌}
use lib.Ieee.{Float, binary32, lt, div}
use Rattle.numbers.specs.Choice.{pick}
use Rattle.numbers.specs.Length.{zero, one, inverse}

-- the test on l comes out as b, and l is m
pub by-test : (l m : Float) (b : Bool) → l ≡ m → lt zero l ≡ b → pick b (div binary32 one l) zero ≡ inverse m
by-test l m b e t = ap (λ (x : Float). pick b (div binary32 one x) zero) e ∙ ap (λ (c : Bool). pick c (div binary32 one m) zero) (sym t ∙ ap (lt zero) e)
