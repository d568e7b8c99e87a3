-- The Rust's choice, said by the library's `cond`, is the stage's `pick`. Assumes nothing.
use mathlib.Core.Path.{◌≡◌, refl}
use mathlib.Core.Bool.{Bool, true, false, cond}
use Rattle.numbers.specs.Choice.{pick}

pub chosen : {A : Type 0} (b : Bool) (x y : A) → cond b x y ≡ pick b x y
unfolding pick
chosen true x y = refl
chosen false x y = refl
