-- What the driver's own acts leave as it is. Assumes nothing.
use mathlib.Core.Path.{◌≡◌, refl, sym}
use mathlib.Core.Logic.{◌≢◌}
use Prim.Native.Nat.{ℕ, zero, suc, ◌≤◌, ◌<◌}
use mathlib.Core.List.{List}
use native.Mathlib.Omega.{arith}
use lib.ListN.{length, get_or}
use lib.Seq.{set_out}
use Rattle.stage.specs.declared.State.{State}
use Rattle.player.specs.Acts.{count_after, poked_states}

-- a table that there is not
pub no_table : (t n : ℕ) (l : List ℕ) → (1 ≤ t → length l < t) → l ≡ count_after t n l
no_table zero n l h = refl
no_table (suc t) n l h = sym (set_out l t n (below (h (omega arith))))
  where
    below : length l < suc t → length l ≤ t
    below k = omega arith

-- a field that there is not
pub no_field : (s : State) (i v f : ℕ) → 5 ≤ f → f ≢ 7 → s ≡ get_or (poked_states s i v) f s
no_field s i v zero h n = absurd (omega arith)
no_field s i v (suc zero) h n = absurd (omega arith)
no_field s i v (suc (suc zero)) h n = absurd (omega arith)
no_field s i v (suc (suc (suc zero))) h n = absurd (omega arith)
no_field s i v (suc (suc (suc (suc zero)))) h n = absurd (omega arith)
no_field s i v (suc (suc (suc (suc (suc zero))))) h n = refl
no_field s i v (suc (suc (suc (suc (suc (suc zero)))))) h n = refl
no_field s i v (suc (suc (suc (suc (suc (suc (suc zero))))))) h n = absurd (n refl)
no_field s i v (suc (suc (suc (suc (suc (suc (suc (suc f)))))))) h n = refl
