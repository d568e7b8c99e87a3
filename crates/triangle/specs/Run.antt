-- A run of triangles: six settings, the start of its indices, and their count. It stands in its entry from place o on, which is 0 in table 9.
-- Definitions only.
use Rattle.std.specs.Prelude.{ℕ, ◌+◌, Bool, ◌||◌, List, [], ◌∷◌, ◌++◌, length, get_or, set, eqb}
use Rattle.areas.specs.Area.{part, matches}
use Rattle.areas.specs.Widths.{settings_wide, start_field, count_field}
use Rattle.decide.specs.Append.{final}
use Rattle.triangle.specs.Slot.{bit}

-- the microcode does not clip: 1 is F3dex2NoN
abbrev pub unclipped : ℕ → Bool
unclipped microcode = eqb microcode 1

-- the six settings: the caller's four numbers, cull 0/1, unclipped 0/1
abbrev pub settings : List ℕ → Bool → ℕ → List ℕ
settings asked cull microcode = asked ++ bit cull ∷ bit (unclipped microcode) ∷ []

-- the run with these settings
abbrev pub run_of : List ℕ → ℕ → ℕ → List ℕ
run_of q start count = q ++ start ∷ count ∷ []

-- an entry whose run has one triangle more
abbrev pub longer : ℕ → List ℕ → List ℕ
longer o e = set e (o + count_field) (get_or e (o + count_field) 0 + 3)

-- the run of the last entry in use, if there is one, ends where the n indices in use do: start plus count, in whole numbers
unfoldable pub closed : ℕ → List (List ℕ) → ℕ → Bool
closed o us n = eqb (length us) 0 || eqb (get_or (final us) (o + start_field) 0 + get_or (final us) (o + count_field) 0) n

-- the run of the last entry in use has the settings q
unfoldable pub same_run : ℕ → List (List ℕ) → List ℕ → Bool
same_run o us q = matches eqb (part (final us) o settings_wide) q
