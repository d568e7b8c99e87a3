-- What a recorded triangle shows: its three corners with values in place of table numbers, and its run settings. Definitions only.
use Rattle.std.specs.Prelude.{ℕ, zero, suc, ◌+◌, ◌*◌, Bool, ◌&&◌, List, [], ◌∷◌, get_or, take, drop, eqb, leb, ℤ, Float}
use Rattle.std.proofs.Math.Option.{Option, none, some}
use Rattle.areas.specs.Area.{part}
use Rattle.areas.specs.Widths.{flags_word, matrix_word, viewport_word, scale_word, colour_word, light_word, lights_word, texgen_word, fog_word, lookat_word, settings_wide, start_field, count_field}
use Rattle.stage.specs.Plan.{Row, pick}
use Rattle.sequence.specs.Sequence.{Book}

-- a full corner: no number of a table is in it
pub record Corner : Type 0 where
  -- position x y z, s, t, four screen numbers
  pub floats : List Float
  -- modify flags
  pub flags : ℕ
  pub matrix : List Float
  pub viewport : List Float
  pub scale : List Float
  -- colour word
  pub colour : ℕ
  pub lights : List (List Float)
  -- texgen mode
  pub texgen : ℕ
  pub fog : Option (List ℤ)
  pub lookat : Option (List Float)

-- the entries in use of tables 1 to 6
pub record Entries : Type 0 where
  pub matrices : List (List Float)
  pub viewports : List (List Float)
  pub scales : List (List Float)
  pub lights : List (List Float)
  pub lookats : List (List Float)
  pub fogs : List (List ℤ)

abbrev pub entries_of : Book → Entries
entries_of k =
    record {
      matrices = k.matrices.used;
      viewports = k.viewports.used;
      scales = k.scales.used;
      lights = k.lights.used;
      lookats = k.lookats.used;
      fogs = k.fogs.used;
    }

-- a row's fog number is 0, none, or a place plus 1
abbrev pub fog_shown : List (List ℤ) → ℕ → Option (List ℤ)
fog_shown t zero = none
fog_shown t (suc i) = some (get_or t i [])

-- the row with these f32, and the u32 that word gives by place, each table number replaced by the entry's values
unfoldable pub shown_by : Entries → List Float → (ℕ → ℕ) → Corner
shown_by t floats word =
    record {
      floats = floats;
      flags = word flags_word;
      matrix = get_or t.matrices (word matrix_word) [];
      viewport = get_or t.viewports (word viewport_word) [];
      scale = get_or t.scales (word scale_word) [];
      colour = word colour_word;
      lights = part t.lights (word light_word) (word lights_word);
      texgen = word texgen_word;
      fog = fog_shown t.fogs (word fog_word);
      lookat = pick (eqb (word texgen_word) 0) none (some (get_or t.lookats (word lookat_word) []));
    }

-- a row's u32 at place i
abbrev pub row_word : Row → ℕ → ℕ
row_word r i = get_or r.words i 0

-- a corner shown
unfoldable pub shown : Entries → Row → Corner
shown t r = shown_by t r.floats (row_word r)

-- a triangle by value
pub record Triangle : Type 0 where
  pub corners : List Corner
  -- material, render mode, fog colour, primitive depth, cull, unclipped
  pub settings : List ℕ

-- a run that begins at place o of its entry holds the three indices from i on
abbrev pub holds : ℕ → List ℕ → ℕ → Bool
holds o r i = leb (get_or r (o + start_field) 0) i && leb (i + 3) (get_or r (o + start_field) 0 + get_or r (o + count_field) 0)

-- the settings of the first run that holds the three indices from i on
unfoldable pub settings_at : ℕ → List (List ℕ) → ℕ → List ℕ
settings_at o [] i = []
settings_at o (r ∷ rs) i = pick (holds o r i) (take settings_wide (drop o r)) (settings_at o rs i)

-- the row that index i names
abbrev pub no_row : Row
no_row = record { floats = []; words = [] }

abbrev pub named : List (List ℕ) → ℕ → ℕ
named indices i = get_or (get_or indices i []) 0 0

-- the corner that index i shows, from tables 1 to 6, the rows and the indices
unfoldable pub corner_of : Entries → List Row → List (List ℕ) → ℕ → Corner
corner_of t rows indices i = shown t (get_or rows (named indices i) no_row)

-- triangle n, from tables 1 to 6, the rows, the indices and the runs
unfoldable pub triangle_of : Entries → List Row → List (List ℕ) → List (List ℕ) → ℕ → Triangle
triangle_of t rows indices runs n =
    record {
      corners = corner_of t rows indices (3 * n) ∷ corner_of t rows indices (3 * n + 1) ∷ corner_of t rows indices (3 * n + 2) ∷ [];
      settings = settings_at 0 runs (3 * n);
    }

-- what triangle n of a book shows
abbrev pub triangle_at : Book → ℕ → Triangle
triangle_at k n = triangle_of (entries_of k) k.rows.used k.drawing.indices.used k.drawing.runs.used n
