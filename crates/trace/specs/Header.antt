-- The header: of which kind and length it is, the lengths that it asks for, and which of them are served. Definitions only.
use Rattle.std.specs.Prelude.{ℕ, ◌+◌, ◌≤◌, Bool, ◌||◌, List, [], ◌∷◌, eqb, leb}
use Rattle.numbers.specs.Choice.{pick}
use Rattle.trace.specs.declared.rooms.Lengths.{Lengths}
use Rattle.trace.specs.Script.{word_at}

-- whether it begins with GST2
unfoldable pub is_second : List ℕ → Bool
is_second s = eqb (word_at s 0) 0x32545347

-- whether it begins with GST1 or GST2
unfoldable pub is_trace : List ℕ → Bool
is_trace s = eqb (word_at s 0) 0x31545347 || is_second s

-- how many bytes it has: GST1 and ten lengths, or GST2, the requests and thirteen lengths
unfoldable pub header_size : List ℕ → ℕ
header_size s = pick (is_second s) 60 44

-- the word at which the lengths begin: behind GST2 the requests stand before them
unfoldable pub first_length : List ℕ → ℕ
first_length s = pick (is_second s) 2 1

-- the lengths of the ten areas
abbrev pub lengths_of : List ℕ → Lengths
lengths_of s =
    let k = first_length s in
    record {
      matrices = word_at s k;
      viewports = word_at s (k + 1);
      scales = word_at s (k + 2);
      lights = word_at s (k + 3);
      lookats = word_at s (k + 4);
      fogs = word_at s (k + 5);
      floats = word_at s (k + 6);
      words = word_at s (k + 7);
      indices = word_at s (k + 8);
      runs = word_at s (k + 9);
    }

-- the bounds of the format
pub record Within (l : Lengths) : Type 0 where
  pub matrices : l.matrices ≤ 8192
  pub viewports : l.viewports ≤ 3072
  pub scales : l.scales ≤ 4096
  pub lights : l.lights ≤ 24576
  pub lookats : l.lookats ≤ 6144
  pub fogs : l.fogs ≤ 1024
  pub floats : l.floats ≤ 36864
  pub words : l.words ≤ 45056
  pub indices : l.indices ≤ 12288
  pub runs : l.runs ≤ 16384

-- the same as tests
abbrev pub within_tests : Lengths → List Bool
within_tests l =
    leb l.matrices 8192
    ∷ leb l.viewports 3072
    ∷ leb l.scales 4096
    ∷ leb l.lights 24576
    ∷ leb l.lookats 6144
    ∷ leb l.fogs 1024
    ∷ leb l.floats 36864
    ∷ leb l.words 45056
    ∷ leb l.indices 12288
    ∷ leb l.runs 16384
    ∷ []
