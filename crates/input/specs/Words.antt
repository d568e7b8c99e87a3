-- The words of a script. Definitions only.
use Rattle.std.specs.Prelude.{ℕ, ◌+◌, ◌*◌, List, get_or}

-- word k of the bytes, of 32 bits, low byte first, with 0 for a byte that lies past the end
abbrev pub word_at : List ℕ → ℕ → ℕ
word_at s k = get_or s (k * 4) 0 + get_or s (k * 4 + 1) 0 * 256 + get_or s (k * 4 + 2) 0 * 65536 + get_or s (k * 4 + 3) 0 * 16777216
