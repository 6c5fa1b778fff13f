-- Bits in words of 64.
use Rattle.std.specs.Prelude.{ℕ, ◌==◌, Bool, List, map}
use Rattle.std.specs.Int.{bit_at}
use Rattle.std.specs.List.{flat_map, range_with_len}

-- the bits of a word, the lowest first
unfoldable pub word_bits : ℕ → List Bool
word_bits word = map (λ place. bit_at word place == 1) (range_with_len 0 64)

-- the bits of all words: bit b is in word b / 64
unfoldable pub words_bits : List ℕ → List Bool
words_bits words = flat_map word_bits words
