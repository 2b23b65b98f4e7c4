-- Words of 64 bits and their eight bytes, the highest first.
use Rattle.std.specs.Prelude.{ℕ, ◌+◌, ◌*◌, ◌/◌, ◌%◌, List, [], ◌∷◌, slice_index}

-- the word of eight bytes
unfoldable pub word_of : List ℕ → ℕ
word_of b =
    slice_index b 0 * 72057594037927936 + slice_index b 1 * 281474976710656 + slice_index b 2 * 1099511627776 + slice_index b 3 * 4294967296
    + slice_index b 4 * 16777216 + slice_index b 5 * 65536 + slice_index b 6 * 256 + slice_index b 7

-- the word of the eight bytes from place i on
abbrev pub word_at : List ℕ → ℕ → ℕ
word_at b i =
    word_of (slice_index b i ∷ slice_index b (i + 1) ∷ slice_index b (i + 2) ∷ slice_index b (i + 3) ∷ slice_index b (i + 4) ∷ slice_index b (i + 5) ∷ slice_index b (i + 6) ∷ slice_index b (i + 7) ∷ [])

-- the eight bytes of a word
unfoldable pub bytes_of : ℕ → List ℕ
bytes_of x =
    (x / 72057594037927936 % 256) ∷ (x / 281474976710656 % 256) ∷ (x / 1099511627776 % 256) ∷ (x / 4294967296 % 256) ∷
    (x / 16777216 % 256) ∷ (x / 65536 % 256) ∷ (x / 256 % 256) ∷ (x % 256) ∷ []
