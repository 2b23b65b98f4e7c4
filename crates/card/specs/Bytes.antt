-- Numbers of four bytes, highest first, and parts of a list of bytes.
use Rattle.std.specs.Prelude.{◌≡◌, ℕ, ◌+◌, ◌*◌, ◌/◌, ◌%◌, ◌<◌, Bool, List, [], ◌∷◌, length, take, drop, ◌==◌, slice_index}
use Rattle.std.specs.List.{list_all}

-- the byte at i, 00 past the end
abbrev pub byte : List ℕ → ℕ → ℕ
byte xs i = slice_index xs i

-- n bytes from i on
abbrev pub part : ℕ → ℕ → List ℕ → List ℕ
part i n xs = take n (drop i xs)

-- the number that the first four bytes are
unfoldable pub word : List ℕ → ℕ
word xs = byte xs 0 * 16777216 + byte xs 1 * 65536 + byte xs 2 * 256 + byte xs 3

-- the number whose four bytes stand at i
abbrev pub word_at : ℕ → List ℕ → ℕ
word_at i xs = word (drop i xs)

-- the four bytes of a number
abbrev pub four : ℕ → List ℕ
four n = (n / 16777216 % 256) ∷ (n / 65536 % 256) ∷ (n / 256 % 256) ∷ (n % 256) ∷ []

-- nothing but 00
abbrev pub all_zero : List ℕ → Bool
all_zero xs = list_all (λ x. x == 0) xs

-- n bytes
pub record Bytes (n : ℕ) (xs : List ℕ) : Type 0 where
  pub sized : length xs ≡ n
  pub fits : (k : ℕ) → byte xs k < 256
