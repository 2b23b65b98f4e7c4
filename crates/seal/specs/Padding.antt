-- The padding of a message to whole blocks.
use Rattle.std.specs.Prelude.{◌≡◌, ℕ, ◌+◌, ◌-◌, ◌*◌, ◌/◌, ◌%◌, ◌<◌, List, [], ◌∷◌, ◌++◌, length, take, drop, replicate}
use Rattle.cipher.specs.Cipher.{BlockSize}

-- how many blocks of b bytes a message of n bytes fills with at least one byte appended
unfoldable pub blocks : ℕ → ℕ → ℕ
blocks b n = n / b + 1

-- the message, 80, then 00 up to a whole block of b bytes
unfoldable pub padded : ℕ → List ℕ → List ℕ
padded b m = m ++ (0x80 ∷ replicate (blocks b (length m) * b - length m - 1) 0)

-- a workpad once its first n bytes were padded: the padded message, then what stood behind it
abbrev pub padded_workpad : ℕ → List ℕ → ℕ → List ℕ
padded_workpad b workpad n = padded b (take n workpad) ++ drop (blocks b n * b) workpad

-- p is the message m with one byte 80 and fewer than b bytes 00 appended, and fills whole blocks of b bytes
pub record IsPadded (b : ℕ) (m p : List ℕ) : Type 0 where
  pub zeros : ℕ
  pub appended : p ≡ m ++ (0x80 ∷ replicate zeros 0)
  pub few : zeros < b
  pub whole : length p % b ≡ 0

-- the rule of padding: for each block size and every message
abbrev pub PaddingRule : Type 0
PaddingRule = (b : ℕ) → BlockSize b → (m : List ℕ) → IsPadded b m (padded b m)

-- how long some messages become: the length of a message, its padded length in blocks of 8 bytes and in blocks of 16 bytes
pub record Row : Type 0 where
  pub message : ℕ
  pub by_8 : ℕ
  pub by_16 : ℕ

-- a row
abbrev row : ℕ → ℕ → ℕ → Row
row m a b = record { message = m; by_8 = a; by_16 = b }

-- the rows of docs/SEALS.md
abbrev pub padding_rows : List Row
padding_rows = row 0 8 16 ∷ row 7 8 16 ∷ row 8 16 16 ∷ row 15 16 16 ∷ row 16 24 32 ∷ row 24 32 32 ∷ row 29 32 32 ∷ row 38 40 48 ∷ []

-- every message of a row's length gets the padded lengths of the row
abbrev pub RowsHold : List Row → Type 0
RowsHold [] = Unit {0}
RowsHold (r ∷ rs) =
    ((m : List ℕ) → length m ≡ r.message → (length (padded 8 m) ≡ r.by_8) × (length (padded 16 m) ≡ r.by_16)) × RowsHold rs
