-- Bytes in capital hexadecimal: how they are written, and how they are read.
use Rattle.std.specs.Prelude.{◌≡◌, ℕ, ◌+◌, ◌-◌, ◌*◌, ◌/◌, ◌%◌, ◌<◌, cond, ◌&&◌, List, [], ◌∷◌, ◌++◌, length, drop, Some, None, Option, nat_le, nat_lt, slice_index}

-- a hexadecimal digit, in capitals
abbrev pub hex_digit : ℕ → ℕ
hex_digit n = cond (nat_lt n 10) (48 + n) (55 + n)

-- two digits for each byte
abbrev pub hex_of : List ℕ → List ℕ
hex_of [] = []
hex_of (b ∷ bs) = hex_digit (b / 16) ∷ hex_digit (b % 16) ∷ hex_of bs

-- the number that a digit writes: 0 to 9, A to F, and no other
abbrev pub hex_value : ℕ → Option ℕ
hex_value c = cond (nat_le 48 c && nat_le c 57) (Some (c - 48)) (cond (nat_le 65 c && nat_le c 70) (Some (c - 55)) None)

-- sixteen times the one value and the other
abbrev pub byte_from : Option ℕ → Option ℕ → Option ℕ
byte_from None low = None
byte_from (Some h) None = None
byte_from (Some h) (Some l) = Some (h * 16 + l)

-- the byte that two digits write
abbrev pub hex_byte : ℕ → ℕ → Option ℕ
hex_byte high low = byte_from (hex_value high) (hex_value low)

-- one byte more in front
abbrev pub byte_then : Option ℕ → Option (List ℕ) → Option (List ℕ)
byte_then None bytes = None
byte_then (Some b) None = None
byte_then (Some b) (Some bs) = Some (b ∷ bs)

-- the bytes that a text of pairs of digits writes; none where it has another form
unfoldable pub bytes_of_hex : List ℕ → Option (List ℕ)
bytes_of_hex [] = Some []
bytes_of_hex (high ∷ []) = None
bytes_of_hex (high ∷ low ∷ more) = byte_then (hex_byte high low) (bytes_of_hex more)

-- a byte in front, or nothing where there is no byte
abbrev pub leading_from : Option ℕ → List ℕ → List ℕ
leading_from None bytes = []
leading_from (Some b) bytes = b ∷ bytes

-- the bytes that the pairs of digits at a text's start write, up to the first pair that writes none
unfoldable pub leading_bytes : List ℕ → List ℕ
leading_bytes [] = []
leading_bytes (high ∷ []) = []
leading_bytes (high ∷ low ∷ more) = leading_from (hex_byte high low) (leading_bytes more)

-- a buffer with the bytes at its start; the rest of it stays
unfoldable pub overlaid : List ℕ → List ℕ → List ℕ
overlaid bytes buffer = bytes ++ drop (length bytes) buffer

-- bytes that are written are read back
abbrev pub WrittenRead : Type 0
WrittenRead = (bytes : List ℕ) → ((k : ℕ) → slice_index bytes k < 256) → bytes_of_hex (hex_of bytes) ≡ Some bytes

-- only what is written for bytes is read as those bytes
abbrev pub ReadWritten : Type 0
ReadWritten = (text bytes : List ℕ) → bytes_of_hex text ≡ Some bytes → hex_of bytes ≡ text
