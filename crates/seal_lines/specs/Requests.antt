-- What a line of the input asks for.
use Rattle.std.specs.Prelude.{ℕ, Bool, cond, ◌&&◌, List, length, take, drop, Some, None, Option, ◌==◌, nat_le, slice_index}
use Rattle.text.specs.Hex.{hex_byte, bytes_of_hex}
use Rattle.seal_lines.specs.declared.requests.Request.{Request}

-- what is asked for: the seal of a message under an algorithm and a key
pub record Asked : Type 0 where
  pub algorithm : ℕ
  pub key : List ℕ
  pub message : List ℕ

-- a byte 2C is a comma
abbrev pub comma : ℕ
comma = 0x2C

-- bytes, where they are at most n
abbrev pub at_most : ℕ → Option (List ℕ) → Option (List ℕ)
at_most n None = None
at_most n (Some bytes) = cond (nat_le (length bytes) n) (Some bytes) None

-- an algorithm, a key and a message together, where each is there
abbrev pub asked : Option ℕ → Option (List ℕ) → Option (List ℕ) → Option Asked
asked None key message = None
asked (Some a) None message = None
asked (Some a) (Some k) None = None
asked (Some a) (Some k) (Some m) = Some (record { algorithm = a; key = k; message = m })

-- a comma behind two bytes, and one behind 32 bytes more
abbrev pub has_commas : List ℕ → Bool
has_commas line = nat_le 36 (length line) && (slice_index line 2 == comma && slice_index line 35 == comma)

-- what a line asks for: two digits, a comma, 32 digits, a comma, and pairs of digits of at most 47 bytes; none where it has another form
abbrev pub request_of : List ℕ → Option Asked
request_of line =
    cond (has_commas line)
    (asked (hex_byte (slice_index line 0) (slice_index line 1)) (bytes_of_hex (take 32 (drop 3 line))) (at_most 47 (bytes_of_hex (drop 36 line))))
    None

-- what a request in memory asks for
abbrev pub asked_by : Request → Asked
asked_by r = record { algorithm = r.algorithm; key = r.key; message = r.message.items }
