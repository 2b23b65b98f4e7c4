-- The Data Encryption Algorithm (FIPS 46-3), on a block of 64 bits.
use Rattle.std.specs.Prelude.{ℕ, ◌+◌, ◌*◌, ◌/◌, ◌%◌, ◌^◌, List, reverse, fold, bit_xor}
use Rattle.des.specs.Permutations.{ip, ip_inverse}
use Rattle.des.specs.Function.{f}
use Rattle.des.specs.Keys.{key_schedule}

-- the left and the right half, L and R, of 64 bits
abbrev pub halves : ℕ → ℕ × ℕ
halves x = (x / 2 ^ 32, x % 2 ^ 32)

-- one round with the key K: L' = R, and R' = L xor f(R, K)
abbrev pub round : ℕ × ℕ → ℕ → ℕ × ℕ
round s k = (s.1, bit_xor s.0 (f s.1 k))

-- the right half, then the left half
abbrev pub right_then_left : ℕ × ℕ → ℕ
right_then_left s = s.1 * 2 ^ 32 + s.0

-- the preoutput: a round with each of the keys, then the right half before the left
unfoldable pub preoutput : List ℕ → ℕ → ℕ
preoutput keys x = right_then_left (fold round (halves x) keys)

-- the whole computation with the given keys, one for each round
abbrev pub des : List ℕ → ℕ → ℕ
des keys x = ip_inverse (preoutput keys (ip x))

-- enciphering: K1 in the first round, K16 in the last
abbrev pub des_enciphered : ℕ → ℕ → ℕ
des_enciphered key x = des (key_schedule key) x

-- deciphering: K16 in the first round, K1 in the last
abbrev pub des_deciphered : ℕ → ℕ → ℕ
des_deciphered key x = des (reverse (key_schedule key)) x
