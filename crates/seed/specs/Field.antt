-- The rule behind the S-boxes: powers in the field of 256 elements, and a matrix of bits.
use Rattle.std.specs.Prelude.{◌≡◌, ℕ, zero, suc, ◌+◌, ◌*◌, ◌/◌, ◌%◌, ◌^◌, ◌<◌, cond, List, [], ◌∷◌, length, ◌==◌, bit_and, bit_xor, nat_lt}
use Rattle.seed.specs.Boxes.{s1, s2}

-- An element is a byte, a polynomial over the bits: bit i is the coefficient of x^i. Products are taken modulo x^8 + x^6 + x^5 + x + 1.
abbrev pub modulus : ℕ
modulus = 0b1_0110_0011

-- an element times x
abbrev pub times_x : ℕ → ℕ
times_x a = cond (nat_lt a 128) (2 * a) (bit_xor (2 * a) modulus)

-- the product of a and the lowest n bits of b
abbrev pub product_of_bits : ℕ → ℕ → ℕ → ℕ
product_of_bits zero a b = 0
product_of_bits (suc n) a b = bit_xor (cond (b % 2 == 1) a 0) (product_of_bits n (times_x a) (b / 2))

-- the product of two elements
abbrev pub times : ℕ → ℕ → ℕ
times a b = product_of_bits 8 a b

-- an element to the power of the lowest n bits of e, by squares
abbrev pub power_of_bits : ℕ → ℕ → ℕ → ℕ
power_of_bits zero a e = 1
power_of_bits (suc n) a e = times (cond (e % 2 == 1) a 1) (power_of_bits n (times a a) (e / 2))

-- an element to the power e, e below 256
abbrev pub power : ℕ → ℕ → ℕ
power a e = power_of_bits 8 a e

-- the sum of the lowest n bits of x, modulo 2
abbrev pub parity_of_bits : ℕ → ℕ → ℕ
parity_of_bits zero x = 0
parity_of_bits (suc n) x = (x % 2 + parity_of_bits n (x / 2)) % 2

-- a matrix of bits, its rows from the highest bit down, times a byte: each bit of the product is the sum of the bits of the byte
-- where the row has a 1
abbrev pub matrix_times : List ℕ → ℕ → ℕ
matrix_times [] x = 0
matrix_times (row ∷ rows) x = parity_of_bits 8 (bit_and row x) * 2 ^ length rows + matrix_times rows x

-- the matrix of S1
abbrev pub a1 : List ℕ
a1 =
    0b1000_1010 ∷
    0b1111_1110 ∷
    0b1000_0101 ∷
    0b0100_0010 ∷
    0b0100_0101 ∷
    0b0010_0001 ∷
    0b1000_1000 ∷
    0b0001_0100 ∷ []

-- the matrix of S2
abbrev pub a2 : List ℕ
a2 =
    0b0100_0101 ∷
    0b1000_0101 ∷
    0b1111_1110 ∷
    0b0010_0001 ∷
    0b1000_1010 ∷
    0b1000_1000 ∷
    0b0100_0010 ∷
    0b0001_0100 ∷ []

-- A1 x^247 + 169
unfoldable pub s1_rule : ℕ → ℕ
s1_rule x = bit_xor (matrix_times a1 (power x 247)) 169

-- A2 x^251 + 56
unfoldable pub s2_rule : ℕ → ℕ
s2_rule x = bit_xor (matrix_times a2 (power x 251)) 56

-- the S-boxes follow the rule at every byte
abbrev pub BoxesByRule : Type 0
BoxesByRule = (x : ℕ) → x < 256 → (s1 x ≡ s1_rule x) × (s2 x ≡ s2_rule x)
