-- Permutations and selections of the bits of a word (FIPS 46-3).
-- A word is a number, and bit 1 is its leftmost bit.
use Rattle.std.specs.Prelude.{ℕ, ◌+◌, ◌-◌, ◌*◌, ◌/◌, ◌%◌, ◌^◌, Bool, true, ◌&&◌, List, [], ◌∷◌, fold, nat_lt}

-- bit p of x, a word of n bits
abbrev pub bit : ℕ → ℕ → ℕ → ℕ
bit n x p = x / 2 ^ (n - p) % 2

-- the word a with bit p of x behind its last bit
abbrev pub with_bit : ℕ → ℕ → ℕ → ℕ → ℕ
with_bit n x a p = a * 2 + bit n x p

-- the bits of x, a word of n bits, that the table names, in the table's order
unfoldable pub permuted : ℕ → List ℕ → ℕ → ℕ
permuted n t x = fold (with_bit n x) 0 t

-- each entry of the table names a bit of a word of n bits
abbrev pub names_bits : ℕ → List ℕ → Bool
names_bits n [] = true
names_bits n (p ∷ t) = ◌&&◌ (◌&&◌ (nat_lt 0 p) (nat_lt p (n + 1))) (names_bits n t)

-- the table of the initial permutation IP
abbrev pub ip_table : List ℕ
ip_table =
    58 ∷ 50 ∷ 42 ∷ 34 ∷ 26 ∷ 18 ∷ 10 ∷ 2 ∷
    60 ∷ 52 ∷ 44 ∷ 36 ∷ 28 ∷ 20 ∷ 12 ∷ 4 ∷
    62 ∷ 54 ∷ 46 ∷ 38 ∷ 30 ∷ 22 ∷ 14 ∷ 6 ∷
    64 ∷ 56 ∷ 48 ∷ 40 ∷ 32 ∷ 24 ∷ 16 ∷ 8 ∷
    57 ∷ 49 ∷ 41 ∷ 33 ∷ 25 ∷ 17 ∷ 9 ∷ 1 ∷
    59 ∷ 51 ∷ 43 ∷ 35 ∷ 27 ∷ 19 ∷ 11 ∷ 3 ∷
    61 ∷ 53 ∷ 45 ∷ 37 ∷ 29 ∷ 21 ∷ 13 ∷ 5 ∷
    63 ∷ 55 ∷ 47 ∷ 39 ∷ 31 ∷ 23 ∷ 15 ∷ 7 ∷ []

-- the table of the inverse initial permutation
abbrev pub ip_inverse_table : List ℕ
ip_inverse_table =
    40 ∷ 8 ∷ 48 ∷ 16 ∷ 56 ∷ 24 ∷ 64 ∷ 32 ∷
    39 ∷ 7 ∷ 47 ∷ 15 ∷ 55 ∷ 23 ∷ 63 ∷ 31 ∷
    38 ∷ 6 ∷ 46 ∷ 14 ∷ 54 ∷ 22 ∷ 62 ∷ 30 ∷
    37 ∷ 5 ∷ 45 ∷ 13 ∷ 53 ∷ 21 ∷ 61 ∷ 29 ∷
    36 ∷ 4 ∷ 44 ∷ 12 ∷ 52 ∷ 20 ∷ 60 ∷ 28 ∷
    35 ∷ 3 ∷ 43 ∷ 11 ∷ 51 ∷ 19 ∷ 59 ∷ 27 ∷
    34 ∷ 2 ∷ 42 ∷ 10 ∷ 50 ∷ 18 ∷ 58 ∷ 26 ∷
    33 ∷ 1 ∷ 41 ∷ 9 ∷ 49 ∷ 17 ∷ 57 ∷ 25 ∷ []

-- the E bit-selection table
abbrev pub e_table : List ℕ
e_table =
    32 ∷ 1 ∷ 2 ∷ 3 ∷ 4 ∷ 5 ∷
    4 ∷ 5 ∷ 6 ∷ 7 ∷ 8 ∷ 9 ∷
    8 ∷ 9 ∷ 10 ∷ 11 ∷ 12 ∷ 13 ∷
    12 ∷ 13 ∷ 14 ∷ 15 ∷ 16 ∷ 17 ∷
    16 ∷ 17 ∷ 18 ∷ 19 ∷ 20 ∷ 21 ∷
    20 ∷ 21 ∷ 22 ∷ 23 ∷ 24 ∷ 25 ∷
    24 ∷ 25 ∷ 26 ∷ 27 ∷ 28 ∷ 29 ∷
    28 ∷ 29 ∷ 30 ∷ 31 ∷ 32 ∷ 1 ∷ []

-- the table of the permutation P
abbrev pub p_table : List ℕ
p_table =
    16 ∷ 7 ∷ 20 ∷ 21 ∷
    29 ∷ 12 ∷ 28 ∷ 17 ∷
    1 ∷ 15 ∷ 23 ∷ 26 ∷
    5 ∷ 18 ∷ 31 ∷ 10 ∷
    2 ∷ 8 ∷ 24 ∷ 14 ∷
    32 ∷ 27 ∷ 3 ∷ 9 ∷
    19 ∷ 13 ∷ 30 ∷ 6 ∷
    22 ∷ 11 ∷ 4 ∷ 25 ∷ []

-- the table of permuted choice 1: the bits of C, then those of D
abbrev pub pc_1_table : List ℕ
pc_1_table =
    57 ∷ 49 ∷ 41 ∷ 33 ∷ 25 ∷ 17 ∷ 9 ∷
    1 ∷ 58 ∷ 50 ∷ 42 ∷ 34 ∷ 26 ∷ 18 ∷
    10 ∷ 2 ∷ 59 ∷ 51 ∷ 43 ∷ 35 ∷ 27 ∷
    19 ∷ 11 ∷ 3 ∷ 60 ∷ 52 ∷ 44 ∷ 36 ∷
    63 ∷ 55 ∷ 47 ∷ 39 ∷ 31 ∷ 23 ∷ 15 ∷
    7 ∷ 62 ∷ 54 ∷ 46 ∷ 38 ∷ 30 ∷ 22 ∷
    14 ∷ 6 ∷ 61 ∷ 53 ∷ 45 ∷ 37 ∷ 29 ∷
    21 ∷ 13 ∷ 5 ∷ 28 ∷ 20 ∷ 12 ∷ 4 ∷ []

-- the table of permuted choice 2
abbrev pub pc_2_table : List ℕ
pc_2_table =
    14 ∷ 17 ∷ 11 ∷ 24 ∷ 1 ∷ 5 ∷
    3 ∷ 28 ∷ 15 ∷ 6 ∷ 21 ∷ 10 ∷
    23 ∷ 19 ∷ 12 ∷ 4 ∷ 26 ∷ 8 ∷
    16 ∷ 7 ∷ 27 ∷ 20 ∷ 13 ∷ 2 ∷
    41 ∷ 52 ∷ 31 ∷ 37 ∷ 47 ∷ 55 ∷
    30 ∷ 40 ∷ 51 ∷ 45 ∷ 33 ∷ 48 ∷
    44 ∷ 49 ∷ 39 ∷ 56 ∷ 34 ∷ 53 ∷
    46 ∷ 42 ∷ 50 ∷ 36 ∷ 29 ∷ 32 ∷ []

-- the initial permutation, of a block of 64 bits
abbrev pub ip : ℕ → ℕ
ip x = permuted 64 ip_table x

-- the inverse initial permutation
abbrev pub ip_inverse : ℕ → ℕ
ip_inverse x = permuted 64 ip_inverse_table x

-- the expansion E: 32 bits become 48
abbrev pub e : ℕ → ℕ
e r = permuted 32 e_table r

-- the permutation P of 32 bits
abbrev pub p : ℕ → ℕ
p x = permuted 32 p_table x

-- permuted choice 1: of the 64 bits of the key the 56 that are no parity bits
abbrev pub pc_1 : ℕ → ℕ
pc_1 key = permuted 64 pc_1_table key

-- permuted choice 2: 48 of the 56 bits of C and D
abbrev pub pc_2 : ℕ → ℕ
pc_2 x = permuted 56 pc_2_table x
