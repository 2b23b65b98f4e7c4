-- The key schedule KS (FIPS 46-3): the keys K1 to K16 of the sixteen rounds.
use Rattle.std.specs.Prelude.{ℕ, zero, suc, ◌+◌, ◌*◌, ◌/◌, ◌%◌, ◌^◌, List, [], ◌∷◌, ◌++◌, map, slice_index}
use Rattle.std.specs.List.{range_with_len}
use Rattle.des.specs.Permutations.{permuted, pc_1, pc_2}

-- how many left shifts each iteration makes, from the first to the sixteenth
abbrev pub shifts : List ℕ
shifts =
    1 ∷ 1 ∷ 2 ∷ 2 ∷ 2 ∷ 2 ∷ 2 ∷ 2 ∷
    1 ∷ 2 ∷ 2 ∷ 2 ∷ 2 ∷ 2 ∷ 2 ∷ 1 ∷ []

-- a left shift of 28 bits: a rotation by one place, after which they are the bits 2, 3, .. 28, 1
abbrev pub left_shift : ℕ → ℕ
left_shift c = permuted 28 (range_with_len 2 27 ++ (1 ∷ [])) c

-- s left shifts, one after another
abbrev pub left_shifts : ℕ → ℕ → ℕ
left_shifts zero c = c
left_shifts (suc s) c = left_shift (left_shifts s c)

-- C n or D n, where C 0 or D 0 is given
abbrev pub after_shifts : ℕ → ℕ → ℕ
after_shifts c zero = c
after_shifts c (suc n) = left_shifts (slice_index shifts n) (after_shifts c n)

-- C n: C 0 is the left half of PC-1 of the key
abbrev pub c_half : ℕ → ℕ → ℕ
c_half key n = after_shifts (pc_1 key / 2 ^ 28) n

-- D n: D 0 is the right half
abbrev pub d_half : ℕ → ℕ → ℕ
d_half key n = after_shifts (pc_1 key % 2 ^ 28) n

-- K n = KS(n, KEY): PC-2 of C n D n
unfoldable pub round_key : ℕ → ℕ → ℕ
round_key key n = pc_2 (c_half key n * 2 ^ 28 + d_half key n)

-- K1, K2, .. K16
unfoldable pub key_schedule : ℕ → List ℕ
key_schedule key = map (round_key key) (range_with_len 1 16)
