-- The cipher function f (FIPS 46-3).
use Rattle.std.specs.Prelude.{ℕ, zero, suc, ◌+◌, ◌-◌, ◌*◌, ◌/◌, ◌%◌, ◌^◌, bit_xor}
use Rattle.des.specs.Permutations.{e, p}
use Rattle.des.specs.Boxes.{s_box}

-- the block B i of six bits: 48 bits are B1 B2 .. B8
abbrev pub six_bits : ℕ → ℕ → ℕ
six_bits x i = x / 2 ^ (48 - 6 * i) % 64

-- S1(B1) S2(B2) .. Sn(Bn), four bits each
abbrev pub selected : ℕ → ℕ → ℕ
selected x zero = 0
selected x (suc n) = selected x n * 16 + s_box (suc n) (six_bits x (suc n))

-- f(R, K) = P(S1(B1) S2(B2) .. S8(B8)), where B1 B2 .. B8 = K xor E(R)
abbrev pub f : ℕ → ℕ → ℕ
f r k = p (selected (bit_xor k (e r)) 8)
