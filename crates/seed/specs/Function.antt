-- The functions G and F (RFC 4269), on words of 32 bits.
use Rattle.std.specs.Prelude.{◌≡◌, ℕ, zero, suc, ◌+◌, ◌-◌, ◌*◌, ◌/◌, ◌%◌, ◌^◌, bit_and, bit_xor}
use Rattle.seed.specs.Boxes.{s1, s2}
use Rattle.seed.specs.declared.keys.Subkeys.{Subkeys}

-- the mask m0
abbrev pub m0 : ℕ
m0 = 0xfc

-- the mask m1
abbrev pub m1 : ℕ
m1 = 0xf3

-- the mask m2
abbrev pub m2 : ℕ
m2 = 0xcf

-- the mask m3
abbrev pub m3 : ℕ
m3 = 0x3f

-- the bytes of a word X = X3 || X2 || X1 || X0: X0
abbrev pub x0 : ℕ → ℕ
x0 x = x % 256

-- X1
abbrev pub x1 : ℕ → ℕ
x1 x = x / 256 % 256

-- X2
abbrev pub x2 : ℕ → ℕ
x2 x = x / 65536 % 256

-- X3
abbrev pub x3 : ℕ → ℕ
x3 x = x / 16777216 % 256

-- {S1(X0) & a} ^ {S2(X1) & b} ^ {S1(X2) & c} ^ {S2(X3) & d}
abbrev pub masked : ℕ → ℕ → ℕ → ℕ → ℕ → ℕ
masked x a b c d = bit_xor (bit_xor (bit_xor (bit_and (s1 (x0 x)) a) (bit_and (s2 (x1 x)) b)) (bit_and (s1 (x2 x)) c)) (bit_and (s2 (x3 x)) d)

-- Z0 = {S1(X0) & m0} ^ {S2(X1) & m1} ^ {S1(X2) & m2} ^ {S2(X3) & m3}
abbrev pub z0 : ℕ → ℕ
z0 x = masked x m0 m1 m2 m3

-- Z1 = {S1(X0) & m1} ^ {S2(X1) & m2} ^ {S1(X2) & m3} ^ {S2(X3) & m0}
abbrev pub z1 : ℕ → ℕ
z1 x = masked x m1 m2 m3 m0

-- Z2 = {S1(X0) & m2} ^ {S2(X1) & m3} ^ {S1(X2) & m0} ^ {S2(X3) & m1}
abbrev pub z2 : ℕ → ℕ
z2 x = masked x m2 m3 m0 m1

-- Z3 = {S1(X0) & m3} ^ {S2(X1) & m0} ^ {S1(X2) & m1} ^ {S2(X3) & m2}
abbrev pub z3 : ℕ → ℕ
z3 x = masked x m3 m0 m1 m2

-- the word of four bytes, a || b || c || d
abbrev pub word : ℕ → ℕ → ℕ → ℕ → ℕ
word a b c d = a * 16777216 + b * 65536 + c * 256 + d

-- the function G: Z = Z3 || Z2 || Z1 || Z0
unfoldable pub g : ℕ → ℕ
g x = word (z3 x) (z2 x) (z1 x) (z0 x)

-- {y & a} || {y & b} || {y & c} || {y & d}
abbrev pub copies : ℕ → ℕ → ℕ → ℕ → ℕ → ℕ
copies y a b c d = word (bit_and y a) (bit_and y b) (bit_and y c) (bit_and y d)

-- the extended S-boxes SS0, SS1, SS2 and SS3, in this order, of a byte:
-- SS0(X) = {S1(X) & m3} || {S1(X) & m2} || {S1(X) & m1} || {S1(X) & m0}, and so on
abbrev pub ss : ℕ → ℕ → ℕ
ss zero x = copies (s1 x) m3 m2 m1 m0
ss (suc zero) x = copies (s2 x) m0 m3 m2 m1
ss (suc (suc zero)) x = copies (s1 x) m1 m0 m3 m2
ss (suc (suc (suc n))) x = copies (s2 x) m2 m1 m0 m3

-- SS0(X0) ^ SS1(X1) ^ SS2(X2) ^ SS3(X3)
abbrev pub extended_sum : ℕ → ℕ
extended_sum x = bit_xor (bit_xor (bit_xor (ss 0 (x0 x)) (ss 1 (x1 x))) (ss 2 (x2 x))) (ss 3 (x3 x))

-- G is this sum
abbrev pub GExtended : Type 0
GExtended = (x : ℕ) → g x ≡ extended_sum x

-- addition modulo 2^32
abbrev pub plus : ℕ → ℕ → ℕ
plus a b = (a + b) % 2 ^ 32

-- subtraction modulo 2^32
abbrev pub minus : ℕ → ℕ → ℕ
minus a b = (a + (2 ^ 32 - b)) % 2 ^ 32

-- G{(R0 ^ Ki0) ^ (R1 ^ Ki1)}
abbrev pub f_inner : ℕ → ℕ → Subkeys → ℕ
f_inner r0 r1 k = g (bit_xor (bit_xor r0 k.k0) (bit_xor r1 k.k1))

-- G[G{(R0 ^ Ki0) ^ (R1 ^ Ki1)} + (R0 ^ Ki0)]
abbrev pub f_middle : ℕ → ℕ → Subkeys → ℕ
f_middle r0 r1 k = g (plus (f_inner r0 r1 k) (bit_xor r0 k.k0))

-- R1' = G[G[G{(R0 ^ Ki0) ^ (R1 ^ Ki1)} + (R0 ^ Ki0)] + G{(R0 ^ Ki0) ^ (R1 ^ Ki1)}]
abbrev pub f1 : ℕ → ℕ → Subkeys → ℕ
f1 r0 r1 k = g (plus (f_middle r0 r1 k) (f_inner r0 r1 k))

-- R0' = R1' + G[G{(R0 ^ Ki0) ^ (R1 ^ Ki1)} + (R0 ^ Ki0)]
abbrev pub f0 : ℕ → ℕ → Subkeys → ℕ
f0 r0 r1 k = plus (f1 r0 r1 k) (f_middle r0 r1 k)

-- the function F of the subkeys (Ki0, Ki1) and the 64 bits R = R0 || R1: R0' || R1'
abbrev pub f : Subkeys → ℕ → ℕ
f k r = f0 (r / 2 ^ 32) (r % 2 ^ 32) k * 2 ^ 32 + f1 (r / 2 ^ 32) (r % 2 ^ 32) k
