-- G by the extended S-boxes: XOR of words, byte by byte.
use Rattle.std.proofs.Common.{◌≡◌, ℕ, ◌+◌, ◌*◌, ◌^◌, ◌<◌, sym, ap, ◌∙◌, ap₂, arith}
use lib.Bits.{bit_xor, bit_and, xor_block, xor_lt, and_le_r}
use Rattle.seed.specs.Boxes.{s1, s2}
use Rattle.seed.specs.Function.{word, copies, g, x0, x1, x2, x3, m0, m1, m2, m3, GExtended}

-- the same word, byte after byte
nested : (a b c d : ℕ) → word a b c d ≡ ((a * 2 ^ 8 + b) * 2 ^ 8 + c) * 2 ^ 8 + d
nested a b c d = omega arith

word_xor : (a b c d e f g h : ℕ) → b < 256 → c < 256 → d < 256 → f < 256 → g < 256 → h < 256
    → bit_xor (word a b c d) (word e f g h) ≡ word (bit_xor a e) (bit_xor b f) (bit_xor c g) (bit_xor d h)
word_xor a b c d e f g h lb lc ld lf lg lh =
    let low = xor_block 8 ((a * 2 ^ 8 + b) * 2 ^ 8 + c) ((e * 2 ^ 8 + f) * 2 ^ 8 + g) d h ld lh in
    let middle = xor_block 8 (a * 2 ^ 8 + b) (e * 2 ^ 8 + f) c g lc lg in
    let high = xor_block 8 a e b f lb lf in
    ap₂ bit_xor (nested a b c d) (nested e f g h)
    ∙ low
    ∙ ap (λ y. y * 2 ^ 8 + bit_xor d h) (middle ∙ ap (λ y. y * 2 ^ 8 + bit_xor c g) high)
    ∙ sym (nested (bit_xor a e) (bit_xor b f) (bit_xor c g) (bit_xor d h))

-- the masks are bytes
pub m0_lt : m0 < 256
m0_lt = omega arith

pub m1_lt : m1 < 256
m1_lt = omega arith

pub m2_lt : m2 < 256
m2_lt = omega arith

pub m3_lt : m3 < 256
m3_lt = omega arith

-- one, two, three and four masked bytes, added by XOR, are a byte
abbrev two : ℕ → ℕ → ℕ → ℕ → ℕ
two p q a b = bit_xor (bit_and p a) (bit_and q b)

abbrev three : ℕ → ℕ → ℕ → ℕ → ℕ → ℕ → ℕ
three p q r a b c = bit_xor (two p q a b) (bit_and r c)

abbrev four : ℕ → ℕ → ℕ → ℕ → ℕ → ℕ → ℕ → ℕ → ℕ
four p q r s a b c d = bit_xor (three p q r a b c) (bit_and s d)

one_lt : (y m : ℕ) → m < 256 → bit_and y m < 256
one_lt y m h = omega (arith, and_le_r y m)

two_lt : (p q a b : ℕ) → a < 256 → b < 256 → two p q a b < 256
two_lt p q a b la lb = xor_lt 8 (bit_and p a) (bit_and q b) (one_lt p a la) (one_lt q b lb)

three_lt : (p q r a b c : ℕ) → a < 256 → b < 256 → c < 256 → three p q r a b c < 256
three_lt p q r a b c la lb lc = xor_lt 8 (two p q a b) (bit_and r c) (two_lt p q a b la lb) (one_lt r c lc)

pub four_lt : (p q r s a b c d : ℕ) → a < 256 → b < 256 → c < 256 → d < 256 → four p q r s a b c d < 256
four_lt p q r s a b c d la lb lc ld = xor_lt 8 (three p q r a b c) (bit_and s d) (three_lt p q r a b c la lb lc) (one_lt s d ld)

-- a word with one more masked byte added to each of its bytes
with_copies : (a b c d y e f g h : ℕ) → b < 256 → c < 256 → d < 256 → f < 256 → g < 256 → h < 256
    → bit_xor (word a b c d) (copies y e f g h) ≡ word (bit_xor a (bit_and y e)) (bit_xor b (bit_and y f)) (bit_xor c (bit_and y g)) (bit_xor d (bit_and y h))
with_copies a b c d y e f g h lb lc ld lf lg lh =
    word_xor a b c d (bit_and y e) (bit_and y f) (bit_and y g) (bit_and y h) lb lc ld (one_lt y f lf) (one_lt y g lg) (one_lt y h lh)

-- the sum of the extended boxes after SS1, after SS2 and after SS3
after_ss1 : (p q : ℕ) → bit_xor (copies p m3 m2 m1 m0) (copies q m0 m3 m2 m1) ≡ word (two p q m3 m0) (two p q m2 m3) (two p q m1 m2) (two p q m0 m1)
after_ss1 p q =
    with_copies (bit_and p m3) (bit_and p m2) (bit_and p m1) (bit_and p m0) q m0 m3 m2 m1 (one_lt p m2 m2_lt) (one_lt p m1 m1_lt) (one_lt p m0 m0_lt) m3_lt m2_lt m1_lt

after_ss2 : (p q r : ℕ)
    → bit_xor (word (two p q m3 m0) (two p q m2 m3) (two p q m1 m2) (two p q m0 m1)) (copies r m1 m0 m3 m2)
    ≡ word (three p q r m3 m0 m1) (three p q r m2 m3 m0) (three p q r m1 m2 m3) (three p q r m0 m1 m2)
after_ss2 p q r =
    with_copies (two p q m3 m0) (two p q m2 m3) (two p q m1 m2) (two p q m0 m1) r m1 m0 m3 m2
    (two_lt p q m2 m3 m2_lt m3_lt) (two_lt p q m1 m2 m1_lt m2_lt) (two_lt p q m0 m1 m0_lt m1_lt) m0_lt m3_lt m2_lt

after_ss3 : (p q r s : ℕ)
    → bit_xor (word (three p q r m3 m0 m1) (three p q r m2 m3 m0) (three p q r m1 m2 m3) (three p q r m0 m1 m2)) (copies s m2 m1 m0 m3)
    ≡ word (four p q r s m3 m0 m1 m2) (four p q r s m2 m3 m0 m1) (four p q r s m1 m2 m3 m0) (four p q r s m0 m1 m2 m3)
after_ss3 p q r s =
    with_copies (three p q r m3 m0 m1) (three p q r m2 m3 m0) (three p q r m1 m2 m3) (three p q r m0 m1 m2) s m2 m1 m0 m3
    (three_lt p q r m2 m3 m0 m2_lt m3_lt m0_lt) (three_lt p q r m1 m2 m3 m1_lt m2_lt m3_lt) (three_lt p q r m0 m1 m2 m0_lt m1_lt m2_lt) m1_lt m0_lt m3_lt

pub g_extended : GExtended
unfolding g
g_extended x =
    let p = s1 (x0 x) in
    let q = s2 (x1 x) in
    let r = s1 (x2 x) in
    let s = s2 (x3 x) in
    sym (ap (λ w. bit_xor (bit_xor w (copies r m1 m0 m3 m2)) (copies s m2 m1 m0 m3)) (after_ss1 p q)
    ∙ ap (λ w. bit_xor w (copies s m2 m1 m0 m3)) (after_ss2 p q r)
    ∙ after_ss3 p q r s)
