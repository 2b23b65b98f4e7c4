-- The complement of a word goes through every step of DES.
use Rattle.std.proofs.Common.{◌≡◌, ℕ, zero, suc, ◌+◌, ◌-◌, ◌*◌, ◌/◌, ◌%◌, ◌^◌, ◌<◌, ◌≤◌, ◌&&◌, T, ltb, List, [], ◌∷◌, ◌++◌, map, length, get_or, fold, sym, ap, ◌∙◌, subst, ap₂, not-suc-le-zero, mod-eq_of_lt, mul_assoc, mul_comm, add-mul, pow-suc, mul-one, arith}
use lib.Bits.{bit_xor, xor_assoc, xor_comm, xor_self, xor_zero_r, xor_add_and}
use Rattle.std.specs.List.{range_with_len}
use Rattle.std.proofs.lemmas.Nat.{pow-add, pow_pos, shr_split, shr_high, mod_low, mod_below, shr_below, xor_lt, and_mask}
use Rattle.cipher.proofs.Tables.{both_left, both_right}
use Rattle.des.specs.Permutations.{bit, with_bit, permuted, names_bits, ip_table, ip_inverse_table, e_table, p_table, pc_1_table, pc_2_table, ip, e, p, pc_1}
use Rattle.des.specs.Function.{f, selected}
use Rattle.des.specs.Keys.{shifts, left_shifts, after_shifts, c_half, d_half, round_key, key_schedule}
use Rattle.des.specs.Des.{halves, round, preoutput, des_enciphered}
use Rattle.des.specs.DesLaws.{Complementation}
use Rattle.des.proofs.Permuted.{permuted_lt, named}

-- x and y are words of n bits, each with the complement of every bit of the other
abbrev Complements : ℕ → ℕ → ℕ → Type 0
Complements n x y = x + y + 1 ≡ 2 ^ n

-- the left j and the right k bits of complements
split : (j k x y : ℕ) → Complements (j + k) x y → Complements j (x / 2 ^ k) (y / 2 ^ k) × Complements k (x % 2 ^ k) (y % 2 ^ k)
split j k x y h =
    let u = 2 ^ j - 1 - x / 2 ^ k in
    let r = 2 ^ k - 1 - x % 2 ^ k in
    let small : x / 2 ^ k < 2 ^ j = shr_below x j k (omega arith) in
    let low : r < 2 ^ k = omega (arith, pow_pos k) in
    let sum : 2 ^ j ≡ u + x / 2 ^ k + 1 = omega arith in
    let parts : 2 ^ (j + k) ≡ u * 2 ^ k + x / 2 ^ k * 2 ^ k + 2 ^ k =
    pow-add 2 j k ∙ ap (λ m. m * 2 ^ k) sum ∙ add-mul (u + x / 2 ^ k) 1 (2 ^ k) ∙ omega (arith, add-mul u (x / 2 ^ k) (2 ^ k)) in
    let whole : y ≡ u * 2 ^ k + r = omega (arith, shr_split x k, mod_below x (2 ^ k) (pow_pos k)) in
    let left : y / 2 ^ k ≡ u = ap (λ z. z / 2 ^ k) whole ∙ shr_high u k r low in
    let right : y % 2 ^ k ≡ r = ap (λ z. z % 2 ^ k) whole ∙ mod_low u k r low in
    (omega arith, omega (arith, mod_below x (2 ^ k) (pow_pos k)))

turned_bit : (n x y i : ℕ) → 1 ≤ i → i ≤ n → Complements n x y → bit n x i + bit n y i ≡ 1
turned_bit n x y zero low top h = absurd (not-suc-le-zero low)
turned_bit n x y (suc i) low top h =
    let e : n ≡ suc i + (n - suc i) = omega arith in
    let s = split (suc i) (n - suc i) x y (h ∙ ap (λ m. 2 ^ m) e) in
    omega (arith, pow-suc 2 i)

complements_from : (n x y a b : ℕ) (t : List ℕ) → Complements n x y → T (names_bits n t)
    → fold (with_bit n x) a t + fold (with_bit n y) b t + 1 ≡ (a + b + 1) * 2 ^ length t
complements_from n x y a b [] h t = sym (mul-one (a + b + 1))
complements_from n x y a b (q ∷ l) h t =
    let here = named n q (both_left (◌&&◌ (ltb 0 q) (ltb q (n + 1))) (names_bits n l) t) in
    let one = turned_bit n x y q here.0 here.1 h in
    let twofold : with_bit n x a q + with_bit n y b q + 1 ≡ (a + b + 1) * 2 = omega arith in
    complements_from n x y (with_bit n x a q) (with_bit n y b q) l h (both_right (◌&&◌ (ltb 0 q) (ltb q (n + 1))) (names_bits n l) t)
    ∙ ap (λ m. m * 2 ^ length l) twofold
    ∙ mul_assoc (a + b + 1) 2 (2 ^ length l)
    ∙ ap (λ m. (a + b + 1) * m) (mul_comm 2 (2 ^ length l) ∙ sym (pow-suc 2 (length l)))

permuted_complements : (n x y : ℕ) (t : List ℕ) → Complements n x y → T (names_bits n t) → Complements (length t) (permuted n t x) (permuted n t y)
unfolding permuted
permuted_complements n x y t h l = complements_from n x y 0 0 t h l ∙ omega arith

-- the complement as an exclusive or
flipped : (n x y : ℕ) → Complements n x y → y ≡ bit_xor x (2 ^ n - 1)
flipped n x y h = omega (arith, xor_add_and x (2 ^ n - 1), and_mask x n, mod-eq_of_lt {n = x} {m = 2 ^ n} (omega arith))

flips : (n x : ℕ) → x < 2 ^ n → Complements n x (bit_xor x (2 ^ n - 1))
flips n x h = omega (arith, xor_add_and x (2 ^ n - 1), and_mask x n, mod-eq_of_lt h)

-- the exclusive or of two complements
xor_both : (n a b c d : ℕ) → Complements n a b → Complements n c d → bit_xor b d ≡ bit_xor a c
xor_both n a b c d h k =
    let m = 2 ^ n - 1 in
    ap₂ bit_xor (flipped n a b h) (flipped n c d k)
    ∙ ap (bit_xor (bit_xor a m)) (xor_comm c m)
    ∙ xor_assoc a m (bit_xor m c)
    ∙ ap (bit_xor a) (sym (xor_assoc m m c) ∙ ap (λ z. bit_xor z c) (xor_self m) ∙ xor_comm 0 c ∙ xor_zero_r c)

-- and of one complement with any word
xor_one : (n a b c : ℕ) → Complements n a b → c < 2 ^ n → Complements n (bit_xor a c) (bit_xor b c)
xor_one n a b c h small =
    let m = 2 ^ n - 1 in
    let e : bit_xor b c ≡ bit_xor (bit_xor a c) m =
    ap (λ z. bit_xor z c) (flipped n a b h) ∙ xor_assoc a m c ∙ ap (bit_xor a) (xor_comm m c) ∙ sym (xor_assoc a c m) in
    subst (λ (z : ℕ). Complements n (bit_xor a c) z) (sym e) (flips n (bit_xor a c) (xor_lt n a c (omega arith) small))

f_same : (r s k l : ℕ) → Complements 32 r s → Complements 48 k l → f s l ≡ f r k
f_same r s k l h g = ap (λ z. p (selected z 8)) (xor_both 48 k l (e r) (e s) g (permuted_complements 32 r s e_table h tt))

-- both halves are complements
abbrev Both : ℕ × ℕ → ℕ × ℕ → Type 0
Both s t = Complements 32 s.0 t.0 × Complements 32 s.1 t.1

round_complements : (s t : ℕ × ℕ) (k l : ℕ) → Both s t → Complements 48 k l → Both (round s k) (round t l)
round_complements s t k l h g = (
  h.1,
  subst (λ (z : ℕ). Complements 32 (bit_xor s.0 (f s.1 k)) (bit_xor t.0 z)) (sym (f_same s.1 t.1 k l h.1 g))
      (xor_one 32 s.0 t.0 (f s.1 k) h.0 (permuted_lt 32 p_table (selected (bit_xor k (e s.1)) 8))),
)

rounds_complements : (g h : ℕ → ℕ) (l : List ℕ) (s t : ℕ × ℕ) → ((n : ℕ) → Complements 48 (g n) (h n)) → Both s t
    → Both (fold round s (map g l)) (fold round t (map h l))
rounds_complements g h [] s t keys w = w
rounds_complements g h (n ∷ l) s t keys w = rounds_complements g h l (round s (g n)) (round t (h n)) keys (round_complements s t (g n) (h n) w (keys n))

left_shifts_complements : (s c d : ℕ) → Complements 28 c d → Complements 28 (left_shifts s c) (left_shifts s d)
left_shifts_complements zero c d h = h
left_shifts_complements (suc s) c d h =
    permuted_complements 28 (left_shifts s c) (left_shifts s d) (range_with_len 2 27 ++ (1 ∷ [])) (left_shifts_complements s c d h) tt

after_shifts_complements : (c d n : ℕ) → Complements 28 c d → Complements 28 (after_shifts c n) (after_shifts d n)
after_shifts_complements c d zero h = h
after_shifts_complements c d (suc n) h =
    left_shifts_complements (get_or shifts n 0) (after_shifts c n) (after_shifts d n) (after_shifts_complements c d n h)

round_key_complements : (key other n : ℕ) → Complements 64 key other → Complements 48 (round_key key n) (round_key other n)
unfolding round_key
round_key_complements key other n h =
    let s = split 28 28 (pc_1 key) (pc_1 other) (permuted_complements 64 key other pc_1_table h tt) in
    let l = after_shifts_complements (pc_1 key / 2 ^ 28) (pc_1 other / 2 ^ 28) n s.0 in
    let r = after_shifts_complements (pc_1 key % 2 ^ 28) (pc_1 other % 2 ^ 28) n s.1 in
    permuted_complements 56 (c_half key n * 2 ^ 28 + d_half key n) (c_half other n * 2 ^ 28 + d_half other n) pc_2_table (omega arith) tt

des_complements : (key other x y : ℕ) → Complements 64 key other → Complements 64 x y → Complements 64 (des_enciphered key x) (des_enciphered other y)
unfolding preoutput key_schedule
des_complements key other x y k h =
    let s = split 32 32 (ip x) (ip y) (permuted_complements 64 x y ip_table h tt) in
    let w = rounds_complements (round_key key) (round_key other) (range_with_len 1 16) (halves (ip x)) (halves (ip y)) (λ n. round_key_complements key other n k) s in
    permuted_complements 64 (preoutput (key_schedule key) (ip x)) (preoutput (key_schedule other) (ip y)) ip_inverse_table (omega arith) tt

pub complementation : Complementation
complementation key x hk hx = omega (arith, des_complements key (2 ^ 64 - 1 - key) x (2 ^ 64 - 1 - x) (omega arith) (omega arith))
