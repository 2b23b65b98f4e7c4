-- The halves C and D of the key: they have 28 bits at every iteration, shift as the code shifts them, and come round.
use Rattle.std.proofs.Common.{◌≡◌, ℕ, zero, suc, ◌+◌, ◌-◌, ◌*◌, ◌/◌, ◌%◌, ◌^◌, ◌<◌, ◌≤◌, List, [], ◌∷◌, ◌++◌, length, get_or, sym, refl, ap, ◌∙◌, ap₂, le_of_suc-le-suc, not-suc-le-zero, mod-eq_of_lt, div-one, arith}
use lib.Bits.{bit_or, or_shifted}
use Rattle.std.specs.List.{range_with_len}
use Rattle.std.proofs.lemmas.Nat.{mod_below, shr_below, shr-shr, shr_high, mod_low, mod-pow-add, div-add-mod'}
use Rattle.des.specs.Permutations.{with_bit, permuted, pc_1, pc_1_table}
use Rattle.des.specs.Keys.{shifts, left_shift, left_shifts, after_shifts, c_half, d_half}
use Rattle.des.specs.KeyLaws.{HalvesAsBefore, KeyLaws}
use Rattle.des.proofs.Permuted.{permuted_lt}
use Rattle.des.proofs.Composed.{after, twice_at, run, straight}

left_shifts_lt : (s c : ℕ) → c < 2 ^ 28 → left_shifts s c < 2 ^ 28
left_shifts_lt zero c h = h
left_shifts_lt (suc s) c h = permuted_lt 28 (range_with_len 2 27 ++ (1 ∷ [])) (left_shifts s c)

after_shifts_lt : (c n : ℕ) → c < 2 ^ 28 → after_shifts c n < 2 ^ 28
after_shifts_lt c zero h = h
after_shifts_lt c (suc n) h = left_shifts_lt (get_or shifts n 0) (after_shifts c n) (after_shifts_lt c n h)

pub c_half_lt : (key n : ℕ) → c_half key n < 2 ^ 28
c_half_lt key n = after_shifts_lt (pc_1 key / 2 ^ 28) n (shr_below (pc_1 key) 28 28 (permuted_lt 64 pc_1_table key))

pub d_half_lt : (key n : ℕ) → d_half key n < 2 ^ 28
d_half_lt key n = after_shifts_lt (pc_1 key % 2 ^ 28) n (mod_below (pc_1 key) (2 ^ 28) (omega arith))

-- C or D at the next iteration, by a table of the shifts
pub shifted_more : (start n c r : ℕ) (t : List ℕ) → t ≡ shifts → c ≡ after_shifts start n → r ≡ left_shifts (get_or t n 0) c → r ≡ after_shifts start (suc n)
shifted_more start n c r t e p q = q ∙ ap₂ (λ (u : List ℕ) (h : ℕ). left_shifts (get_or u n 0) h) e p

-- C and D at the next iteration fit 56 bits
pub next_fit : (key n c d x y : ℕ) (t : List ℕ) → x ≡ left_shifts (get_or t n 0) c → y ≡ left_shifts (get_or t n 0) d → t ≡ shifts → c ≡ c_half key n → d ≡ d_half key n
    → x * 2 ^ 28 + y < 2 ^ 56
next_fit key n c d x y t e h s p q =
    omega (arith, c_half_lt key (suc n), d_half_lt key (suc n), shifted_more (pc_1 key / 2 ^ 28) n c x t s p e, shifted_more (pc_1 key % 2 ^ 28) n d y t s q h)

-- a left shift as a number
left_shift_is : (c : ℕ) → c < 2 ^ 28 → left_shift c ≡ c % 2 ^ 27 * 2 + c / 2 ^ 27
unfolding permuted
left_shift_is c h = ap (λ a. with_bit 28 c a 1) (run 28 c 0 1 27 0 (omega arith))
    ∙ omega (arith, ap (λ y. y % 2 ^ 27) (div-one c), mod-eq_of_lt (shr_below c 1 27 h))

left_shift_two : (c : ℕ) → c < 2 ^ 28 → left_shift (left_shift c) ≡ c % 2 ^ 26 * 2 ^ 2 + c / 2 ^ 26
left_shift_two c h =
    let top = c / 2 ^ 27 in
    let next = c / 2 ^ 26 % 2 in
    let rest = c % 2 ^ 26 in
    let small : rest * 2 + top < 2 ^ 27 = omega (arith, shr_below c 1 27 h, mod_below c (2 ^ 26) (omega arith)) in
    let once : left_shift c ≡ next * 2 ^ 27 + (rest * 2 + top) = omega (arith, left_shift_is c h, mod-pow-add c 1 26) in
    left_shift_is (left_shift c) (left_shifts_lt 1 c h)
    ∙ ap (λ y. y % 2 ^ 27 * 2 + y / 2 ^ 27) once
    ∙ omega (arith, mod_low next 27 (rest * 2 + top) small, shr_high next 27 (rest * 2 + top) small, shr-shr c 26 1, div-add-mod' (c / 2 ^ 26) 2)

-- one or two left shifts, as shift instructions make them
pub shifted_is : (s c : ℕ) → 1 ≤ s → s ≤ 2 → c < 2 ^ 28 → bit_or (c * 2 ^ s % 2 ^ 64 % 2 ^ 28) (c / 2 ^ (28 - s)) ≡ left_shifts s c
shifted_is zero c h k l = absurd (not-suc-le-zero h)
shifted_is (suc zero) c h k l =
    let e : c * 2 ^ 1 % 2 ^ 64 % 2 ^ 28 ≡ c % 2 ^ 27 * 2 ^ 1 = omega arith in
    ap (λ y. bit_or y (c / 2 ^ 27)) e ∙ or_shifted (c % 2 ^ 27) 1 (c / 2 ^ 27) (omega arith) ∙ sym (left_shift_is c l)
shifted_is (suc (suc zero)) c h k l =
    let e : c * 2 ^ 2 % 2 ^ 64 % 2 ^ 28 ≡ c % 2 ^ 26 * 2 ^ 2 = omega arith in
    ap (λ y. bit_or y (c / 2 ^ 26)) e ∙ or_shifted (c % 2 ^ 26) 2 (c / 2 ^ 26) (omega arith) ∙ sym (left_shift_two c l)
shifted_is (suc (suc (suc s))) c h k l = absurd (not-suc-le-zero (le_of_suc-le-suc (le_of_suc-le-suc k)))

-- the table of n left shifts
abbrev turned : ℕ → List ℕ
turned zero = range_with_len 1 28
turned (suc n) = after (turned n) (range_with_len 2 27 ++ (1 ∷ []))

turned_length : (n : ℕ) → length (turned n) ≡ 28
turned_length zero = refl
turned_length (suc n) = refl

left_shifts_are : (n c : ℕ) → c < 2 ^ 28 → left_shifts n c ≡ permuted 28 (turned n) c
left_shifts_are zero c h = sym (straight 28 c h)
left_shifts_are (suc n) c h =
    ap left_shift (left_shifts_are n c h)
    ∙ twice_at 28 c 28 (turned n) (range_with_len 2 27 ++ (1 ∷ [])) (turned_length n) tt

-- 28 left shifts
full_turn : (c : ℕ) → c < 2 ^ 28 → left_shifts 28 c ≡ c
full_turn c h = left_shifts_are 28 c h ∙ straight 28 c h

pub halves_as_before : HalvesAsBefore
halves_as_before key = (full_turn (c_half key 0) (c_half_lt key 0), full_turn (d_half key 0) (d_half_lt key 0))

pub key_laws : KeyLaws
key_laws = record { sum = (refl, refl); halves = halves_as_before }
