-- Permutations one after another: two that undo each other leave the word as it was.
use Rattle.std.proofs.Common.{◌≡◌, ℕ, zero, suc, ◌+◌, ◌-◌, ◌*◌, ◌/◌, ◌%◌, ◌^◌, ◌<◌, ◌&&◌, T, ltb, List, [], ◌∷◌, map, length, get_or, fold, sym, refl, ap, ◌∙◌, subst, ap₂, le_of_suc-le-suc, not-suc-le-zero, add-zero, mod-eq_of_lt, mul_assoc, add-mul, pow-suc, zero-mul, mul-one, mul_right_comm, div-one, one-add, arith}
use native.Mathlib.Nat.{mod-one}
use Rattle.std.specs.List.{range_with_len}
use Rattle.std.proofs.lemmas.Nat.{shr-shr, mod_below, mod-pow-add}
use Rattle.cipher.proofs.Tables.{both_left, both_right}
use Rattle.des.specs.Permutations.{bit, with_bit, permuted, names_bits}
use Rattle.des.proofs.Permuted.{named}

-- the bits before a table's own
high : (n x a : ℕ) (t : List ℕ) → fold (with_bit n x) a t / 2 ^ length t ≡ a
high n x a [] = div-one a
high n x a (p ∷ t) =
    let b = mod_below (x / 2 ^ (n - p)) 2 (omega arith) in
    ap (λ m. fold (with_bit n x) (with_bit n x a p) t / 2 ^ m) (omega arith)
    ∙ sym (shr-shr (fold (with_bit n x) (with_bit n x a p) t) (length t) 1)
    ∙ ap (λ y. y / 2) (high n x (with_bit n x a p) t)
    ∙ omega arith

-- bit i + 1 of a permuted word
bit_at : (n x a : ℕ) (t : List ℕ) (i : ℕ) → i < length t → bit (length t) (fold (with_bit n x) a t) (suc i) ≡ bit n x (get_or t i 0)
bit_at n x a [] i h = absurd (not-suc-le-zero h)
bit_at n x a (p ∷ t) zero h =
    let b = mod_below (x / 2 ^ (n - p)) 2 (omega arith) in
    let e : length (p ∷ t) - 1 ≡ length t = omega arith in
    ap (λ m. fold (with_bit n x) (with_bit n x a p) t / 2 ^ m % 2) e
    ∙ ap (λ y. y % 2) (high n x (with_bit n x a p) t)
    ∙ omega arith
bit_at n x a (p ∷ t) (suc i) h =
    let e : length (p ∷ t) - suc (suc i) ≡ length t - suc i = omega arith in
    ap (λ m. fold (with_bit n x) (with_bit n x a p) t / 2 ^ m % 2) e ∙ bit_at n x (with_bit n x a p) t i (le_of_suc-le-suc h)

-- the table that names through another
abbrev pub after : List ℕ → List ℕ → List ℕ
after t u = map (λ p. get_or t (p - 1) 0) u

twice_from : (n x m a : ℕ) (t u : List ℕ) → length t ≡ m → T (names_bits m u)
    → fold (with_bit m (permuted n t x)) a u ≡ fold (with_bit n x) a (after t u)
unfolding permuted
twice_from n x m a t [] l h = refl
twice_from n x m a t (p ∷ u) l h =
    let here = named m p (both_left (◌&&◌ (ltb 0 p) (ltb p (m + 1))) (names_bits m u) h) in
    let e : m - p ≡ length t - suc (p - 1) = omega arith in
    let b : bit m (permuted n t x) p ≡ bit n x (get_or t (p - 1) 0) =
    ap (λ k. permuted n t x / 2 ^ k % 2) e ∙ bit_at n x 0 t (p - 1) (omega arith) in
    ap (λ c. fold (with_bit m (permuted n t x)) (a * 2 + c) u) b
    ∙ twice_from n x m (with_bit n x a (get_or t (p - 1) 0)) t u l (both_right (◌&&◌ (ltb 0 p) (ltb p (m + 1))) (names_bits m u) h)

-- one permutation after another is the permutation by the table that names through
pub twice_at : (n x m : ℕ) (t u : List ℕ) → length t ≡ m → T (names_bits m u) → permuted m u (permuted n t x) ≡ permuted n (after t u) x
unfolding permuted
twice_at n x m t u l h = twice_from n x m 0 t u l h

pub twice : (n x : ℕ) (t u : List ℕ) → T (names_bits (length t) u) → permuted (length t) u (permuted n t x) ≡ permuted n (after t u) x
twice n x t u h = twice_at n x (length t) t u refl h

-- bits that stand side by side: m bits follow them
pub run : (n x a s k m : ℕ) → s + k + m ≡ n → fold (with_bit n x) a (range_with_len (s + 1) k) ≡ a * 2 ^ k + x / 2 ^ m % 2 ^ k
run n x a s zero m e = sym (ap₂ (λ (y z : ℕ). y + z) (mul-one a) (mod-one (x / 2 ^ m)) ∙ add-zero a)
run n x a s (suc k) m e =
    let y = x / 2 ^ m in
    let i : n - (s + 1) ≡ m + k = omega arith in
    let b : bit n x (s + 1) ≡ y / 2 ^ k % 2 = ap (λ j. x / 2 ^ j % 2) i ∙ ap (λ z. z % 2) (sym (shr-shr x m k)) in
    let q : 2 ^ suc k ≡ 2 ^ k * 2 = pow-suc 2 k in
    let more : y % 2 ^ suc k ≡ (y / 2 ^ k % 2) * 2 ^ k + y % 2 ^ k = subst (λ (m : ℕ). y % 2 ^ m ≡ (y / 2 ^ k % 2) * 2 ^ k + y % 2 ^ k) (one-add k) (mod-pow-add y 1 k) in
    ap (λ c. fold (with_bit n x) (a * 2 + c) (range_with_len (s + 1 + 1) k)) b
    ∙ run n x (a * 2 + y / 2 ^ k % 2) (s + 1) k m (omega arith)
    ∙ omega (arith, add-mul (a * 2) (y / 2 ^ k % 2) (2 ^ k), mul_right_comm a 2 (2 ^ k), sym (mul_assoc a (2 ^ k) 2), ap (λ z. a * z) q, more)

-- the table 1, 2, .. leaves a word as it is
pub straight : (n x : ℕ) → x < 2 ^ n → permuted n (range_with_len 1 n) x ≡ x
unfolding permuted
straight n x h = run n x 0 0 n 0 (omega arith) ∙ ap (λ y. 0 * 2 ^ n + y % 2 ^ n) (div-one x) ∙ omega (arith, mod-eq_of_lt h, zero-mul (2 ^ n))
