-- Permuted words: a loop's step, their size, and the places that a table names.
use Rattle.std.proofs.Common.{◌≡◌, ℕ, zero, suc, ◌+◌, ◌-◌, ◌*◌, ◌/◌, ◌^◌, ◌<◌, ◌≤◌, ◌&&◌, T, ltb, List, [], ◌∷◌, length, get_or, take, fold, sym, ◌∙◌, subst, le_of_suc-le-suc, not-suc-le-zero, add-zero, add-suc, suc-add, pow-suc, arith, ltb→lt, pow_mono}
use Rattle.std.proofs.lemmas.List.Sums.{fold_more}
use Rattle.std.proofs.lemmas.Nat.{mod_below}
use Rattle.std.proofs.lemmas.List.{length-take-le}
use Rattle.cipher.proofs.Tables.{both_left, both_right}
use Rattle.des.specs.Permutations.{permuted, with_bit, names_bits}

pub permuted_more : (n : ℕ) (t : List ℕ) (x i : ℕ) → i < length t
    → permuted n (take (i + 1) t) x ≡ with_bit n x (permuted n (take i t) x) (get_or t i 0)
unfolding permuted
permuted_more n t x i h = fold_more (with_bit n x) 0 t i 0 h

from : (n : ℕ) (t : List ℕ) (x a k : ℕ) → a < 2 ^ k → fold (with_bit n x) a t < 2 ^ (k + length t)
from n [] x a k h = rw add-zero h
from n (p ∷ t) x a k h =
    let b : with_bit n x a p < 2 ^ suc k = omega (arith, pow-suc 2 k, mod_below (x / 2 ^ (n - p)) 2 (omega arith)) in
    subst (λ (m : ℕ). fold (with_bit n x) (with_bit n x a p) t < 2 ^ m) (suc-add k (length t) ∙ sym (add-suc k (length t)))
    (from n t x (with_bit n x a p) (suc k) b)

-- a permuted word has as many bits as the table has entries
pub permuted_lt : (n : ℕ) (t : List ℕ) (x : ℕ) → permuted n t x < 2 ^ length t
unfolding permuted
permuted_lt n t x = subst (λ (m : ℕ). fold (with_bit n x) 0 t < 2 ^ m) (omega arith) (from n t x 0 0 (omega arith))

-- an entry names one of the n bits
pub named : (n p : ℕ) → T (◌&&◌ (ltb 0 p) (ltb p (n + 1))) → (0 < p) × (p ≤ n)
named n p h =
    let q : p < n + 1 = ltb→lt p (n + 1) (both_right (ltb 0 p) (ltb p (n + 1)) h) in
    (ltb→lt 0 p (both_left (ltb 0 p) (ltb p (n + 1)) h), omega arith)

pub names_at : (n : ℕ) (t : List ℕ) (i : ℕ) → T (names_bits n t) → i < length t → (0 < get_or t i 0) × (get_or t i 0 ≤ n)
names_at n [] i h k = absurd (not-suc-le-zero k)
names_at n (p ∷ t) zero h k = named n p (both_left (◌&&◌ (ltb 0 p) (ltb p (n + 1))) (names_bits n t) h)
names_at n (p ∷ t) (suc i) h k = names_at n t i (both_right (◌&&◌ (ltb 0 p) (ltb p (n + 1))) (names_bits n t) h) (le_of_suc-le-suc k)

-- one bit more still fits 64
pub with_bit_fits : (n : ℕ) (t : List ℕ) (x i out b : ℕ) → i < length t → length t ≤ 64 → out ≡ permuted n (take i t) x → b < 2 → out * 2 + b < 2 ^ 64
with_bit_fits n t x i out b h short e small =
    let l : length (take i t) ≡ i = length-take-le i t (omega arith) in
    let p : 2 ^ suc i ≤ 2 ^ 64 = pow_mono {j = 64} (omega arith) in
    let w : out < 2 ^ i = subst (λ (m : ℕ). out < 2 ^ m) l (subst (λ (m : ℕ). m < 2 ^ length (take i t)) (sym e) (permuted_lt n (take i t) x)) in
    omega (arith, pow-suc 2 i)
