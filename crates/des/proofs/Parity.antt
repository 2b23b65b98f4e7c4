-- The parity bits of a key, the last of each byte, do not matter.
use Rattle.std.proofs.Common.{◌≡◌, ℕ, zero, suc, ◌+◌, ◌-◌, ◌*◌, ◌/◌, ◌%◌, ◌^◌, ◌<◌, ◌≤◌, List, [], ◌∷◌, ◌++◌, map, reverse, get_or, replicate, fold, sym, refl, ap, ◌∙◌, ap₂, arith}
use Rattle.std.specs.List.{range_with_len}
use Rattle.std.proofs.lemmas.List.FromFn.{get_or-map-range_with_len}
use Rattle.cipher.specs.Words.{word_of, word_at, bytes_of}
use Rattle.des.specs.Permutations.{with_bit, permuted, pc_1, pc_2, pc_1_table}
use Rattle.des.specs.Keys.{after_shifts, round_key, key_schedule}
use Rattle.des.specs.Des.{des}
use Rattle.des.specs.TripleDes.{triple_des}
use Rattle.des.specs.DesLaws.{ParityIgnored}
use Rattle.des.proofs.Composed.{run, twice}

-- the first seven bits of each of the first n bytes of a word
abbrev stripped : ℕ → ℕ → ℕ
stripped x zero = 0
stripped x (suc n) = fold (with_bit 64 x) (stripped x n) (range_with_len (8 * n + 1) 7)

-- the table of them all
abbrev no_parity : List ℕ
no_parity = range_with_len 1 7 ++ (range_with_len 9 7 ++ (range_with_len 17 7 ++ (range_with_len 25 7 ++ (range_with_len 33 7 ++ (range_with_len 41 7 ++ (range_with_len 49 7 ++ range_with_len 57 7))))))

-- the first seven bits of byte n
abbrev seven : ℕ → ℕ → ℕ
seven x n = x / 2 ^ (57 - 8 * n) % 2 ^ 7

stripped_same : (x y : ℕ) → ((n : ℕ) → n < 8 → seven x n ≡ seven y n) → (n : ℕ) → n ≤ 8 → stripped x n ≡ stripped y n
stripped_same x y same zero h = refl
stripped_same x y same (suc n) h =
    run 64 x (stripped x n) (8 * n) 7 (57 - 8 * n) (omega arith)
    ∙ ap₂ (λ (a b : ℕ). a * 2 ^ 7 + b) (stripped_same x y same n (omega arith)) (same n (omega arith))
    ∙ sym (run 64 y (stripped y n) (8 * n) 7 (57 - 8 * n) (omega arith))

-- PC-1 takes its bits from these
chosen : (x : ℕ) → pc_1 x ≡ permuted 56 (map (λ v. v - v / 8) pc_1_table) (stripped x 8)
unfolding permuted
chosen x = sym (twice 64 x no_parity (map (λ v. v - v / 8) pc_1_table) tt)

pc_1_same : (x y : ℕ) → ((n : ℕ) → n < 8 → seven x n ≡ seven y n) → pc_1 x ≡ pc_1 y
pc_1_same x y same =
    chosen x ∙ ap (permuted 56 (map (λ v. v - v / 8) pc_1_table)) (stripped_same x y same 8 (omega arith)) ∙ sym (chosen y)

-- the round keys depend on PC-1 alone
keys_same : (x y : ℕ) → pc_1 x ≡ pc_1 y → key_schedule x ≡ key_schedule y
unfolding key_schedule round_key
keys_same x y e = ap (λ c. map (λ n. pc_2 (after_shifts (c / 2 ^ 28) n * 2 ^ 28 + after_shifts (c % 2 ^ 28) n)) (range_with_len 1 16)) e

-- the eight bytes of a word, each below 256: the first seven bits of each
seven_of : (b0 b1 b2 b3 b4 b5 b6 b7 : ℕ) → b0 < 256 → b1 < 256 → b2 < 256 → b3 < 256 → b4 < 256 → b5 < 256 → b6 < 256 → b7 < 256
    → (n : ℕ) → n < 8
    → seven (word_of (b0 ∷ b1 ∷ b2 ∷ b3 ∷ b4 ∷ b5 ∷ b6 ∷ b7 ∷ [])) n ≡ get_or (b0 ∷ b1 ∷ b2 ∷ b3 ∷ b4 ∷ b5 ∷ b6 ∷ b7 ∷ []) n 0 / 2
unfolding word_of
seven_of b0 b1 b2 b3 b4 b5 b6 b7 h0 h1 h2 h3 h4 h5 h6 h7 zero l = omega arith
seven_of b0 b1 b2 b3 b4 b5 b6 b7 h0 h1 h2 h3 h4 h5 h6 h7 (suc zero) l = omega arith
seven_of b0 b1 b2 b3 b4 b5 b6 b7 h0 h1 h2 h3 h4 h5 h6 h7 (suc (suc zero)) l = omega arith
seven_of b0 b1 b2 b3 b4 b5 b6 b7 h0 h1 h2 h3 h4 h5 h6 h7 (suc (suc (suc zero))) l = omega arith
seven_of b0 b1 b2 b3 b4 b5 b6 b7 h0 h1 h2 h3 h4 h5 h6 h7 (suc (suc (suc (suc zero)))) l = omega arith
seven_of b0 b1 b2 b3 b4 b5 b6 b7 h0 h1 h2 h3 h4 h5 h6 h7 (suc (suc (suc (suc (suc zero))))) l = omega arith
seven_of b0 b1 b2 b3 b4 b5 b6 b7 h0 h1 h2 h3 h4 h5 h6 h7 (suc (suc (suc (suc (suc (suc zero)))))) l = omega arith
seven_of b0 b1 b2 b3 b4 b5 b6 b7 h0 h1 h2 h3 h4 h5 h6 h7 (suc (suc (suc (suc (suc (suc (suc zero))))))) l = omega arith
seven_of b0 b1 b2 b3 b4 b5 b6 b7 h0 h1 h2 h3 h4 h5 h6 h7 (suc (suc (suc (suc (suc (suc (suc (suc n)))))))) l = omega arith

seven_is : (g : ℕ → ℕ) → ((k : ℕ) → k < 8 → g k < 256) → (n : ℕ) → n < 8 → seven (word_of (map g (range_with_len 0 8))) n ≡ g n / 2
seven_is g h n l =
    seven_of (g 0) (g 1) (g 2) (g 3) (g 4) (g 5) (g 6) (g 7)
    (h 0 (omega arith)) (h 1 (omega arith)) (h 2 (omega arith)) (h 3 (omega arith)) (h 4 (omega arith)) (h 5 (omega arith)) (h 6 (omega arith)) (h 7 (omega arith)) n l
    ∙ ap (λ b. b / 2) (get_or-map-range_with_len g 0 8 n n 0 l (omega arith))

-- two words of eight bytes that differ in parity bits alone
half_same : (g h : ℕ → ℕ) → ((k : ℕ) → k < 8 → g k < 256) → ((k : ℕ) → k < 8 → g k / 2 ≡ h k / 2)
    → key_schedule (word_of (map g (range_with_len 0 8))) ≡ key_schedule (word_of (map h (range_with_len 0 8)))
half_same g h small same =
    keys_same (word_of (map g (range_with_len 0 8))) (word_of (map h (range_with_len 0 8)))
    (pc_1_same (word_of (map g (range_with_len 0 8))) (word_of (map h (range_with_len 0 8)))
    (λ n l. seven_is g small n l ∙ same n l ∙ sym (seven_is h (λ k m. omega (arith, small k m, same k m)) n l)))

pub parity_ignored : ParityIgnored
unfolding triple_des
parity_ignored key other block small same =
    ap₂ (λ (k1 k2 : List ℕ). bytes_of (des k1 (des (reverse k2) (des k1 (word_at block 0)))) ++ replicate 8 0)
    (half_same (λ k. get_or key k 0) (λ k. get_or other k 0) (λ k h. small k (omega arith)) (λ k h. same k (omega arith)))
    (half_same (λ k. get_or key (8 + k) 0) (λ k. get_or other (8 + k) 0) (λ k h. small (8 + k) (omega arith)) (λ k h. same (8 + k) (omega arith)))
