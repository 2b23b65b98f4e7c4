-- The design criteria of the selection functions, each by one computed test.
use Rattle.std.proofs.Common.{◌≡◌, ℕ, ◌+◌, ◌*◌, ◌^◌, ◌<◌, ◌≤◌, Bool, true, not, eqb, leb, take, drop, refl, arith}
use lib.Bits.{bit_xor}
use Rattle.std.proofs.lemmas.Bool.{eqb-true, leb-true, eq-eqb}
use Rattle.des.specs.Boxes.{s_table, s_box}
use Rattle.des.specs.PermutationLaws.{occurrences}
use Rattle.des.specs.BoxLaws.{RowsArePermutations, differing, OneBitChangesTwo, MiddleBitsChangeTwo, FirstBitsChange, BoxLaws}
use Rattle.des.proofs.Tests.{every, every_at}

-- a test that passes at each S i and each x and y of two ranges
each_at : (m n : ℕ) (test : ℕ → ℕ → ℕ → Bool) → every 1 8 (λ i. every 0 m (λ x. every 0 n (test i x))) ≡ true
    → (i x y : ℕ) → 1 ≤ i → i ≤ 8 → x < m → y < n → test i x y ≡ true
each_at m n test t i x y first last hx hy =
    let box_i = every_at 1 8 (λ i. every 0 m (λ x. every 0 n (test i x))) t i first (omega arith) in
    let at_x = every_at 0 m (λ x. every 0 n (test i x)) box_i x (omega arith) (omega arith) in
    every_at 0 n (test i x) at_x y (omega arith) (omega arith)

pub rows_are_permutations : RowsArePermutations
rows_are_permutations i row v first last hr hv =
    eqb-true (occurrences v (take 16 (drop (16 * row) (s_table i)))) 1
    (each_at 4 16 (λ i row v. eqb (occurrences v (take 16 (drop (16 * row) (s_table i)))) 1) refl i row v first last hr hv)

pub one_bit_changes_two : OneBitChangesTwo
one_bit_changes_two i x j first last hx hj =
    leb-true 2 (differing (s_box i x) (s_box i (bit_xor x (2 ^ j))))
    (each_at 64 6 (λ i x j. leb 2 (differing (s_box i x) (s_box i (bit_xor x (2 ^ j))))) refl i x j first last hx hj)

pub middle_bits_change_two : MiddleBitsChangeTwo
middle_bits_change_two i x first last hx =
    leb-true 2 (differing (s_box i x) (s_box i (bit_xor x 12)))
    (each_at 64 1 (λ i x y. leb 2 (differing (s_box i x) (s_box i (bit_xor x 12)))) refl i x 0 first last hx (omega arith))

unequal : (a b : ℕ) → not (eqb a b) ≡ true → a ≡ b → ⊥
unequal a b t e = let s = eq-eqb a b e in grind arith

pub first_bits_change : FirstBitsChange
first_bits_change i x ef first last hx hef =
    unequal (s_box i x) (s_box i (bit_xor x (48 + 4 * ef)))
    (each_at 64 4 (λ i x ef. not (eqb (s_box i x) (s_box i (bit_xor x (48 + 4 * ef))))) refl i x ef first last hx hef)

pub box_laws : BoxLaws
box_laws = record {
  rows = rows_are_permutations;
  one_bit = one_bit_changes_two;
  middle_bits = middle_bits_change_two;
  first_bits = first_bits_change;
}
