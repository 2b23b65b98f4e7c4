-- What the selection functions have to meet: four of the design criteria that D. Coppersmith published in 1994.
use Rattle.std.specs.Prelude.{◌≡◌, ℕ, ◌+◌, ◌*◌, ◌/◌, ◌%◌, ◌^◌, ◌<◌, ◌≤◌, take, drop, ◌≢◌, bit_xor}
use Rattle.des.specs.Boxes.{s_table, s_box}
use Rattle.des.specs.PermutationLaws.{occurrences}

-- each row of each S i has each of the numbers 0 to 15 once
abbrev pub RowsArePermutations : Type 0
RowsArePermutations = (i row v : ℕ) → 1 ≤ i → i ≤ 8 → row < 4 → v < 16 → occurrences v (take 16 (drop (16 * row) (s_table i))) ≡ 1

-- in how many of their four bits a and b differ
abbrev pub differing : ℕ → ℕ → ℕ
differing a b = bit_xor a b % 2 + bit_xor a b / 2 % 2 + bit_xor a b / 4 % 2 + bit_xor a b / 8 % 2

-- six bits that differ in exactly one bit are taken to four bits that differ in two or more
abbrev pub OneBitChangesTwo : Type 0
OneBitChangesTwo = (i x j : ℕ) → 1 ≤ i → i ≤ 8 → x < 64 → j < 6 → 2 ≤ differing (s_box i x) (s_box i (bit_xor x (2 ^ j)))

-- and so are six bits that differ in exactly the two middle bits, 001100
abbrev pub MiddleBitsChangeTwo : Type 0
MiddleBitsChangeTwo = (i x : ℕ) → 1 ≤ i → i ≤ 8 → x < 64 → 2 ≤ differing (s_box i x) (s_box i (bit_xor x 12))

-- six bits that differ in the first two bits and not in the last two, by 11ef00, are taken to different bits, whatever e and f are
abbrev pub FirstBitsChange : Type 0
FirstBitsChange = (i x ef : ℕ) → 1 ≤ i → i ≤ 8 → x < 64 → ef < 4 → s_box i x ≢ s_box i (bit_xor x (48 + 4 * ef))

-- all of these
pub record BoxLaws : Type 0 where
  pub rows : RowsArePermutations
  pub one_bit : OneBitChangesTwo
  pub middle_bits : MiddleBitsChangeTwo
  pub first_bits : FirstBitsChange
