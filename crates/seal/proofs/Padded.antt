-- A message padded to whole blocks: its length, and how it is padded in place.
use Rattle.std.proofs.Common.{◌≡◌, ℕ, ◌+◌, ◌-◌, ◌*◌, ◌/◌, ◌%◌, ◌<◌, ◌≤◌, Bool, true, ◌&&◌, T, eqb, List, [], ◌∷◌, ◌++◌, length, take, drop, set, replicate, sym, refl, ap, ◌∙◌, inl, inr, mod-lt, add-mul, one-mul, div-add-mod', arith, eqb→eq}
use native.Mathlib.Nat.{mul-mod_left}
use borrow.Rule.Slice.PartMut.{put_mid}
use Rattle.std.proofs.lemmas.List.{take_more_set, drop-set-lt, length-take-le, length-append, length-replicate, append_assoc, take_at}
use Rattle.std.proofs.lemmas.List.Edits.{paste_all}
use Rattle.std.proofs.lemmas.Slice.{put_mid-paste}
use Rattle.cipher.specs.Cipher.{BlockSize}
use Rattle.cipher.proofs.Tables.{both_left, both_right}
use Rattle.seal.specs.Padding.{blocks, padded, IsPadded, PaddingRule, Row, padding_rows, RowsHold}

pub at_least_one : (b : ℕ) → BlockSize b → 0 < b
at_least_one b (inl e) = omega arith
at_least_one b (inr e) = omega arith

pub at_most_16 : (b : ℕ) → BlockSize b → b ≤ 16
at_most_16 b (inl e) = omega arith
at_most_16 b (inr e) = omega arith

-- the blocks hold the message and one byte more
pub room_for_one : (b n : ℕ) → 0 < b → n < blocks b n * b
unfolding blocks
room_for_one b n h = omega (arith, div-add-mod' n b, mod-lt n h, add-mul (n / b) 1 b, one-mul b)

-- the padding adds one block at most
pub at_most_one_more : (b n : ℕ) → blocks b n * b ≤ n + b
unfolding blocks
at_most_one_more b n = omega (arith, div-add-mod' n b, add-mul (n / b) 1 b, one-mul b)

pub length-padded : (b : ℕ) (m : List ℕ) → 0 < b → length (padded b m) ≡ blocks b (length m) * b
unfolding padded
length-padded b m pos =
    omega (arith, length-append m (0x80 ∷ replicate (blocks b (length m) * b - length m - 1) 0), length-replicate {A = ℕ} (blocks b (length m) * b - length m - 1) 0, room_for_one b (length m) pos)

-- 80 behind the message and 00 behind that up to n, in place
pub padded_in_place : (pad ys : List ℕ) (len b n : ℕ) → 0 < b → len < length pad → n ≡ blocks b len * b → ys ≡ replicate (n - (len + 1)) 0
    → put_mid (len + 1) (n - (len + 1)) (set pad len 128) ys ≡ padded b (take len pad) ++ drop n pad
unfolding padded
padded_in_place pad ys len b n pos short e f =
    let gap = n - (len + 1) in
    let t : length (take len pad) ≡ len = length-take-le len pad (omega arith) in
    let more : len < n = omega (arith, room_for_one b len pos) in
    let k : len + 1 + gap ≡ n = omega arith in
    let z : blocks b len * b - len - 1 ≡ gap = omega arith in
    put_mid-paste (len + 1) gap (set pad len 128) ys (replicate gap 0) gap f refl (sym (length-replicate gap 0))
    ∙ paste_all (set pad len 128) (len + 1) (replicate gap 0) gap (sym (length-replicate gap 0))
    ∙ simp (take_more_set pad len 128 short, k, drop-set-lt n pad len 128 more, t, z, append_assoc)

-- the first n bytes are then the padded message
pub padded_front : (b n len : ℕ) (pad : List ℕ) → 0 < b → len ≤ length pad → n ≡ blocks b len * b → take n (padded b (take len pad) ++ drop n pad) ≡ padded b (take len pad)
padded_front b n len pad pos short e =
    let t : length (take len pad) ≡ len = length-take-le len pad short in
    let l : length (padded b (take len pad)) ≡ n = length-padded b (take len pad) pos ∙ ap (λ k. blocks b k * b) t ∙ sym e in
    take_at (padded b (take len pad)) (drop n pad) n l

-- what the padding in place needs
pub ruleset padding_steps = (at_least_one, at_most_16, at_most_one_more, room_for_one, padded_in_place, padded_front)

-- the gap that is filled is shorter than a block
rule_at : (b : ℕ) (m : List ℕ) → 0 < b → IsPadded b m (padded b m)
unfolding padded
rule_at b m pos =
    let n = blocks b (length m) * b in
    record {
      zeros = n - length m - 1;
      appended = refl;
      few = omega (arith, room_for_one b (length m) pos, at_most_one_more b (length m));
      whole = ap (λ k. k % b) (length-padded b m pos) ∙ mul-mod_left (blocks b (length m)) b;
    }

pub padding_rule : PaddingRule
padding_rule b s m = rule_at b m (at_least_one b s)

length_at : (b n p : ℕ) (m : List ℕ) → 0 < b → blocks b n * b ≡ p → length m ≡ n → length (padded b m) ≡ p
length_at b n p m pos e l = length-padded b m pos ∙ ap (λ k. blocks b k * b) l ∙ e

-- the rows' numbers, as they are computed
abbrev rows_right : List Row → Bool
rows_right [] = true
rows_right (r ∷ rs) = ◌&&◌ (eqb (blocks 8 r.message * 8) r.by_8) (◌&&◌ (eqb (blocks 16 r.message * 16) r.by_16) (rows_right rs))

rows_hold : (rs : List Row) → T (rows_right rs) → RowsHold rs
rows_hold [] t = tt
rows_hold (r ∷ rs) t =
    let x = eqb (blocks 8 r.message * 8) r.by_8 in
    let y = eqb (blocks 16 r.message * 16) r.by_16 in
    let z = both_right x (◌&&◌ y (rows_right rs)) t in (
      (λ m l. (
        length_at 8 r.message r.by_8 m (omega arith) (eqb→eq (blocks 8 r.message * 8) r.by_8 (both_left x (◌&&◌ y (rows_right rs)) t)) l,
        length_at 16 r.message r.by_16 m (omega arith) (eqb→eq (blocks 16 r.message * 16) r.by_16 (both_left y (rows_right rs) z)) l,
      )),
      rows_hold rs (both_right y (rows_right rs) z),
    )

pub padding_table : RowsHold padding_rows
unfolding blocks
padding_table = rows_hold padding_rows tt
