-- Deciphering undoes enciphering, on bytes.
use Rattle.std.proofs.Common.{◌≡◌, ℕ, zero, suc, ◌+◌, ◌-◌, ◌*◌, ◌/◌, ◌%◌, ◌^◌, ◌<◌, ap, ◌∙◌, arith}
use lib.Bits.{xor_lt}
use Rattle.std.proofs.lemmas.Nat.{mod_below}
use Rattle.seed.specs.Boxes.{s1, s2}
use Rattle.seed.specs.Function.{word, g, f, f0, f1, masked, x0, x1, x2, x3, m0, m1, m2, m3, z0, z1, z2, z3}
use Rattle.seed.specs.Keys.{key_state, subkeys}
use Rattle.seed.specs.Seed.{block_of, halves_of, rounds, sixteen_rounds, seed_enciphered, seed_deciphered, DecipheringUndoes}
use Rattle.seed.specs.declared.keys.Subkeys.{Subkeys}
use Rattle.seed.specs.declared.rounds.Halves.{Halves}
use Rattle.cipher.proofs.BytesOfWords.{word_at_lt}
use Rattle.seed.proofs.Bytes.{halves_back, block_back}
use Rattle.seed.proofs.Extended.{four_lt, m0_lt, m1_lt, m2_lt, m3_lt}
use Rattle.seed.proofs.Undone.{sixteen_undone}

-- what G and F give are words
masked_lt : (x a b c d : ℕ) → a < 256 → b < 256 → c < 256 → d < 256 → masked x a b c d < 256
masked_lt x a b c d = four_lt (s1 (x0 x)) (s2 (x1 x)) (s1 (x2 x)) (s2 (x3 x)) a b c d

word_lt : (a b c d : ℕ) → a < 256 → b < 256 → c < 256 → d < 256 → word a b c d < 2 ^ 32
word_lt a b c d la lb lc ld = omega arith

g_lt : (x : ℕ) → g x < 2 ^ 32
unfolding g
g_lt x =
    word_lt (z3 x) (z2 x) (z1 x) (z0 x)
    (masked_lt x m3 m0 m1 m2 m3_lt m0_lt m1_lt m2_lt)
    (masked_lt x m2 m3 m0 m1 m2_lt m3_lt m0_lt m1_lt)
    (masked_lt x m1 m2 m3 m0 m1_lt m2_lt m3_lt m0_lt)
    (masked_lt x m0 m1 m2 m3 m0_lt m1_lt m2_lt m3_lt)

words_lt : (a b : ℕ) → a < 2 ^ 32 → b < 2 ^ 32 → a * 2 ^ 32 + b < 2 ^ 64
words_lt a b la lb = omega arith

f_lt : (k : Subkeys) (r : ℕ) → f k r < 2 ^ 64
f_lt k r = words_lt (f0 (r / 2 ^ 32) (r % 2 ^ 32) k) (f1 (r / 2 ^ 32) (r % 2 ^ 32) k) (mod_below _ (2 ^ 32) (omega arith)) (g_lt _)

-- both halves are words
record Words (h : Halves) : Type 0 where
  left : h.left < 2 ^ 64
  right : h.right < 2 ^ 64

rounds_words : (k : ℕ → Subkeys) (n : ℕ) (h : Halves) → Words h → Words (rounds k n h)
unfolding rounds
rounds_words k zero h w = w
rounds_words k (suc n) h w =
    let v = rounds_words k n h w in
    record {
      left = v.right;
      right = xor_lt 64 (rounds k n h).left (f (k (suc n)) (rounds k n h).right) v.left (f_lt (k (suc n)) (rounds k n h).right);
    }

sixteen_back : (k : ℕ → Subkeys) (h : Halves) → Words h → halves_of (block_of (sixteen_rounds k h)) ≡ sixteen_rounds k h
sixteen_back k h w = let v = rounds_words k 16 h w in halves_back (sixteen_rounds k h) v.right v.left

pub deciphering_undoes : DecipheringUndoes
unfolding seed_enciphered seed_deciphered
deciphering_undoes key block b =
    let k = subkeys (key_state key) in
    let h = halves_of block in
    let w : Words h = record { left = word_at_lt block 0 b.fits; right = word_at_lt block 8 b.fits } in
    ap (λ (t : Halves). block_of (sixteen_rounds (λ i. k (17 - i)) t)) (sixteen_back k h w) ∙ ap block_of (sixteen_undone k h) ∙ block_back block b
