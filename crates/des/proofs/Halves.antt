-- The halves L and R have 32 bits after any rounds.
use Rattle.std.proofs.Common.{ℕ, ◌^◌, ◌<◌, List, [], ◌∷◌, fold, arith}
use Rattle.std.proofs.lemmas.Nat.{xor_lt, mod_below, shr_below}
use Rattle.des.specs.Permutations.{p_table, e}
use Rattle.des.specs.Function.{f, selected}
use Rattle.des.specs.Des.{halves, round, preoutput}
use Rattle.des.proofs.Permuted.{permuted_lt}
use lib.Bits.{bit_xor}

f_lt : (r k : ℕ) → f r k < 2 ^ 32
f_lt r k = permuted_lt 32 p_table (selected (bit_xor k (e r)) 8)

-- both halves have 32 bits
abbrev pub Words : ℕ × ℕ → Type 0
Words s = (s.0 < 2 ^ 32) × (s.1 < 2 ^ 32)

rounds_words : (keys : List ℕ) (s : ℕ × ℕ) → Words s → Words (fold round s keys)
rounds_words [] s h = h
rounds_words (k ∷ keys) s h = rounds_words keys (round s k) (h.1, xor_lt 32 s.0 (f s.1 k) h.0 (f_lt s.1 k))

halves_words : (x : ℕ) → x < 2 ^ 64 → Words (halves x)
halves_words x h = (shr_below x 32 32 h, mod_below x (2 ^ 32) (omega arith))

-- after any rounds from 64 bits
pub after_words : (keys : List ℕ) (x : ℕ) → x < 2 ^ 64 → Words (fold round (halves x) keys)
after_words keys x h = rounds_words keys (halves x) (halves_words x h)

pub rounds_lt : (keys : List ℕ) (x : ℕ) → x < 2 ^ 64 → preoutput keys x < 2 ^ 64
unfolding preoutput
rounds_lt keys x h = let w = after_words keys x h in omega arith
