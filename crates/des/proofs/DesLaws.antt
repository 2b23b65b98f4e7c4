-- Deciphering undoes enciphering.
use Rattle.std.proofs.Common.{◌≡◌, ℕ, ◌^◌, ◌<◌, List, [], ◌∷◌, ◌++◌, reverse, replicate, fold, sym, refl, ap, ◌∙◌, ap₂}
use mathlib.Core.List.{reverse-cons}
use Rattle.std.proofs.lemmas.Nat.{shr_high, mod_low, shr_split}
use Rattle.std.proofs.lemmas.List.{reverse-reverse}
use Rattle.std.proofs.lemmas.List.Sums.{fold_push}
use Rattle.cipher.proofs.BytesOfWords.{xor_twice}
use Rattle.cipher.specs.Words.{word_at, bytes_of}
use Rattle.des.specs.Permutations.{ip_table, ip_inverse_table, ip, ip_inverse}
use Rattle.des.specs.Function.{f}
use Rattle.des.specs.Keys.{key_schedule}
use Rattle.des.specs.Des.{halves, round, right_then_left, preoutput, des, des_enciphered, des_deciphered}
use Rattle.des.specs.TripleDes.{triple_des}
use Rattle.des.specs.DesLaws.{DecipheringUndoes, TripleDesUndone, EqualHalvesAreDes}
use Rattle.des.proofs.Permuted.{permuted_lt}
use Rattle.des.proofs.PermutationLaws.{ip_undone, ip_inverse_undone}
use Rattle.des.proofs.Halves.{Words, after_words, rounds_lt}

-- the halves exchanged
abbrev exchanged : ℕ × ℕ → ℕ × ℕ
exchanged s = (s.1, s.0)

-- a round on the exchanged halves takes back a round with the same key
round_undone : (s : ℕ × ℕ) (k : ℕ) → round (exchanged (round s k)) k ≡ exchanged s
round_undone s k = ap (λ (l : ℕ). (s.1, l)) (xor_twice s.0 (f s.1 k))

-- rounds with the keys in reverse order take back rounds
all_undone : (keys : List ℕ) (s : ℕ × ℕ) → fold round (exchanged (fold round s keys)) (reverse keys) ≡ exchanged s
all_undone [] s = refl
all_undone (k ∷ keys) s =
    ap (fold round (exchanged (fold round (round s k) keys))) (reverse-cons k keys)
    ∙ fold_push round (exchanged (fold round (round s k) keys)) (reverse keys) k
    ∙ ap (λ t. round t k) (all_undone keys (round s k))
    ∙ round_undone s k

-- the halves of the preoutput
halves_preoutput : (s : ℕ × ℕ) → Words s → halves (right_then_left s) ≡ exchanged s
halves_preoutput s w = ap₂ (λ (l r : ℕ). (l, r)) (shr_high s.1 32 s.0 w.0) (mod_low s.1 32 s.0 w.0)

rounds_undone : (keys : List ℕ) (x : ℕ) → x < 2 ^ 64 → preoutput (reverse keys) (preoutput keys x) ≡ x
unfolding preoutput
rounds_undone keys x h =
    let s = fold round (halves x) keys in
    ap (λ t. right_then_left (fold round t (reverse keys))) (halves_preoutput s (after_words keys x h))
    ∙ ap right_then_left (all_undone keys (halves x))
    ∙ shr_split x 32

des_undone : (keys : List ℕ) (x : ℕ) → x < 2 ^ 64 → des (reverse keys) (des keys x) ≡ x
des_undone keys x h =
    let i = permuted_lt 64 ip_table x in
    ap (λ y. ip_inverse (preoutput (reverse keys) y)) (ip_inverse_undone (preoutput keys (ip x)) (rounds_lt keys (ip x) i))
    ∙ ap ip_inverse (rounds_undone keys (ip x) i)
    ∙ ip_undone x h

pub deciphering_undoes : DecipheringUndoes
deciphering_undoes key x h = des_undone (key_schedule key) x h

enciphering_undoes : (key x : ℕ) → x < 2 ^ 64 → des_enciphered key (des_deciphered key x) ≡ x
enciphering_undoes key x h =
    ap (λ keys. des keys (des_deciphered key x)) (sym (reverse-reverse (key_schedule key))) ∙ des_undone (reverse (key_schedule key)) x h

-- a result of DES has 64 bits
des_lt : (keys : List ℕ) (x : ℕ) → des keys x < 2 ^ 64
des_lt keys x = permuted_lt 64 ip_inverse_table (preoutput keys (ip x))

pub triple_des_undone : TripleDesUndone
triple_des_undone k1 k2 x h =
    let y = des_enciphered k1 x in
    let z = des_deciphered k2 y in
    ap (λ w. des_deciphered k1 (des_enciphered k2 w)) (deciphering_undoes k1 z (des_lt (reverse (key_schedule k2)) y))
    ∙ ap (des_deciphered k1) (enciphering_undoes k2 y (des_lt (key_schedule k1) x))
    ∙ deciphering_undoes k1 x h

pub equal_halves_are_des : EqualHalvesAreDes
unfolding triple_des
equal_halves_are_des key block e =
    let k = word_at key 0 in
    let y = des_enciphered k (word_at block 0) in
    ap (λ k2. bytes_of (des_enciphered k (des_deciphered k2 y)) ++ replicate 8 0) (sym e)
    ∙ ap (λ z. bytes_of z ++ replicate 8 0) (enciphering_undoes k y (des_lt (key_schedule k) (word_at block 0)))
