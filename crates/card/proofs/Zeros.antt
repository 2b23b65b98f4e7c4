-- Bytes that are all 00: by the test, by their places, and the list that they are.
use Rattle.std.proofs.Common.{◌≡◌, ℕ, zero, suc, true, ◌&&◌, List, [], ◌∷◌, length, replicate, refl, ap, ◌∙◌, arith, eq-eqb}
use Rattle.std.proofs.lemmas.Bool.Decides.{nat_tests}
use Rattle.card.specs.Bytes.{all_zero}
use Rattle.card.specs.Rule.{Zeros}

pub zeros_sound : (xs : List ℕ) → all_zero xs ≡ true → Zeros xs
zeros_sound [] e k = refl
zeros_sound (x ∷ xs) e zero = grind (arith, nat_tests)
zeros_sound (x ∷ xs) e (suc k) = zeros_sound xs (grind (arith, nat_tests)) k

pub zeros_complete : (xs : List ℕ) → Zeros xs → all_zero xs ≡ true
zeros_complete [] z = refl
zeros_complete (x ∷ xs) z = ap (λ b. b && all_zero xs) (eq-eqb x 0 (z zero)) ∙ zeros_complete xs (λ k. z (suc k))

pub zeros : (xs : List ℕ) → all_zero xs ≡ true → replicate (length xs) 0 ≡ xs
zeros [] e = refl
zeros (x ∷ xs) e =
    let z : x ≡ 0 = grind (arith, nat_tests) in
    let rest : all_zero xs ≡ true = grind (arith, nat_tests) in
    let more : replicate (length xs) 0 ≡ xs = zeros xs rest in
    cc
