-- The rounds undone by the same rounds with the subkeys in reverse order.
use Rattle.std.proofs.Common.{◌≡◌, ℕ, zero, suc, ◌+◌, ◌-◌, ap, ◌∙◌, ap₂, arith}
use Rattle.cipher.proofs.BytesOfWords.{xor_twice}
use Rattle.seed.specs.Function.{f}
use Rattle.seed.specs.Seed.{round, rounds, exchanged, sixteen_rounds}
use Rattle.seed.specs.declared.keys.Subkeys.{Subkeys}
use Rattle.seed.specs.declared.rounds.Halves.{Halves}

round_undone : (k : Subkeys) (h : Halves) → round k (exchanged (round k h)) ≡ exchanged h
round_undone k h = ap (λ (x : ℕ). exchanged (record { left = x; right = h.right })) (xor_twice h.left (f k h.right))

-- n rounds back leave the first m rounds
rounds_undone : (k : ℕ → Subkeys) (h : Halves) (n m : ℕ) → n + m ≡ 16
    → rounds (λ i. k (17 - i)) n (exchanged (rounds k 16 h)) ≡ exchanged (rounds k m h)
unfolding rounds
rounds_undone k h zero m e = let t : 16 ≡ m = omega arith in ap (λ (j : ℕ). exchanged (rounds k j h)) t
rounds_undone k h (suc n) m e =
    let t : 17 - suc n ≡ suc m = omega arith in
    ap₂ round (ap k t) (rounds_undone k h n (suc m) (omega arith)) ∙ round_undone (k (suc m)) (rounds k m h)

pub sixteen_undone : (k : ℕ → Subkeys) (h : Halves) → sixteen_rounds (λ i. k (17 - i)) (sixteen_rounds k h) ≡ h
unfolding rounds
sixteen_undone k h = ap exchanged (rounds_undone k h 16 0 (omega arith))
