-- One more round of the sixteen.
use Rattle.std.proofs.Common.{◌≡◌, ℕ, suc, ◌+◌, ◌-◌, get_or, sym, refl, ap, ◌∙◌, add-one, arith}
use Rattle.seed.specs.Keys.{kc_table, subkeys_with, rotated, after_rounds, subkeys}
use Rattle.seed.specs.Seed.{round, rounds}
use Rattle.seed.specs.declared.keys.KeyState.{KeyState}
use Rattle.seed.specs.declared.keys.Subkeys.{Subkeys}
use Rattle.seed.specs.declared.rounds.Halves.{Halves}

pub no_round : (k : ℕ → Subkeys) (h : Halves) → rounds k 0 h ≡ h
unfolding rounds
no_round k h = refl

pub round_more : (key : KeyState) (block : Halves) (i : ℕ)
    → rounds (subkeys key) (i + 1) block ≡ round (subkeys_with (after_rounds key i) (get_or kc_table i 0)) (rounds (subkeys key) i block)
unfolding rounds
round_more key block i =
    let e : suc i - 1 ≡ i = omega arith in
    ap (λ (m : ℕ). rounds (subkeys key) m block) (add-one i)
    ∙ ap (λ (m : ℕ). round (subkeys_with (after_rounds key m) (get_or kc_table m 0)) (rounds (subkeys key) i block)) e

pub rotated_more : (key : KeyState) (i : ℕ) → after_rounds key (i + 1) ≡ rotated (after_rounds key i) (i + 1)
rotated_more key i = ap (after_rounds key) (add-one i) ∙ ap (rotated (after_rounds key i)) (sym (add-one i))
