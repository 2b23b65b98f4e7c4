-- What lines are.
use Rattle.std.proofs.Common.{◌≡◌, ℕ, zero, suc, Bool, true, false, cond, eqb, ◌⊎◌, List, [], ◌∷◌, ◌++◌, length, get_or, refl, ap, ◌∙◌, inl, inr, arith}
use Rattle.std.proofs.lemmas.List.{length-append}
use Rattle.std.proofs.lemmas.Bool.{eqb-true, eqb-false}
use Rattle.text.specs.Lines.{lines_of, onto, ended, Unbroken, LinesRule}

no_end : (k : ℕ) → get_or {A = ℕ} [] k 0 ≡ 10 → ⊥
no_end k e = omega arith

unbroken_byte : (b : ℕ) (line : List ℕ) → (b ≡ 10 → ⊥) → ((k : ℕ) → get_or line k 0 ≡ 10 → ⊥) → (k : ℕ) → get_or (b ∷ line) k 0 ≡ 10 → ⊥
unbroken_byte b line off none zero e = off e
unbroken_byte b line off none (suc k) e = none k e

unbroken_onto : (b : ℕ) (lines : List (List ℕ)) → (b ≡ 10 → ⊥) → Unbroken lines → Unbroken (onto b lines)
unbroken_onto b [] off u = (unbroken_byte b [] off no_end, tt)
unbroken_onto b (line ∷ lines) off u = (unbroken_byte b line off u.0, u.1)

unbroken_by : (t : Bool) (b : ℕ) (lines : List (List ℕ)) → eqb b 10 ≡ t → Unbroken lines → Unbroken (cond t ([] ∷ lines) (onto b lines))
unbroken_by true b lines e u = (no_end, u)
unbroken_by false b lines e u = unbroken_onto b lines (eqb-false b 10 e) u

unbroken : (text : List ℕ) → Unbroken (lines_of text)
unfolding lines_of
unbroken [] = tt
unbroken (b ∷ bs) = unbroken_by (eqb b 10) b (lines_of bs) refl (unbroken bs)

-- the lines, each ended, are the text, or the text ended
Whole : List (List ℕ) → List ℕ → Type 0
Whole lines text = (ended lines ≡ text) ⊎ (ended lines ≡ text ++ 10 ∷ [])

not_nil : (text : List ℕ) → [] ≡ text ++ 10 ∷ [] → ⊥
not_nil text e = omega (arith, ap length e ∙ length-append text (10 ∷ []))

whole_ended : (lines : List (List ℕ)) (text : List ℕ) → Whole lines text → Whole ([] ∷ lines) (10 ∷ text)
unfolding Whole
whole_ended lines text (inl e) = inl (ap (λ x. 10 ∷ x) e)
whole_ended lines text (inr e) = inr (ap (λ x. 10 ∷ x) e)

whole_onto : (b : ℕ) (lines : List (List ℕ)) (text : List ℕ) → Whole lines text → Whole (onto b lines) (b ∷ text)
unfolding Whole
whole_onto b [] text (inl e) = inr (ap (λ x. b ∷ (x ++ 10 ∷ [])) e)
whole_onto b [] text (inr e) = absurd (not_nil text e)
whole_onto b (line ∷ lines) text (inl e) = inl (ap (λ x. b ∷ x) e)
whole_onto b (line ∷ lines) text (inr e) = inr (ap (λ x. b ∷ x) e)

whole_by : (t : Bool) (b : ℕ) (lines : List (List ℕ)) (text : List ℕ) → eqb b 10 ≡ t → Whole lines text → Whole (cond t ([] ∷ lines) (onto b lines)) (b ∷ text)
unfolding Whole
whole_by true b lines text e w = rw (eqb-true b 10 e) (whole_ended lines text w)
whole_by false b lines text e w = whole_onto b lines text w

whole : (text : List ℕ) → Whole (lines_of text) text
unfolding lines_of Whole
whole [] = inl refl
whole (b ∷ bs) = whole_by (eqb b 10) b (lines_of bs) bs refl (whole bs)

pub lines_rule : LinesRule
unfolding Whole
lines_rule = record { unbroken = unbroken; whole = whole }
