-- Where the first line of a text ends.
use Rattle.std.proofs.Common.{◌≡◌, ℕ, zero, suc, ◌+◌, ◌<◌, false, eqb, List, [], ◌∷◌, length, get_or, take, drop, sym, refl, ap, ◌∙◌, add-one, arith, ◌≤◌, ◌==◌, Some, None}
use Rattle.std.proofs.lemmas.List.{length-drop}
use Rattle.std.proofs.lemmas.Grind.{common_steps}
use Rattle.std.proofs.lemmas.List.Sums.{fails_before_first}
use Rattle.std.proofs.lemmas.List.Quantifiers.{position-Some}
use Rattle.std.specs.List.{position, position_or_len}
use Rattle.std.proofs.lemmas.Bool.{eq-eqb, ne_eqb, eqb-true, eqb-false, cond-false, cond-true}
use Rattle.text.specs.Lines.{lines_of, onto, before_end, behind_end, FirstLine}

pub lines_none : lines_of [] ≡ []
unfolding lines_of
lines_none = refl

-- a line that 0A ends, at i
record Ended (text : List ℕ) (i : ℕ) : Type 0 where
  pub before : take i text ≡ before_end text
  pub behind : drop (suc i) text ≡ behind_end text
  pub lines : lines_of text ≡ take i text ∷ lines_of (drop (suc i) text)

ended : (text : List ℕ) (i : ℕ) → i < length text → ((k : ℕ) → k < i → get_or text k 0 ≡ 10 → ⊥) → get_or text i 0 ≡ 10 → Ended text i
unfolding lines_of before_end behind_end
ended [] i h none end = absurd (omega arith)
ended (b ∷ bs) zero h none end =
    let on = eq-eqb b 10 end in
    record {
      before = sym (cond-true (eqb b 10) [] (b ∷ before_end bs) on);
      behind = sym (cond-true (eqb b 10) bs (behind_end bs) on);
      lines = cond-true (eqb b 10) ([] ∷ lines_of bs) (onto b (lines_of bs)) on;
    }
ended (b ∷ bs) (suc i) h none end =
    let off : eqb b 10 ≡ false = ne_eqb b 10 (none 0 (omega arith)) in
    let more = ended bs i (omega arith) (λ k l. none (suc k) (omega arith)) end in
    record {
      before = ap (λ l. b ∷ l) more.before ∙ sym (cond-false (eqb b 10) [] (b ∷ before_end bs) off);
      behind = more.behind ∙ sym (cond-false (eqb b 10) bs (behind_end bs) off);
      lines = cond-false (eqb b 10) ([] ∷ lines_of bs) (onto b (lines_of bs)) off ∙ ap (λ ls. onto b ls) more.lines;
    }

-- a last line that lacks it
record Last (text : List ℕ) : Type 0 where
  pub before : text ≡ before_end text
  pub behind : [] ≡ behind_end text
  pub lines : 0 < length text → lines_of text ≡ text ∷ []

-- one byte more in front of a last line
onto_last : (b : ℕ) (bs : List ℕ) → (0 < length bs → lines_of bs ≡ bs ∷ []) → onto b (lines_of bs) ≡ (b ∷ bs) ∷ []
unfolding lines_of
onto_last b [] more = refl
onto_last b (x ∷ bs) more = ap (λ ls. onto b ls) (more (omega arith))

last : (text : List ℕ) → ((k : ℕ) → k < length text → get_or text k 0 ≡ 10 → ⊥) → Last text
unfolding lines_of before_end behind_end
last [] none = record { before = refl; behind = refl; lines = λ h. absurd (omega arith) }
last (b ∷ bs) none =
    let off : eqb b 10 ≡ false = ne_eqb b 10 (none 0 (omega arith)) in
    let more = last bs (λ k l. none (suc k) (omega arith)) in
    record {
      before = ap (λ l. b ∷ l) more.before ∙ sym (cond-false (eqb b 10) [] (b ∷ before_end bs) off);
      behind = more.behind ∙ sym (cond-false (eqb b 10) bs (behind_end bs) off);
      lines = λ _. cond-false (eqb b 10) ([] ∷ lines_of bs) (onto b (lines_of bs)) off ∙ onto_last b bs more.lines;
    }

-- where the first 0A stands at i
pub first_at : (text line rest : List ℕ) (i : ℕ) → line ≡ take i text → rest ≡ drop (i + 1) text → Some i ≡ position (λ b. b == 10) text → FirstLine text line rest
first_at text line rest i before behind found =
    let at = position-Some (λ b. b == 10) text i 0 (sym found) in
    let e = ended text i at.0 (λ k h. eqb-false (get_or text k 0) 10 (at.2 k h)) (eqb-true (get_or text i 0) 10 at.1) in
    rw (before, behind, add-one i) (record { before = e.before; behind = e.behind; lines = e.lines; shorter = simp length-drop (omega (arith, at.0)) })

-- where there is none
pub first_last : (text : List ℕ) → 0 < length text → None ≡ position (λ b. b == 10) text → FirstLine text text []
unfolding lines_of
first_last text some none =
    let all : length text ≤ position_or_len (λ b. b == 10) text = grind (arith, common_steps) in
    let e = last text (λ k h. eqb-false (get_or text k 0) 10 (fails_before_first (λ b. b == 10) text k 0 (omega arith))) in
    record { before = e.before; behind = e.behind; lines = e.lines some; shorter = some }
