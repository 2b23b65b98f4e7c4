-- Which records give a card that holds no record, and that this card does not depend on the pages above it.
use Rattle.std.proofs.Common.{◌≡◌, ◌≢◌, ℕ, ◌+◌, ◌/◌, ◌%◌, ◌<◌, ◌≤◌, Bool, true, false, cond, ◌&&◌, eqb, List, [], ◌++◌, map, length, drop, replicate, Some, None, Option, sym, refl, ap, ◌∙◌, subst, ap₂, arith}
use denote.Ref.{Bor}
use Rattle.std.specs.Option.{MatchOption}
use Rattle.std.specs.Array.{IsWholeChunk}
use Rattle.std.specs.List.{range_with_len}
use Rattle.std.proofs.lemmas.List.{append_assoc, length-append, get_or_append_left}
use Rattle.std.proofs.lemmas.Bool.{and_parts, eqb-true, eq-eqb, ne_eqb}
use Rattle.memory.specs.ImagePages.{page_at, pages_of}
use Rattle.memory.proofs.BytesAsPages.{length-pages_of}
use Rattle.card.specs.declared.record.Record.{Record}
use Rattle.card.specs.declared.view.FirstPages.{FirstPages}
use Rattle.card.specs.declared.view.CardView.{CardView}
use Rattle.card.specs.Bytes.{part, word}
use Rattle.card.specs.Purse.{held_in, newest_slot}
use Rattle.card.specs.Record.{record_of}
use Rattle.card.specs.Options.{and_then, only_if}
use Rattle.card.specs.Pages.{Pages, page, slot_bytes}
use Rattle.card.specs.Card.{newest_fits, first_pages_of, view_with, with_newest, card_of}
use Rattle.card.specs.Rule.{Zeros, HeaderKept, PurseKept, IsCard, Decides}
use Rattle.card.specs.Issue.{issued, holds_none, first_none, issuable, Issuable}
use Rattle.card.specs.Sample.{sample_source}
use Rattle.card.proofs.Steps.{some_value}
use Rattle.card.proofs.Rules.{card_sound, card_complete, card_held}

-- the newest record does not matter where it is asked whether any is held
newest_none : (o : Option Record) (f : FirstPages) → eqb f.purse.held 0 ≡ false →
    holds_none (and_then o (λ r. only_if (newest_fits f.purse r) (Some (view_with f (Some r))))) ≡ false
newest_none None f e = refl
newest_none (Some r) f e = by (newest_fits f.purse r) where
  by : (b : Bool) → holds_none (only_if b (Some (view_with f (Some r)))) ≡ false
  by true = e
  by false = refl

with_none : (f : FirstPages) (p : Pages) → holds_none (with_newest (newest_slot f.purse) f p) ≡ eqb f.purse.held 0
with_none f p = by (eqb f.purse.held 0) refl where
  by : (b : Bool) → eqb f.purse.held 0 ≡ b → holds_none (with_newest (cond b None (Some ((f.purse.next + 9) % 10))) f p) ≡ b
  by true e = e
  by false e = newest_none (record_of (slot_bytes p ((f.purse.next + 9) % 10))) f e

card_none : (o : Option FirstPages) (p : Pages) → holds_none (and_then o (λ f. with_newest (newest_slot f.purse) f p)) ≡ first_none o
card_none None p = refl
card_none (Some f) p = with_none f p

-- a record's own pages decide
test_first : (s : List ℕ) → length s ≡ 192 → issuable s ≡ first_none (first_pages_of (page_at s 0) (page_at s 1) (page_at s 2) (page_at s 11))
unfolding issuable issued pages_of
test_first s size =
    let e : length s / 16 ≡ 12 = omega arith in
    let made : ℕ → Pages = λ n. map (page_at s) (range_with_len 0 n) ++ (replicate 20 (replicate 16 0) ++ []) in
    ap (λ b. b && holds_none (card_of (made (length s / 16)))) (eq-eqb (length s) 192 size)
    ∙ ap (λ n. holds_none (card_of (made n))) e
    ∙ card_none (first_pages_of (page_at s 0) (page_at s 1) (page_at s 2) (page_at s 11)) (made 12)

pub test_short : (s : List ℕ) → (length s ≡ 192 → ⊥) → false ≡ issuable s
unfolding issuable
test_short s ne = sym (ap (λ b. b && holds_none (card_of (issued s []))) (ne_eqb (length s) 192 ne))

-- the answer of a call that looks at an array of 192 bytes, where there is one
pub test_whole : (s : List ℕ) (o : Option (Bor (List ℕ))) (r : Bool) → MatchOption o (length s ≢ 192) (λ y. IsWholeChunk s y.now 192)
    → MatchOption o (r ≡ false) (λ y. r ≡ first_none (first_pages_of (page_at y.now 0) (page_at y.now 1) (page_at y.now 2) (page_at y.now 11))) → r ≡ issuable s
test_whole s None r long read = read ∙ test_short s long
test_whole s (Some y) r long read =
    let f : List ℕ → Bool = λ x. first_none (first_pages_of (page_at x 0) (page_at x 1) (page_at x 2) (page_at x 11)) in
    read ∙ ap f long.same ∙ sym (test_first s long.long)

-- the rule
held_none : (o : Option CardView) → holds_none o ≡ true → (v : CardView) × (o ≡ Some v) × (v.purse.held ≡ 0)
held_none None h = absurd (grind arith)
held_none (Some v) h = (v, refl, eqb-true _ _ h)

issue_sound : (s : List ℕ) → issuable s ≡ true → Issuable s
unfolding issuable
issue_sound s t =
    let p = and_parts (eqb (length s) 192) (holds_none (card_of (issued s []))) t in
    let v = held_none (card_of (issued s [])) p.1 in
    record { size = eqb-true _ _ p.0; card = card_sound (issued s []) v.0 v.1; empty = sym (card_held (issued s []) v.0 v.1) ∙ v.2 }

issue_complete : (s : List ℕ) → Issuable s → issuable s ≡ true
unfolding issuable
issue_complete s k =
    let v = some_value (card_of (issued s [])) (card_complete (issued s []) k.card) in
    ap₂ (λ (a b : Bool). a && b) (eq-eqb _ _ k.size) (ap holds_none v.1 ∙ eq-eqb _ _ (card_held (issued s []) v.0 v.1 ∙ k.empty))

pub issue_decides : (s : List ℕ) (r : Bool) → r ≡ issuable s → Decides r (Issuable s)
issue_decides s r e =
    let P : Bool → Type 0 = λ t. Decides t (Issuable s) in
    subst P (sym e) (record { sound = issue_sound s; complete = issue_complete s })

-- the card is the same whatever pages lie above it
made_long : (s : List ℕ) → length s ≡ 192 → length (pages_of s ++ replicate 20 (replicate 16 0)) ≡ 32
made_long s size = let e = length-pages_of s in simp length-append (omega arith)

issued_page : (s : List ℕ) (p : Pages) (k : ℕ) → length s ≡ 192 → k < 32 → page (issued s p) k ≡ page (pages_of s ++ replicate 20 (replicate 16 0)) k
unfolding issued
issued_page s p k size h =
    ap (λ (q : Pages). page q k) (sym (append_assoc (pages_of s) (replicate 20 (replicate 16 0)) (drop 32 p)))
    ∙ get_or_append_left (pages_of s ++ replicate 20 (replicate 16 0)) (drop 32 p) [] k (omega (arith, made_long s size))

issued_long : (s : List ℕ) (p : Pages) → length s ≡ 192 → 32 ≤ length (issued s p)
unfolding issued
issued_long s p size = let e = length-pages_of s in simp length-append (omega arith)

pub issued_card : (s : List ℕ) (p : Pages) → Issuable s → IsCard (issued s p)
issued_card s p k =
    let same : (i : ℕ) → i < 32 → page (issued s []) i ≡ page (issued s p) i = λ i h. issued_page s [] i k.size h ∙ sym (issued_page s p i k.size h) in
    let e₀ = same 0 (omega arith) in
    let e₁ = same 1 (omega arith) in
    let e₂ = same 2 (omega arith) in
    let e₁₁ = same 11 (omega arith) in
    let none : held_in (page (issued s p) 2) ≡ 0 = ap held_in (sym e₂) ∙ k.empty in
    record {
      room = issued_long s p k.size;
      header = subst HeaderKept e₀ k.card.header;
      limits = subst (λ (x : List ℕ). Zeros (part 8 8 x)) e₁ k.card.limits;
      purse = subst (λ (x : List ℕ). PurseKept (page (issued s p) 1) x) e₂ (subst (λ (x : List ℕ). PurseKept x (page (issued s []) 2)) e₁ k.card.purse);
      unused = subst Zeros e₁₁ k.card.unused;
      newest = λ h. absurd (omega arith);
    }

-- the sample card's record is one that issue takes
pub sample_issuable : Issuable sample_source
unfolding word
sample_issuable = issue_sound sample_source (test_first sample_source refl)
