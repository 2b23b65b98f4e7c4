-- What is shown of a card does not depend on its keys.
use Rattle.std.proofs.Common.{◌≡◌, ℕ, ◌+◌, ◌*◌, ◌<◌, leb, List, ◌++◌, length, Some, None, Option, refl, ap, ◌∙◌, inl, inr, arith}
use Rattle.card.specs.declared.view.CardView.{CardView}
use Rattle.card.specs.declared.view.FirstPages.{FirstPages}
use Rattle.card.specs.Card.{first_pages_of, newest_fits, view_with, with_newest, card_of}
use Rattle.card.specs.Options.{and_then, only_if}
use Rattle.card.specs.Pages.{Pages, page, slot_bytes}
use Rattle.card.specs.Purse.{newest_slot}
use Rattle.card.specs.Record.{record_of}
use Rattle.report.specs.Lines.{card_lines, files_of, described}
use Rattle.report.specs.Keys.{SameButKeys, KeysNotShown}

and_then_same : {X Y : Type 0} (o : Option X) (f g : X → Option Y) → ((x : X) → f x ≡ g x) → and_then o f ≡ and_then o g
and_then_same None f g h = refl
and_then_same (Some x) f g h = h x

-- a step over four pages gives the same of equal pages
four_same : {X : Type 0} (F : List ℕ → List ℕ → List ℕ → List ℕ → X) (a a' b b' c c' d d' : List ℕ) → a ≡ a' → b ≡ b' → c ≡ c' → d ≡ d' → F a b c d ≡ F a' b' c' d'
four_same F a a' b b' c c' d d' ea eb ec ed = rw (ea, eb, ec, ed)

module _ (p q : Pages) (same : SameButKeys p q) where
  below : (k : ℕ) → k < 6 → page p k ≡ page q k
  below k h = same.each k (inl h)

  above : (k : ℕ) → 10 < k → page p k ≡ page q k
  above k h = same.each k (inr h)

  slot_same : (s : ℕ) → slot_bytes p s ≡ slot_bytes q s
  slot_same s = ap (λ x. x ++ page p (13 + 2 * s)) (above (12 + 2 * s) (omega arith)) ∙ ap (λ x. page q (12 + 2 * s) ++ x) (above (13 + 2 * s) (omega arith))

  newest_same : (o : Option ℕ) (f : FirstPages) → with_newest o f p ≡ with_newest o f q
  newest_same None f = refl
  newest_same (Some s) f = ap (λ x. and_then (record_of x) (λ r. only_if (newest_fits f.purse r) (Some (view_with f (Some r))))) (slot_same s)

  first_same : first_pages_of (page p 0) (page p 1) (page p 2) (page p 11) ≡ first_pages_of (page q 0) (page q 1) (page q 2) (page q 11)
  first_same = four_same first_pages_of _ _ _ _ _ _ _ _ (below 0 (omega arith)) (below 1 (omega arith)) (below 2 (omega arith)) (above 11 (omega arith))

  card_same : card_of p ≡ card_of q
  card_same =
      ap (λ n. only_if (leb 32 n) (and_then (first_pages_of (page p 0) (page p 1) (page p 2) (page p 11)) (λ f. with_newest (newest_slot f.purse) f p))) same.count
      ∙ ap (only_if (leb 32 (length q)))
      (and_then_same (first_pages_of (page p 0) (page p 1) (page p 2) (page p 11)) (λ f. with_newest (newest_slot f.purse) f p)
      (λ f. with_newest (newest_slot f.purse) f q) (λ f. newest_same (newest_slot f.purse) f)
      ∙ ap (λ x. and_then x (λ f. with_newest (newest_slot f.purse) f q)) first_same)

  files_same : files_of p ≡ files_of q
  files_same = rw (below 3 (omega arith), below 4 (omega arith), below 5 (omega arith))

  described_same : (o : Option CardView) → described o p ≡ described o q
  described_same None = refl
  described_same (Some v) = ap (λ f. Some (card_lines v f)) files_same

pub keys_not_shown : (p : Pages) → KeysNotShown p
keys_not_shown p q same = ap (λ o. described o p) (card_same p q same) ∙ described_same p q same (card_of q)
