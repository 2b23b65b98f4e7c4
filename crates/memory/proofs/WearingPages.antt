-- Laws of the pages of a wearing memory.
use Rattle.std.proofs.Common.{◌≡◌, ℕ, zero, suc, ◌<◌, List, [], ◌∷◌, length, get_or, set, replicate, eqb, Ok, refl, ap, ap₂, ◌∙◌, arith}
use Rattle.std.proofs.lemmas.List.{map-set, get_or-map, length-map, get_or-set_other}
use Rattle.memory.specs.declared.wearing_page.WearingPage.{WearingPage}
use Rattle.memory.specs.Pages.{Written}
use Rattle.memory.specs.WearingPages.{bytes_of, left_of, spent}

pub bytes_set : (ps : List WearingPage) (k : ℕ) (p : WearingPage) → bytes_of (set ps k p) ≡ set (bytes_of ps) k p.bytes
bytes_set ps k p = map-set _ ps k p

pub left_set : (ps : List WearingPage) (k : ℕ) (p : WearingPage) → left_of (set ps k p) ≡ set (left_of ps) k p.left
left_set ps k p = map-set _ ps k p

pub left_at : (ps : List WearingPage) (k : ℕ) (p : WearingPage) → k < length ps → get_or ps k p ≡ p → get_or (left_of ps) k 0 ≡ p.left
left_at ps k p h e = get_or-map _ ps k p 0 h ∙ ap (λ q. q.left) e

-- page k of those that are not worn is made p
pub page_written : (ps : List WearingPage) (k : ℕ) (old p : WearingPage) → k < length ps → get_or ps k old ≡ old → (old.left ≡ 0 → ⊥)
    → Written (bytes_of ps) (spent (left_of ps)) k p.bytes (Ok tt) (bytes_of (set ps k p)) (spent (left_of (set ps k p)))
page_written ps k old p h e writable =
    record {
      answer = grind (arith, left_at ps k old h e, length-map);
      bytes = bytes_set ps k p;
      others = λ j ne. ap (λ left. eqb (get_or left j 0) 0) (left_set ps k p) ∙ ap (λ n. eqb n 0) (get_or-set_other (left_of ps) k j p.left 0 ne);
    }

-- pages that are all b
pub alike : (ps : List WearingPage) (n : ℕ) (b : List ℕ) → length ps ≡ n → ((k : ℕ) (d : WearingPage) → k < n → (get_or ps k d).bytes ≡ b) → bytes_of ps ≡ replicate n b
alike [] n b long each = rw (← long) refl
alike (p ∷ ps) zero b long each = absurd (omega arith)
alike (p ∷ ps) (suc n) b long each = ap₂ ◌∷◌ (each 0 p (omega arith)) (alike ps n b (omega arith) (λ k d h. each (suc k) d (omega arith)))

-- pages with the counts `left`
pub counted : (ps : List WearingPage) (left : List ℕ) → length ps ≡ length left → ((k : ℕ) (d : WearingPage) → k < length left → (get_or ps k d).left ≡ get_or left k 0) → left_of ps ≡ left
counted [] [] long each = refl
counted [] (n ∷ ns) long each = absurd (omega arith)
counted (p ∷ ps) [] long each = absurd (omega arith)
counted (p ∷ ps) (n ∷ ns) long each = ap₂ ◌∷◌ (each 0 p (omega arith)) (counted ps ns (omega arith) (λ k d h. each (suc k) d (omega arith)))
