-- What issue makes of a record of 192 bytes.
use Rattle.std.specs.Prelude.{◌≡◌, ℕ, Bool, false, ◌&&◌, List, [], ◌++◌, length, drop, replicate, Some, None, Option, ◌==◌}
use Rattle.memory.specs.ImagePages.{pages_of}
use Rattle.card.specs.declared.view.CardView.{CardView}
use Rattle.card.specs.declared.view.FirstPages.{FirstPages}
use Rattle.card.specs.Purse.{held_in}
use Rattle.card.specs.Pages.{Pages, page}
use Rattle.card.specs.Card.{card_of}
use Rattle.card.specs.Rule.{IsCard}

-- pages 0 to 11 are the record, 12 to 31 are zeros, and those above are as they were
unfoldable pub issued : List ℕ → Pages → Pages
issued source p = pages_of source ++ (replicate 20 (replicate 16 0) ++ drop 32 p)

-- a card that holds no record
abbrev pub holds_none : Option CardView → Bool
holds_none None = false
holds_none (Some v) = v.purse.held == 0

-- the same, told by pages 0, 1, 2 and 11 alone
abbrev pub first_none : Option FirstPages → Bool
first_none None = false
first_none (Some f) = f.purse.held == 0

-- whether issue takes a record
unfoldable pub issuable : List ℕ → Bool
issuable source = length source == 192 && holds_none (card_of (issued source []))

-- the record has 192 bytes, and gives a card that holds no record
pub record Issuable (source : List ℕ) : Type 0 where
  pub size : length source ≡ 192
  pub card : IsCard (issued source [])
  pub empty : held_in (page (issued source []) 2) ≡ 0
