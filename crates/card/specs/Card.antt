-- The card that pages are, worked out page by page. The rule that it meets, a list of conditions, is `IsCard` of Rule.antt.
use Rattle.std.specs.Prelude.{ℕ, Bool, true, false, ◌&&◌, ◌||◌, List, length, Some, None, Option, ◌==◌, nat_le, nat_lt}
use Rattle.card.specs.declared.limits.Limits.{Limits}
use Rattle.card.specs.declared.purse.Purse.{Purse}
use Rattle.card.specs.declared.record.Kind.{Kind}
use Rattle.card.specs.declared.record.Kind.TheVariants.{Ride, Cancel}
use Rattle.card.specs.declared.record.Record.{Record}
use Rattle.card.specs.declared.view.FirstPages.{FirstPages}
use Rattle.card.specs.declared.view.CardView.{CardView}
use Rattle.card.specs.Bytes.{all_zero}
use Rattle.card.specs.Options.{and_then, only_if}
use Rattle.card.specs.Header.{header_of}
use Rattle.card.specs.Limits.{limits_of}
use Rattle.card.specs.Purse.{purse_of, newest_slot}
use Rattle.card.specs.Record.{record_of}
use Rattle.card.specs.Pages.{Pages, page, slot_bytes}

-- there is a newest record exactly where records are held
abbrev pub last_fits : ℕ → Option Kind → Bool
last_fits held None = held == 0
last_fits held (Some kind) = nat_lt 0 held

-- what page 2 is to keep
abbrev pub purse_fits : Limits → Purse → Bool
purse_fits l u =
    nat_le u.total l.limit && (nat_le u.next 9 && (nat_le u.held 10 && ((nat_le 10 u.held || u.next == u.held) && last_fits u.held u.last)))

-- the newest record is of the kind that page 2 says
abbrev pub kind_fits : Option Kind → Kind → Bool
kind_fits (Some Ride) Ride = true
kind_fits (Some Cancel) Cancel = true
kind_fits last kind = false

-- for a ride, the amount is at most the total
abbrev pub amount_fits : Option Kind → ℕ → ℕ → Bool
amount_fits (Some Ride) amount total = nat_le amount total
amount_fits last amount total = true

-- what the newest record is to keep
abbrev pub newest_fits : Purse → Record → Bool
newest_fits u r = kind_fits u.last r.kind && (r.total == u.total && (nat_le r.nt u.nt && amount_fits u.last r.amount u.total))

-- pages 0, 1, 2 and 11 where each keeps its rule
abbrev pub first_pages_of : List ℕ → List ℕ → List ℕ → List ℕ → Option FirstPages
first_pages_of zero one two eleven =
    and_then (header_of zero) (λ header.
    and_then (limits_of one) (λ limits.
    and_then (purse_of two) (λ purse.
    only_if (all_zero eleven) (only_if (purse_fits limits purse) (Some (record { header = header; limits = limits; purse = purse }))))))

abbrev pub view_with : FirstPages → Option Record → CardView
view_with f newest = record { header = f.header; limits = f.limits; purse = f.purse; newest = newest }

-- the card with the record of its newest slot, where there is one
abbrev pub with_newest : Option ℕ → FirstPages → Pages → Option CardView
with_newest None f p = Some (view_with f None)
with_newest (Some s) f p = and_then (record_of (slot_bytes p s)) (λ r. only_if (newest_fits f.purse r) (Some (view_with f (Some r))))

-- the card that pages are; none where they are no card
abbrev pub card_of : Pages → Option CardView
card_of p =
    only_if (nat_le 32 (length p)) (and_then (first_pages_of (page p 0) (page p 1) (page p 2) (page p 11)) (λ f. with_newest (newest_slot f.purse) f p))
