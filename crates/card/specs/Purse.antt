-- Page 2: the total, the transaction number, and the state of the log.
use Rattle.std.specs.Prelude.{ℕ, ◌+◌, ◌%◌, cond, List, ◌∷◌, ◌++◌, replicate, Some, None, Option, ◌==◌}
use Rattle.card.specs.Bytes.{byte, four, word_at, part, all_zero}
use Rattle.card.specs.Options.{and_then, only_if}
use Rattle.card.specs.declared.record.Kind.{Kind}
use Rattle.card.specs.declared.record.Kind.TheVariants.{Ride, Cancel}
use Rattle.card.specs.declared.purse.Purse.{Purse}

-- last: 00 where nothing is held, or the kind of the newest record, in codes of its own
abbrev pub last_byte : Option Kind → ℕ
last_byte None = 0x00
last_byte (Some Ride) = 0x01
last_byte (Some Cancel) = 0x02

abbrev pub last_of : ℕ → Option (Option Kind)
last_of b = cond (b == 0x00) (Some None) (cond (b == 0x01) (Some (Some Ride)) (cond (b == 0x02) (Some (Some Cancel)) None))

abbrev pub total_in : List ℕ → ℕ
total_in page = word_at 0 page

abbrev pub nt_in : List ℕ → ℕ
nt_in page = word_at 4 page

abbrev pub next_in : List ℕ → ℕ
next_in page = byte page 8

abbrev pub held_in : List ℕ → ℕ
held_in page = byte page 9

abbrev pub last_in : List ℕ → ℕ
last_in page = byte page 10

-- total 4, NT 4, next slot 1, held 1, last 1, five 00
abbrev pub purse_bytes : Purse → List ℕ
purse_bytes u = four u.total ++ (four u.nt ++ (u.next ∷ u.held ∷ last_byte u.last ∷ replicate 5 0))

abbrev pub purse_in : List ℕ → Option Kind → Purse
purse_in page last = record { total = total_in page; nt = nt_in page; next = next_in page; held = held_in page; last = last }

-- the purse in a page; none where last is no code of one, or a fixed 00 is missing
abbrev pub purse_of : List ℕ → Option Purse
purse_of page = and_then (last_of (last_in page)) (λ last. only_if (all_zero (part 11 5 page)) (Some (purse_in page last)))

-- the slot of the newest record; where nothing is held there is none
abbrev pub newest_slot : Purse → Option ℕ
newest_slot u = cond (u.held == 0) None (Some ((u.next + 9) % 10))
