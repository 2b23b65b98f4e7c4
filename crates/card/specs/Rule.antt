-- When pages are a card.
use Rattle.std.specs.Prelude.{◌≡◌, ℕ, ◌+◌, ◌%◌, ◌<◌, ◌≤◌, Bool, true, ◌⊎◌, List, length}
use Rattle.card.specs.Bytes.{byte, part}
use Rattle.card.specs.Limits.{limit_in}
use Rattle.card.specs.Purse.{total_in, nt_in, next_in, held_in, last_in}
use Rattle.card.specs.Record.{record_kind_in, record_nt_in, record_amount_in, record_total_in}
use Rattle.card.specs.Pages.{Pages, page, slot_bytes}

-- nothing but 00
abbrev pub Zeros : List ℕ → Type 0
Zeros xs = (k : ℕ) → byte xs k ≡ 0

-- page 0: life cycle 03 before use or 07 in use, block flag 00 or 01, and three 00
pub record HeaderKept (zero : List ℕ) : Type 0 where
  pub life : (byte zero 0 ≡ 0x03) ⊎ (byte zero 0 ≡ 0x07)
  pub block : (byte zero 1 ≡ 0x00) ⊎ (byte zero 1 ≡ 0x01)
  pub zeros : Zeros (part 5 3 zero)

-- page 2, against the limit of page 1: the total is at most the limit; next is 0 to 9 and held 0 to 10; the log fills its slots in order;
-- last is 00 exactly where nothing is held, else 01 or 02; five 00
pub record PurseKept (one two : List ℕ) : Type 0 where
  pub within : total_in two ≤ limit_in one
  pub next : next_in two ≤ 9
  pub held : held_in two ≤ 10
  pub filling : held_in two < 10 → next_in two ≡ held_in two
  pub none : held_in two ≡ 0 → last_in two ≡ 0x00
  pub some : 0 < held_in two → (last_in two ≡ 0x01) ⊎ (last_in two ≡ 0x02)
  pub zeros : Zeros (part 11 5 two)

-- the newest record, against page 2: kind 20 for last 01 and 22 for last 02, the current total, an NT that is at most that of page 2,
-- and for last 01 an amount that is at most the total
pub record NewestKept (two rec : List ℕ) : Type 0 where
  pub ride : last_in two ≡ 0x01 → record_kind_in rec ≡ 0x20
  pub cancel : last_in two ≡ 0x02 → record_kind_in rec ≡ 0x22
  pub total : record_total_in rec ≡ total_in two
  pub nt : record_nt_in rec ≤ nt_in two
  pub amount : last_in two ≡ 0x01 → record_amount_in rec ≤ total_in two

-- the bytes of the newest record, in slot (next + 9) mod 10
abbrev pub newest_bytes : Pages → List ℕ
newest_bytes p = slot_bytes p ((next_in (page p 2) + 9) % 10)

-- pages are a card
pub record IsCard (p : Pages) : Type 0 where
  pub room : 32 ≤ length p
  pub header : HeaderKept (page p 0)
  pub limits : Zeros (part 8 8 (page p 1))
  pub purse : PurseKept (page p 1) (page p 2)
  pub unused : Zeros (page p 11)
  pub newest : 0 < held_in (page p 2) → NewestKept (page p 2) (newest_bytes p)

-- the test answers true exactly where the fact holds
pub record Decides (test : Bool) (Fact : Type 0) : Type 0 where
  pub sound : test ≡ true → Fact
  pub complete : Fact → test ≡ true
