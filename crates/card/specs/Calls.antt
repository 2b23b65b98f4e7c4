-- What issue and power-on answer the host, and how they leave the state.
use Rattle.std.specs.Prelude.{◌≡◌, ℕ, ◌<◌, ◌≤◌, Bool, true, false, cond, not, List, [], ◌∷◌, length, is_some, Ok, Err, Result, nat_lt}
use Rattle.std.specs.List.{range_with_len}
use Rattle.memory.specs.declared.fault.Fault.{Fault}
use Rattle.memory.specs.declared.fault.Fault.TheVariants.{PastEnd, Worn}
use Rattle.card.specs.declared.host.HostRefusal.{HostRefusal}
use Rattle.card.specs.declared.host.HostRefusal.TheVariants.{TooFewPages, WrongRecord, WornPage, NotACard}
use Rattle.card.specs.declared.state.Selection.TheVariants.{Nothing}
use Rattle.card.specs.declared.state.Session.TheVariants.{Quiet}
use Rattle.card.specs.declared.state.State.{State}
use Rattle.card.specs.Pages.{Pages}
use Rattle.card.specs.Card.{card_of}
use Rattle.card.specs.Issue.{issuable, Issuable}

-- the number of each refusal
abbrev pub host_number : HostRefusal → ℕ
host_number TooFewPages = 2
host_number WrongRecord = 3
host_number WornPage = 4
host_number NotACard = 5

-- what a refusal of the memory is to the host
abbrev pub fault_refusal : Fault → HostRefusal
fault_refusal PastEnd = TooFewPages
fault_refusal Worn = WornPage

-- one of the pages of the list is worn
abbrev pub any_worn : (ℕ → Bool) → List ℕ → Bool
any_worn worn [] = false
any_worn worn (k ∷ ks) = cond (worn k) true (any_worn worn ks)

-- issue, on a memory of `count` pages: the first refusal that applies decides
abbrev pub issue_answer : ℕ → (ℕ → Bool) → List ℕ → Result (Unit {0}) HostRefusal
issue_answer count worn source =
    cond (nat_lt count 32) (Err TooFewPages)
    (cond (not (issuable source)) (Err WrongRecord)
    (cond (any_worn worn (range_with_len 0 32)) (Err WornPage) (Ok tt)))

-- what issue takes: a memory of at least 32 pages, a record that gives a card which holds 0 records, and no worn page among the 32
pub record IssueTaken (count : ℕ) (worn : ℕ → Bool) (source : List ℕ) : Type 0 where
  pub room : 32 ≤ count
  pub fits : Issuable source
  pub writable : (k : ℕ) → k < 32 → worn k ≡ false

-- power-on: the first refusal that applies decides
abbrev pub power_on_answer : Pages → Result (Unit {0}) HostRefusal
power_on_answer p = cond (nat_lt (length p) 32) (Err TooFewPages) (cond (is_some (card_of p)) (Ok tt) (Err NotACard))

-- nothing is selected and the session is quiet
abbrev pub at_rest : State
at_rest = record { selection = Nothing; session = Quiet }
