-- A record of the log: 32 bytes in the two pages of a slot.
use Rattle.std.specs.Prelude.{ℕ, cond, List, ◌∷◌, ◌++◌, Some, None, Option, ◌==◌}
use Rattle.card.specs.Bytes.{byte, four, word_at, part}
use Rattle.card.specs.Options.{and_then}
use Rattle.card.specs.declared.record.Kind.{Kind}
use Rattle.card.specs.declared.record.Kind.TheVariants.{Ride, Cancel}
use Rattle.card.specs.declared.record.Record.{Record}

abbrev pub kind_byte : Kind → ℕ
kind_byte Ride = 0x20
kind_byte Cancel = 0x22

abbrev pub kind_of : ℕ → Option Kind
kind_of b = cond (b == 0x20) (Some Ride) (cond (b == 0x22) (Some Cancel) None)

abbrev pub record_kind_in : List ℕ → ℕ
record_kind_in bytes = byte bytes 0

abbrev pub record_nt_in : List ℕ → ℕ
record_nt_in bytes = word_at 1 bytes

abbrev pub record_amount_in : List ℕ → ℕ
record_amount_in bytes = word_at 5 bytes

abbrev pub record_total_in : List ℕ → ℕ
record_total_in bytes = word_at 28 bytes

-- kind 1, NT 4, amount 4, IDSAM 8, NTSAM 4, TIME 7, total after it 4
abbrev pub record_bytes : Record → List ℕ
record_bytes r = kind_byte r.kind ∷ (four r.nt ++ (four r.amount ++ (r.idsam ++ (four r.ntsam ++ (r.time ++ four r.total)))))

abbrev pub record_in : List ℕ → Kind → Record
record_in bytes kind = record {
  kind = kind;
  nt = record_nt_in bytes;
  amount = record_amount_in bytes;
  idsam = part 9 8 bytes;
  ntsam = word_at 17 bytes;
  time = part 21 7 bytes;
  total = record_total_in bytes;
}

-- the record in 32 bytes; none where the first is no kind
abbrev pub record_of : List ℕ → Option Record
record_of bytes = and_then (kind_of (record_kind_in bytes)) (λ kind. Some (record_in bytes kind))
