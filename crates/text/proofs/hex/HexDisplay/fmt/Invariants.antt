use Rattle.std.proofs.Common.{◌≡◌}
use Rattle.std.specs.Fmt.{IsPlainFormatter}
use Rattle.std.specs.Slice.Iter.{chunks_rest, chunks_size}
use Rattle.text.proofs.HexPrints.{Printed}
use Rattle.text.proofs.hex.HexDisplay.fmt.Given as goal

-- the digits of all bytes but the rest are written
abbrev pub invariant-loop-part : goal.invariant-loop-part
invariant-loop-part g l =
    (chunks_size l.part-iterator ≡ 16)
    × (IsPlainFormatter l.initial.f → Printed g.W.Write.write_str_gives l.initial.f l.fn.self.0.now (chunks_rest l.part-iterator) l.f)
