use Rattle.std.proofs.Common.{string_bytes}
use Rattle.std.specs.Iterator.Adapters.{zip_first, zip_second}
use Rattle.seal_lines.proofs.Answered.{Answered}
use Rattle.seal_lines.proofs.answers.answer_lines.Given as goal

abbrev pub invariant-loop-line : goal.invariant-loop-line
invariant-loop-line g l =
    let s = g.S.Sealer in
    Answered (s.registered l.sealer) (s.sealed l.sealer) l.input (zip_first l.line-iterator).rest.now (zip_second l.line-iterator).start (string_bytes l.text)
