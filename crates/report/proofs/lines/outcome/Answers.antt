use Rattle.std.proofs.Common.{sym}
use Rattle.report.proofs.lines.outcome.Goals as goal

pub returns-in-Err : goal.returns-in-Err
returns-in-Err c = simp (c.in-Err.is, sym c.number.ensures) c.format-in-Err.ensures.ok
