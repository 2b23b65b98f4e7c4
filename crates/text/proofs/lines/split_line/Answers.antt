use Rattle.std.proofs.Common.{rules}
use Rattle.text.proofs.Splits.{first_at, first_last}
use Rattle.text.proofs.lines.split_line.Goals as goal

pub returns-clause-first : goal.returns-clause-first
returns-clause-first c =
    let a = c.around.ensures in
    first_at _ _ _ _ a.0 a.1 (search rules)

pub returns-in_default-clause-first : goal.returns-in_default-clause-first
returns-in_default-clause-first c = first_last _ (search rules) (search rules)
