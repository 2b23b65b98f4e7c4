use Rattle.std.proofs.Common.{arith, rules}
use Rattle.std.proofs.lemmas.List.FromFn.{fill_by_all}
use Rattle.memory.proofs.Plans.{no_write}
use Rattle.engine.specs.Plan.{issue_write, issue_plan}
use Rattle.engine.proofs.Plans.{from_fn_gave}
use Rattle.engine.proofs.issuing.issue_plan.Goals as goal

pub returns : goal.returns
unfolding issue_plan
returns c =
    let items = c.from_fn.ensures.items in
    fill_by_all (issue_write c.args.source.now) c.from_fn.result 32 no_write items.long
    (λ k h. from_fn_gave _ (issue_write c.args.source.now) _ (λ i y f' call. search rules) c.from_fn.result 0 32 items.each k no_write (omega arith) (omega arith))
