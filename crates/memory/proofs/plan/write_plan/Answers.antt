use Rattle.std.proofs.Common.{◌∙◌}
use Rattle.memory.proofs.Plans.{step_on, all_placed}
use Rattle.memory.proofs.plan.write_plan.Goals as goal

pub loop-entry-preserved : goal.loop-entry-preserved
loop-entry-preserved g c =
    (step_on c.args.plan.now c.loop-entry.entry-index c.requires c.loop-entry-test.true c.loop-entry.invariant.0 c.write.ensures.written, c.write.ensures.outside ∙ c.loop-entry.invariant.1)

pub returns-clause-places : goal.returns-clause-places
returns-clause-places g c ok = all_placed c.args.plan.now c.loop-entry.entry-index c.loop-entry-test.false c.loop-entry.invariant.0 c.requires
