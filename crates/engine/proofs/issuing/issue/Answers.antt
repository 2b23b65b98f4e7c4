use Rattle.std.proofs.Common.{refl, rules}
use Rattle.std.proofs.lemmas.Result.{err_from_is_err_and}
use Rattle.engine.proofs.Plans.{Ready, issue_rising, issue_decides, issue_told, issue_above, issue_pages, issue_card}
use Rattle.engine.proofs.issuing.issue.Goals as goal

pub write_plan-requires : goal.write_plan-requires
write_plan-requires g c = rw c.issue_plan.ensures (issue_rising c.in_ok-record.record.now)

pub returns-in_err-write_plan-clause-answer : goal.returns-in_err-write_plan-clause-answer
returns-in_err-write_plan-clause-answer g c =
    let ready : Ready c.args.source.now (g.M.Memory.pages c.args.memory.now) c.issue_plan.result = search rules in
    let told = err_from_is_err_and c.from_residual-in_err-write_plan.result c.from_residual-in_err-write_plan.ensures.1 in
    rw (told.1, told.2) (issue_told ready c.in_err-write_plan.ensures.written)

pub returns-in_err-write_plan-clause-rule : goal.returns-in_err-write_plan-clause-rule
returns-in_err-write_plan-clause-rule g c = issue_decides _ _ _ _ (returns-in_err-write_plan-clause-answer g c)

pub returns : goal.returns
returns g c =
    let ready : Ready c.args.source.now (g.M.Memory.pages c.args.memory.now) c.issue_plan.result = search rules in
    let done = c.in_ok-write_plan.ensures.written in
    let answer = issue_told ready done in
    record {
      answer = answer;
      rule = issue_decides _ _ _ _ answer;
      pages = issue_pages ready done refl;
      card = λ _. issue_card ready done refl;
      marks_above = issue_above ready done;
      outside = c.write_plan.ensures.outside;
      refused = λ e. search rules;
      state = c.at_rest.ensures;
    }
