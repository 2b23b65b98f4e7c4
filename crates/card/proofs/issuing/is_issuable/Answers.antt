use Rattle.card.proofs.Issues.{test_whole, issue_decides}
use Rattle.card.proofs.issuing.is_issuable.Goals as goal

pub returns : goal.returns
returns c =
    let t = test_whole c.args.source.now c.as_array.result c.is_some_and.result c.as_array.ensures.cases c.is_some_and.ensures in
    record { test = t; rule = issue_decides _ _ t }
