use Rattle.std.proofs.Common.{◌∙◌, rules}
use Rattle.text.proofs.HexPrints.{printed_more}
use Rattle.text.proofs.hex.HexDisplay.fmt.Goals as goal

pub loop-part-preserved : goal.loop-part-preserved
loop-part-preserved g c =
    let steps = c.in-Some.ensures.steps in (
      steps.0 ∙ c.loop-part.invariant.0,
      λ plain. printed_more _ _ _ _ _ _ c.in-Some.part.now _ c.unwrap.result.now (c.loop-part.invariant.1 plain) steps.1.0 (search rules) (search rules),
    )
