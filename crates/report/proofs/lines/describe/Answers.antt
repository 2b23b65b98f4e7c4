use Rattle.std.proofs.Common.{◌≡◌, Some, ap, ◌∙◌, rules}
use Rattle.report.specs.Lines.{card_lines, files_of, described}
use Rattle.report.proofs.lines.describe.Goals as goal

pub returns-clause-text : goal.returns-clause-text
returns-clause-text g c =
    let p = g.M.Memory.pages c.args.memory.now in
    let files : c.of-2.result ≡ files_of p = search rules in
    ap Some (c.in_ok-text.ensures.ok ∙ ap (card_lines c.in-Some.card) files) ∙ ap (λ o. described o p) c.in-Some.ensures.value
