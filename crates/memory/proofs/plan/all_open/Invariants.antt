use Rattle.std.proofs.Common.{◌≡◌, ◌≤◌, length, drop}
use Rattle.memory.specs.Plan.{plan_answer}
use Rattle.memory.proofs.plan.all_open.Given as goal

-- the entries passed leave the answer to the others
abbrev pub invariant-loop-entry : goal.invariant-loop-entry
invariant-loop-entry g l =
    let m = g.M.Memory in
    let answer = plan_answer (length (m.pages l.memory)) (m.worn l.memory) in
    (l.entry-index ≤ length l.plan) × (answer (drop l.entry-index l.plan) ≡ answer l.plan)
