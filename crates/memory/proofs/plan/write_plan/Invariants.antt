use Rattle.std.proofs.Common.{◌≡◌}
use Rattle.memory.proofs.Plans.{Partway}
use Rattle.memory.proofs.plan.write_plan.Given as goal

-- the entries that the loop has passed are written
abbrev pub invariant-loop-entry : goal.invariant-loop-entry
invariant-loop-entry g l =
    let m = g.M.Memory in
    Partway (m.pages l.initial.memory) (m.worn l.initial.memory) l.plan l.entry-index (m.pages l.memory) (m.worn l.memory)
    × (m.outside l.memory ≡ m.outside l.initial.memory)
