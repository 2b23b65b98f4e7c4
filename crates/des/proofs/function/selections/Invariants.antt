use Rattle.std.proofs.Common.{◌≡◌}
use Rattle.des.specs.Function.{selected}
use Rattle.des.proofs.function.selections.Given as goal

abbrev pub invariant-loop-i : goal.invariant-loop-i
invariant-loop-i l = l.out ≡ selected l.x l.i
