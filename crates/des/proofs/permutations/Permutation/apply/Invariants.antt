use Rattle.std.proofs.Common.{◌≡◌, take}
use Rattle.des.specs.Permutations.{permuted}
use Rattle.des.proofs.permutations.Permutation.apply.Given as goal

abbrev pub invariant-loop-entry : goal.invariant-loop-entry
invariant-loop-entry l = l.out ≡ permuted l.self.width (take l.entry-index l.self.table.now) l.x
