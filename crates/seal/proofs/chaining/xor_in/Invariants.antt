use Rattle.std.proofs.Common.{◌≡◌, take}
use Rattle.seal.specs.Chain.{xored}
use Rattle.seal.proofs.chaining.xor_in.Given as goal

abbrev pub invariant-loop-i : goal.invariant-loop-i
invariant-loop-i l = l.block ≡ xored l.initial.block (take l.i l.part)
