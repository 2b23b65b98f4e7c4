use Rattle.std.proofs.Common.{◌≡◌}
use Rattle.seed.specs.Keys.{after_rounds, subkeys}
use Rattle.seed.specs.Seed.{rounds}
use Rattle.seed.proofs.rounds.sixteen_rounds.Given as goal

abbrev pub invariant-loop-i : goal.invariant-loop-i
invariant-loop-i l = (l.keys ≡ after_rounds l.initial.keys l.i) × (l.halves ≡ rounds (subkeys l.initial.keys) l.i l.initial.halves)
