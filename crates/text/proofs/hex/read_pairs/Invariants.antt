use Rattle.text.proofs.Hexes.{Reading}
use Rattle.text.proofs.hex.read_pairs.Given as goal

abbrev pub invariant-loop-i : goal.invariant-loop-i
invariant-loop-i l = Reading l.text l.i l.initial.bytes l.bytes
