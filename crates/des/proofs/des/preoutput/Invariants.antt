use Rattle.std.proofs.Common.{◌≡◌, take, fold}
use Rattle.des.specs.Des.{round, halves}
use Rattle.des.proofs.des.preoutput.Given as goal

abbrev pub invariant-loop-key : goal.invariant-loop-key
invariant-loop-key l = (l.left, l.right) ≡ fold round (halves l.x) (take l.key-index l.keys)
