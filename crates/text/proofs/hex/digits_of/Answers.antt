use Rattle.std.proofs.Common.{rules}
use Rattle.text.proofs.HexPrints.{digits_all, digits_text}
use Rattle.text.proofs.hex.digits_of.Goals as goal

pub returns-clause-text : goal.returns-clause-text
returns-clause-text c = digits_text _ _ (search rules) (digits_all _ _ _ c.loop-byte-test.false c.loop-byte.invariant.1)
