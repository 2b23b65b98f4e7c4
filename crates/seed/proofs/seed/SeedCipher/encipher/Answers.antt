use Rattle.seed.proofs.Back.{deciphering_undoes}
use Rattle.seed.proofs.Extended.{g_extended}
use Rattle.seed.proofs.Rule.{boxes_by_rule, constants_by_rotation}
use Rattle.seed.proofs.Vectors.{as_published}
use Rattle.seed.proofs.seed.SeedCipher.encipher.Goals as goal

pub returns-clause-boxes : goal.returns-clause-boxes
returns-clause-boxes c = boxes_by_rule

pub returns-clause-extended : goal.returns-clause-extended
returns-clause-extended c = g_extended

pub returns-clause-constants : goal.returns-clause-constants
returns-clause-constants c = constants_by_rotation

pub returns-clause-deciphering : goal.returns-clause-deciphering
returns-clause-deciphering c = deciphering_undoes

pub returns-clause-vectors : goal.returns-clause-vectors
returns-clause-vectors c = as_published
