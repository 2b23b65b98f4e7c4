use Rattle.des.proofs.PermutationLaws.{permutation_laws}
use Rattle.des.proofs.BoxLaws.{box_laws}
use Rattle.des.proofs.Shifted.{key_laws}
use Rattle.des.proofs.DesLaws.{deciphering_undoes, triple_des_undone, equal_halves_are_des}
use Rattle.des.proofs.Complement.{complementation}
use Rattle.des.proofs.Parity.{parity_ignored}
use Rattle.des.proofs.KnownAnswers.{known_answers_hold}
use Rattle.des.proofs.triple_des.TripleDesCipher.encipher.Goals as goal

pub returns-clause-permutations : goal.returns-clause-permutations
returns-clause-permutations c = permutation_laws

pub returns-clause-boxes : goal.returns-clause-boxes
returns-clause-boxes c = box_laws

pub returns-clause-keys : goal.returns-clause-keys
returns-clause-keys c = key_laws

pub returns-clause-deciphering : goal.returns-clause-deciphering
returns-clause-deciphering c = deciphering_undoes

pub returns-clause-complementation : goal.returns-clause-complementation
returns-clause-complementation c = complementation

pub returns-clause-triple_deciphering : goal.returns-clause-triple_deciphering
returns-clause-triple_deciphering c = triple_des_undone

pub returns-clause-equal_halves : goal.returns-clause-equal_halves
returns-clause-equal_halves c = equal_halves_are_des

pub returns-clause-parity : goal.returns-clause-parity
returns-clause-parity c = parity_ignored

pub returns-clause-known_answers : goal.returns-clause-known_answers
returns-clause-known_answers c = known_answers_hold
