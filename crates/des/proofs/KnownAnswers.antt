-- The published answers, computed.
use Rattle.std.proofs.Common.{refl}
use Rattle.des.specs.Permutations.{permuted}
use Rattle.des.specs.Keys.{round_key, key_schedule}
use Rattle.des.specs.Des.{preoutput}
use Rattle.des.specs.KnownAnswers.{KnownAnswersHold}

pub known_answers_hold : KnownAnswersHold
unfolding permuted round_key key_schedule preoutput
known_answers_hold = refl
