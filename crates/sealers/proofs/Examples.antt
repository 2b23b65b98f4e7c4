-- The examples, computed.
use mathlib.Core.Path.{refl}
use Rattle.cipher.specs.Words.{word_of, bytes_of}
use Rattle.seed.specs.Function.{g}
use Rattle.seed.specs.Seed.{rounds, seed_enciphered}
use Rattle.des.specs.Permutations.{permuted}
use Rattle.des.specs.Keys.{round_key, key_schedule}
use Rattle.des.specs.Des.{preoutput}
use Rattle.des.specs.TripleDes.{triple_des}
use Rattle.seal.specs.Padding.{blocks, padded}
use Rattle.sealers.specs.Examples.{ExamplesHold}

pub examples_hold : ExamplesHold
unfolding word_of bytes_of g rounds seed_enciphered permuted round_key key_schedule preoutput triple_des blocks padded
examples_hold = refl
