-- The test vectors, computed.
use Rattle.std.proofs.Common.{refl}
use Rattle.cipher.specs.Words.{word_of, bytes_of}
use Rattle.seed.specs.Function.{g}
use Rattle.seed.specs.Seed.{rounds, seed_enciphered}
use Rattle.seed.specs.Vectors.{VectorsAsPublished}

pub as_published : VectorsAsPublished
unfolding word_of bytes_of g rounds seed_enciphered
as_published = refl
