-- The sample card, which the programs issue.
use Rattle.std.specs.Prelude.{ℕ, List, [], ◌∷◌, ◌++◌, replicate}
use Rattle.card.specs.declared.header.LifeCycle.TheVariants.{InUse}
use Rattle.card.specs.declared.header.BlockFlag.TheVariants.{Free}
use Rattle.card.specs.declared.header.Header.{Header}
use Rattle.card.specs.declared.limits.Limits.{Limits}
use Rattle.card.specs.Header.{header_bytes}
use Rattle.card.specs.Limits.{limits_bytes}

abbrev pub sample_header : Header
sample_header = record { life = InUse; block = Free; algorithm = 0x00; version = 0x01; idcenter = 0x01; idep = 0x10 ∷ 0x10 ∷ 0x00 ∷ 0x00 ∷ 0x00 ∷ 0x00 ∷ 0x00 ∷ 0x01 ∷ [] }

abbrev pub sample_limits : Limits
sample_limits = record { ceiling = 3000; limit = 500000 }

-- pages 0 and 1; zeros in page 2 and in the files; five keys of 01; zeros in page 11
abbrev pub sample_source : List ℕ
sample_source = header_bytes sample_header ++ (limits_bytes sample_limits ++ (replicate 64 0 ++ (replicate 80 1 ++ replicate 16 0)))
