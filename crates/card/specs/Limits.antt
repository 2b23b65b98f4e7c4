-- Page 1: how much a ride may cost, and how high the total may go.
use Rattle.std.specs.Prelude.{ℕ, List, ◌++◌, replicate, Some, Option}
use Rattle.card.specs.Bytes.{four, word_at, part, all_zero}
use Rattle.card.specs.Options.{only_if}
use Rattle.card.specs.declared.limits.Limits.{Limits}

abbrev pub ceiling_in : List ℕ → ℕ
ceiling_in page = word_at 0 page

abbrev pub limit_in : List ℕ → ℕ
limit_in page = word_at 4 page

-- ride ceiling 4, total limit 4, eight 00
abbrev pub limits_bytes : Limits → List ℕ
limits_bytes l = four l.ceiling ++ (four l.limit ++ replicate 8 0)

abbrev pub limits_in : List ℕ → Limits
limits_in page = record { ceiling = ceiling_in page; limit = limit_in page }

-- the limits in a page; none where a fixed 00 is missing
abbrev pub limits_of : List ℕ → Option Limits
limits_of page = only_if (all_zero (part 8 8 page)) (Some (limits_in page))
