-- What issue writes, lowest page first.
use Rattle.std.specs.Prelude.{ℕ, cond, List, map, replicate, nat_lt}
use Rattle.std.specs.List.{range_with_len}
use Rattle.memory.specs.declared.plan.PageWrite.{PageWrite}
use Rattle.memory.specs.ImagePages.{page_at}

-- page k of a card as issued: of the record up to page 11, then zeros
abbrev pub issue_page : List ℕ → ℕ → List ℕ
issue_page source k = cond (nat_lt k 12) (page_at source k) (replicate 16 0)

abbrev pub issue_write : List ℕ → ℕ → PageWrite
issue_write source k = record { page = k; bytes = issue_page source k }

unfoldable pub issue_plan : List ℕ → List PageWrite
issue_plan source = map (issue_write source) (range_with_len 0 32)
