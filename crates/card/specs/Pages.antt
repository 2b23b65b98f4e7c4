-- The pages of a card.
use Rattle.std.specs.Prelude.{ℕ, ◌+◌, ◌*◌, List, [], ◌++◌, slice_index_or}

abbrev pub Pages : Type 0
Pages = List (List ℕ)

-- page i, empty past the last one
abbrev pub page : Pages → ℕ → List ℕ
page p i = slice_index_or p i []

-- the 32 bytes of slot s of the log
abbrev pub slot_bytes : Pages → ℕ → List ℕ
slot_bytes p s = page p (12 + 2 * s) ++ page p (13 + 2 * s)
