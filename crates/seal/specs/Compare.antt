-- A seal as a number.
use Rattle.std.specs.Prelude.{ℕ, ◌+◌, ◌*◌, List, slice_index}

-- the number that the four bytes of a seal are, the highest first
abbrev pub number_of : List ℕ → ℕ
number_of s = slice_index s 0 * 16777216 + slice_index s 1 * 65536 + slice_index s 2 * 256 + slice_index s 3
