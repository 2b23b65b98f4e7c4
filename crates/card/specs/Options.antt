-- Steps that may end without a value, with the step's own value first, so that steps are read in the order in which they are taken.
use Rattle.std.specs.Prelude.{Bool, cond, None, Option}
use Rattle.std.specs.Option.{option_and_then}

-- what f makes of the value, if there is one
abbrev pub and_then : {X Y : Type 0} → Option X → (X → Option Y) → Option Y
and_then o f = option_and_then f o

-- o where the test holds, else nothing
abbrev pub only_if : {X : Type 0} → Bool → Option X → Option X
only_if b o = cond b o None
