-- What a sealer answers.
use Rattle.std.specs.Prelude.{ℕ, Bool, cond, List, Some, None, Option}

-- the seal where the algorithm is registered, else none
abbrev pub seal_answer : Bool → List ℕ → Option (List ℕ)
seal_answer registered seal = cond registered (Some seal) None

-- the workpad afterwards: as the sealing left it where the algorithm is registered, else as it was
abbrev pub seal_workpad : Bool → List ℕ → List ℕ → List ℕ
seal_workpad registered left before = cond registered left before
