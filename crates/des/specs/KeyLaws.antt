-- What the key schedule has to meet.
use Rattle.std.specs.Prelude.{◌≡◌, ℕ, ◌+◌, length, fold}
use Rattle.des.specs.Keys.{shifts, c_half, d_half}

-- there are sixteen iterations, and together they make 28 left shifts
abbrev pub ShiftsAre28 : Type 0
ShiftsAre28 = (length shifts ≡ 16) × (fold ◌+◌ 0 shifts ≡ 28)

-- so the last leaves both halves as they were before the first
abbrev pub HalvesAsBefore : Type 0
HalvesAsBefore = (key : ℕ) → (c_half key 16 ≡ c_half key 0) × (d_half key 16 ≡ d_half key 0)

-- both
pub record KeyLaws : Type 0 where
  pub sum : ShiftsAre28
  pub halves : HalvesAsBefore
