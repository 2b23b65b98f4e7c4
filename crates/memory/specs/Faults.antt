-- The numbers of a memory's refusals.
use Rattle.std.specs.Prelude.{ℕ}
use Rattle.memory.specs.declared.fault.Fault.{Fault}
use Rattle.memory.specs.declared.fault.Fault.TheVariants.{PastEnd, Worn}

-- the number by which each refusal is reported
abbrev pub fault_number : Fault → ℕ
fault_number PastEnd = 1
fault_number Worn = 2
