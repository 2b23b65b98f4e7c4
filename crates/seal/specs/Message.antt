-- The seal of a message that is handed over beside the workpad.
use Rattle.std.specs.Prelude.{ℕ, ◌+◌, Bool, cond, List, length, replicate, Ok, Err, Result, nat_lt}
use Rattle.seal.specs.declared.message.SealRefusal.{SealRefusal}
use Rattle.seal.specs.declared.message.SealRefusal.TheVariants.{SmallWorkpad, NotRegistered}

-- the answer for a message of n bytes on a workpad of w bytes
abbrev pub message_seal : Bool → List ℕ → ℕ → ℕ → Result (List ℕ) SealRefusal
message_seal registered seal n w = cond (nat_lt w (n + 16)) (Err SmallWorkpad) (cond registered (Ok seal) (Err NotRegistered))

-- the workpad afterwards
abbrev pub message_workpad : ℕ → List ℕ → List ℕ
message_workpad n workpad = cond (nat_lt (length workpad) (n + 16)) workpad (replicate (length workpad) 0)
