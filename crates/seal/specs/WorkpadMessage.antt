-- A message on a workpad.
use Rattle.std.specs.Prelude.{◌≡◌, ℕ, List, take}
use Rattle.seal.specs.declared.workpad_message.WorkpadMessage.{WorkpadMessage}

-- the bytes of the message
abbrev pub message_bytes : WorkpadMessage → List ℕ
message_bytes m = take m.len m.workpad.now

-- it is the same message on the same lent workpad, whose bytes are then these
abbrev pub WorkpadBecomes : WorkpadMessage → WorkpadMessage → List ℕ → Type 0
WorkpadBecomes before after bytes = (after.workpad.now ≡ bytes) × (after.workpad.ghost_name ≡ before.workpad.ghost_name) × (after.len ≡ before.len)
