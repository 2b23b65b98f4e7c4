use Rattle.std.proofs.Common.{◌≡◌, ◌*◌, take}
use Rattle.arrayvec.specs.ArrayVec.{array_vec_len}
use Rattle.text.specs.Hex.{hex_of}
use Rattle.text.proofs.hex.digits_of.Given as goal

-- the digits of the bytes so far
abbrev pub invariant-loop-byte : goal.invariant-loop-byte
invariant-loop-byte l = (array_vec_len l.digits ≡ 2 * l.byte-index) × (l.digits.items ≡ hex_of (take l.byte-index l.bytes))
