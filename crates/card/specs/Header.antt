-- Page 0: the identity of the card, its life cycle and its block flag.
use Rattle.std.specs.Prelude.{ℕ, cond, List, ◌∷◌, Some, None, Option, ◌==◌}
use Rattle.card.specs.Bytes.{byte, part, all_zero}
use Rattle.card.specs.Options.{and_then, only_if}
use Rattle.card.specs.declared.header.LifeCycle.{LifeCycle}
use Rattle.card.specs.declared.header.LifeCycle.TheVariants.{BeforeUse, InUse}
use Rattle.card.specs.declared.header.BlockFlag.{BlockFlag}
use Rattle.card.specs.declared.header.BlockFlag.TheVariants.{Free, Blocked}
use Rattle.card.specs.declared.header.Header.{Header}

abbrev pub life_cycle_byte : LifeCycle → ℕ
life_cycle_byte BeforeUse = 0x03
life_cycle_byte InUse = 0x07

abbrev pub life_cycle_of : ℕ → Option LifeCycle
life_cycle_of b = cond (b == 0x03) (Some BeforeUse) (cond (b == 0x07) (Some InUse) None)

abbrev pub block_flag_byte : BlockFlag → ℕ
block_flag_byte Free = 0x00
block_flag_byte Blocked = 0x01

abbrev pub block_flag_of : ℕ → Option BlockFlag
block_flag_of b = cond (b == 0x00) (Some Free) (cond (b == 0x01) (Some Blocked) None)

-- life cycle 1, block flag 1, ALG 1, VK 1, IDCENTER 1, three 00, IDEP 8
abbrev pub header_bytes : Header → List ℕ
header_bytes h = life_cycle_byte h.life ∷ block_flag_byte h.block ∷ h.algorithm ∷ h.version ∷ h.idcenter ∷ 0 ∷ 0 ∷ 0 ∷ h.idep

abbrev pub header_in : List ℕ → LifeCycle → BlockFlag → Header
header_in page life block =
    record { life = life; block = block; algorithm = byte page 2; version = byte page 3; idcenter = byte page 4; idep = part 8 8 page }

-- the header in a page; none where a byte is no life cycle or no block flag, or a fixed 00 is missing
abbrev pub header_of : List ℕ → Option Header
header_of page =
    and_then (life_cycle_of (byte page 0)) (λ life.
    and_then (block_flag_of (byte page 1)) (λ block.
    only_if (all_zero (part 5 3 page)) (Some (header_in page life block))))
