-- The block sizes of ciphers.
use Rattle.std.specs.Prelude.{◌≡◌, ℕ, ◌⊎◌}

-- a block has 8 or 16 bytes
abbrev pub BlockSize : ℕ → Type 0
BlockSize n = (n ≡ 8) ⊎ (n ≡ 16)
