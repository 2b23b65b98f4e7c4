-- SEED (RFC 4269): sixteen rounds on the halves L and R of a block.
use Rattle.std.specs.Prelude.{◌≡◌, ℕ, zero, suc, ◌-◌, ◌<◌, List, ◌++◌, length, bit_xor, slice_index}
use Rattle.cipher.specs.Words.{word_at, bytes_of}
use Rattle.seed.specs.Function.{f}
use Rattle.seed.specs.Keys.{key_state, subkeys}
use Rattle.seed.specs.declared.keys.Subkeys.{Subkeys}
use Rattle.seed.specs.declared.rounds.Halves.{Halves}

-- the halves L and R of a block
abbrev pub halves_of : List ℕ → Halves
halves_of block = record { left = word_at block 0; right = word_at block 8 }

-- the block of two halves
abbrev pub block_of : Halves → List ℕ
block_of h = bytes_of h.left ++ bytes_of h.right

-- a round: T = R, R = L ^ F(Ki, R), L = T
abbrev pub round : Subkeys → Halves → Halves
round k h = record { left = h.right; right = bit_xor h.left (f k h.right) }

-- n rounds, round i with the subkeys k i, i from 1
unfoldable pub rounds : (ℕ → Subkeys) → ℕ → Halves → Halves
rounds k zero h = h
rounds k (suc n) h = round (k (suc n)) (rounds k n h)

-- L and R exchanged
abbrev pub exchanged : Halves → Halves
exchanged h = record { left = h.right; right = h.left }

-- sixteen rounds, the last without the exchange of the halves
abbrev pub sixteen_rounds : (ℕ → Subkeys) → Halves → Halves
sixteen_rounds k h = exchanged (rounds k 16 h)

-- SEED of a block under a key
unfoldable pub seed_enciphered : List ℕ → List ℕ → List ℕ
seed_enciphered key block = block_of (sixteen_rounds (subkeys (key_state key)) (halves_of block))

-- deciphering: the same rounds, with the subkeys in reverse order
unfoldable pub seed_deciphered : List ℕ → List ℕ → List ℕ
seed_deciphered key block = block_of (sixteen_rounds (λ i. subkeys (key_state key) (17 - i)) (halves_of block))

-- 16 bytes
pub record Block (block : List ℕ) : Type 0 where
  pub sized : length block ≡ 16
  pub fits : (i : ℕ) → slice_index block i < 256

-- deciphering undoes enciphering, for every key and block
abbrev pub DecipheringUndoes : Type 0
DecipheringUndoes = (key block : List ℕ) → Block block → seed_deciphered key (seed_enciphered key block) ≡ block
