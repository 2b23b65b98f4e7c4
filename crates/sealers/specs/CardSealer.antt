-- The seals of a card: by SEED for the algorithm byte 00, by two-key Triple DES for 10.
use Rattle.std.specs.Prelude.{Bool, true, cond, List, ℕ, eqb}
use Rattle.seal.specs.Chain.{seal_by}
use Rattle.seed.specs.Seed.{seed_enciphered}
use Rattle.des.specs.TripleDes.{triple_des}

-- the algorithm bytes that are registered
abbrev pub card_registered : ℕ → Bool
card_registered a = cond (eqb a 0x00) true (eqb a 0x10)

-- the seal of a message under a key
abbrev pub card_sealed : ℕ → List ℕ → List ℕ → List ℕ
card_sealed a key m = cond (eqb a 0x00) (seal_by (seed_enciphered key) 16 m) (seal_by (triple_des key) 8 m)
