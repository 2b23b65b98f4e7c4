-- The key schedule (RFC 4269).
use Rattle.std.specs.Prelude.{◌≡◌, ℕ, zero, suc, ◌-◌, ◌*◌, ◌/◌, ◌%◌, ◌^◌, ◌<◌, cond, List, [], ◌∷◌, ◌==◌, bit_or, slice_index}
use Rattle.cipher.specs.Words.{word_at}
use Rattle.seed.specs.Function.{g, plus, minus}
use Rattle.seed.specs.declared.keys.KeyState.{KeyState}
use Rattle.seed.specs.declared.keys.Subkeys.{Subkeys}

-- the constants KC0 to KC15
abbrev pub kc_table : List ℕ
kc_table =
    0x9e3779b9 ∷ 0x3c6ef373 ∷ 0x78dde6e6 ∷ 0xf1bbcdcc ∷
    0xe3779b99 ∷ 0xc6ef3733 ∷ 0x8dde6e67 ∷ 0x1bbcdccf ∷
    0x3779b99e ∷ 0x6ef3733c ∷ 0xdde6e678 ∷ 0xbbcdccf1 ∷
    0x779b99e3 ∷ 0xef3733c6 ∷ 0xde6e678d ∷ 0xbcdccf1b ∷ []

-- KCi
abbrev pub kc : ℕ → ℕ
kc i = slice_index kc_table i

-- a word of w bits rotated left by n bits
abbrev pub rotated_left : ℕ → ℕ → ℕ → ℕ
rotated_left w n x = bit_or (x * 2 ^ n % 2 ^ w) (x / 2 ^ (w - n))

-- a word of w bits rotated right by n bits
abbrev pub rotated_right : ℕ → ℕ → ℕ → ℕ
rotated_right w n x = bit_or (x / 2 ^ n) (x * 2 ^ (w - n) % 2 ^ w)

-- KCi is KC0 rotated left by i bits
abbrev pub ConstantsByRotation : Type 0
ConstantsByRotation = (i : ℕ) → i < 16 → kc i ≡ rotated_left 32 i 0x9e3779b9

-- A || B and C || D of a key, its first eight bytes and its last
abbrev pub key_state : List ℕ → KeyState
key_state key = record { ab = word_at key 0; cd = word_at key 8 }

-- A
abbrev a : KeyState → ℕ
a s = s.ab / 2 ^ 32

-- B
abbrev b : KeyState → ℕ
b s = s.ab % 2 ^ 32

-- C
abbrev c : KeyState → ℕ
c s = s.cd / 2 ^ 32

-- D
abbrev d : KeyState → ℕ
d s = s.cd % 2 ^ 32

-- the subkeys of a round with the constant k: G(A + C - k) and G(B - D + k)
abbrev pub subkeys_with : KeyState → ℕ → Subkeys
subkeys_with s k = record {
  k0 = g (minus (plus (a s) (c s)) k);
  k1 = g (plus (minus (b s) (d s)) k);
}

-- the subkeys of round i, i from 1: Ki0 = G(A + C - KC(i-1)), Ki1 = G(B - D + KC(i-1))
abbrev pub subkeys_of : KeyState → ℕ → Subkeys
subkeys_of s i = subkeys_with s (kc (i - 1))

-- the state after round i: A || B rotated right by 8 bits where i is odd, else C || D rotated left by 8 bits
abbrev pub rotated : KeyState → ℕ → KeyState
rotated s i = cond (i % 2 == 1)
    (record { ab = rotated_right 64 8 s.ab; cd = s.cd })
    (record { ab = s.ab; cd = rotated_left 64 8 s.cd })

-- the state after n rounds
abbrev pub after_rounds : KeyState → ℕ → KeyState
after_rounds s zero = s
after_rounds s (suc n) = rotated (after_rounds s n) (suc n)

-- the subkeys of round i, from the state before the first round
abbrev pub subkeys : KeyState → ℕ → Subkeys
subkeys s i = subkeys_of (after_rounds s (i - 1)) i
