-- What DES and Triple DES have to meet, in the subject's own words.
use Rattle.std.specs.Prelude.{◌≡◌, ℕ, ◌-◌, ◌/◌, ◌^◌, ◌<◌, List, ◌++◌, replicate, slice_index}
use Rattle.cipher.specs.Words.{word_at, bytes_of}
use Rattle.des.specs.Des.{des_enciphered, des_deciphered}
use Rattle.des.specs.TripleDes.{triple_des_word, triple_des}

-- deciphering undoes enciphering, for every key and every block
abbrev pub DecipheringUndoes : Type 0
DecipheringUndoes = (key x : ℕ) → x < 2 ^ 64 → des_deciphered key (des_enciphered key x) ≡ x

-- the complementation property: where every bit of the key and of the block is turned, every bit of the result is
abbrev pub Complementation : Type 0
Complementation =
    (key x : ℕ) → key < 2 ^ 64 → x < 2 ^ 64 → des_enciphered (2 ^ 64 - 1 - key) (2 ^ 64 - 1 - x) ≡ 2 ^ 64 - 1 - des_enciphered key x

-- Triple DES is undone by the three opposite steps
abbrev pub TripleDesUndone : Type 0
TripleDesUndone = (k1 k2 x : ℕ) → x < 2 ^ 64 → des_deciphered k1 (des_enciphered k2 (des_deciphered k1 (triple_des_word k1 k2 x))) ≡ x

-- where both halves of the key are equal, Triple DES is DES
abbrev pub EqualHalvesAreDes : Type 0
EqualHalvesAreDes =
    (key block : List ℕ) → word_at key 0 ≡ word_at key 8
    → triple_des key block ≡ bytes_of (des_enciphered (word_at key 0) (word_at block 0)) ++ replicate 8 0

-- the parity bit of each byte of the key, its lowest bit, is ignored
abbrev pub ParityIgnored : Type 0
ParityIgnored =
    (key other block : List ℕ) → ((i : ℕ) → i < 16 → slice_index key i < 256) → ((i : ℕ) → i < 16 → slice_index key i / 2 ≡ slice_index other i / 2)
    → triple_des key block ≡ triple_des other block
