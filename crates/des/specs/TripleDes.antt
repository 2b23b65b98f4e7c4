-- Triple DES with two keys (FIPS 46-3, TDEA keying option 2).
use Rattle.std.specs.Prelude.{ℕ, List, ◌++◌, replicate}
use Rattle.cipher.specs.Words.{word_at, bytes_of}
use Rattle.des.specs.Des.{des_enciphered, des_deciphered}

-- encipher with the first key, decipher with the second, encipher with the first
abbrev pub triple_des_word : ℕ → ℕ → ℕ → ℕ
triple_des_word k1 k2 x = des_enciphered k1 (des_deciphered k2 (des_enciphered k1 x))

-- on bytes: the first half of a key of 16 bytes is the first key, the second half the second key.
-- Of a block of 16 bytes the first 8 are enciphered; the others come out as 00.
unfoldable pub triple_des : List ℕ → List ℕ → List ℕ
triple_des key block = bytes_of (triple_des_word (word_at key 0) (word_at key 8) (word_at block 0)) ++ replicate 8 0
