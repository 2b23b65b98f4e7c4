-- The chaining of a message's blocks by a cipher.
use Rattle.std.specs.Prelude.{◌≡◌, ℕ, zero, suc, ◌-◌, ◌*◌, ◌<◌, List, [], ◌∷◌, ◌++◌, length, take, drop, replicate, bit_xor}
use Rattle.cipher.specs.Cipher.{BlockSize}
use Rattle.seal.specs.Padding.{blocks, padded}

-- the bytes of a block, each XORed with the byte at its place of the other list; past that list they stay
abbrev pub xored : List ℕ → List ℕ → List ℕ
xored [] ys = []
xored (x ∷ xs) [] = x ∷ xs
xored (x ∷ xs) (y ∷ ys) = bit_xor x y ∷ xored xs ys

-- block k, from 0, of a text in blocks of b bytes
abbrev pub block_at : ℕ → List ℕ → ℕ → List ℕ
block_at b text k = take b (drop (k * b) text)

-- the result after k blocks of b bytes: from a zero block, XOR in each block of the text and encipher by e
abbrev pub chained : (List ℕ → List ℕ) → ℕ → List ℕ → ℕ → List ℕ
chained e b text zero = replicate 16 0
chained e b text (suc k) = e (xored (chained e b text k) (block_at b text k))

-- the last result for a message
abbrev pub last_result : (List ℕ → List ℕ) → ℕ → List ℕ → List ℕ
last_result e b m = chained e b (padded b m) (blocks b (length m))

-- the seal of a message under the cipher e with blocks of b bytes: the first four bytes of the last result
abbrev pub seal_by : (List ℕ → List ℕ) → ℕ → List ℕ → List ℕ
seal_by e b m = take 4 (last_result e b m)

-- a message shorter than a block: its padded block, in 16 bytes that are else 00, is enciphered once
abbrev pub ShortMessages : Type 0
ShortMessages = (e : List ℕ → List ℕ) (b : ℕ) (m : List ℕ) → BlockSize b → length m < b → last_result e b m ≡ e (padded b m ++ replicate (16 - b) 0)
