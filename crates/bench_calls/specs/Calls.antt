-- What the calls of the benchmark take, answer and leave.
use Rattle.std.specs.Prelude.{Bool, cond, ◌&&◌, List, ◌++◌, ℕ, eqb, leb, length, take, drop, replicate}
use Rattle.sealers.specs.CardSealer.{card_registered, card_sealed}

-- 0 where a call is taken, 1 where it is refused
abbrev pub answer : Bool → ℕ
answer taken = cond taken 0 1

-- a call for one block is taken with a key of 16 bytes and a block of the cipher's size
abbrev pub takes_block : ℕ → List ℕ → List ℕ → Bool
takes_block size key block = eqb (length key) 16 && eqb (length block) size

-- a call for a seal is taken with a key of 16 bytes, a message of at most 48, room for four and a registered algorithm
abbrev pub takes_message : ℕ → List ℕ → List ℕ → List ℕ → Bool
takes_message algorithm key message seal = eqb (length key) 16 && (leb (length message) 48 && (eqb (length seal) 4 && card_registered algorithm))

-- a block as a cipher takes it: at the start of 16 bytes that are else zero
abbrev pub widened : List ℕ → List ℕ
widened block = block ++ drop (length block) (replicate 16 0)

-- the block after a call for it, by a cipher and its block size: enciphered under the key, or as it was
abbrev pub block_after : (List ℕ → List ℕ → List ℕ) → ℕ → List ℕ → List ℕ → List ℕ
block_after e size key block = cond (takes_block size key block) (take size (e (widened key) (widened block))) block

-- the four bytes after a call for a seal: the seal of the message under the key, or as they were
abbrev pub seal_after : ℕ → List ℕ → List ℕ → List ℕ → List ℕ
seal_after algorithm key message seal = cond (takes_message algorithm key message seal) (card_sealed algorithm (widened key) message) seal
