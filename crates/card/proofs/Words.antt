-- Four bytes and the number that they are, and a list by its elements.
use Rattle.std.proofs.Common.{◌≡◌, ℕ, zero, suc, ◌+◌, ◌*◌, ◌^◌, ◌<◌, List, [], ◌∷◌, ◌++◌, map, length, refl, arith}
use Rattle.std.specs.List.{range_with_len}
use Rattle.std.proofs.lemmas.Nat.{from_be_bytes-to_be_bytes_4, be_bytes_4}
use Rattle.std.proofs.lemmas.List.FromFn.{fill_by_all}
use Rattle.card.specs.Bytes.{byte, four, word}

-- a list of n bytes, byte by byte
pub listed : (xs : List ℕ) (n : ℕ) → length xs ≡ n → xs ≡ map (byte xs) (range_with_len 0 n)
listed xs n h = fill_by_all (byte xs) xs n 0 h (λ k l. refl)

-- a number written and read again
pub word_four : (n : ℕ) (xs : List ℕ) → n < 2 ^ 32 → word (four n ++ xs) ≡ n
unfolding word
word_four n xs h = omega (arith, from_be_bytes-to_be_bytes_4 n h)

four_fit : (f : ℕ → ℕ) → ((k : ℕ) → f k < 256) → (i k : ℕ) → byte (f i ∷ f (i + 1) ∷ f (i + 2) ∷ f (i + 3) ∷ []) k < 256
four_fit f fits i zero = fits i
four_fit f fits i (suc zero) = fits (i + 1)
four_fit f fits i (suc (suc zero)) = fits (i + 2)
four_fit f fits i (suc (suc (suc zero))) = fits (i + 3)
four_fit f fits i (suc (suc (suc (suc k)))) = omega arith

-- four bytes before n others, read and written again
pub four_word : (f : ℕ → ℕ) → ((k : ℕ) → f k < 256) → (i n : ℕ) → four (word (f i ∷ f (i + 1) ∷ f (i + 2) ∷ f (i + 3) ∷ map f (range_with_len (i + 4) n))) ≡ f i ∷ f (i + 1) ∷ f (i + 2) ∷ f (i + 3) ∷ []
unfolding word
four_word f fits i n =
    be_bytes_4 (f i ∷ f (i + 1) ∷ f (i + 2) ∷ f (i + 3) ∷ []) (f i * 16777216 + f (i + 1) * 65536 + f (i + 2) * 256 + f (i + 3)) refl (four_fit f fits i) (omega arith)
