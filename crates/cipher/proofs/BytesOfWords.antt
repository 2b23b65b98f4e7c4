-- Words of 64 bits and their eight bytes: each gives the other back. And XOR undoes itself.
use Rattle.std.proofs.Common.{◌≡◌, ℕ, ◌+◌, ◌/◌, ◌%◌, ◌^◌, ◌<◌, List, [], ◌∷◌, get_or, ap, ◌∙◌, arith}
use lib.Bits.{bit_xor, xor_assoc, xor_self, xor_zero_r}
use Rattle.std.proofs.lemmas.Nat.{from_be_bytes-to_be_bytes_8}
use Rattle.cipher.specs.Words.{word_of, word_at, bytes_of}

pub word_of_bytes : (x : ℕ) → x < 2 ^ 64 → word_of (bytes_of x) ≡ x
unfolding word_of bytes_of
word_of_bytes x h = from_be_bytes-to_be_bytes_8 x h

same : (a b c d e f g h a' b' c' d' e' f' g' h' : ℕ) → a ≡ a' → b ≡ b' → c ≡ c' → d ≡ d' → e ≡ e' → f ≡ f' → g ≡ g' → h ≡ h'
    → ◌≡◌ {A = List ℕ} (a ∷ b ∷ c ∷ d ∷ e ∷ f ∷ g ∷ h ∷ []) (a' ∷ b' ∷ c' ∷ d' ∷ e' ∷ f' ∷ g' ∷ h' ∷ [])
same a b c d e f g h a' b' c' d' e' f' g' h' pa pb pc pd pe pf pg ph = cc

bytes_of_word : (a b c d e f g h : ℕ) → a < 256 → b < 256 → c < 256 → d < 256 → e < 256 → f < 256 → g < 256 → h < 256
    → bytes_of (word_of (a ∷ b ∷ c ∷ d ∷ e ∷ f ∷ g ∷ h ∷ [])) ≡ (a ∷ b ∷ c ∷ d ∷ e ∷ f ∷ g ∷ h ∷ [])
unfolding word_of bytes_of
bytes_of_word a b c d e f g h la lb lc ld le lf lg lh =
    let x = word_of (a ∷ b ∷ c ∷ d ∷ e ∷ f ∷ g ∷ h ∷ []) in
    same (x / 72057594037927936 % 256) (x / 281474976710656 % 256) (x / 1099511627776 % 256) (x / 4294967296 % 256)
    (x / 16777216 % 256) (x / 65536 % 256) (x / 256 % 256) (x % 256) a b c d e f g h
    (omega arith) (omega arith) (omega arith) (omega arith) (omega arith) (omega arith) (omega arith) (omega arith)

pub word_at_lt : (b : List ℕ) (i : ℕ) → ((k : ℕ) → get_or b k 0 < 256) → word_at b i < 2 ^ 64
unfolding word_of
word_at_lt b i h = omega (arith, h i, h (i + 1), h (i + 2), h (i + 3), h (i + 4), h (i + 5), h (i + 6), h (i + 7))

pub word_back : (b : List ℕ) (i : ℕ) → ((k : ℕ) → get_or b k 0 < 256) → bytes_of (word_at b i)
    ≡ (get_or b i 0 ∷ get_or b (i + 1) 0 ∷ get_or b (i + 2) 0 ∷ get_or b (i + 3) 0 ∷ get_or b (i + 4) 0 ∷ get_or b (i + 5) 0 ∷ get_or b (i + 6) 0 ∷ get_or b (i + 7) 0 ∷ [])
word_back b i h =
    bytes_of_word (get_or b i 0) (get_or b (i + 1) 0) (get_or b (i + 2) 0) (get_or b (i + 3) 0) (get_or b (i + 4) 0) (get_or b (i + 5) 0) (get_or b (i + 6) 0) (get_or b (i + 7) 0)
    (h i) (h (i + 1)) (h (i + 2)) (h (i + 3)) (h (i + 4)) (h (i + 5)) (h (i + 6)) (h (i + 7))

pub xor_twice : (a b : ℕ) → bit_xor (bit_xor a b) b ≡ a
xor_twice a b = xor_assoc a b b ∙ ap (bit_xor a) (xor_self b) ∙ xor_zero_r a
