-- Printing bytes in capital hexadecimal, a part of them at a time.
use Rattle.std.proofs.Common.{◌≡◌, ℕ, suc, ◌+◌, ◌/◌, ◌%◌, ◌<◌, ◌≤◌, ltb, List, [], ◌∷◌, ◌++◌, zero, length, get_or, take, sym, refl, ap, ◌∙◌, append_assoc, arith}
use Rattle.std.proofs.Output.{has_written_append, has_written_of_eq}
use Rattle.std.proofs.lemmas.Bool.{cond_both}
use Rattle.std.proofs.lemmas.List.{take_more, take_all}
use Rattle.std.proofs.lemmas.Str.{IsUtf8-from_ascii}
use Rattle.std.specs.Fmt.{HasWritten}
use Rattle.std.specs.Str.{IsUtf8, IsAscii}
use Rattle.std.specs.declared.fmt.Formatter.{Formatter}
use Rattle.text.specs.Hex.{hex_digit, hex_of}

hex_append : (xs ys : List ℕ) → hex_of (xs ++ ys) ≡ hex_of xs ++ hex_of ys
hex_append [] ys = refl
hex_append (x ∷ xs) ys = ap (λ t. hex_digit (x / 16) ∷ hex_digit (x % 16) ∷ t) (hex_append xs ys)

-- the digits of the first i bytes, and the two digits of the next after them, are those of the first i + 1
pub digits_more : (bytes digits one two : List ℕ) (i a b : ℕ) → i < length bytes → digits ≡ hex_of (take i bytes)
    → a ≡ hex_digit (get_or bytes i 0 / 16) → b ≡ hex_digit (get_or bytes i 0 % 16) → one ≡ digits ++ a ∷ [] → two ≡ one ++ b ∷ []
    → two ≡ hex_of (take (i + 1) bytes)
digits_more bytes digits one two i a b below so_far high low first second =
    let byte = get_or bytes i 0 in
    second ∙ ap (λ t. t ++ b ∷ []) first ∙ append_assoc digits (a ∷ []) (b ∷ [])
    ∙ rw (so_far, high, low) (sym (ap hex_of (take_more bytes i 0 below) ∙ hex_append (take i bytes) (byte ∷ [])))

-- the digits of the first i bytes are those of all, where there are no more
pub digits_all : (bytes digits : List ℕ) (i : ℕ) → length bytes ≤ i → digits ≡ hex_of (take i bytes) → digits ≡ hex_of bytes
digits_all bytes digits i past so_far = so_far ∙ ap hex_of (take_all i bytes past)

digit_ascii : (n : ℕ) → n < 16 → hex_digit n < 128
digit_ascii n h = cond_both (ltb n 10) (48 + n) (55 + n) (λ m. m < 128) (λ _. omega arith) (λ _. omega arith)

-- hexadecimal digits are ASCII
hex_ascii : (xs : List ℕ) → ((k : ℕ) → get_or xs k 0 < 256) → IsAscii (hex_of xs)
hex_ascii [] small i = omega arith
hex_ascii (x ∷ xs) small zero = digit_ascii (x / 16) (omega (arith, small 0))
hex_ascii (x ∷ xs) small (suc zero) = digit_ascii (x % 16) (omega arith)
hex_ascii (x ∷ xs) small (suc (suc i)) = hex_ascii xs (λ k. small (suc k)) i

-- so they are valid UTF-8
pub digits_text : (bytes digits : List ℕ) → ((k : ℕ) → get_or bytes k 0 < 256) → digits ≡ hex_of bytes → IsUtf8 digits
digits_text bytes digits small e = rw e (IsUtf8-from_ascii (hex_of bytes) (hex_ascii bytes small))

-- the digits of the bytes in front are written, and those of `rest` are not yet
pub record Printed {W : Type 0} (took : W → List ℕ → W → Type 0) (f : Formatter W) (bytes rest : List ℕ) (g : Formatter W) : Type 0 where
  pub front : List ℕ
  pub whole : bytes ≡ front ++ rest
  pub written : HasWritten took f (hex_of front) g

-- and then those of the next part
pub printed_more : {W : Type 0} (took : W → List ℕ → W → Type 0) (f g h : Formatter W) (bytes rest part more text : List ℕ) → Printed took f bytes rest g
    → rest ≡ part ++ more → text ≡ hex_of part → HasWritten took g text h → Printed took f bytes more h
printed_more took f g h bytes rest part more text before parts is now =
    record {
      front = before.front ++ part;
      whole = before.whole ∙ ap (λ t. before.front ++ t) parts ∙ sym (append_assoc before.front part more);
      written = has_written_of_eq took _ _ _ _ (ap (λ t. hex_of before.front ++ t) is ∙ sym (hex_append before.front part)) (has_written_append took _ _ _ _ _ before.written now);
    }
