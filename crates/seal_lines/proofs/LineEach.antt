-- Each line of the input gets one line of the output.
use Rattle.std.proofs.Common.{◌≡◌, ℕ, ◌+◌, ◌/◌, ◌%◌, ◌^◌, ◌<◌, ◌≤◌, Bool, true, not, eqb, ltb, List, [], ◌∷◌, ◌++◌, length, codes, decimal, Ok, Err, Result, refl, ap, ◌∙◌, arith}
use Rattle.std.proofs.lemmas.Fmt.{decimal_by_steps}
use Rattle.std.specs.List.{All, list_all}
use Rattle.std.proofs.lemmas.List.{append_assoc}
use Rattle.std.proofs.lemmas.List.Elements.{All-nil, All-cons, All-head, All-tail, All-append, All-push}
use Rattle.std.proofs.lemmas.Bool.{cond-false, cond_both, ne_eqb}
use Rattle.std.proofs.lemmas.Bool.Decides.{Decides-by_and, Decides-eqb, Decides-not}
use Rattle.text.specs.Hex.{hex_digit, hex_of}
use Rattle.text.specs.Lines.{lines_of, onto}
use Rattle.seal_lines.specs.Requests.{request_of}
use Rattle.seal_lines.specs.Answers.{Registered, Sealed, answer_of, answer_words, answer_lines, OneLineEach}
use Rattle.seal_lines.specs.declared.answers.LineRefusal.{LineRefusal}
use Rattle.seal_lines.specs.declared.answers.LineRefusal.TheVariants.{NotRegistered, Form}

-- a byte is not 0A
abbrev is_inner : ℕ → Type 0
is_inner b = b ≡ 10 → ⊥

-- no byte is 0A
abbrev Unbroken : List ℕ → Type 0
Unbroken = All is_inner

unbroken_decimal : (n : ℕ) → n < 2 ^ 64 → Unbroken (decimal n)
unbroken_decimal n h =
    decimal_by_steps (λ _ ds. Unbroken ds)
    (λ k l. All-cons is_inner (48 + k) [] (λ e. omega arith) (All-nil is_inner))
    (λ k ds l p. All-push is_inner ds (48 + k % 10) p (λ e. omega arith)) n h

digit_no_end : (n : ℕ) → is_inner (hex_digit n)
digit_no_end n = cond_both (ltb n 10) (48 + n) (55 + n) is_inner (λ _ e. omega arith) (λ _ e. omega arith)

unbroken_hex : (bytes : List ℕ) → Unbroken (hex_of bytes)
unbroken_hex [] = All-nil is_inner
unbroken_hex (b ∷ bs) =
    let low = hex_digit (b % 16) in
    All-cons is_inner (hex_digit (b / 16)) (low ∷ hex_of bs) (digit_no_end (b / 16)) (All-cons is_inner low (hex_of bs) (digit_no_end (b % 16)) (unbroken_hex bs))

-- the same by a test that is computed
test : ℕ → Bool
test b = not (eqb b 10)

passes : (bytes : List ℕ) → list_all test bytes ≡ true → Unbroken bytes
unfolding test
passes bytes = (Decides-by_and test is_inner (list_all test) (λ b. Decides-not (eqb b 10) (Decides-eqb b 10)) refl (λ _ _. refl) bytes).0

unbroken_words : (answer : Result (List ℕ) LineRefusal) → Unbroken (answer_words answer)
unfolding test
unbroken_words (Ok seal) = unbroken_hex seal
unbroken_words (Err NotRegistered) = passes (codes "not registered") refl
unbroken_words (Err Form) = passes (codes "form") refl

-- a first line that 0A ends
first : (line rest : List ℕ) → Unbroken line → lines_of (line ++ (10 ∷ rest)) ≡ line ∷ lines_of rest
unfolding lines_of
first [] rest u = refl
first (b ∷ line) rest u =
    cond-false (eqb b 10) ([] ∷ lines_of (line ++ (10 ∷ rest))) (onto b (lines_of (line ++ (10 ∷ rest)))) (ne_eqb b 10 (All-head is_inner b line u))
    ∙ ap (λ ls. onto b ls) (first line rest (All-tail is_inner b line u))

regroup : (a b c d : List ℕ) → (a ++ (b ++ (c ++ 10 ∷ []))) ++ d ≡ (a ++ (b ++ c)) ++ (10 ∷ d)
regroup a b c d = simp append_assoc

module _ (registered : Registered) (sealed : Sealed) where
  each : (n : ℕ) (lines : List (List ℕ)) → n + length lines ≤ 2 ^ 64 → length (lines_of (answer_lines registered sealed n lines)) ≡ length lines
  unfolding answer_lines lines_of
  each n [] h = refl
  each n (line ∷ lines) h =
      let words = answer_words (answer_of registered sealed (request_of line)) in
      let rest = answer_lines registered sealed (n + 1) lines in
      let u : Unbroken (decimal n ++ (codes "," ++ words)) =
      All-append is_inner (decimal n) (codes "," ++ words) (unbroken_decimal n (omega arith))
      (All-cons is_inner 44 words (λ e. omega arith) (unbroken_words (answer_of registered sealed (request_of line)))) in
      let f = first (decimal n ++ (codes "," ++ words)) rest u in
      let m = each (n + 1) lines (omega arith) in
      ap (λ t. length (lines_of t)) (regroup (decimal n) (codes ",") words rest) ∙ ap (λ ls. length ls) f ∙ omega arith

pub one_line_each : OneLineEach
one_line_each registered sealed input h = each registered sealed 1 (lines_of input) (omega arith)
