-- The answers so far, and those that are left.
use Rattle.std.proofs.Common.{◌≡◌, ℕ, ◌+◌, ◌≤◌, List, [], ◌∷◌, ◌++◌, length, sym, refl, ap, ◌∙◌, arith}
use Rattle.std.proofs.lemmas.List.{append_assoc, append-nil}
use Rattle.text.specs.Lines.{lines_of, FirstLine}
use Rattle.text.proofs.Splits.{lines_none}
use Rattle.seal_lines.specs.Requests.{request_of}
use Rattle.seal_lines.specs.Answers.{Registered, Sealed, answer_of, answer_words, numbered_line, answer_lines, answers_of}

-- the lines before line n are answered by the text, and the lines of the rest are left
pub record Answered (registered : Registered) (sealed : Sealed) (input rest : List ℕ) (n : ℕ) (text : List ℕ) : Type 0 where
  pub all : text ++ answer_lines registered sealed n (lines_of rest) ≡ answers_of registered sealed input
  pub few : n + length rest ≤ length input + 1

module _ (registered : Registered) (sealed : Sealed) where
  step : (n : ℕ) (line : List ℕ) (lines : List (List ℕ))
      → answer_lines registered sealed n (line ∷ lines)
      ≡ numbered_line n (answer_words (answer_of registered sealed (request_of line))) ++ answer_lines registered sealed (n + 1) lines
  unfolding answer_lines
  step n line lines = refl

  last : (n : ℕ) → answer_lines registered sealed n [] ≡ []
  unfolding answer_lines
  last n = refl

  pub one_more : (input rest line more : List ℕ) (n : ℕ) (text text' : List ℕ) → Answered registered sealed input rest n text → FirstLine rest line more
      → text' ≡ text ++ numbered_line n (answer_words (answer_of registered sealed (request_of line)))
      → Answered registered sealed input more (n + 1) text'
  one_more input rest line more n text text' a f t =
      let left = answer_lines registered sealed (n + 1) (lines_of more) in
      let s = f.shorter in
      let k = a.few in
      record {
        all = ap (λ x. x ++ left) t ∙ append_assoc text _ left
            ∙ ap (λ x. text ++ x) (sym (ap (λ ls. answer_lines registered sealed n ls) f.lines ∙ step n line (lines_of more))) ∙ a.all;
        few = omega arith;
      }

  pub all_done : (input rest : List ℕ) (n : ℕ) (text : List ℕ) → Answered registered sealed input rest n text → rest ≡ [] → text ≡ answers_of registered sealed input
  all_done input rest n text a e =
      sym (append-nil text) ∙ ap (λ x. text ++ x) (sym (ap (λ x. answer_lines registered sealed n (lines_of x)) e
      ∙ ap (λ ls. answer_lines registered sealed n ls) lines_none ∙ last n)) ∙ a.all
