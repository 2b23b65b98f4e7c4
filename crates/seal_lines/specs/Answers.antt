-- The answers to the lines of an input.
use Rattle.std.specs.Prelude.{◌≡◌, ℕ, ◌+◌, ◌^◌, ◌<◌, Bool, cond, List, [], ◌∷◌, ◌++◌, length, Some, None, codes, decimal, Option, Ok, Err, Result}
use Rattle.text.specs.Hex.{hex_of}
use Rattle.text.specs.Lines.{lines_of}
use Rattle.seal_lines.specs.Requests.{Asked, request_of}
use Rattle.seal_lines.specs.declared.answers.LineRefusal.{LineRefusal}
use Rattle.seal_lines.specs.declared.answers.LineRefusal.TheVariants.{NotRegistered, Form}

-- whether a sealer has an algorithm registered
abbrev pub Registered : Type 0
Registered = ℕ → Bool

-- the seal by an algorithm, a key and a message
abbrev pub Sealed : Type 0
Sealed = ℕ → List ℕ → List ℕ → List ℕ

-- the seal, where the algorithm is registered
abbrev pub request_answer : Registered → Sealed → Asked → Result (List ℕ) LineRefusal
request_answer registered sealed a = cond (registered a.algorithm) (Ok (sealed a.algorithm a.key a.message)) (Err NotRegistered)

-- what a line gets for what it asks; another form decides first
abbrev pub answer_of : Registered → Sealed → Option Asked → Result (List ℕ) LineRefusal
answer_of registered sealed None = Err Form
answer_of registered sealed (Some a) = request_answer registered sealed a

-- a refusal in words
abbrev pub refusal_words : LineRefusal → List ℕ
refusal_words NotRegistered = codes "not registered"
refusal_words Form = codes "form"

-- an answer in words, the seal in capital hexadecimal
abbrev pub answer_words : Result (List ℕ) LineRefusal → List ℕ
answer_words (Ok seal) = hex_of seal
answer_words (Err refusal) = refusal_words refusal

-- a line of the output: the number of the line of the input, a comma, the answer in words, and 0A
abbrev pub numbered_line : ℕ → List ℕ → List ℕ
numbered_line n words = decimal n ++ (codes "," ++ (words ++ codes "\n"))

-- the lines of the output for lines that are numbered from n on
unfoldable pub answer_lines : Registered → Sealed → ℕ → List (List ℕ) → List ℕ
answer_lines registered sealed n [] = []
answer_lines registered sealed n (line ∷ lines) =
    numbered_line n (answer_words (answer_of registered sealed (request_of line))) ++ answer_lines registered sealed (n + 1) lines

-- all that is printed for an input: its lines are numbered from 1
abbrev pub answers_of : Registered → Sealed → List ℕ → List ℕ
answers_of registered sealed input = answer_lines registered sealed 1 (lines_of input)

-- each line of the input gets one line of the output, where they are fewer than 2 to the 64th
abbrev pub OneLineEach : Type 0
OneLineEach =
    (registered : Registered) (sealed : Sealed) (input : List ℕ) → length (lines_of input) < 2 ^ 64
    → length (lines_of (answers_of registered sealed input)) ≡ length (lines_of input)
