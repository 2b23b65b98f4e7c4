-- The lines of a text.
use Rattle.std.specs.Prelude.{◌≡◌, ℕ, ◌<◌, cond, ◌⊎◌, List, [], ◌∷◌, ◌++◌, length, ◌==◌, ◌≢◌, slice_index}

-- one byte more at the front of the first line
abbrev pub onto : ℕ → List (List ℕ) → List (List ℕ)
onto b [] = (b ∷ []) ∷ []
onto b (line ∷ more) = (b ∷ line) ∷ more

-- the lines of a text: 0A ends a line, and the last may lack it; an empty text has none
unfoldable pub lines_of : List ℕ → List (List ℕ)
lines_of [] = []
lines_of (b ∷ bs) = cond (b == 10) ([] ∷ lines_of bs) (onto b (lines_of bs))

-- lines, each with the 0A that ends it
abbrev pub ended : List (List ℕ) → List ℕ
ended [] = []
ended (line ∷ lines) = line ++ (10 ∷ ended lines)

-- no line has an 0A
abbrev pub Unbroken : List (List ℕ) → Type 0
Unbroken [] = Unit {0}
Unbroken (line ∷ lines) = ((k : ℕ) → slice_index line k ≢ 10) × Unbroken lines

-- what lines are: they have no 0A, and with it they are the text again, up to an 0A that the last lacked
pub record LinesRule : Type 0 where
  pub unbroken : (text : List ℕ) → Unbroken (lines_of text)
  pub whole : (text : List ℕ) → (ended (lines_of text) ≡ text) ⊎ (ended (lines_of text) ≡ text ++ 10 ∷ [])

-- what stands before the first 0A, or all where there is none
unfoldable pub before_end : List ℕ → List ℕ
before_end [] = []
before_end (b ∷ bs) = cond (b == 10) [] (b ∷ before_end bs)

-- what stands behind the first 0A
unfoldable pub behind_end : List ℕ → List ℕ
behind_end [] = []
behind_end (b ∷ bs) = cond (b == 10) bs (behind_end bs)

-- the first line of a text that is not empty, and the rest, of which the other lines are
pub record FirstLine (text line rest : List ℕ) : Type 0 where
  pub before : line ≡ before_end text
  pub behind : rest ≡ behind_end text
  pub lines : lines_of text ≡ line ∷ lines_of rest
  pub shorter : length rest < length text
