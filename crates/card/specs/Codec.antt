-- A value and its bytes, both ways.
use Rattle.std.specs.Prelude.{◌≡◌, ℕ, List, Some, Option, Result, MatchResult}
use Rattle.std.specs.Result.{result_ok}
use Rattle.card.specs.declared.code.UnknownCode.{UnknownCode}
use Rattle.card.specs.Bytes.{Bytes}

-- the value that the byte is the code of, or else the byte
abbrev pub Decoded : {X : Type 0} → Option X → ℕ → Result X UnknownCode → Type 0
Decoded value byte r = (result_ok r ≡ value) × MatchResult r (λ _. Unit {0}) (λ e. e.0 ≡ byte)

-- what is written of x is read as x again, and bytes that are read as x are what is written of it
pub record RoundTrip {X : Type 0} (size : ℕ) (write : X → List ℕ) (read : List ℕ → Option X) (x : X) : Type 0 where
  pub read_again : read (write x) ≡ Some x
  pub written_again : (xs : List ℕ) → Bytes size xs → read xs ≡ Some x → write x ≡ xs
