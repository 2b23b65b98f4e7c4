-- Messages of at most so many bytes.
use Rattle.std.proofs.Common.{◌≡◌, ℕ, ◌<◌, ◌≤◌, leb, List, length, Some, None, Option, sym, refl, ap, ◌∙◌}
use Rattle.std.proofs.lemmas.Bool.{le-leb, lt-leb, cond-true, cond-false}
use Rattle.seal_lines.specs.Requests.{at_most}

pub too_many : (n : ℕ) (o : Option (List ℕ)) → ((bytes : List ℕ) → o ≡ Some bytes → n < length bytes) → None ≡ at_most n o
too_many n None h = refl
too_many n (Some bytes) h = sym (cond-false (leb (length bytes) n) (Some bytes) None (lt-leb (length bytes) n (h bytes refl)))

pub few : (n : ℕ) (o : Option (List ℕ)) (bytes : List ℕ) → o ≡ Some bytes → length bytes ≤ n → Some bytes ≡ at_most n o
few n o bytes e h = sym (ap (λ x. at_most n x) e ∙ cond-true (leb (length bytes) n) (Some bytes) None (le-leb (length bytes) n h))
