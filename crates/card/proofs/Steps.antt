-- Steps that may end without a value, backwards and forwards.
use Rattle.std.proofs.Common.{◌≡◌, Bool, true, false, is_some, Some, None, Option, refl, ap, arith}
use Rattle.std.proofs.lemmas.Option.{option_and_then_some}
use Rattle.card.specs.Options.{and_then, only_if}

-- where a reader gave a value, each of its steps did
pub and_then_some : {X Y : Type 0} (o : Option X) (f : X → Option Y) (y : Y) → and_then o f ≡ Some y → (x : X) × (o ≡ Some x) × (f x ≡ Some y)
and_then_some o f y e = option_and_then_some f o y e (λ x p q. (x, p, q))

pub only_if_some : {X : Type 0} (b : Bool) (o : Option X) (x : X) → only_if b o ≡ Some x → (b ≡ true) × (o ≡ Some x)
only_if_some true o x e = (refl, e)
only_if_some false o x e = absurd (grind arith)

-- Steps forward, where the value or the test is known.
pub and_then_at : {X Y : Type 0} (o : Option X) (f : X → Option Y) (x : X) → o ≡ Some x → and_then o f ≡ f x
and_then_at o f x e = ap (λ p. and_then p f) e

pub some_value : {X : Type 0} (o : Option X) → is_some o ≡ true → (x : X) × (o ≡ Some x)
some_value None e = absurd (grind arith)
some_value (Some x) e = (x, refl)
