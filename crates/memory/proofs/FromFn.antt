-- Arrays that `from_fn` makes.
use Rattle.std.proofs.Common.{◌≡◌, ℕ, zero, suc, ◌+◌, ◌<◌, ◌≤◌, List, get_or, sym, subst, ⊎_elim, arith}
use Rattle.std.proofs.lemmas.Bool.{cases_eq}
use Rattle.std.specs.Array.{IsFromFnResultFrom}
use Rattle.std.specs.Fn.{Called}
use denote.Param.Members.{Mut}

-- where no call changes the closure, and P holds of what it gives at each index, P holds of each item
pub from_fn_all : {F B : Type 0} (g : Mut F (ℕ × Unit {0}) B) (P : ℕ → B → Type 0) (f : F) → ((i : ℕ) (y : B) (f' : F) → Called g f (i, tt) y f' → P i y × (f' ≡ f))
    → (ys : List B) (i n : ℕ) → IsFromFnResultFrom g f ys i n → (k : ℕ) (d : B) → i ≤ k → k < i + n → P k (get_or ys k d)
from_fn_all g P f call ys i zero made k d l h = absurd (omega arith)
from_fn_all g P f call ys i (suc n) (q, y, here, gave, rest) k d l h =
    let said = call i y q gave in
    ⊎_elim
    (λ same. subst (λ j. P j (get_or ys j d)) (sym same) (subst (P i) (sym (here.1 d)) said.0))
    (λ ne. from_fn_all g P f call ys (i + 1) n (subst (λ p. IsFromFnResultFrom g p ys (i + 1) n) said.1 rest) k d (omega arith) (omega arith))
    (cases_eq k i)
