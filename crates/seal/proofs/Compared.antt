-- Four bytes are the same exactly where the numbers that they are are the same.
use Rattle.std.proofs.Common.{◌≡◌, ℕ, ◌<◌, Bool, eqb, List, length, get_or, sym, refl, ap, ◌∙◌}
use Rattle.std.specs.Str.{bytes_eq}
use Rattle.std.proofs.lemmas.Nat.{be_bytes_4}
use Rattle.std.proofs.lemmas.Slice.Eq.{bytes_eq-Decides}
use Rattle.std.proofs.lemmas.Bool.Decides.{Decides-eqb, Decides-like, same_from_decides}
use Rattle.seal.specs.Compare.{number_of}

pub compared : (a b : List ℕ) (same : Bool) → same ≡ eqb (number_of a) (number_of b) → length a ≡ 4 → length b ≡ 4
    → ((k : ℕ) → get_or a k 0 < 256) → ((k : ℕ) → get_or b k 0 < 256) → same ≡ bytes_eq a b
compared a b same is la lb fa fb =
    let x = number_of a in
    let y = number_of b in
    is
    ∙ same_from_decides (eqb x y) (bytes_eq a b)
    (Decides-like (eqb x y) (λ e. sym (be_bytes_4 a x la fa refl) ∙ be_bytes_4 b x lb fb e) (ap number_of) (Decides-eqb x y))
    (bytes_eq-Decides a b)
