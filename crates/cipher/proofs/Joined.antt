-- Eight bytes put behind the first eight of sixteen.
use Rattle.std.proofs.Common.{◌≡◌, ℕ, List, [], ◌++◌, length, drop, ap, ◌∙◌, ap₂, arith}
use borrow.Rule.Slice.PartMut.{put_mid}
use Rattle.std.proofs.lemmas.List.{take_at, drop_at, drop_all, append-nil}

pub put_second : (a z b : List ℕ) → length a ≡ 8 → length z ≡ 8 → put_mid 8 8 (a ++ z) b ≡ a ++ b
put_second a z b s t =
    let rest : drop 8 (drop 8 (a ++ z)) ≡ [] = ap (drop 8) (drop_at a z 8 s) ∙ drop_all 8 z (omega arith) in
    ap₂ (λ (x y : List ℕ). x ++ (b ++ y)) (take_at a z 8 s) rest ∙ ap (λ (y : List ℕ). a ++ y) (append-nil b)
