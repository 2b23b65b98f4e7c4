-- What the selection functions select has four bits each.
use Rattle.std.proofs.Common.{◌≡◌, ℕ, zero, suc, ◌+◌, ◌-◌, ◌*◌, ◌^◌, ◌<◌, ◌≤◌, Bool, true, ◌&&◌, T, ltb, List, [], ◌∷◌, get_or, sym, ap, ◌∙◌, ap₂, add-one, arith, ltb→lt, pow_mono, pow-add}
use Rattle.cipher.proofs.Tables.{both_left, both_right}
use Rattle.des.specs.Boxes.{s_tables, s_box, entry, row, column}
use Rattle.des.specs.Function.{six_bits, selected}

-- every entry of a table is below m
abbrev below : ℕ → List ℕ → Bool
below m [] = true
below m (x ∷ xs) = ◌&&◌ (ltb x m) (below m xs)

below_at : (m : ℕ) (t : List ℕ) (i : ℕ) → 0 < m → T (below m t) → get_or t i 0 < m
below_at m [] i pos h = pos
below_at m (x ∷ xs) zero pos h = ltb→lt x m (both_left (ltb x m) (below m xs) h)
below_at m (x ∷ xs) (suc i) pos h = below_at m xs i pos (both_right (ltb x m) (below m xs) h)

abbrev all_below : ℕ → List (List ℕ) → Bool
all_below m [] = true
all_below m (t ∷ ts) = ◌&&◌ (below m t) (all_below m ts)

all_below_at : (m : ℕ) (ts : List (List ℕ)) (k i : ℕ) → 0 < m → T (all_below m ts) → get_or (get_or ts k []) i 0 < m
all_below_at m [] k i pos h = pos
all_below_at m (t ∷ ts) zero i pos h = below_at m t i pos (both_left (below m t) (all_below m ts) h)
all_below_at m (t ∷ ts) (suc k) i pos h = all_below_at m ts k i pos (both_right (below m t) (all_below m ts) h)

s_box_lt : (i b : ℕ) → s_box i b < 16
s_box_lt i b = all_below_at 16 s_tables (i - 1) (row b * 16 + column b) (omega arith) tt

selected_below : (x n : ℕ) → selected x n < 2 ^ (4 * n)
selected_below x zero = omega arith
selected_below x (suc n) =
    let e : 2 ^ (4 * suc n) ≡ 2 ^ (4 * n) * 16 = ap (λ m. 2 ^ m) (omega arith) ∙ pow-add 2 (4 * n) 4 in
    let s = s_box_lt (suc n) (six_bits x (suc n)) in
    let h = selected_below x n in
    omega arith

pub selected_lt : (x n : ℕ) → n ≤ 8 → selected x n < 2 ^ 32
selected_lt x n h =
    let p : 2 ^ (4 * n) ≤ 2 ^ 32 = pow_mono {j = 32} (omega arith) in
    omega (arith, selected_below x n)

-- one selection more
pub selected_more : (x i out s b : ℕ) → out ≡ selected x i → b ≡ six_bits x (i + 1) → s ≡ entry (get_or s_tables i []) b → out * 16 + s ≡ selected x (i + 1)
selected_more x i out s b p r q =
    let e : i ≡ suc i - 1 = omega arith in
    let box : s ≡ s_box (suc i) (six_bits x (suc i)) =
    q ∙ ap (entry (get_or s_tables i [])) (r ∙ ap (six_bits x) (add-one i))
    ∙ ap (λ (m : ℕ). entry (get_or s_tables m []) (six_bits x (suc i))) e in
    ap₂ (λ (o y : ℕ). o * 16 + y) p box ∙ ap (selected x) (sym (add-one i))
