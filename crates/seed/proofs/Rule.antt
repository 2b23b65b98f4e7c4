-- The rules of the tables, each compared with the entries that the rule gives.
use Rattle.std.proofs.Common.{◌≡◌, ℕ, ◌<◌, List, [], map, get_or, refl, ap, ◌∙◌, zero-add}
use Rattle.std.specs.List.{range_with_len}
use Rattle.std.proofs.lemmas.List.FromFn.{get_or-map-range_with_len}
use Rattle.seed.specs.Boxes.{s1_table, s2_table}
use Rattle.seed.specs.Field.{s1_rule, s2_rule, BoxesByRule}
use Rattle.seed.specs.Function.{ss}
use Rattle.seed.specs.Keys.{kc_table, rotated_left, ConstantsByRotation}

-- the table of a rule gives at each place what the rule says
entry : (f : ℕ → ℕ) (t : List ℕ) (n : ℕ) → t ≡ map f (range_with_len 0 n) → (k : ℕ) → k < n → get_or t k 0 ≡ f k
entry f t n e k h = ap (λ u. get_or u k 0) e ∙ get_or-map-range_with_len f 0 n k k 0 h (zero-add k)

s1_table_is : s1_table ≡ map s1_rule (range_with_len 0 256)
unfolding s1_rule
s1_table_is = refl

s2_table_is : s2_table ≡ map s2_rule (range_with_len 0 256)
unfolding s2_rule
s2_table_is = refl

pub boxes_by_rule : BoxesByRule
boxes_by_rule x h = (entry s1_rule s1_table 256 s1_table_is x h, entry s2_rule s2_table 256 s2_table_is x h)

pub constants_by_rotation : ConstantsByRotation
constants_by_rotation = entry (λ i. rotated_left 32 i 0x9e3779b9) kc_table 16 refl

-- the tables of the extended S-boxes, in this order, with an entry for each byte
unfoldable pub extended_boxes : List (List ℕ)
extended_boxes = map (λ n. map (ss n) (range_with_len 0 256)) (range_with_len 0 4)

pub ss_entry : (n x : ℕ) → n < 4 → x < 256 → get_or (get_or extended_boxes n []) x 0 ≡ ss n x
unfolding extended_boxes
ss_entry n x h k =
    ap (λ t. get_or t x 0) (get_or-map-range_with_len (λ n. map (ss n) (range_with_len 0 256)) 0 4 n n [] h (zero-add n))
    ∙ get_or-map-range_with_len (ss n) 0 256 x x 0 k (zero-add x)
