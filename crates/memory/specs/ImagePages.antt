-- Bytes read as pages.
use Rattle.std.specs.Prelude.{◌≡◌, ℕ, ◌+◌, ◌*◌, ◌/◌, ◌<◌, ◌≤◌, min, Bool, false, cond, List, [], ◌∷◌, ◌++◌, map, length, take, drop, Ok, Err, Result, nat_lt, slice_index_or, slice_set}
use Rattle.std.proofs.Common.{ap, ◌∙◌, arith, length-take, length-drop}
use Rattle.std.specs.List.{range_with_len}
use Rattle.std.proofs.lemmas.List.FromFn.{length-map-range_with_len, get_or-map-range_with_len}
use Rattle.memory.specs.declared.fault.Fault.{Fault}
use Rattle.memory.specs.declared.fault.Fault.TheVariants.{PastEnd}
use Rattle.memory.specs.Pages.{Outside}

-- page k of the bytes xs: the 16 bytes from 16 times k on
abbrev pub page_at : List ℕ → ℕ → List ℕ
page_at xs k = take 16 (drop (16 * k) xs)

-- the bytes xs as pages, as many as whole 16s fit
unfoldable pub pages_of : List ℕ → List (List ℕ)
pages_of xs = map (page_at xs) (range_with_len 0 (length xs / 16))

-- the bytes past the last whole page, fewer than 16
unfoldable pub tail_of : List ℕ → List ℕ
tail_of xs = drop (16 * (length xs / 16)) xs

-- the marks of an image: no page is ever worn
abbrev pub never_worn : ℕ → Bool
never_worn k = false

-- what a write to a page answers in a memory of `count` pages that never wears: done wherever there is such a page
abbrev pub open_answer : ℕ → ℕ → Result (Unit {0}) Fault
open_answer count page = cond (nat_lt page count) (Ok tt) (Err PastEnd)

-- the bytes xs with b in the place of the 16 bytes from `at` on
abbrev pub replaced : ℕ → List ℕ → List ℕ → List ℕ
replaced at b xs = take at xs ++ (b ++ drop 16 (drop at xs))

-- What a place `at` among the bytes xs is to their page of the given number.
pub record PageStart (xs : List ℕ) (page at : ℕ) : Type 0 where
  -- there the page begins
  pub place : at ≡ 16 * page
  -- the bytes have all of the page
  pub room : at + 16 ≤ length xs
  -- the 16 bytes from there on are the page
  pub reads : take 16 (drop at xs) ≡ slice_index_or (pages_of xs) page []
  -- bytes b in the place of those 16 are that page alone written
  pub writes : (b : List ℕ) → length b ≡ 16 → pages_of (replaced at b xs) ≡ slice_set (pages_of xs) page b
  -- and the bytes past the last whole page stay
  pub keeps : (b : List ℕ) → length b ≡ 16 → tail_of (replaced at b xs) ≡ tail_of xs

-- every page has 16 bytes
pub pages_sixteen : (xs : List ℕ) (k : ℕ) → k < length (pages_of xs) → length (slice_index_or (pages_of xs) k []) ≡ 16
unfolding pages_of
pages_sixteen xs k h =
    let within : k < length xs / 16 = omega (arith, length-map-range_with_len (page_at xs) 0 (length xs / 16)) in
    ap length (get_or-map-range_with_len (page_at xs) 0 (length xs / 16) k k [] within (omega arith))
    ∙ length-take 16 (drop (16 * k) xs) ∙ ap (min 16) (length-drop (16 * k) xs) ∙ omega arith

-- what no call on an image changes: the name of the reference to its bytes, and those past the last whole page
abbrev pub image_outside : ℕ → List ℕ → Outside
image_outside lender xs = record { lenders = lender ∷ []; rest = tail_of xs }
