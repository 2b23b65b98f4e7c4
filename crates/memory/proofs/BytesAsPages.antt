-- Laws of bytes read as pages.
use Rattle.std.proofs.Common.{◌≡◌, ℕ, zero, suc, ◌+◌, ◌*◌, ◌/◌, ◌<◌, ◌≤◌, List, [], ◌++◌, map, length, get_or, take, drop, set, sym, refl, ap, ◌∙◌, ⊎_elim, arith}
use Rattle.std.proofs.lemmas.List.{same_lists, length-set, get_or-set_same, get_or-set_other, length-append, length-take, length-drop, drop_at, take_at, length-take-le, drop-take, drop-drop}
use Rattle.std.proofs.lemmas.Slice.{take-put_mid_below, drop-put_mid}
use Rattle.std.specs.List.{range_with_len}
use Rattle.std.specs.Simd.{first_chunks}
use Rattle.std.proofs.lemmas.List.FromFn.{length-map-range_with_len, get_or-map-range_with_len}
use Rattle.std.proofs.lemmas.Bool.{cases_eq, cases_lt}
use Rattle.memory.specs.ImagePages.{page_at, pages_of, tail_of, replaced, PageStart}

pub length-pages_of : (xs : List ℕ) → length (pages_of xs) ≡ length xs / 16
unfolding pages_of
length-pages_of xs = length-map-range_with_len (page_at xs) 0 (length xs / 16)

pub get_or-pages_of : (xs : List ℕ) (k : ℕ) (d : List ℕ) → k < length xs / 16 → get_or (pages_of xs) k d ≡ page_at xs k
unfolding pages_of
get_or-pages_of xs k d h = get_or-map-range_with_len (page_at xs) 0 (length xs / 16) k k d h (omega arith)

-- bytes b in the place of the 16 bytes of xs from `at` on
module _ (xs b : List ℕ) (at : ℕ) (room : at + 16 ≤ length xs) (sized : length b ≡ 16) where
  length-replaced : length (replaced at b xs) ≡ length xs
  length-replaced = simp (length-append, length-take, length-drop) (omega arith)

  here_replaced : take 16 (drop at (replaced at b xs)) ≡ b
  here_replaced =
      ap (take 16) (drop_at (take at xs) (b ++ drop 16 (drop at xs)) at (length-take-le at xs (omega arith)))
      ∙ take_at b (drop 16 (drop at xs)) 16 sized

  below_replaced : (j : ℕ) → j + 16 ≤ at → take 16 (drop j (replaced at b xs)) ≡ take 16 (drop j xs)
  below_replaced j h = sym (drop-take j 16 _) ∙ ap (drop j) (take-put_mid_below at 16 xs b (j + 16) h (omega arith)) ∙ drop-take j 16 xs

  above_replaced : (j : ℕ) → at + 16 ≤ j → drop j (replaced at b xs) ≡ drop j xs
  above_replaced j h = drop-put_mid at 16 xs b j h (omega arith) sized

-- bytes b in the place of page i
module _ (xs b : List ℕ) (i : ℕ) (here : i < length xs / 16) (sized : length b ≡ 16) where
  room : 16 * i + 16 ≤ length xs
  room = omega arith

  pages_of_replaced : pages_of (replaced (16 * i) b xs) ≡ set (pages_of xs) i b
  pages_of_replaced =
      let ys : List ℕ = replaced (16 * i) b xs in
      let long : length ys ≡ length xs = length-replaced xs b (16 * i) room sized in
      let same : length (pages_of ys) ≡ length (pages_of xs) = length-pages_of ys ∙ ap (λ n. n / 16) long ∙ sym (length-pages_of xs) in
      same_lists _ _ (same ∙ sym (length-set (pages_of xs) i b)) (λ k d l.
      let within : k < length xs / 16 = omega (arith, same, length-pages_of xs) in
      let left : get_or (pages_of ys) k d ≡ page_at ys k = get_or-pages_of ys k d (omega (arith, ap (λ n. n / 16) long)) in
      let other : page_at xs k ≡ get_or (pages_of xs) k d = sym (get_or-pages_of xs k d within) in
      ⊎_elim
      (λ e. left ∙ ap (page_at ys) e ∙ here_replaced xs b (16 * i) room sized ∙ sym (rw e (get_or-set_same (pages_of xs) i b d (omega (arith, length-pages_of xs)))))
      (λ ne. left
      ∙ ⊎_elim
      (λ lt. below_replaced xs b (16 * i) room sized (16 * k) (omega arith))
      (λ le. ap (take 16) (above_replaced xs b (16 * i) room sized (16 * k) (omega arith)))
      (cases_lt k i)
      ∙ other ∙ sym (get_or-set_other (pages_of xs) i k b d ne))
      (cases_eq k i))

  tail_of_replaced : tail_of (replaced (16 * i) b xs) ≡ tail_of xs
  unfolding tail_of
  tail_of_replaced =
      ap (λ n. drop (16 * (n / 16)) (replaced (16 * i) b xs)) (length-replaced xs b (16 * i) room sized)
      ∙ above_replaced xs b (16 * i) room sized (16 * (length xs / 16)) (omega arith)

-- page i begins 16 times i bytes from the first
pub page_start : (xs : List ℕ) (i : ℕ) → i < length (pages_of xs) → PageStart xs i (16 * i)
page_start xs i h =
    let here : i < length xs / 16 = omega (arith, length-pages_of xs) in
    record {
      place = refl;
      room = omega arith;
      reads = sym (get_or-pages_of xs i [] here);
      writes = λ b. pages_of_replaced xs b i here;
      keeps = λ b. tail_of_replaced xs b i here;
    }

-- n pages from page i on are the chunks of 16 bytes from there
chunks_from : (xs : List ℕ) (n i : ℕ) → first_chunks 16 n (drop (16 * i) xs) ≡ map (page_at xs) (range_with_len i n)
chunks_from xs zero i = refl
chunks_from xs (suc n) i = grind (arith, chunks_from xs n (i + 1), drop-drop 16 (16 * i) xs)

-- the whole pages are the chunks of 16 bytes
pub first_chunks_pages : (xs : List ℕ) → first_chunks 16 (length xs / 16) xs ≡ pages_of xs
unfolding pages_of
first_chunks_pages xs = chunks_from xs (length xs / 16) 0
