-- Reading pairs of hexadecimal digits, one after another.
use Rattle.std.proofs.Common.{◌≡◌, ℕ, zero, suc, ◌+◌, ◌*◌, ◌/◌, ◌<◌, ◌≤◌, false, eqb, List, [], ◌∷◌, ◌++◌, length, get_or, take, drop, set, Some, None, Option, sym, refl, ap, ap₂, ◌∙◌, arith}
use Rattle.std.specs.Bool.{then_some}
use Rattle.std.specs.Option.{option_map}
use Rattle.std.specs.Simd.{first_chunks}
use Rattle.std.proofs.lemmas.Bool.{ne_eqb}
use Rattle.std.proofs.lemmas.List.{append_assoc, append-nil, get_or-take, get_or-drop, length-take-le, length-drop, take_more_set, drop-set-lt, drop-drop, drop_more, drop_all, take-append-drop}
use Rattle.text.specs.Hex.{bytes_of_hex, leading_bytes, leading_from, hex_byte, byte_then, overlaid}

-- bytes in front of those that are read
abbrev pub joined : List ℕ → Option (List ℕ) → Option (List ℕ)
joined xs None = None
joined xs (Some ys) = Some (xs ++ ys)

-- where the reading stands: the bytes of the first n pairs are in the buffer
pub record Reading (text : List ℕ) (n : ℕ) (was buffer : List ℕ) : Type 0 where
  pub whole : bytes_of_hex text ≡ joined (take n buffer) (bytes_of_hex (drop (2 * n) text))
  pub leading : leading_bytes text ≡ take n buffer ++ leading_bytes (drop (2 * n) text)
  pub behind : drop n buffer ≡ drop n was

-- the digits of pair i
digit_at : (i k : ℕ) (xs d : List ℕ) (j : ℕ) → i < k → 2 * k ≤ length xs → j < 2 → get_or (get_or (first_chunks 2 k xs) i d) j 0 ≡ get_or xs (2 * i + j) 0
digit_at i zero xs d j h l t = absurd (omega arith)
digit_at zero (suc k) xs d j h l t = get_or-take 2 xs j 0 t ∙ ap (λ n. get_or xs n 0) (omega arith)
digit_at (suc i) (suc k) xs d j h l t =
    digit_at i k (drop 2 xs) d j (omega arith) (rw length-drop (omega arith)) t ∙ get_or-drop 2 xs (2 * i + j) 0 ∙ ap (λ n. get_or xs n 0) (omega arith)

-- the byte that pair i writes
pub byte_at : (text : List ℕ) (pairs : List (List ℕ)) (d : List ℕ) (i : ℕ) → pairs ≡ first_chunks 2 (length text / 2) text → i < length text / 2
    → hex_byte (get_or (get_or pairs i d) 0 0) (get_or (get_or pairs i d) 1 0) ≡ hex_byte (get_or text (2 * i) 0) (get_or text (2 * i + 1) 0)
byte_at text pairs d i e h =
    let k = length text / 2 in
    let zero_more : 2 * i + 0 ≡ 2 * i = omega arith in
    rw e
    (ap₂ hex_byte (digit_at i k text d 0 h (omega arith) (omega arith) ∙ ap (λ n. get_or text n 0) zero_more)
    (digit_at i k text d 1 h (omega arith) (omega arith)))

two : (x y : ℕ) (more : List ℕ) → (bytes_of_hex (x ∷ y ∷ more) ≡ byte_then (hex_byte x y) (bytes_of_hex more))
    × (leading_bytes (x ∷ y ∷ more) ≡ leading_from (hex_byte x y) (leading_bytes more))
unfolding bytes_of_hex leading_bytes
two x y more = (refl, refl)

odd : (rest : List ℕ) → length rest ≡ 1 → (bytes_of_hex rest ≡ None) × (leading_bytes rest ≡ [])
unfolding bytes_of_hex leading_bytes
odd [] h = absurd (omega arith)
odd (x ∷ []) h = (refl, refl)
odd (x ∷ y ∷ more) h = absurd (omega arith)

none_left : (bytes_of_hex [] ≡ Some []) × (leading_bytes [] ≡ [])
unfolding bytes_of_hex leading_bytes
none_left = (refl, refl)

joined_then : (xs : List ℕ) (v : ℕ) (o : Option (List ℕ)) → joined xs (byte_then (Some v) o) ≡ joined (xs ++ v ∷ []) o
joined_then xs v None = refl
joined_then xs v (Some ys) = ap (λ l. Some l) (sym (append_assoc xs (v ∷ []) ys))

-- one step more behind a place where two lists are the same
same_behind : (xs ys : List ℕ) (n : ℕ) → drop n xs ≡ drop n ys → drop (n + 1) xs ≡ drop (n + 1) ys
same_behind xs ys n e = sym (drop-drop 1 n xs) ∙ ap (λ l. drop 1 l) e ∙ drop-drop 1 n ys

-- the buffer where nothing more is read
stands : (lead buffer was : List ℕ) (n : ℕ) → n ≤ length buffer → lead ≡ take n buffer → drop n buffer ≡ drop n was → buffer ≡ overlaid lead was
unfolding overlaid
stands lead buffer was n h e d =
    let l : length (take n buffer) ≡ n = length-take-le n buffer h in
    rw (e, l) (sym (take-append-drop n buffer) ∙ ap (λ x. take n buffer ++ x) d)

module _ (text : List ℕ) (n : ℕ) (was buffer : List ℕ) (r : Reading text n was buffer) where
  high : ℕ
  high = get_or text (2 * n) 0

  low : ℕ
  low = get_or text (2 * n + 1) 0

  rest : List ℕ
  rest = drop (2 * (n + 1)) text

  pair : 2 * n + 2 ≤ length text → drop (2 * n) text ≡ high ∷ low ∷ rest
  unfolding high low rest
  pair long =
      let next : 2 * n + 1 + 1 ≡ 2 * (n + 1) = omega arith in
      drop_more text (2 * n) 0 (omega arith) ∙ ap (λ xs. high ∷ xs) (drop_more text (2 * n + 1) 0 (omega arith)) ∙ ap (λ k. high ∷ low ∷ drop k text) next

  -- the bytes of the text where the next pair writes o
  whole_by : (o : Option ℕ) → 2 * n + 2 ≤ length text → o ≡ hex_byte high low
      → bytes_of_hex text ≡ joined (take n buffer) (byte_then o (bytes_of_hex rest))
  whole_by o long is =
      r.whole ∙ ap (λ xs. joined (take n buffer) (bytes_of_hex xs)) (pair long)
      ∙ ap (joined (take n buffer)) ((two high low rest).0 ∙ ap (λ o. byte_then o (bytes_of_hex rest)) (sym is))

  leading_by : (o : Option ℕ) → 2 * n + 2 ≤ length text → o ≡ hex_byte high low
      → leading_bytes text ≡ take n buffer ++ leading_from o (leading_bytes rest)
  leading_by o long is =
      r.leading ∙ ap (λ xs. take n buffer ++ leading_bytes xs) (pair long)
      ∙ ap (λ xs. take n buffer ++ xs) ((two high low rest).1 ∙ ap (λ o. leading_from o (leading_bytes rest)) (sym is))

  pub more : (v : ℕ) → 2 * n + 2 ≤ length text → Some v ≡ hex_byte (get_or text (2 * n) 0) (get_or text (2 * n + 1) 0) → n < length buffer
      → Reading text (n + 1) was (set buffer n v)
  unfolding high low rest
  more v long is room =
      let t = take_more_set buffer n v room in
      record {
        whole = whole_by (Some v) long is ∙ joined_then (take n buffer) v (bytes_of_hex rest) ∙ ap (λ x. joined x (bytes_of_hex rest)) (sym t);
        leading = leading_by (Some v) long is ∙ sym (append_assoc (take n buffer) (v ∷ []) (leading_bytes rest)) ∙ ap (λ x. x ++ leading_bytes rest) (sym t);
        behind = drop-set-lt (n + 1) buffer n v (omega arith) ∙ same_behind buffer was n r.behind;
      }

  -- at a pair that writes no byte
  pub stops : n ≤ length buffer → 2 * n + 2 ≤ length text → None ≡ hex_byte (get_or text (2 * n) 0) (get_or text (2 * n + 1) 0)
      → (None ≡ option_map length (bytes_of_hex text)) × (buffer ≡ overlaid (leading_bytes text) was)
  unfolding high low rest
  stops h long is = (
    sym (ap (λ o. option_map length o) (whole_by None long is)),
    stands (leading_bytes text) buffer was n h (leading_by None long is ∙ append-nil (take n buffer)) r.behind,
  )

  -- the end where the buffer's n bytes are all that is read
  ended : n ≤ length buffer → leading_bytes (drop (2 * n) text) ≡ [] → buffer ≡ overlaid (leading_bytes text) was
  ended h e = stands (leading_bytes text) buffer was n h (r.leading ∙ ap (λ x. take n buffer ++ x) e ∙ append-nil (take n buffer)) r.behind

  -- at one digit that is left over
  pub stops_odd : n ≤ length buffer → length text ≡ 2 * n + 1 → (None ≡ option_map length (bytes_of_hex text)) × (buffer ≡ overlaid (leading_bytes text) was)
  stops_odd h one =
      let e = odd (drop (2 * n) text) (rw length-drop (omega arith)) in
      (sym (ap (λ o. option_map length o) (r.whole ∙ ap (joined (take n buffer)) e.0)), ended h e.1)

  -- where nothing is left
  pub done : n ≤ length buffer → length text ≡ 2 * n → (Some n ≡ option_map length (bytes_of_hex text)) × (buffer ≡ overlaid (leading_bytes text) was)
  done h none =
      let e : drop (2 * n) text ≡ [] = drop_all (2 * n) text (omega arith) in
      let l : length (take n buffer) ≡ n = length-take-le n buffer h in
      let w : bytes_of_hex text ≡ Some (take n buffer) =
      r.whole ∙ ap (joined (take n buffer)) (ap bytes_of_hex e ∙ none_left.0) ∙ ap (λ x. Some x) (append-nil (take n buffer)) in
      (sym (ap (λ o. option_map length o) w ∙ ap (λ k. Some k) l), ended h (ap leading_bytes e ∙ none_left.1))

  -- after the last pair, with so many digits left over
  pub finished : (left : ℕ) → n ≤ length buffer → length text ≡ 2 * n + left → left < 2
      → (then_some (eqb left 0) n ≡ option_map length (bytes_of_hex text)) × (buffer ≡ overlaid (leading_bytes text) was)
  finished zero h l s = done h (omega arith)
  finished (suc k) h l s =
      let some : eqb (suc k) 0 ≡ false = ne_eqb (suc k) 0 (λ e. omega arith) in
      rw some (stops_odd h (omega arith))
