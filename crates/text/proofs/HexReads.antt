-- What the answer of `read_hex` says of the text and the buffer.
use Rattle.std.proofs.Common.{◌≡◌, ℕ, ◌+◌, ◌*◌, ◌/◌, ◌<◌, ◌≤◌, cond, ltb, eqb, List, [], ◌∷◌, ◌++◌, length, take, drop, Some, None, Option, sym, refl, ap, ◌∙◌, inl, inr, arith}
use Rattle.std.specs.Bool.{then_some}
use Rattle.std.specs.Option.{option_map}
use Rattle.std.proofs.lemmas.List.{take_at, take_all}
use Rattle.std.proofs.lemmas.Bool.{cases_lt, cases_Bool, eq-eqb, ne_eqb, eqb-true, eqb-false, lt-ltb, le-ltb, cond-true, cond-false}
use Rattle.text.specs.Hex.{bytes_of_hex, leading_bytes, leading_from, hex_byte, byte_then, overlaid}

then_whole : (o : Option ℕ) (p : Option (List ℕ)) (lead bytes : List ℕ) → ((bs : List ℕ) → p ≡ Some bs → lead ≡ bs) → byte_then o p ≡ Some bytes
    → leading_from o lead ≡ bytes
then_whole None p lead bytes more e = cc
then_whole (Some b) None lead bytes more e = cc
then_whole (Some b) (Some bs) lead bytes more e = let f = more bs refl in cc

-- where a text writes bytes, they are its leading bytes
pub leading_whole : (text bytes : List ℕ) → bytes_of_hex text ≡ Some bytes → leading_bytes text ≡ bytes
unfolding bytes_of_hex leading_bytes
leading_whole [] bytes e = cc
leading_whole (x ∷ []) bytes e = cc
leading_whole (x ∷ y ∷ more) bytes e = then_whole (hex_byte x y) (bytes_of_hex more) (leading_bytes more) bytes (λ bs f. leading_whole more bs f) e

then_length : (o : Option ℕ) (p : Option (List ℕ)) (k : ℕ) (bytes : List ℕ) → ((bs : List ℕ) → p ≡ Some bs → 2 * length bs ≡ k) → byte_then o p ≡ Some bytes
    → 2 * length bytes ≡ 2 + k
then_length None p k bytes more e = let z : ◌≡◌ {A = ℕ} 0 1 = cc in absurd (omega arith)
then_length (Some b) None k bytes more e = let z : ◌≡◌ {A = ℕ} 0 1 = cc in absurd (omega arith)
then_length (Some b) (Some bs) k bytes more e =
    let f = more bs refl in
    let same : b ∷ bs ≡ bytes = cc in
    let l = ap length same in
    omega arith

-- they are half as many as its digits
pub length_whole : (text bytes : List ℕ) → bytes_of_hex text ≡ Some bytes → 2 * length bytes ≡ length text
unfolding bytes_of_hex
length_whole [] bytes e = let same : [] ≡ bytes = cc in let l = ap length same in omega arith
length_whole (x ∷ []) bytes e = let z : ◌≡◌ {A = ℕ} 0 1 = cc in absurd (omega arith)
length_whole (x ∷ y ∷ more) bytes e = omega (arith, then_length (hex_byte x y) (bytes_of_hex more) (length more) bytes (λ bs f. length_whole more bs f) e)

module _ (text was : List ℕ) where
  fit : {X : Type 0} (a b : X) → length text / 2 ≤ length was → cond (ltb (length was) (length text / 2)) a b ≡ b
  fit a b h = cond-false (ltb (length was) (length text / 2)) a b (le-ltb (length was) (length text / 2) h)

  not_fit : {X : Type 0} (a b : X) → length was < length text / 2 → cond (ltb (length was) (length text / 2)) a b ≡ a
  not_fit a b h = cond-true (ltb (length was) (length text / 2)) a b (lt-ltb (length was) (length text / 2) h)

  -- what a count says, where the text writes o
  counted : (now : List ℕ) (n : ℕ) (o : Option (List ℕ)) → bytes_of_hex text ≡ o → length text / 2 ≤ length was
      → Some n ≡ option_map length o → now ≡ overlaid (leading_bytes text) was
      → (bytes_of_hex text ≡ Some (take n now)) × (2 * n ≡ length text) × (n ≤ length was)
  unfolding overlaid
  counted now n None e h some is = let z : ◌≡◌ {A = ℕ} 0 1 = cc in absurd (omega arith)
  counted now n (Some bytes) e h some is =
      let l : length bytes ≡ n = cc in
      let w : leading_bytes text ≡ bytes = leading_whole text bytes e in
      let k = length_whole text bytes e in
      let t : take n now ≡ bytes =
      ap (λ x. take n x) (is ∙ ap (λ x. x ++ drop (length x) was) w) ∙ take_at bytes (drop (length bytes) was) n l in
      (e ∙ ap (λ x. Some x) (sym t), omega arith, omega arith)

  -- a count: the text writes the first so many bytes of the buffer
  pub read_some : (now : List ℕ) (n : ℕ)
      → Some n ≡ cond (ltb (length was) (length text / 2)) None (option_map length (bytes_of_hex text))
      → now ≡ cond (ltb (length was) (length text / 2)) was (overlaid (leading_bytes text) was)
      → (bytes_of_hex text ≡ Some (take n now)) × (2 * n ≡ length text) × (n ≤ length was)
  read_some now n some is = elim (cases_lt (length was) (length text / 2)) [
    | inl h ↦ (let e = not_fit None (option_map length (bytes_of_hex text)) h in let z : ◌≡◌ {A = ℕ} 0 1 = cc in absurd (omega arith))
    | inr h ↦ counted now n (bytes_of_hex text) refl h (some ∙ fit None (option_map length (bytes_of_hex text)) h) (is ∙ fit was (overlaid (leading_bytes text) was) h)
  ]

  -- no count: the text writes no bytes, or more than the buffer holds
  pub read_none : None ≡ cond (ltb (length was) (length text / 2)) None (option_map length (bytes_of_hex text))
      → (bytes : List ℕ) → bytes_of_hex text ≡ Some bytes → length was < length bytes
  read_none none bytes e = elim (cases_lt (length was) (length text / 2)) [
    | inl h ↦ omega (arith, length_whole text bytes e)
    | inr h ↦ (let f = fit None (option_map length (bytes_of_hex text)) h in let m = ap (λ o. option_map length o) e in let z : ◌≡◌ {A = ℕ} 0 1 = cc in absurd (omega arith))
  ]

-- an array of k bytes: all of it, where it is filled to its end
pub array_answer : (text now was : List ℕ) (n k : ℕ) → length was ≡ k → length now ≡ k
    → Some n ≡ cond (ltb (length was) (length text / 2)) None (option_map length (bytes_of_hex text))
    → now ≡ cond (ltb (length was) (length text / 2)) was (overlaid (leading_bytes text) was)
    → then_some (eqb n k) now ≡ cond (eqb (length text) (2 * k)) (bytes_of_hex text) None
array_answer text now was n k room same some is =
    let r = read_some text was now n some is in
    elim (cases_Bool (eqb n k)) [
      | inl t ↦ (
          let e = eqb-true n k t in
          let all : take n now ≡ now = take_all n now (omega arith) in
          let full = eq-eqb (length text) (2 * k) (omega (arith, r.1)) in
          rw t (sym (cond-true (eqb (length text) (2 * k)) (bytes_of_hex text) None full ∙ r.0 ∙ ap (λ x. Some x) all)))
      | inr f ↦ (
          let short = ne_eqb (length text) (2 * k) (λ e. eqb-false n k f (omega (arith, r.1))) in
          rw f (sym (cond-false (eqb (length text) (2 * k)) (bytes_of_hex text) None short)))
    ]
