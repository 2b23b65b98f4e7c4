-- Writing and reading hexadecimal undo each other.
use Rattle.std.proofs.Common.{◌≡◌, ℕ, suc, ◌+◌, ◌-◌, ◌*◌, ◌/◌, ◌%◌, ◌<◌, ◌≤◌, false, ◌&&◌, ltb, leb, List, [], ◌∷◌, Some, None, Option, sym, refl, ap, ◌∙◌, ap₂, inl, inr, arith}
use Rattle.std.proofs.lemmas.Bool.{cases_lt, cases_Bool, lt-ltb, le-ltb, le-leb, lt-leb, leb-true, and_from, and_parts, and_right, cond-true, cond-false}
use Rattle.text.specs.Hex.{hex_digit, hex_of, hex_value, hex_byte, byte_from, byte_then, bytes_of_hex, WrittenRead, ReadWritten}

-- the digits 0 to 9
low_value : (c : ℕ) → 48 ≤ c → c ≤ 57 → hex_value c ≡ Some (c - 48)
low_value c a b = cond-true (leb 48 c && leb c 57) _ _ (and_from _ _ (le-leb 48 c a) (le-leb c 57 b))

-- the digits A to F
high_value : (c : ℕ) → 65 ≤ c → c ≤ 70 → hex_value c ≡ Some (c - 55)
high_value c a b =
    cond-false (leb 48 c && leb c 57) _ _ (and_right _ _ (lt-leb c 57 (omega arith)))
    ∙ cond-true (leb 65 c && leb c 70) _ _ (and_from _ _ (le-leb 65 c a) (le-leb c 70 b))

-- below, between and above them there is no digit
no_value : (c : ℕ) → (leb 48 c && leb c 57) ≡ false → (leb 65 c && leb c 70) ≡ false → hex_value c ≡ None
no_value c a b = cond-false (leb 48 c && leb c 57) _ _ a ∙ cond-false (leb 65 c && leb c 70) _ _ b

digit_read : (n : ℕ) → n < 16 → hex_value (hex_digit n) ≡ Some n
digit_read n h = elim (cases_lt n 10) [
  | inl l ↦ (let e : 48 + n - 48 ≡ n = omega arith in
      ap hex_value (cond-true (ltb n 10) (48 + n) (55 + n) (lt-ltb n 10 l)) ∙ low_value (48 + n) (omega arith) (omega arith) ∙ ap (λ k. Some k) e)
  | inr l ↦ (let e : 55 + n - 55 ≡ n = omega arith in
      ap hex_value (cond-false (ltb n 10) (48 + n) (55 + n) (le-ltb n 10 l)) ∙ high_value (55 + n) (omega arith) (omega arith) ∙ ap (λ k. Some k) e)
]

byte_read : (b : ℕ) → b < 256 → hex_byte (hex_digit (b / 16)) (hex_digit (b % 16)) ≡ Some b
byte_read b h =
    let e : b / 16 * 16 + b % 16 ≡ b = omega arith in
    ap₂ byte_from (digit_read (b / 16) (omega arith)) (digit_read (b % 16) (omega arith)) ∙ ap (λ k. Some k) e

pub written_read : WrittenRead
unfolding bytes_of_hex
written_read [] h = refl
written_read (b ∷ bs) h = ap₂ byte_then (byte_read b (h 0)) (written_read bs (λ k. h (suc k)))

-- the digit that reads as n is the one that is written for n
digit_written : (c n : ℕ) → hex_value c ≡ Some n → (hex_digit n ≡ c) × (n < 16)
digit_written c n e = elim (cases_Bool (leb 48 c && leb c 57)) [
  | inl t ↦ (
      let p = and_parts (leb 48 c) (leb c 57) t in
      let a = leb-true 48 c p.0 in
      let b = leb-true c 57 p.1 in
      let v = low_value c a b in
      let m : n ≡ c - 48 = cc in
      (cond-true (ltb n 10) (48 + n) (55 + n) (lt-ltb n 10 (omega arith)) ∙ omega arith, omega arith))
  | inr f ↦ elim (cases_Bool (leb 65 c && leb c 70)) [
    | inl t ↦ (
        let p = and_parts (leb 65 c) (leb c 70) t in
        let a = leb-true 65 c p.0 in
        let b = leb-true c 70 p.1 in
        let v = high_value c a b in
        let m : n ≡ c - 55 = cc in
        (cond-false (ltb n 10) (48 + n) (55 + n) (le-ltb n 10 (omega arith)) ∙ omega arith, omega arith))
    | inr g ↦ (let v = no_value c f g in let z : ◌≡◌ {A = ℕ} 0 1 = cc in absurd (omega arith))
  ]
]

-- the two digits, where their values are o and p
digits_written : (high low b : ℕ) (o p : Option ℕ) → hex_value high ≡ o → hex_value low ≡ p → byte_from o p ≡ Some b
    → (hex_digit (b / 16) ≡ high) × (hex_digit (b % 16) ≡ low)
digits_written high low b None p eh el e = let z : ◌≡◌ {A = ℕ} 0 1 = cc in absurd (omega arith)
digits_written high low b (Some h) None eh el e = let z : ◌≡◌ {A = ℕ} 0 1 = cc in absurd (omega arith)
digits_written high low b (Some h) (Some l) eh el e =
    let dh = digit_written high h eh in
    let dl = digit_written low l el in
    let m : h * 16 + l ≡ b = cc in
    let q : b / 16 ≡ h = omega arith in
    let r : b % 16 ≡ l = omega arith in
    (ap hex_digit q ∙ dh.0, ap hex_digit r ∙ dl.0)

-- the text of a pair and more, where the pair reads as o and the rest as p
pair_written : (high low : ℕ) (more bytes : List ℕ) (o : Option ℕ) (p : Option (List ℕ)) → hex_byte high low ≡ o
    → ((bs : List ℕ) → p ≡ Some bs → hex_of bs ≡ more) → byte_then o p ≡ Some bytes → hex_of bytes ≡ high ∷ low ∷ more
pair_written high low more bytes None p eo f e = let z : ◌≡◌ {A = ℕ} 0 1 = cc in absurd (omega arith)
pair_written high low more bytes (Some b) None eo f e = let z : ◌≡◌ {A = ℕ} 0 1 = cc in absurd (omega arith)
pair_written high low more bytes (Some b) (Some bs) eo f e =
    let same : b ∷ bs ≡ bytes = cc in
    let d = digits_written high low b (hex_value high) (hex_value low) refl refl eo in
    ap hex_of (sym same) ∙ rw (d.0, d.1, f bs refl)

pub read_written : ReadWritten
unfolding bytes_of_hex
read_written [] bytes e = let same : [] ≡ bytes = cc in ap hex_of (sym same)
read_written (x ∷ []) bytes e = let z : ◌≡◌ {A = ℕ} 0 1 = cc in absurd (omega arith)
read_written (x ∷ y ∷ more) bytes e = pair_written x y more bytes (hex_byte x y) (bytes_of_hex more) refl (λ bs f. read_written more bs f) e
