-- What is written of a value is read as it again, and bytes that are read as it are what is written of it.
use Rattle.std.proofs.Common.{◌≡◌, ℕ, ◌^◌, ◌<◌, ◌≤◌, List, [], ◌∷◌, ◌++◌, map, length, Some, Option, sym, ap, subst, arith}
use Rattle.std.specs.List.{range_with_len}
use Rattle.std.proofs.lemmas.List.{take_all}
use Rattle.std.proofs.lemmas.Option.{same_Some}
use Rattle.card.specs.Bytes.{byte}
use Rattle.card.specs.Codec.{RoundTrip}
use Rattle.card.specs.Header.{header_bytes, header_of}
use Rattle.card.specs.Limits.{limits_bytes, limits_of}
use Rattle.card.specs.Purse.{purse_bytes, purse_of}
use Rattle.card.specs.Record.{record_bytes, record_of}
use Rattle.card.specs.declared.header.Header.{Header}
use Rattle.card.specs.declared.limits.Limits.{Limits}
use Rattle.card.specs.declared.purse.Purse.{Purse}
use Rattle.card.specs.declared.record.Record.{Record}
use Rattle.card.proofs.Codes.{life_read, life_written, block_read, block_written, last_read, last_written, kind_read, kind_written}
use Rattle.card.proofs.Steps.{and_then_some, only_if_some}
use Rattle.card.proofs.Words.{listed, word_four, four_word}
use Rattle.card.proofs.Zeros.{zeros}

some_at : {X : Type 0} {x y : X} (P : X → Type 0) → Some x ≡ Some y → P x → P y
some_at {x = x} {y = y} P e = subst P (same_Some x y e)

beside : {xs xs' ys ys' : List ℕ} → xs ≡ xs' → ys ≡ ys' → xs ++ ys ≡ xs' ++ ys'
beside p q = cc

-- both ways; the second need only be shown for bytes that are written out one by one
round_trip : {X : Type 0} (n : ℕ) (write : X → List ℕ) (read : List ℕ → Option X) (x : X) → read (write x) ≡ Some x
    → ((f : ℕ → ℕ) → ((k : ℕ) → f k < 256) → read (map f (range_with_len 0 n)) ≡ Some x → write x ≡ map f (range_with_len 0 n)) → RoundTrip n write read x
round_trip n write read x again back =
    record {
      read_again = again;
      written_again = λ xs b. subst (λ ys. read ys ≡ Some x → write x ≡ ys) (sym (listed xs n b.sized)) (back (byte xs) b.fits);
    }

module _ (h : Header) where
  header_back : (f : ℕ → ℕ) → header_of (map f (range_with_len 0 16)) ≡ Some h → header_bytes h ≡ map f (range_with_len 0 16)
  header_back f e =
      let p = and_then_some _ _ _ e in
      let q = and_then_some _ _ _ p.2 in
      let r = only_if_some _ _ _ q.2 in
      some_at (λ m. header_bytes m ≡ map f (range_with_len 0 16)) r.1
      (beside (ap (λ n. n ∷ []) (life_written _ _ p.1))
      (beside (ap (λ n. n ∷ f 2 ∷ f 3 ∷ f 4 ∷ []) (block_written _ _ q.1))
      (ap (λ zs. zs ++ map f (range_with_len 8 8)) (zeros (map f (range_with_len 5 3)) r.0))))

  pub header_round : length h.idep ≡ 8 → RoundTrip 16 header_bytes header_of h
  header_round e =
      let short : length h.idep ≤ 8 = omega arith in
      round_trip 16 header_bytes header_of h (simp (life_read, block_read, take_all)) (λ f _. header_back f)

module _ (l : Limits) where
  limits_back : (f : ℕ → ℕ) → ((k : ℕ) → f k < 256) → limits_of (map f (range_with_len 0 16)) ≡ Some l → limits_bytes l ≡ map f (range_with_len 0 16)
  limits_back f fits e =
      let p = only_if_some _ _ _ e in
      some_at (λ m. limits_bytes m ≡ map f (range_with_len 0 16)) p.1
      (beside (four_word f fits 0 12) (beside (four_word f fits 4 8) (zeros _ p.0)))

  pub limits_round : l.ceiling < 2 ^ 32 → l.limit < 2 ^ 32 → RoundTrip 16 limits_bytes limits_of l
  limits_round c t = round_trip 16 limits_bytes limits_of l (simp word_four) limits_back

module _ (u : Purse) where
  purse_back : (f : ℕ → ℕ) → ((k : ℕ) → f k < 256) → purse_of (map f (range_with_len 0 16)) ≡ Some u → purse_bytes u ≡ map f (range_with_len 0 16)
  purse_back f fits e =
      let p = and_then_some _ _ _ e in
      let q = only_if_some _ _ _ p.2 in
      some_at (λ m. purse_bytes m ≡ map f (range_with_len 0 16)) q.1
      (beside (four_word f fits 0 12) (beside (four_word f fits 4 8)
      (beside (ap (λ n. f 8 ∷ f 9 ∷ n ∷ []) (last_written _ _ p.1)) (zeros _ q.0))))

  pub purse_round : u.total < 2 ^ 32 → u.nt < 2 ^ 32 → RoundTrip 16 purse_bytes purse_of u
  purse_round t n = round_trip 16 purse_bytes purse_of u (simp (last_read, word_four)) purse_back

-- r with its lists written out
abbrev spelled : Record → Record
spelled r =
    record {
      kind = r.kind;
      nt = r.nt;
      amount = r.amount;
      idsam = map (byte r.idsam) (range_with_len 0 8);
      ntsam = r.ntsam;
      time = map (byte r.time) (range_with_len 0 7);
      total = r.total;
    }

module _ (r : Record) where
  record_back : (f : ℕ → ℕ) → ((k : ℕ) → f k < 256) → record_of (map f (range_with_len 0 32)) ≡ Some r → record_bytes r ≡ map f (range_with_len 0 32)
  record_back f fits e =
      let p = and_then_some _ _ _ e in
      some_at (λ m. record_bytes m ≡ map f (range_with_len 0 32)) p.2
      (beside {ys' = map f (range_with_len 1 31)} (ap (λ n. n ∷ []) (kind_written _ _ p.1))
      (beside (four_word f fits 1 27) (beside (four_word f fits 5 23)
      (ap (λ ys. map f (range_with_len 9 8) ++ ys) (beside (four_word f fits 17 11)
      (ap (λ ys. map f (range_with_len 21 7) ++ ys) (four_word f fits 28 0)))))))

  module _ (idsam-length : length r.idsam ≡ 8) (time-length : length r.time ≡ 7) where
    spelled_same : spelled r ≡ r
    spelled_same =
        let s : map (byte r.idsam) (range_with_len 0 8) ≡ r.idsam = sym (listed r.idsam 8 idsam-length) in
        let d : map (byte r.time) (range_with_len 0 7) ≡ r.time = sym (listed r.time 7 time-length) in
        simp (s, d)

    pub record_round : r.nt < 2 ^ 32 → r.amount < 2 ^ 32 → r.ntsam < 2 ^ 32 → r.total < 2 ^ 32 → RoundTrip 32 record_bytes record_of r
    record_round n a c t =
        round_trip 32 record_bytes record_of r
        (subst (λ m. record_of (record_bytes m) ≡ Some m) spelled_same (simp (kind_read, word_four)))
        record_back
