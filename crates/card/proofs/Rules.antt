-- The card that is worked out page by page is the card of the rule.
use Rattle.std.proofs.Common.{◌≡◌, ℕ, ◌+◌, ◌%◌, ◌<◌, ◌≤◌, Bool, true, cond, ◌&&◌, ◌||◌, eqb, leb, ◌⊎◌, List, length, is_some, Some, None, Option, sym, refl, ap, ◌∙◌, subst, ap₂, inl, inr, ⊎_elim, arith}
use Rattle.std.proofs.lemmas.Bool.Decides.{nat_tests}
use Rattle.std.proofs.lemmas.Bool.{and_from, and_parts, eqb-true, eq-eqb, ne_eqb, leb-true, le-leb, lt-ltb, cases_lt, cond-true}
use Rattle.std.proofs.lemmas.Option.{same_Some}
use Rattle.card.specs.declared.header.LifeCycle.{LifeCycle}
use Rattle.card.specs.declared.header.LifeCycle.TheVariants.{BeforeUse, InUse}
use Rattle.card.specs.declared.header.BlockFlag.{BlockFlag}
use Rattle.card.specs.declared.header.BlockFlag.TheVariants.{Free, Blocked}
use Rattle.card.specs.declared.header.Header.{Header}
use Rattle.card.specs.declared.purse.Purse.{Purse}
use Rattle.card.specs.declared.record.Kind.{Kind}
use Rattle.card.specs.declared.record.Kind.TheVariants.{Ride, Cancel}
use Rattle.card.specs.declared.view.FirstPages.{FirstPages}
use Rattle.card.specs.declared.view.CardView.{CardView}
use Rattle.card.specs.Bytes.{byte, part, all_zero}
use Rattle.card.specs.Options.{only_if}
use Rattle.card.specs.Header.{life_cycle_of, block_flag_of, header_in, header_of}
use Rattle.card.specs.Limits.{limit_in, limits_in}
use Rattle.card.specs.Purse.{last_byte, last_of, total_in, next_in, held_in, last_in, purse_in, newest_slot}
use Rattle.card.specs.Record.{kind_byte, kind_of, record_kind_in, record_amount_in, record_in, record_of}
use Rattle.card.specs.Pages.{Pages, page, slot_bytes}
use Rattle.card.specs.Card.{last_fits, purse_fits, kind_fits, amount_fits, newest_fits, first_pages_of, view_with, with_newest, card_of}
use Rattle.card.specs.Rule.{Zeros, HeaderKept, PurseKept, NewestKept, newest_bytes, IsCard, Decides}
use Rattle.card.proofs.Codes.{last_written, kind_written}
use Rattle.card.proofs.Zeros.{zeros_sound, zeros_complete}
use Rattle.card.proofs.Steps.{and_then_some, only_if_some, and_then_at, some_value}

-- Page 0.
life_either : (b : ℕ) (l : LifeCycle) → life_cycle_of b ≡ Some l → (b ≡ 0x03) ⊎ (b ≡ 0x07)
life_either b BeforeUse e = inl (grind (arith, nat_tests))
life_either b InUse e = inr (grind (arith, nat_tests))

block_either : (b : ℕ) (f : BlockFlag) → block_flag_of b ≡ Some f → (b ≡ 0x00) ⊎ (b ≡ 0x01)
block_either b Free e = inl (grind (arith, nat_tests))
block_either b Blocked e = inr (grind (arith, nat_tests))

life_known : (b : ℕ) → (b ≡ 0x03) ⊎ (b ≡ 0x07) → (l : LifeCycle) × (life_cycle_of b ≡ Some l)
life_known b (inl e) = (BeforeUse, ap life_cycle_of e)
life_known b (inr e) = (InUse, ap life_cycle_of e)

block_known : (b : ℕ) → (b ≡ 0x00) ⊎ (b ≡ 0x01) → (f : BlockFlag) × (block_flag_of b ≡ Some f)
block_known b (inl e) = (Free, ap block_flag_of e)
block_known b (inr e) = (Blocked, ap block_flag_of e)

header_sound : (xs : List ℕ) (h : Header) → header_of xs ≡ Some h → HeaderKept xs
header_sound xs h e =
    let l = and_then_some _ _ _ e in
    let f = and_then_some _ _ _ l.2 in
    let z = only_if_some _ _ _ f.2 in
    record { life = life_either _ _ l.1; block = block_either _ _ f.1; zeros = zeros_sound _ z.0 }

header_complete : (xs : List ℕ) → HeaderKept xs → (h : Header) × (header_of xs ≡ Some h)
header_complete xs k =
    let l = life_known (byte xs 0) k.life in
    let f = block_known (byte xs 1) k.block in (
      header_in xs l.0 f.0,
      and_then_at _ _ _ l.1 ∙ and_then_at _ _ _ f.1 ∙ cond-true _ _ _ (zeros_complete _ k.zeros),
    )

-- Page 2, against page 1.
purse_tests : (total limit next held : ℕ) (x : Bool) → (leb total limit && (leb next 9 && (leb held 10 && ((leb 10 held || eqb next held) && x)))) ≡ true →
    (total ≤ limit) × (next ≤ 9) × (held ≤ 10) × (held < 10 → next ≡ held) × (x ≡ true)
purse_tests total limit next held x e =
    (grind (arith, nat_tests), grind (arith, nat_tests), grind (arith, nat_tests), λ h. grind (arith, nat_tests), grind (arith, nat_tests))

last_none : (b held : ℕ) (l : Option Kind) → last_byte l ≡ b → last_fits held l ≡ true → held ≡ 0 → b ≡ 0x00
last_none b held None e f h = sym e
last_none b held (Some kind) e f h = grind (arith, nat_tests)

last_some : (b held : ℕ) (l : Option Kind) → last_byte l ≡ b → last_fits held l ≡ true → 0 < held → (b ≡ 0x01) ⊎ (b ≡ 0x02)
last_some b held None e f h = absurd (grind (arith, nat_tests))
last_some b held (Some Ride) e f h = inl (sym e)
last_some b held (Some Cancel) e f h = inr (sym e)

purse_sound : (one two : List ℕ) (l : Option Kind) → last_of (last_in two) ≡ Some l → all_zero (part 11 5 two) ≡ true → purse_fits (limits_in one) (purse_in two l) ≡ true → PurseKept one two
purse_sound one two l e z f =
    let t = purse_tests (total_in two) (limit_in one) (next_in two) (held_in two) (last_fits (held_in two) l) f in
    let b = last_written (last_in two) l e in
    record {
      within = t.0;
      next = t.1;
      held = t.2;
      filling = t.3;
      none = last_none (last_in two) (held_in two) l b t.4;
      some = last_some (last_in two) (held_in two) l b t.4;
      zeros = zeros_sound _ z;
    }

last_known : (b held : ℕ) → (held ≡ 0 → b ≡ 0x00) → (0 < held → (b ≡ 0x01) ⊎ (b ≡ 0x02)) → (l : Option Kind) × (last_of b ≡ Some l) × (last_fits held l ≡ true)
last_known b held n s = ⊎_elim filled empty (cases_lt 0 held) where
  empty : held ≤ 0 → (l : Option Kind) × (last_of b ≡ Some l) × (last_fits held l ≡ true)
  empty h = let z : held ≡ 0 = omega arith in (None, ap last_of (n z), eq-eqb held 0 z)

  filled : 0 < held → (l : Option Kind) × (last_of b ≡ Some l) × (last_fits held l ≡ true)
  filled h = ⊎_elim (λ e. (Some Ride, ap last_of e, lt-ltb 0 held h)) (λ e. (Some Cancel, ap last_of e, lt-ltb 0 held h)) (s h)

filling_test : (next held : ℕ) → (held < 10 → next ≡ held) → (leb 10 held || eqb next held) ≡ true
filling_test next held f = ⊎_elim (λ h. let e = eq-eqb next held (f h) in grind (arith, nat_tests)) (λ h. grind (arith, nat_tests)) (cases_lt held 10)

purse_complete : (one two : List ℕ) → PurseKept one two → (l : Option Kind) × (last_of (last_in two) ≡ Some l) × (purse_fits (limits_in one) (purse_in two l) ≡ true)
purse_complete one two k =
    let l = last_known (last_in two) (held_in two) k.none k.some in (
      l.0,
      l.1,
      and_from _ _ (le-leb _ _ k.within)
          (and_from _ _ (le-leb _ _ k.next)
          (and_from _ _ (le-leb _ _ k.held)
          (and_from _ _ (filling_test (next_in two) (held_in two) k.filling) l.2))),
    )

-- The newest record.
newest_kinds : (b : ℕ) (l : Option Kind) (k : Kind) → last_byte l ≡ b → kind_fits l k ≡ true → (b ≡ 0x01 → kind_byte k ≡ 0x20) × (b ≡ 0x02 → kind_byte k ≡ 0x22)
newest_kinds b None k e f = absurd (grind arith)
newest_kinds b (Some Ride) Ride e f = (λ _. refl, λ h. grind arith)
newest_kinds b (Some Ride) Cancel e f = absurd (grind arith)
newest_kinds b (Some Cancel) Ride e f = absurd (grind arith)
newest_kinds b (Some Cancel) Cancel e f = (λ h. grind arith, λ _. refl)

newest_amount : (b amount total : ℕ) (l : Option Kind) → last_byte l ≡ b → amount_fits l amount total ≡ true → b ≡ 0x01 → amount ≤ total
newest_amount b amount total None e f h = grind arith
newest_amount b amount total (Some Ride) e f h = leb-true amount total f
newest_amount b amount total (Some Cancel) e f h = grind arith

newest_sound : (two xs : List ℕ) (l : Option Kind) (k : Kind) → last_byte l ≡ last_in two → kind_of (record_kind_in xs) ≡ Some k → newest_fits (purse_in two l) (record_in xs k) ≡ true → NewestKept two xs
newest_sound two xs l k b e f =
    let p = and_parts _ _ f in
    let q = and_parts _ _ p.1 in
    let r = and_parts _ _ q.1 in
    let c = kind_written (record_kind_in xs) k e in
    let n = newest_kinds (last_in two) l k b p.0 in
    record {
      ride = λ h. sym c ∙ n.0 h;
      cancel = λ h. sym c ∙ n.1 h;
      total = eqb-true _ _ q.0;
      nt = leb-true _ _ r.0;
      amount = newest_amount (last_in two) (record_amount_in xs) (total_in two) l b r.1;
    }

newest_known : (b c amount total : ℕ) (l : Option Kind) → last_byte l ≡ b → (b ≡ 0x01) ⊎ (b ≡ 0x02) → (b ≡ 0x01 → c ≡ 0x20) → (b ≡ 0x02 → c ≡ 0x22) → (b ≡ 0x01 → amount ≤ total) →
    (k : Kind) × (kind_of c ≡ Some k) × (kind_fits l k ≡ true) × (amount_fits l amount total ≡ true)
newest_known b c amount total None e (inl h) r x a = absurd (omega arith)
newest_known b c amount total None e (inr h) r x a = absurd (omega arith)
newest_known b c amount total (Some Ride) e s r x a = (Ride, ap kind_of (r (sym e)), refl, le-leb amount total (a (sym e)))
newest_known b c amount total (Some Cancel) e s r x a = (Cancel, ap kind_of (x (sym e)), refl, refl)

newest_complete : (two xs : List ℕ) (l : Option Kind) → last_byte l ≡ last_in two → (last_in two ≡ 0x01) ⊎ (last_in two ≡ 0x02) → NewestKept two xs →
    (k : Kind) × (kind_of (record_kind_in xs) ≡ Some k) × (newest_fits (purse_in two l) (record_in xs k) ≡ true)
newest_complete two xs l b s n =
    let k = newest_known (last_in two) (record_kind_in xs) (record_amount_in xs) (total_in two) l b s n.ride n.cancel n.amount in
    (k.0, k.1, and_from _ _ k.2 (and_from _ _ (eq-eqb _ _ n.total) (and_from _ _ (le-leb _ _ n.nt) k.3)))

-- The card.
-- what pages 0, 1, 2 and 11 had to keep, and what was read of page 2
record FirstKept (first one two eleven : List ℕ) (f : FirstPages) : Type 0 where
  header : HeaderKept first
  limits : Zeros (part 8 8 one)
  purse : PurseKept one two
  unused : Zeros eleven
  last : Option Kind
  code : last_byte last ≡ last_in two
  is : f.purse ≡ purse_in two last

first_sound : (first one two eleven : List ℕ) (f : FirstPages) → first_pages_of first one two eleven ≡ Some f → FirstKept first one two eleven f
first_sound first one two eleven f e =
    let h = and_then_some _ _ _ e in
    let l = and_then_some _ _ _ h.2 in
    let z = only_if_some _ _ _ l.1 in
    let u = and_then_some _ _ _ l.2 in
    let t = and_then_some _ _ _ u.1 in
    let y = only_if_some _ _ _ t.2 in
    let r = only_if_some _ _ _ u.2 in
    let p = only_if_some _ _ _ r.1 in
    let one_is : limits_in one ≡ l.0 = same_Some _ _ z.1 in
    let two_is : purse_in two t.0 ≡ u.0 = same_Some _ _ y.1 in
    let fits : purse_fits (limits_in one) (purse_in two t.0) ≡ true = ap₂ purse_fits one_is two_is ∙ p.0 in
    let f_is = same_Some _ _ p.1 in
    record {
      header = header_sound first h.0 h.1;
      limits = zeros_sound _ z.0;
      purse = purse_sound one two t.0 t.1 y.0 fits;
      unused = zeros_sound _ r.0;
      last = t.0;
      code = last_written _ _ t.1;
      is = ap (λ (g : FirstPages). g.purse) (sym f_is) ∙ sym two_is;
    }

first_complete : (first one two eleven : List ℕ) → HeaderKept first → Zeros (part 8 8 one) → PurseKept one two → Zeros eleven →
    (f : FirstPages) × (first_pages_of first one two eleven ≡ Some f) × ((l : Option Kind) × (last_byte l ≡ last_in two) × (f.purse ≡ purse_in two l))
first_complete first one two eleven h z u r =
    let x = header_complete first h in
    let l = purse_complete one two u in (
      record { header = x.0; limits = limits_in one; purse = purse_in two l.0 },
      and_then_at _ _ _ x.1
          ∙ and_then_at _ _ (limits_in one) (cond-true _ _ _ (zeros_complete _ z))
          ∙ and_then_at _ _ (purse_in two l.0) (and_then_at _ _ _ l.1 ∙ cond-true _ _ _ (zeros_complete _ u.zeros))
          ∙ cond-true _ _ _ (zeros_complete _ r)
          ∙ cond-true _ _ _ l.2,
      (l.0, last_written _ _ l.1, refl),
    )

-- the newest slot, where something is held and where nothing is
slot_held : (u : Purse) → 0 < u.held → newest_slot u ≡ Some ((u.next + 9) % 10)
slot_held u h = ap (λ b. cond b None (Some ((u.next + 9) % 10))) (ne_eqb u.held 0 (λ e. omega arith))

slot_none : (u : Purse) → u.held ≡ 0 → newest_slot u ≡ None
slot_none u h = ap (λ b. cond b None (Some ((u.next + 9) % 10))) (eq-eqb u.held 0 h)

pub card_sound : (p : Pages) (v : CardView) → card_of p ≡ Some v → IsCard p
card_sound p v e =
    let n = only_if_some _ _ _ e in
    let f = and_then_some _ _ _ n.1 in
    let k = first_sound (page p 0) (page p 1) (page p 2) (page p 11) f.0 f.1 in
    let two : List ℕ = page p 2 in
    let newest : 0 < held_in two → NewestKept two (newest_bytes p) = λ h.
    let slot : newest_slot f.0.purse ≡ Some ((next_in two + 9) % 10) = rw k.is (slot_held (purse_in two k.last) h) in
    let w : with_newest (Some ((next_in two + 9) % 10)) f.0 p ≡ Some v = ap (λ o. with_newest o f.0 p) (sym slot) ∙ f.2 in
    let r = and_then_some _ _ _ w in
    let q = and_then_some _ _ _ r.1 in
    let t = only_if_some _ _ _ r.2 in
    let r_is : record_in (newest_bytes p) q.0 ≡ r.0 = same_Some _ _ q.2 in
    let fits : newest_fits (purse_in two k.last) (record_in (newest_bytes p) q.0) ≡ true = ap₂ newest_fits (sym k.is) r_is ∙ t.0 in
    newest_sound two (newest_bytes p) k.last q.0 k.code q.1 fits in
    record { room = leb-true _ _ n.0; header = k.header; limits = k.limits; purse = k.purse; unused = k.unused; newest = newest }

pub card_complete : (p : Pages) → IsCard p → is_some (card_of p) ≡ true
card_complete p c =
    let two : List ℕ = page p 2 in
    let f = first_complete (page p 0) (page p 1) (page p 2) (page p 11) c.header c.limits c.purse c.unused in
    let l : Option Kind = f.2.0 in
    let is : f.0.purse ≡ purse_in two l = f.2.2 in
    let start : card_of p ≡ with_newest (newest_slot f.0.purse) f.0 p = cond-true _ _ _ (le-leb _ _ c.room) ∙ and_then_at _ _ _ f.1 in
    let held : 0 < held_in two → is_some (card_of p) ≡ true = λ h.
    let slot : newest_slot f.0.purse ≡ Some ((next_in two + 9) % 10) = rw is (slot_held (purse_in two l) h) in
    let k = newest_complete two (newest_bytes p) l f.2.1 (c.purse.some h) (c.newest h) in
    let fits : newest_fits f.0.purse (record_in (newest_bytes p) k.0) ≡ true = rw is k.2 in
    ap is_some (start ∙ ap (λ o. with_newest o f.0 p) slot ∙ and_then_at _ _ (record_in (newest_bytes p) k.0) (and_then_at _ _ _ k.1) ∙ cond-true _ _ _ fits) in
    let empty : held_in two ≤ 0 → is_some (card_of p) ≡ true = λ h.
    let slot : newest_slot f.0.purse ≡ None = rw is (slot_none (purse_in two l) (omega arith)) in
    ap is_some (start ∙ ap (λ o. with_newest o f.0 p) slot) in
    ⊎_elim held empty (cases_lt 0 (held_in two))

decides : (p : Pages) → Decides (is_some (card_of p)) (IsCard p)
decides p = record { sound = λ e. let v = some_value (card_of p) e in card_sound p v.0 v.1; complete = card_complete p }

-- the answer of a call that gives the card
pub card_decides : (p : Pages) (r : Option CardView) → r ≡ card_of p → Decides (is_some r) (IsCard p)
card_decides p r e = let P : Option CardView → Type 0 = λ o. Decides (is_some o) (IsCard p) in subst P (sym e) (decides p)

-- the answer of a call that read the first pages
pub read_decides : (p : Pages) (f : FirstPages) (r : Option CardView) → 32 ≤ length p → first_pages_of (page p 0) (page p 1) (page p 2) (page p 11) ≡ Some f → r ≡ with_newest (newest_slot f.purse) f p → Decides (is_some r) (IsCard p)
read_decides p f r room e is = card_decides p r (is ∙ sym (cond-true _ _ _ (le-leb _ _ room) ∙ and_then_at _ _ _ e))

-- what a card is read to hold is what page 2 says
newest_purse : (o : Option ℕ) (f : FirstPages) (p : Pages) (v : CardView) → with_newest o f p ≡ Some v → f.purse ≡ v.purse
newest_purse None f p v e = ap (λ (w : CardView). w.purse) (same_Some (view_with f None) v e)
newest_purse (Some s) f p v e =
    let r = and_then_some (record_of (slot_bytes p s)) (λ x. only_if (newest_fits f.purse x) (Some (view_with f (Some x)))) v e in
    let t = only_if_some (newest_fits f.purse r.0) (Some (view_with f (Some r.0))) v r.2 in
    ap (λ (w : CardView). w.purse) (same_Some (view_with f (Some r.0)) v t.1)

pub card_held : (p : Pages) (v : CardView) → card_of p ≡ Some v → v.purse.held ≡ held_in (page p 2)
card_held p v e =
    let n = only_if_some _ _ _ e in
    let f = and_then_some _ _ _ n.1 in
    let k = first_sound (page p 0) (page p 1) (page p 2) (page p 11) f.0 f.1 in
    ap (λ (u : Purse). u.held) (sym (newest_purse _ f.0 p v f.2) ∙ k.is)
