-- Laws of the plan of issue.
use Rattle.std.proofs.Common.{◌≡◌, ℕ, zero, suc, ◌+◌, ◌/◌, ◌<◌, ◌≤◌, Bool, true, false, cond, not, ltb, List, ◌++◌, map, length, get_or, take, drop, set, replicate, is_ok, Ok, Err, Result, sym, refl, ap, ◌∙◌, arith}
use Rattle.std.proofs.lemmas.Bool.{ltb-false}
use Rattle.std.proofs.lemmas.Bool.Decides.{nat_tests}
use Rattle.std.proofs.lemmas.Grind.{common_steps}
use Rattle.std.proofs.lemmas.List.{take_more_set, drop-set-lt}
use Rattle.std.specs.Array.{IsFromFnResultFrom}
use Rattle.std.specs.Fn.{Called}
use Rattle.std.specs.List.{range_with_len}
use denote.Param.Members.{Mut}
use Rattle.memory.proofs.FromFn.{from_fn_all}
use Rattle.memory.specs.declared.fault.Fault.{Fault}
use Rattle.memory.specs.declared.fault.Fault.TheVariants.{Worn}
use Rattle.memory.specs.declared.plan.PageWrite.{PageWrite}
use Rattle.memory.specs.ImagePages.{page_at, pages_of}
use Rattle.memory.specs.Plan.{Above, Rising, Off, plan_answer, written, PlanWritten}
use Rattle.card.specs.declared.host.HostRefusal.{HostRefusal}
use Rattle.card.specs.declared.host.HostRefusal.TheVariants.{TooFewPages, WrongRecord, WornPage}
use Rattle.card.specs.Calls.{fault_refusal, any_worn, issue_answer, IssueTaken}
use Rattle.card.specs.Issue.{issued, issuable, Issuable}
use Rattle.card.specs.Rule.{IsCard, Decides}
use Rattle.card.proofs.Issues.{issued_card, issue_decides as record_decides}
use Rattle.engine.specs.Plan.{issue_page, issue_write, issue_plan}

-- what `from_fn` makes, where its closure stays as it is and gives v of each index
pub from_fn_gave : {F B : Type 0} (g : Mut F (ℕ × Unit {0}) B) (v : ℕ → B) (f : F) → ((i : ℕ) (y : B) (f' : F) → Called g f (i, tt) y f' → (y ≡ v i) × (f' ≡ f))
    → (ys : List B) (i n : ℕ) → IsFromFnResultFrom g f ys i n → (k : ℕ) (d : B) → i ≤ k → k < i + n → get_or ys k d ≡ v k
from_fn_gave g v f call = from_fn_all g (λ i y. y ≡ v i) f call

-- each page once, lowest first
above_run : (s : List ℕ) (a n k : ℕ) → k < a → Above k (map (issue_write s) (range_with_len a n))
above_run s a zero k h = tt
above_run s a (suc n) k h = (h, above_run s (a + 1) n a (omega arith))

pub issue_rising : (s : List ℕ) → Rising (issue_plan s)
unfolding issue_plan
issue_rising s = above_run s 1 31 0 (omega arith)

off_run : (s : List ℕ) (a n k : ℕ) → a + n ≤ k → Off (map (issue_write s) (range_with_len a n)) k
off_run s a zero k h = tt
off_run s a (suc n) k h = (λ e. omega arith, off_run s (a + 1) n k (omega arith))

issue_off : (s : List ℕ) (k : ℕ) → 32 ≤ k → Off (issue_plan s) k
unfolding issue_plan
issue_off s k h = off_run s 0 32 k (omega arith)

-- its answer is that of the marks
answer_run : (s : List ℕ) (m : ℕ) (w : ℕ → Bool) (a n : ℕ) → a + n ≤ m → plan_answer m w (map (issue_write s) (range_with_len a n)) ≡ cond (any_worn w (range_with_len a n)) (Err Worn) (Ok tt)
answer_run s m w a zero h = refl
answer_run s m w a (suc n) h = grind (arith, nat_tests, answer_run s m w (a + 1) n)

pub issue_marks : (s : List ℕ) (m : ℕ) (w : ℕ → Bool) → 32 ≤ m → plan_answer m w (issue_plan s) ≡ cond (any_worn w (range_with_len 0 32)) (Err Worn) (Ok tt)
unfolding issue_plan
issue_marks s m w h = answer_run s m w 0 32 (omega arith)

-- the pages that it leaves
written_run : (s : List ℕ) (a n : ℕ) (ps : List (List ℕ)) → a + n ≤ length ps
    → written (map (issue_write s) (range_with_len a n)) ps ≡ take a ps ++ (map (issue_page s) (range_with_len a n) ++ drop (a + n) ps)
written_run s a zero ps h = grind (arith, common_steps)
written_run s a (suc n) ps h = grind (arith, common_steps, written_run s (a + 1) n (set ps a (issue_page s a)), take_more_set ps a (issue_page s a), drop-set-lt (a + 1 + n) ps a (issue_page s a))

issue_written : (s : List ℕ) (ps : List (List ℕ)) → length s ≡ 192 → 32 ≤ length ps → written (issue_plan s) ps ≡ issued s ps
unfolding issue_plan issued pages_of
issue_written s ps size h =
    let e : length s / 16 ≡ 12 = omega arith in
    written_run s 0 32 ps h
    ∙ sym (ap (λ n. map (page_at s) (range_with_len 0 n) ++ (replicate 20 (replicate 16 0) ++ drop 32 ps)) e)

-- what a plan's answer is to the host
abbrev pub to_host : Result (Unit {0}) Fault → Result (Unit {0}) HostRefusal
to_host (Ok done) = Ok done
to_host (Err fault) = Err (fault_refusal fault)

-- past the first two refusals
reached : (n : ℕ) (w : ℕ → Bool) (s : List ℕ) → 32 ≤ n → issuable s ≡ true → cond (any_worn w (range_with_len 0 32)) (Err WornPage) (Ok tt) ≡ issue_answer n w s
reached n w s h f = grind (arith, nat_tests)

-- issue takes no record of another length
pub wrong_size : (s : List ℕ) → (length s ≡ 192 → ⊥) → issuable s ≡ false
wrong_size s ne = grind (arith, (record_decides s (issuable s) refl).sound)

-- the answer decides whether issue takes the record
none_worn : (w : ℕ → Bool) (a n : ℕ) → any_worn w (range_with_len a n) ≡ false → (k : ℕ) → a ≤ k → k < a + n → w k ≡ false
none_worn w a zero e k l h = absurd (omega arith)
none_worn w a (suc n) e k l h = grind (arith, none_worn w (a + 1) n)

all_writable : (w : ℕ → Bool) (a n : ℕ) → ((k : ℕ) → k < a + n → w k ≡ false) → any_worn w (range_with_len a n) ≡ false
all_writable w a zero f = refl
all_writable w a (suc n) f = grind (arith, f a, all_writable w (a + 1) n (λ k h. f k (omega arith)))

-- where `issue_answer` is that it is done, none of its three tests refuses
taken_parts : (few fits worn : Bool) (r : Result (Unit {0}) HostRefusal) → r ≡ cond few (Err TooFewPages) (cond (not fits) (Err WrongRecord) (cond worn (Err WornPage) (Ok tt)))
    → is_ok r ≡ true → (few ≡ false) × (fits ≡ true) × (worn ≡ false)
taken_parts few fits worn r e ok = grind arith

pub issue_decides : (n : ℕ) (w : ℕ → Bool) (s : List ℕ) (r : Result (Unit {0}) HostRefusal) → r ≡ issue_answer n w s → Decides (is_ok r) (IssueTaken n w s)
issue_decides n w s r e =
    let rule = record_decides s (issuable s) refl in
    record {
      sound = λ ok.
          let p = taken_parts (ltb n 32) (issuable s) (any_worn w (range_with_len 0 32)) r e ok in
          record { room = ltb-false n 32 p.0; fits = rule.sound p.1; writable = λ k h. none_worn w 0 32 p.2 k (omega arith) (omega arith) };
      complete = λ k. grind (arith, e, reached n w s k.room (rule.complete k.fits), all_writable w 0 32 k.writable);
    }

-- what is known where the plan is written: there is room, issue takes the record, and the plan is that of issue
pub record Ready (s : List ℕ) (ps : List (List ℕ)) (plan : List PageWrite) : Type 0 where
  pub room : 32 ≤ length ps
  pub fits : issuable s ≡ true
  pub same : plan ≡ issue_plan s

-- what writing the plan comes to
module _ {s : List ℕ} {ps ps' : List (List ℕ)} {w w' : ℕ → Bool} {plan : List PageWrite} {r : Result (Unit {0}) Fault} (ready : Ready s ps plan) (done : PlanWritten ps w plan r ps' w') where
  planned : PlanWritten ps w (issue_plan s) r ps' w'
  planned = rw (← ready.same) done

  pub issue_told : to_host r ≡ issue_answer (length ps) w s
  issue_told = grind (arith, planned.answer, issue_marks s (length ps) w ready.room, reached (length ps) w s ready.room ready.fits)

  pub issue_above : (k : ℕ) → 32 ≤ k → w' k ≡ w k
  issue_above k h = planned.others k (issue_off s k h)

  taken : Issuable s
  taken = (record_decides s (issuable s) refl).sound ready.fits

  pub issue_pages : r ≡ Ok tt → ps' ≡ issued s ps
  issue_pages ok = grind (arith, planned.bytes, issue_written s ps taken.size ready.room)

  pub issue_card : r ≡ Ok tt → IsCard ps'
  issue_card ok = rw (issue_pages ok) (issued_card s ps taken)
