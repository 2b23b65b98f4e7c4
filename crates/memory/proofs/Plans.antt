-- Laws of plans: what they answer, and what the writes of their entries, one after the other, come to.
use Rattle.std.proofs.Common.{◌≡◌, ℕ, zero, suc, ◌+◌, ◌<◌, ◌≤◌, Bool, List, [], ◌∷◌, length, get_or, drop, set, Ok, Result, sym, refl, ◌∙◌, add-one, arith}
use Rattle.std.proofs.lemmas.List.{at_drop_more, at_drop_all, length-set}
use Rattle.std.proofs.lemmas.Grind.{common_steps}
use Rattle.std.proofs.lemmas.Bool.Decides.{nat_tests}
use Rattle.memory.specs.declared.fault.Fault.{Fault}
use Rattle.memory.specs.declared.plan.PageWrite.{PageWrite}
use Rattle.memory.specs.Pages.{write_answer, Written}
use Rattle.memory.specs.Plan.{Above, Rising, Off, plan_answer, written, planned, Placed}

-- the plan names no page twice
abbrev pub Apart : List PageWrite → Type 0
Apart [] = Unit {0}
Apart (e ∷ es) = Off es e.page × Apart es

-- A rising plan has no page twice.
above_off : (n k : ℕ) (es : List PageWrite) → k ≤ n → Above n es → Off es k
above_off n k [] h a = tt
above_off n k (e ∷ es) h a = (λ same. omega (arith, a.0), above_off e.page k es (omega (arith, a.0)) a.1)

rising_rest : (e : PageWrite) (es : List PageWrite) → Rising (e ∷ es) → Rising es
rising_rest e [] a = tt
rising_rest e (f ∷ es) a = a.1

pub rising_apart : (es : List PageWrite) → Rising es → Apart es
rising_apart [] a = tt
rising_apart (e ∷ es) a = (above_off e.page e.page es (omega arith) a, rising_apart es (rising_rest e es a))

-- what stands past a plan's end
abbrev pub no_write : PageWrite
no_write = record { page = 0; bytes = [] }

-- entry i of a plan
abbrev entry_at : List PageWrite → ℕ → PageWrite
entry_at es i = get_or es i no_write

abbrev Answer : Type 0
Answer = Result (Unit {0}) Fault

-- where the entries of a plan from i on can all be written, entry i can, and the others can
answer_done : (n : ℕ) (w : ℕ → Bool) (es : List PageWrite) (i : ℕ) → i < length es → plan_answer n w (drop i es) ≡ Ok tt
    → (write_answer n w (entry_at es i).page ≡ Ok tt) × (plan_answer n w (drop (i + 1) es) ≡ Ok tt)
answer_done n w es i h e = grind (arith, at_drop_more (plan_answer n w) es i no_write h)

-- a plan's answer is the same where only the mark of a page changed that the plan does not name
answer_same : (n : ℕ) (w w' : ℕ → Bool) (p : ℕ) (es : List PageWrite) → ((k : ℕ) → (k ≡ p → ⊥) → w' k ≡ w k) → Off es p → plan_answer n w' es ≡ plan_answer n w es
answer_same n w w' p [] f off = refl
answer_same n w w' p (e ∷ es) f (ne, off) = grind (arith, f e.page ne, answer_same n w w' p es f off)

-- an entry's page is not one that the plan does not name
off_at : (es : List PageWrite) (k i : ℕ) → i < length es → Off es k → (entry_at es i).page ≡ k → ⊥
off_at [] k i h off = absurd (omega arith)
off_at (e ∷ es) k zero h off = off.0
off_at (e ∷ es) k (suc i) h off = off_at es k i (omega arith) off.1

-- where no page comes twice, the entries past entry i do not name its page
apart_suc : (es : List PageWrite) (i : ℕ) → i < length es → Apart es → Off (drop (suc i) es) (entry_at es i).page
apart_suc [] i h a = absurd (omega arith)
apart_suc (e ∷ es) zero h a = a.0
apart_suc (e ∷ es) (suc i) h a = apart_suc es i (omega arith) a.1

apart_at : (es : List PageWrite) (i : ℕ) → i < length es → Apart es → Off (drop (i + 1) es) (entry_at es i).page
apart_at es i h a = rw add-one (apart_suc es i h a)

-- a plan has nothing for a page that it does not name
planned_off : (es : List PageWrite) (k : ℕ) (old : List ℕ) → Off es k → planned es k old ≡ old
planned_off [] k old off = refl
planned_off (e ∷ es) k old off = grind (arith, nat_tests, off.0, planned_off es k old off.1)

pub length-written : (es : List PageWrite) (ps : List (List ℕ)) → length (written es ps) ≡ length ps
length-written [] ps = refl
length-written (e ∷ es) ps = grind (arith, length-written es (set ps e.page e.bytes), length-set ps e.page e.bytes)

-- the writes one after the other leave in each page the bytes that the plan has for it
pub get_or-written : (es : List PageWrite) (ps : List (List ℕ)) → Apart es → (k : ℕ) → k < length ps → get_or (written es ps) k [] ≡ planned es k (get_or ps k [])
get_or-written [] ps apart k h = refl
get_or-written (e ∷ es) ps apart k h =
    grind (arith, nat_tests, common_steps, get_or-written es (set ps e.page e.bytes) apart.1 k, planned_off es k e.bytes, apart.0)

-- The first i entries of a plan are written, and the others can be: ps and worn, the pages and the marks at first, are now ps' and worn'.
pub record Partway (ps : List (List ℕ)) (worn : ℕ → Bool) (plan : List PageWrite) (i : ℕ) (ps' : List (List ℕ)) (worn' : ℕ → Bool) : Type 0 where
  pub within : i ≤ length plan
  -- every page of the plan was open at first
  pub allowed : plan_answer (length ps) worn plan ≡ Ok tt
  -- those of the entries from i on still are
  pub ready : plan_answer (length ps') worn' (drop i plan) ≡ Ok tt
  -- the entries from i on make of these pages what the whole plan makes of the first ones
  pub ahead : written (drop i plan) ps' ≡ written plan ps
  -- the mark of a page that the plan does not name is as at first
  pub others : (k : ℕ) → Off plan k → worn' k ≡ worn k

-- entry i is written next
module _ {ps ps' ps'' : List (List ℕ)} {w w' w'' : ℕ → Bool} {r : Answer} (plan : List PageWrite) (i : ℕ) (rising : Rising plan) (h : i < length plan) (so_far : Partway ps w plan i ps' w') (one : Written ps' w' (entry_at plan i).page (entry_at plan i).bytes r ps'' w'') where
  open_here : (write_answer (length ps') w' (entry_at plan i).page ≡ Ok tt) × (plan_answer (length ps') w' (drop (i + 1) plan) ≡ Ok tt)
  open_here = answer_done (length ps') w' plan i h so_far.ready

  step_bytes : ps'' ≡ set ps' (entry_at plan i).page (entry_at plan i).bytes
  step_bytes = grind (arith, one.bytes, one.answer, open_here.0)

  pub step_on : Partway ps w plan (i + 1) ps'' w''
  step_on = record {
    within = omega arith;
    allowed = so_far.allowed;
    ready = grind (arith, step_bytes, length-set ps' (entry_at plan i).page (entry_at plan i).bytes, answer_same (length ps') w' w'' (entry_at plan i).page (drop (i + 1) plan) one.others (apart_at plan i h (rising_apart plan rising)), open_here.1);
    ahead = grind (arith, step_bytes, at_drop_more (λ es. written es ps') plan i no_write h, so_far.ahead);
    others = λ k off. one.others k (λ e. off_at plan k i h off (sym e)) ∙ so_far.others k off;
  }

-- no entry is left
module _ {ps ps' : List (List ℕ)} {w w' : ℕ → Bool} (plan : List PageWrite) (i : ℕ) (h : length plan ≤ i) (so_far : Partway ps w plan i ps' w') where
  all_bytes : ps' ≡ written plan ps
  all_bytes = grind (arith, at_drop_all (λ es. written es ps') plan i h, so_far.ahead)

  pub all_placed : Rising plan → Placed ps plan ps'
  all_placed rising = record {
    count = rw all_bytes (length-written plan ps);
    each = rw all_bytes (get_or-written plan ps (rising_apart plan rising));
  }
