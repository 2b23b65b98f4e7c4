-- A plan is a list of pages to be written. Each entry has a page's number and the bytes for that page.
use Rattle.std.specs.Prelude.{◌≡◌, ℕ, ◌<◌, Bool, cond, List, [], ◌∷◌, length, is_ok, Ok, Err, Result, ◌==◌, ◌≢◌, nat_lt, slice_index_or, slice_set}
use Rattle.memory.specs.declared.fault.Fault.{Fault}
use Rattle.memory.specs.declared.fault.Fault.TheVariants.{PastEnd, Worn}
use Rattle.memory.specs.declared.plan.PageWrite.{PageWrite}

-- the plan's first page lies above page k, and each further one above the one before it
abbrev pub Above : ℕ → List PageWrite → Type 0
Above k [] = Unit {0}
Above k (e ∷ es) = (k < e.page) × Above e.page es

-- each page number is below that of the next one: lowest page first, each page once
abbrev pub Rising : List PageWrite → Type 0
Rising [] = Unit {0}
Rising (e ∷ es) = Above e.page es

-- the plan does not name page k: no entry is for it
abbrev pub Off : List PageWrite → ℕ → Type 0
Off [] k = Unit {0}
Off (e ∷ es) k = (e.page ≢ k) × Off es k

-- what a plan answers in a memory of `count` pages: the refusal of its first page that cannot be written, else that it is done
abbrev pub plan_answer : ℕ → (ℕ → Bool) → List PageWrite → Result (Unit {0}) Fault
plan_answer count worn [] = Ok tt
plan_answer count worn (e ∷ es) = cond (nat_lt e.page count) (cond (worn e.page) (Err Worn) (plan_answer count worn es)) (Err PastEnd)

-- the pages ps after each entry of the plan is written, in its order
abbrev pub written : List PageWrite → List (List ℕ) → List (List ℕ)
written [] ps = ps
written (e ∷ es) ps = written es (slice_set ps e.page e.bytes)

-- What writing a plan does: r is the answer, and ps and worn, the pages and the marks before it, become ps' and worn'.
pub record PlanWritten (ps : List (List ℕ)) (worn : ℕ → Bool) (plan : List PageWrite) (r : Result (Unit {0}) Fault) (ps' : List (List ℕ)) (worn' : ℕ → Bool) : Type 0 where
  -- done, or the refusal of the first page that cannot be written
  pub answer : r ≡ plan_answer (length ps) worn plan
  -- every page of the plan is written, and at a refusal none
  pub bytes : ps' ≡ cond (is_ok r) (written plan ps) ps
  -- the mark of a page that the plan does not name stays
  pub others : (k : ℕ) → Off plan k → worn' k ≡ worn k

-- the bytes that the plan has for page k, and `old` where it does not name page k
abbrev pub planned : List PageWrite → ℕ → List ℕ → List ℕ
planned [] k old = old
planned (e ∷ es) k old = cond (e.page == k) e.bytes (planned es k old)

-- What a plan that is done makes of the pages ps, whatever the order of the writes.
pub record Placed (ps : List (List ℕ)) (plan : List PageWrite) (ps' : List (List ℕ)) : Type 0 where
  -- the number of pages is the same
  pub count : length ps' ≡ length ps
  -- a page that the plan names has the plan's bytes, and any other page is as it was
  pub each : (k : ℕ) → k < length ps → slice_index_or ps' k [] ≡ planned plan k (slice_index_or ps k [])
