-- What a memory answers, and what a write does to it.
-- A memory is a list of pages of 16 bytes. Each page has a mark: it is open, and can be written, or it is worn, and can only be read.
-- The marks are a function from page numbers: true where the page is worn.
use Rattle.std.specs.Prelude.{◌≡◌, ℕ, Bool, cond, List, [], length, is_ok, Ok, Err, Result, ◌≢◌, nat_lt, slice_index_or, slice_set}
use Rattle.memory.specs.declared.fault.Fault.{Fault}
use Rattle.memory.specs.declared.fault.Fault.TheVariants.{PastEnd, Worn}

-- what a read of a page answers: its bytes, or that there is no such page
abbrev pub read_answer : List (List ℕ) → ℕ → Result (List ℕ) Fault
read_answer pages page = cond (nat_lt page (length pages)) (Ok (slice_index_or pages page [])) (Err PastEnd)

-- what a question for the mark of a page answers, in a memory of `count` pages: whether it is worn, or that there is no such page
abbrev pub mark_answer : ℕ → (ℕ → Bool) → ℕ → Result Bool Fault
mark_answer count worn page = cond (nat_lt page count) (Ok (worn page)) (Err PastEnd)

-- what a write to a page answers, in a memory of `count` pages: done where it is open, a refusal where it is worn and where there is none
abbrev pub write_answer : ℕ → (ℕ → Bool) → ℕ → Result (Unit {0}) Fault
write_answer count worn page = cond (nat_lt page count) (cond (worn page) (Err Worn) (Ok tt)) (Err PastEnd)

-- What a write of bytes b to a page does: r is the answer, and ps and worn, the pages and the marks before it, become ps' and worn'.
-- Whether a page that was written is then worn is not said here: each kind of memory says it.
pub record Written (ps : List (List ℕ)) (worn : ℕ → Bool) (page : ℕ) (b : List ℕ) (r : Result (Unit {0}) Fault) (ps' : List (List ℕ)) (worn' : ℕ → Bool) : Type 0 where
  -- done or refused, by the page's number and mark
  pub answer : r ≡ write_answer (length ps) worn page
  -- the page has the bytes and every other page is as it was; at a refusal every page is
  pub bytes : ps' ≡ cond (is_ok r) (slice_set ps page b) ps
  -- no other page's mark changes
  pub others : (k : ℕ) → (k ≢ page) → worn' k ≡ worn k

-- What a memory has besides its pages and marks, and no call changes.
pub record Outside : Type 0 where
  -- the ghost names of the references through which its bytes are lent
  pub lenders : List ℕ
  -- the bytes past its last whole page
  pub rest : List ℕ
