-- A memory of 64 pages, each with a count of writes left.
use Rattle.std.specs.Prelude.{◌≡◌, ℕ, ◌-◌, ◌<◌, Bool, List, [], ◌∷◌, map, length, ◌==◌, slice_index, slice_index_or, slice_set}
use Rattle.std.proofs.Common.{zero, suc, ◌∙◌, arith}
use Rattle.std.proofs.lemmas.List.{length-map}
use Rattle.memory.specs.declared.wearing_page.WearingPage.{WearingPage}
use Rattle.memory.specs.Pages.{Outside}

-- the bytes of each page
abbrev pub bytes_of : List WearingPage → List (List ℕ)
bytes_of pages = map (λ p. p.bytes) pages

-- how many writes each page has left
abbrev pub left_of : List WearingPage → List ℕ
left_of pages = map (λ p. p.left) pages

-- the marks by the counts of writes left: a page is worn where no write is left
abbrev pub spent : List ℕ → ℕ → Bool
spent left k = slice_index left k == 0

-- the counts after a write to a page: that page's is one less
abbrev pub one_less : List ℕ → ℕ → List ℕ
one_less left page = slice_set left page (slice_index left page - 1)

-- a memory of its own pages has no lender, and no bytes past its last page
abbrev pub none_outside : Outside
none_outside = record { lenders = []; rest = [] }

-- every page has 16 bytes
pub all_sixteen : (pages : List (List ℕ)) → length pages ≡ 64 → ((k : ℕ) → k < 64 → length (slice_index_or pages k []) ≡ 16) → (k : ℕ) → k < length pages → length (slice_index_or pages k []) ≡ 16
all_sixteen pages long each k h = each k (omega arith)

each_sixteen : (pages : List WearingPage) (k : ℕ) → k < length pages → length (slice_index_or (bytes_of pages) k []) ≡ 16
each_sixteen [] k h = absurd (omega arith)
each_sixteen (p ∷ ps) zero h = p.sized
each_sixteen (p ∷ ps) (suc k) h = each_sixteen ps k (omega arith)

pub wearing_sixteen : (pages : List WearingPage) → length pages ≡ 64 → (k : ℕ) → k < length (bytes_of pages) → length (slice_index_or (bytes_of pages) k []) ≡ 16
wearing_sixteen pages long = all_sixteen (bytes_of pages) (length-map pages (λ p. p.bytes) ∙ long) (λ k h. each_sixteen pages k (omega (arith, long)))
