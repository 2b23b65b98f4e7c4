-- What a test that is computed for each number of a range says of each.
use Rattle.std.proofs.Common.{◌≡◌, ℕ, ◌+◌, ◌-◌, ◌<◌, ◌≤◌, Bool, true, get_or, ◌∙◌, subst, arith}
use Rattle.std.specs.List.{range_with_len, list_all}
use Rattle.std.proofs.lemmas.List.FromFn.{length-range_with_len, get_or-range_with_len}
use Rattle.std.proofs.lemmas.List.Sums.{AllPass-from_list_all}

-- the test passes at a and the n - 1 numbers after it
abbrev pub every : ℕ → ℕ → (ℕ → Bool) → Bool
every a n test = list_all test (range_with_len a n)

pub every_at : (a n : ℕ) (test : ℕ → Bool) → every a n test ≡ true → (k : ℕ) → a ≤ k → k < a + n → test k ≡ true
every_at a n test t k h l =
    let e : get_or (range_with_len a n) (k - a) 0 ≡ k = get_or-range_with_len a n (k - a) 0 (omega arith) ∙ omega arith in
    subst (λ (m : ℕ). test m ≡ true) e (AllPass-from_list_all test (range_with_len a n) t (k - a) 0 (omega (arith, length-range_with_len a n)))
