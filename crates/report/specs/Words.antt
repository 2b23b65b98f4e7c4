-- The words for an algorithm.
use Rattle.std.specs.Prelude.{ℕ, cond, List, codes, ◌==◌}

-- by the algorithm byte
abbrev pub algorithm_words : ℕ → List ℕ
algorithm_words n = cond (n == 0x00) (codes "SEED") (cond (n == 0x10) (codes "Triple DES") (codes "unknown"))
