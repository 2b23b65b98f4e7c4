use Rattle.std.proofs.Common.{◌≡◌, ℕ, suc, ◌<◌, length, get_or}
use Rattle.des.specs.Keys.{c_half, d_half, round_key}
use Rattle.des.proofs.keys.key_schedule.Given as goal

abbrev pub invariant-loop-n : goal.invariant-loop-n
invariant-loop-n l =
    (l.c ≡ c_half l.key l.n) × (l.d ≡ d_half l.key l.n)
    × (length l.keys ≡ 16) × ((k : ℕ) → k < l.n → get_or l.keys k 0 ≡ round_key l.key (suc k))
