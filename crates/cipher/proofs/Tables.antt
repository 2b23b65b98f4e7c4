-- The parts of a test that is computed.
use Rattle.std.proofs.Common.{Bool, true, false, ◌&&◌, T}

pub both_left : (a b : Bool) → T (◌&&◌ a b) → T a
both_left true b t = tt
both_left false b t = t

pub both_right : (a b : Bool) → T (◌&&◌ a b) → T b
both_right true b t = t
both_right false b t = absurd t
