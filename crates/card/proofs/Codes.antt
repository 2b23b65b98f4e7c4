-- The codes of one byte, both ways.
use Rattle.std.proofs.Common.{◌≡◌, ℕ, Some, None, Option, refl, arith}
use Rattle.std.proofs.lemmas.Bool.Decides.{nat_tests}
use Rattle.card.specs.Header.{life_cycle_byte, life_cycle_of, block_flag_byte, block_flag_of}
use Rattle.card.specs.Purse.{last_byte, last_of}
use Rattle.card.specs.Record.{kind_byte, kind_of}
use Rattle.card.specs.declared.header.LifeCycle.{LifeCycle}
use Rattle.card.specs.declared.header.LifeCycle.TheVariants.{BeforeUse, InUse}
use Rattle.card.specs.declared.header.BlockFlag.{BlockFlag}
use Rattle.card.specs.declared.header.BlockFlag.TheVariants.{Free, Blocked}
use Rattle.card.specs.declared.record.Kind.{Kind}
use Rattle.card.specs.declared.record.Kind.TheVariants.{Ride, Cancel}

pub life_read : (l : LifeCycle) → life_cycle_of (life_cycle_byte l) ≡ Some l
life_read BeforeUse = refl
life_read InUse = refl

pub life_written : (b : ℕ) (l : LifeCycle) → life_cycle_of b ≡ Some l → life_cycle_byte l ≡ b
life_written b BeforeUse e = grind (arith, nat_tests)
life_written b InUse e = grind (arith, nat_tests)

pub block_read : (f : BlockFlag) → block_flag_of (block_flag_byte f) ≡ Some f
block_read Free = refl
block_read Blocked = refl

pub block_written : (b : ℕ) (f : BlockFlag) → block_flag_of b ≡ Some f → block_flag_byte f ≡ b
block_written b Free e = grind (arith, nat_tests)
block_written b Blocked e = grind (arith, nat_tests)

pub last_read : (l : Option Kind) → last_of (last_byte l) ≡ Some l
last_read None = refl
last_read (Some Ride) = refl
last_read (Some Cancel) = refl

pub last_written : (b : ℕ) (l : Option Kind) → last_of b ≡ Some l → last_byte l ≡ b
last_written b None e = grind (arith, nat_tests)
last_written b (Some Ride) e = grind (arith, nat_tests)
last_written b (Some Cancel) e = grind (arith, nat_tests)

pub kind_read : (k : Kind) → kind_of (kind_byte k) ≡ Some k
kind_read Ride = refl
kind_read Cancel = refl

pub kind_written : (b : ℕ) (k : Kind) → kind_of b ≡ Some k → kind_byte k ≡ b
kind_written b Ride e = grind (arith, nat_tests)
kind_written b Cancel e = grind (arith, nat_tests)
