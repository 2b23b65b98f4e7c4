-- The words for each code.
use Rattle.std.specs.Prelude.{ℕ, List, codes}
use Rattle.card.specs.declared.header.LifeCycle.{LifeCycle}
use Rattle.card.specs.declared.header.LifeCycle.TheVariants.{BeforeUse, InUse}
use Rattle.card.specs.declared.header.BlockFlag.{BlockFlag}
use Rattle.card.specs.declared.header.BlockFlag.TheVariants.{Free, Blocked}
use Rattle.card.specs.declared.record.Kind.{Kind}
use Rattle.card.specs.declared.record.Kind.TheVariants.{Ride, Cancel}
use Rattle.card.specs.declared.host.HostRefusal.{HostRefusal}
use Rattle.card.specs.declared.host.HostRefusal.TheVariants.{TooFewPages, WrongRecord, WornPage, NotACard}

abbrev pub life_cycle_words : LifeCycle → List ℕ
life_cycle_words BeforeUse = codes "before use"
life_cycle_words InUse = codes "in use"

abbrev pub block_flag_words : BlockFlag → List ℕ
block_flag_words Free = codes "free"
block_flag_words Blocked = codes "blocked"

abbrev pub kind_words : Kind → List ℕ
kind_words Ride = codes "ride"
kind_words Cancel = codes "cancel"

abbrev pub refusal_words : HostRefusal → List ℕ
refusal_words TooFewPages = codes "the memory has under 32 pages"
refusal_words WrongRecord = codes "the issue record is not 192 bytes, or would not give a card that holds 0 records"
refusal_words WornPage = codes "a page is worn"
refusal_words NotACard = codes "the pages are not a card"
