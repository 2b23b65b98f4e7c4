use Rattle.std.proofs.Common.{rules}
use Rattle.memory.proofs.WearingPages.{page_written}
use Rattle.memory.proofs.wearing.WearingMemory.write.Goals as goal

pub returns-clause-written : goal.returns-clause-written
returns-clause-written c = page_written _ _ c.in_ok-old.old _ (search rules) (search rules) c.if-old-eq0.false
