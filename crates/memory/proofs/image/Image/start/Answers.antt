use Rattle.std.proofs.Common.{rules}
use Rattle.memory.proofs.BytesAsPages.{length-pages_of, page_start}
use Rattle.memory.proofs.image.Image.start.Goals as goal

pub overflow_mul-result : goal.overflow_mul-result
overflow_mul-result c = search (rules, length-pages_of)

pub returns : goal.returns
returns c = page_start _ _ c.requires
