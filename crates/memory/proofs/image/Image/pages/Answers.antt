use Rattle.std.proofs.Common.{◌∙◌}
use Rattle.memory.proofs.BytesAsPages.{first_chunks_pages}
use Rattle.memory.proofs.image.Image.pages.Goals as goal

pub returns : goal.returns
returns c = c.as_chunks.ensures.front ∙ first_chunks_pages c.args.self.now.bytes.now
