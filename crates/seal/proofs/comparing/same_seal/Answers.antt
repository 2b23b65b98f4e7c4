use Rattle.std.proofs.Common.{rules}
use Rattle.seal.proofs.Compared.{compared}
use Rattle.seal.proofs.comparing.same_seal.Goals as goal

pub returns : goal.returns
returns c = search (rules, compared)
