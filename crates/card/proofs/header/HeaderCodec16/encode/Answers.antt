use Rattle.std.proofs.Common.{rules}
use Rattle.card.proofs.RoundTrips.{header_round}
use Rattle.card.proofs.header.HeaderCodec16.encode.Goals as goal

pub returns-clause-back : goal.returns-clause-back
returns-clause-back c = header_round c.args.self (search rules)
