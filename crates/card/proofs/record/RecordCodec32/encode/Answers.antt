use Rattle.std.proofs.Common.{rules}
use Rattle.card.proofs.RoundTrips.{record_round}
use Rattle.card.proofs.record.RecordCodec32.encode.Goals as goal

pub returns-clause-back : goal.returns-clause-back
returns-clause-back c = record_round c.args.self (search rules) (search rules) (search rules) (search rules) (search rules) (search rules)
