use Rattle.std.proofs.Common.{◌≡◌, length, ◌∙◌, rules}
use Rattle.text.proofs.Hexes.{byte_at, more, stops, finished}
use Rattle.text.proofs.hex.read_pairs.Goals as goal

pub returns-in_err-bytes-clause-count : goal.returns-in_err-bytes-clause-count
returns-in_err-bytes-clause-count c =
    let byte = c.in_err-bytes.ensures ∙ byte_at _ _ _ _ c.as_chunks.ensures.front (search rules) in
    c.from_residual.ensures ∙ (stops _ _ _ _ c.loop-i.invariant (search rules) (search rules) byte).0

pub returns-in_err-bytes-clause-bytes : goal.returns-in_err-bytes-clause-bytes
returns-in_err-bytes-clause-bytes c =
    let byte = c.in_err-bytes.ensures ∙ byte_at _ _ _ _ c.as_chunks.ensures.front (search rules) in
    (stops _ _ _ _ c.loop-i.invariant (search rules) (search rules) byte).1

pub loop-i-preserved : goal.loop-i-preserved
loop-i-preserved c =
    let byte = c.in_ok-bytes.ensures ∙ byte_at _ _ _ _ c.as_chunks.ensures.front (search rules) in
    more _ _ _ _ c.loop-i.invariant _ (search rules) byte (search rules)

pub returns-clause-count : goal.returns-clause-count
returns-clause-count c =
    let left = length c.as_chunks.result.1.now in
    let all : length c.as_chunks.result.0.now ≡ c.loop-i.i = search rules in
    let last = (finished _ _ _ _ c.loop-i.invariant left (search rules) (search rules) (search rules)).0 in
    c.then_some.ensures ∙ rw (c.is_empty.ensures, all) last

pub returns-clause-bytes : goal.returns-clause-bytes
returns-clause-bytes c = (finished _ _ _ _ c.loop-i.invariant (length c.as_chunks.result.1.now) (search rules) (search rules) (search rules)).1
