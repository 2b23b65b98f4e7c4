use Rattle.std.proofs.Common.{take, replicate, Some, ap, ◌∙◌, arith}
use Rattle.std.proofs.lemmas.List.{length-take}
use Rattle.text.proofs.HexReads.{read_some, read_none}
use Rattle.text.specs.Hex.{bytes_of_hex}
use Rattle.seal_lines.proofs.Counts.{too_many, few}
use Rattle.seal_lines.proofs.requests.parse_message.Goals as goal

pub returns-in_err-len : goal.returns-in_err-len
returns-in_err-len c =
    let digits = c.args.digits.now in
    rw c.from_residual.ensures (too_many 47 (bytes_of_hex digits) (read_none digits (replicate 47 0) c.in_err-len.ensures.count))

pub returns : goal.returns
returns c =
    let digits = c.args.digits.now in
    let n = c.in_ok-len.len in
    let bytes = c.read_hex.new.bytes in
    let f = read_some digits (replicate 47 0) bytes n c.in_ok-len.ensures.count c.in_ok-len.ensures.bytes in
    ap (λ x. Some x) (c.truncate.ensures.items ∙ ap (λ x. take n x) c.from-message.ensures.0)
    ∙ few 47 (bytes_of_hex digits) (take n bytes) f.0 (simp length-take (omega arith))
