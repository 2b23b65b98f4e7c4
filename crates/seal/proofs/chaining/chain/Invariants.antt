use Rattle.std.specs.Slice.Iter.{chunks_exact_rest, chunks_exact_size}
use Rattle.seal.proofs.Chains.{Chaining}
use Rattle.seal.proofs.chaining.chain.Given as goal

abbrev pub invariant-loop-part : goal.invariant-loop-part
invariant-loop-part g l =
    let c = g.C.Cipher in
    Chaining (c.enciphered l.key) c.BLOCK l.text (chunks_exact_size l.part-iterator) (chunks_exact_rest l.part-iterator) l.block
