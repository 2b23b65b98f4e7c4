use Rattle.std.proofs.Common.{◌≡◌, ℕ, suc, ◌+◌, ◌*◌, ◌/◌, ◌%◌, ◌^◌, ◌<◌, get_or, set, sym, ap, ◌∙◌, subst, ap₂, add-one, arith, length-set}
use Rattle.std.proofs.lemmas.List.Edits.{fill_by_more}
use Rattle.std.proofs.lemmas.List.FromFn.{fill_by_all}
use Rattle.des.specs.Permutations.{pc_1, pc_2}
use Rattle.des.specs.Keys.{c_half, d_half, round_key, key_schedule}
use Rattle.des.proofs.Shifted.{shifted_more, next_fit}
use Rattle.des.proofs.keys.key_schedule.Goals as goal

pub overflow_mul-c : goal.overflow_mul-c
overflow_mul-c c = record {
  fits =
      omega (
        arith,
        next_fit c.args.key c.loop-n.n c.loop-n.c c.loop-n.d c.shifted_half-c.result c.shifted_half-d.result c.shifts-s-items.result.now
            c.shifted_half-c.ensures c.shifted_half-d.ensures c.shifts-s-items.ensures c.loop-n.invariant.0 c.loop-n.invariant.1,
      );
}

pub overflow_add-c : goal.overflow_add-c
overflow_add-c c = record {
  fits =
      omega (
        arith,
        next_fit c.args.key c.loop-n.n c.loop-n.c c.loop-n.d c.shifted_half-c.result c.shifted_half-d.result c.shifts-s-items.result.now
            c.shifted_half-c.ensures c.shifted_half-d.ensures c.shifts-s-items.ensures c.loop-n.invariant.0 c.loop-n.invariant.1,
      );
}

pub loop-n-preserved : goal.loop-n-preserved
unfolding round_key
loop-n-preserved c =
    let t = c.shifts-s-items.result.now in
    let n = c.loop-n.n in
    let key = c.args.key in
    let ec = shifted_more (pc_1 key / 2 ^ 28) n c.loop-n.c c.shifted_half-c.result t c.shifts-s-items.ensures c.loop-n.invariant.0 c.shifted_half-c.ensures in
    let ed = shifted_more (pc_1 key % 2 ^ 28) n c.loop-n.d c.shifted_half-d.result t c.shifts-s-items.ensures c.loop-n.invariant.1 c.shifted_half-d.ensures in
    let ek : c.apply.result ≡ round_key key (suc n) = c.apply.ensures ∙ ap₂ (λ (x y : ℕ). pc_2 (x * 2 ^ 28 + y)) ec ed in (
      ec ∙ ap (c_half key) (sym (add-one n)),
      ed ∙ ap (d_half key) (sym (add-one n)),
      length-set c.loop-n.keys n c.apply.result ∙ c.loop-n.invariant.2,
      subst (λ (x : ℕ). (k : ℕ) → k < n + 1 → get_or (set c.loop-n.keys n x) k 0 ≡ round_key key (suc k)) (sym ek)
          (fill_by_more (λ (k : ℕ). round_key key (suc k)) c.loop-n.keys n 0 (omega arith) c.loop-n.invariant.3),
    )

pub returns : goal.returns
unfolding key_schedule
returns c =
    let e : c.loop-n.n ≡ 16 = omega arith in
    fill_by_all (λ (k : ℕ). round_key c.args.key (suc k)) c.loop-n.keys 16 0 c.loop-n.invariant.2 (λ k h. c.loop-n.invariant.3 k (omega arith))
