use Rattle.std.proofs.Common.{◌≡◌, get_or, arith, rules}
use Rattle.memory.proofs.FromFn.{from_fn_all}
use Rattle.memory.proofs.WearingPages.{alike, counted}
use Rattle.memory.proofs.wearing.Wearing.new.Goals as goal

pub returns-clause-bytes : goal.returns-clause-bytes
returns-clause-bytes c =
    let items = c.from_fn.ensures.items in
    alike _ _ _ items.long (λ k d h. let made = items.at k d h in search rules)

pub returns-clause-counts : goal.returns-clause-counts
returns-clause-counts c =
    let items = c.from_fn.ensures.items in
    counted _ _ (omega (arith, items.long))
    (λ k d h. from_fn_all _ (λ i y. y.left ≡ get_or c.args.left i 0) _ (λ i y f' call. search rules) c.from_fn.result 0 64 items.each k d (omega arith) (omega arith))
