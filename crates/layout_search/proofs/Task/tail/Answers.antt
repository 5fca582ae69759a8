-- `Task::tail`: the rest's number is near the base, and the two products are small.
use Rattle.std.proofs.Common.{refl, ◌+◌, arith}
use Rattle.layout_search.specs.Table.{Best, some_tail}
use Rattle.layout_search.specs.Given.{task_given}
use Rattle.layout_search.proofs.PriceLaws.{product_is}
use Rattle.layout_search.proofs.Task.tail.Goals as goal

pub returns : goal.returns
returns c =
    let a = c.args in
    let rest = c.in_ok-rest.rest in
    let e = c.in_ok-rest.ensures in
    let b : Best (task_given a.self) (a.e + 1) a.k rest = rw e.1 (c.requires.row (a.e + 1) (omega arith)) in
    let near = b.near e.0 in
    let few = a.self.sums.hold.few in
    let u = product_is _ _ _ _ _ c.times-added.ensures.value c.at.ensures.value refl in
    let d = product_is _ _ _ _ _ c.times-saved.ensures.value c.at-2.ensures.value refl in
    some_tail rest c.if-not-self-e.false b e.0 (omega (arith, u, d, c.times-saved.ensures.small))
