-- `Sums::layout_number`: each partition's price takes the number one end on (`costing_more`).
use Rattle.std.proofs.Common.{arith}
use Rattle.layout_search.proofs.NumberLaws.{costing_start, costing_next}
use Rattle.layout_search.proofs.Sums.layout_number.Goals as goal

pub loop-p-init : goal.loop-p-init
loop-p-init c = costing_start _ _ _ c.requires

pub price-requires : goal.price-requires
price-requires c =
    let l = c.loop-p in
    omega (arith, costing_next _ _ _ _ _ _ c.args.self.hold l.invariant c.loop-p-test.true, l.invariant.few)
