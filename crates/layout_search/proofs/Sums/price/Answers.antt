-- `Sums::price`: the local price, and the two sums of partitions times their count; the price by blocks is near the base.
use Rattle.std.proofs.Common.{refl, arith}
use Rattle.layout_search.proofs.PriceLaws.{product_is, span_most, saved_most}
use Rattle.layout_search.proofs.Sums.price.Goals as goal

pub returns : goal.returns
returns c =
    let a = c.args in
    let s = a.self in
    let f = c.local_price.ensures in
    let u = product_is _ _ _ _ _ c.times-added.ensures.value c.over.ensures.value refl in
    let d = product_is _ _ _ _ _ c.times-saved.ensures.value c.over-2.ensures.value refl in
    record {
      is = omega (arith, f.added a.k, f.saved a.k, f.low, u, d, c.times-saved.ensures.small);
      down = saved_most s.places.now _ s.hold a.a a.e (omega arith) (omega arith) a.k (omega arith);
      up = span_most s.places.now _ s.hold a.a a.e (omega arith) (omega arith) a.k (omega arith);
    }
