-- `Sums::local_price`: five sums and two products are the price but for the partitions behind (`local_price_is`).
use Rattle.std.proofs.Common.{refl, arith}
use Rattle.layout_search.proofs.PriceLaws.{local_price_is, product_is}
use Rattle.layout_search.proofs.Sums.local_price.Goals as goal

pub returns : goal.returns
returns c =
    let a = c.args in
    local_price_is a.self.places.now _ a.self.hold a.a a.e (omega arith) (omega arith) c.times-after.result c.times-before.result _
    (product_is _ _ _ _ _ c.times-after.ensures.value c.over-2.ensures.value refl) (product_is _ _ _ _ _ c.times-before.ensures.value c.over.ensures.value refl)
    c.times-after.ensures.small c.times-before.ensures.small (rw (c.over-fixed.ensures.value, c.over-weighted_before.ensures.value, c.over-weighted_after.ensures.value) refl)
