-- `Sums::end_price`: the local price, and the two sums of partitions at the end, which are small.
use Rattle.std.proofs.Common.{arith}
use Rattle.layout_search.proofs.PriceLaws.{holds_less}
use Rattle.layout_search.proofs.EndLaws.{end_priced}
use Rattle.layout_search.proofs.Sums.end_price.Goals as goal

pub returns : goal.returns
returns c =
    let a = c.args in
    end_priced a.self.places.now a.a a.e _ _ _ (holds_less _ _ _ a.self.hold (omega arith)) (omega arith) c.at-added.ensures.value c.at-saved.ensures.value c.local_price.ensures
