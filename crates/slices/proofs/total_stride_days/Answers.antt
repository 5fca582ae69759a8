-- Where no grower is wanted nothing is added, and where all are only the days decide.
use Rattle.std.proofs.Common.{◌&&◌, ◌∙◌, ap, sym, arith, rules}
use Rattle.model.specs.declared.Delivery.{Delivery}
use Rattle.model.specs.Lent.{records_given, span_given}
use Rattle.model.specs.Deliveries.{rows, matches, on_days, totals_of}
use Rattle.slices.proofs.Sums.{keep_both, kept_either, none_during, all_during}
use Rattle.slices.proofs.total_stride_days.Goals as goal

pub returns-then-wanted-lt1 : goal.returns-then-wanted-lt1
returns-then-wanted-lt1 c = c.none.ensures ∙ none_during _ _ _ _ _ c.requires (omega arith)

pub returns-then-wanted-eq-STRIDE : goal.returns-then-wanted-eq-STRIDE
returns-then-wanted-eq-STRIDE c = c.total_days.ensures ∙ all_during _ _ _ _ _ c.requires (omega arith)

pub returns : goal.returns
returns c =
    let a = c.args in
    let s = records_given a.r in
    let grower = matches a.lo a.hi in
    let day = on_days (span_given a.days) in
    c.total_of.ensures (λ (d : Delivery). grower d && day d) (λ d t e. search rules)
    ∙ ap totals_of (sym (keep_both day grower (rows s)) ∙ kept_either a.lo a.hi a.days.first a.days.last s c.requires)
