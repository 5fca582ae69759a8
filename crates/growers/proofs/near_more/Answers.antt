-- `growers::near_more`: the records are judged by their weights and yields, and joined by their growers.
use Rattle.std.proofs.Common.{◌≡◌, true, false, sym, ap, ◌∙◌}
use Rattle.model.specs.Lists.{every}
use Rattle.model.specs.Lent.{records_given}
use Rattle.model.specs.Deliveries.{Slices, rows, in_range}
use Rattle.model.specs.Growers.{growers_of}
use Rattle.model.proofs.Deliveries.{slices_for_lem, values_rows}
use Rattle.growers.specs.Searches.{near_more}
use Rattle.growers.proofs.near_more.Goals as goal

pub returns-then-values_ok : goal.returns-then-values_ok
unfolding near_more
returns-then-values_ok g c =
    let r = records_given c.args.r in
    let good : every in_range (rows r) ≡ true = values_rows r c.args.r.even ∙ sym c.values_ok.ensures ∙ c.if-values_ok.true in
    let growers : growers_of (rows r) ≡ c.args.r.growers.now = ap (λ (t : Slices). t.growers) (slices_for_lem r c.args.r.even) in
    rw (good, growers, c.joined.ensures)

pub returns-else-values_ok : goal.returns-else-values_ok
unfolding near_more
returns-else-values_ok g c =
    let r = records_given c.args.r in
    let bad : every in_range (rows r) ≡ false = values_rows r c.args.r.even ∙ sym c.values_ok.ensures ∙ c.if-values_ok.false in
    rw bad
