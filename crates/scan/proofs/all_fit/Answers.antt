-- Check 8 of two slices and check 19 of a third are those of the records.
use Rattle.std.proofs.Common.{sym, ◌∙◌}
use Rattle.model.specs.Lent.{records_given}
use Rattle.model.proofs.Deliveries.{values_rows, days_rows}
use Rattle.scan.proofs.all_fit.Goals as goal

pub returns-then-values_ok : goal.returns-then-values_ok
returns-then-values_ok c =
    let s = records_given c.args.r in
    rw (values_rows s c.args.r.even ∙ sym c.values_ok.ensures ∙ c.if-values_ok.true, days_rows s c.args.r.even) c.days_ok.ensures

pub returns-else-values_ok : goal.returns-else-values_ok
returns-else-values_ok c = rw (values_rows (records_given c.args.r) c.args.r.even ∙ sym c.values_ok.ensures ∙ c.if-values_ok.false) c.if-values_ok.false
