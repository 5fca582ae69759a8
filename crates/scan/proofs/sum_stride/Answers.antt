-- Records that pass both checks may be totalled.
use Rattle.std.proofs.Common.{sym, ◌∙◌}
use Rattle.model.proofs.Tests.{of_true}
use Rattle.scan.proofs.Fitting.{measured, days_pass}
use Rattle.scan.proofs.sum_stride.Goals as goal

pub total-requires : goal.total-requires
total-requires g c =
    let fit = sym c.all_fit.ensures ∙ c.if-all_fit.true in
    (measured _ c.args.r.few c.args.r.even fit, of_true _ (days_pass _ fit))
