-- Records with the kept weights weigh what those on the days do.
use Rattle.std.proofs.Common.{ℕ, List, ◌∙◌, ap}
use Rattle.model.specs.Lent.{records_given, span_given}
use Rattle.model.specs.Deliveries.{rows, slices_of, totals_of}
use Rattle.slices.proofs.Keeping.{kept_measured, kept_totals}
use Rattle.slices.proofs.total_days.Goals as goal

pub total_all-t-requires : goal.total_all-t-requires
total_all-t-requires c = rw c.keep_weights-k.ensures.0 (kept_measured (span_given c.args.days) (records_given c.args.r) c.requires.0)

pub returns : goal.returns
returns c =
    let s = records_given c.args.r in
    let e = c.total_all-t.ensures ∙ ap (λ (ws : List ℕ). totals_of (rows (slices_of s.growers ws s.yields s.days))) c.keep_weights-k.ensures.0 in
    kept_totals c.args.days.first c.args.days.last s c.requires.0 _ c.keep_weights-k.ensures.1 _ e
