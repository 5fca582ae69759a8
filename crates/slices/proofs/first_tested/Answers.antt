-- The record at hand is the delivery, or none up to it is: of another grower it can't be.
use Rattle.std.proofs.Common.{◌≡◌, false, sym, ap, ◌∙◌, arith}
use Rattle.model.specs.Lent.{records_given}
use Rattle.model.specs.Deliveries.{same}
use Rattle.slices.specs.Slices.{record_at}
use Rattle.slices.proofs.Scans.{same_is, other_grower, search_found, search_next, search_end}
use Rattle.slices.proofs.first_tested.Goals as goal
use Rattle.slices.proofs.first_tested.Goals.{else-d-r-via-then-d-r+else-eq, else-d-r-via-else-d-r}

pub returns-then-eq : goal.returns-then-eq
returns-then-eq c =
    search_found _ _ _ (omega arith) c.args.r.even c.loop-i.invariant (ap (same c.args.d) (sym c.record_at.ensures) ∙ same_is c.args.d c.record_at.result ∙ sym c.eq.ensures ∙ c.if-eq.true)

pub loop-i-preserved : goal.loop-i-preserved
loop-i-preserved c =
    let d = c.args.d in
    let here = record_at (records_given c.args.r) c.loop-i.i in
    let other : same d here ≡ false = elim c.else-d-r.branch [
      | else-d-r-via-then-d-r+else-eq w ↦ ap (same d) (sym w.record_at.ensures) ∙ same_is d w.record_at.result ∙ sym w.eq.ensures ∙ w.if-eq.false
      | else-d-r-via-else-d-r w ↦ other_grower d here w.if-d-r.false
    ] in
    search_next _ _ _ (omega arith) c.args.r.even c.loop-i.invariant other

pub returns : goal.returns
returns c = omega (arith, search_end _ _ _ (omega arith) c.loop-i.invariant)
