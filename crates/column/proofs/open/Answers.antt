-- Each early refusal is the first check that fails; past them the used slots, the partition and its start are those that the directory's pass found.
use Rattle.std.proofs.Common.{◌∙◌, arith, sym, refl, length, ap}
use Rattle.model.specs.Deliveries.{Slices}
use Rattle.std.proofs.lemmas.Result.{err_from_is_err_and}
use Rattle.model.specs.Bounds.{block_limit}
use Rattle.model.proofs.Refusals.{refusal_some}
use Rattle.column.proofs.Answering.{lent_refusal}
use Rattle.column.proofs.Writing.{insert_refusal, insert_full, insert_accepted}
use Rattle.column.proofs.open.Goals as goal

pub returns-in_err-shape-clause-refused : goal.returns-in_err-shape-clause-refused
returns-in_err-shape-clause-refused c =
    let p = err_from_is_err_and c.from_residual.result c.from_residual.ensures.1 in
    rw (p.1, p.2) (sym (lent_refusal block_limit _ _ _ c.in_err-shape.ensures.refused (refusal_some _)).0)

pub returns-then-not-in_range-clause-refused : goal.returns-then-not-in_range-clause-refused
returns-then-not-in_range-clause-refused c =
    sym (insert_refusal block_limit _ _ (sym c.in_ok-shape.ensures.refused) _ _ _ (sym c.in_range.ensures ∙ c.if-not-in_range.true) refl refl)

pub returns-then-not-day_ok-clause-refused : goal.returns-then-not-day_ok-clause-refused
returns-then-not-day_ok-clause-refused c =
    sym (insert_refusal block_limit _ _ (sym c.in_ok-shape.ensures.refused) _ _ _ (sym c.in_range.ensures ∙ c.if-not-in_range.false)
    (sym c.day_ok.ensures ∙ c.if-not-day_ok.true) refl)

pub returns-then-len-shape-clause-refused : goal.returns-then-len-shape-clause-refused
returns-then-len-shape-clause-refused c =
    sym (insert_full block_limit _ _ (sym c.in_ok-shape.ensures.refused) (sym c.in_range.ensures ∙ c.if-not-in_range.false)
    (sym c.day_ok.ensures ∙ c.if-not-day_ok.false) (omega (arith, ap (λ (s : Slices). length s.growers) c.in_ok-shape.ensures.accepted.0, c.in_ok-shape.ensures.accepted.1.used_is)))

pub returns-clause-refused : goal.returns-clause-refused
returns-clause-refused c =
    sym (insert_accepted block_limit _ _ (sym c.in_ok-shape.ensures.refused) (sym c.in_range.ensures ∙ c.if-not-in_range.false)
    (sym c.day_ok.ensures ∙ c.if-not-day_ok.false) (omega (arith, ap (λ (s : Slices). length s.growers) c.in_ok-shape.ensures.accepted.0, c.in_ok-shape.ensures.accepted.1.used_is)))

pub returns-clause-accepted : goal.returns-clause-accepted
returns-clause-accepted c =
    let e = c.in_ok-shape.ensures in
    record {
      accepted = insert_accepted block_limit _ _ (sym e.refused) (sym c.in_range.ensures ∙ c.if-not-in_range.false) (sym c.day_ok.ensures ∙ c.if-not-day_ok.false) (omega (
        arith,
        ap (λ (s : Slices). length s.growers) c.in_ok-shape.ensures.accepted.0,
        c.in_ok-shape.ensures.accepted.1.used_is,
      ));
      used_is = e.accepted.1.used_is;
      target_is = e.accepted.1.target_is;
      start_is = e.accepted.1.start_is;
      free = omega (arith, ap (λ (s : Slices). length s.growers) c.in_ok-shape.ensures.accepted.0, c.in_ok-shape.ensures.accepted.1.used_is);
    }
