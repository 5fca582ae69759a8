-- Past the shape, each test is the check that it is named for.
use Rattle.std.proofs.Common.{sym, ap, ap₂, ◌∙◌, arith, List, ℕ, length}
use Rattle.model.specs.Bounds.{block_limit}
use Rattle.model.specs.Column.{sound_growers, sound}
use Rattle.model.specs.Deliveries.{Slices}
use Rattle.model.proofs.Refusals.{refusal_some}
use Rattle.lines.proofs.Reading.{passed_on}
use Rattle.directory.proofs.LentColumns.{lent_column, numbered}
use Rattle.snapshot.proofs.WriteAnswers.{parts_lent, values_of, part_is, lent_refused, shape_refused, values_refused, all_passed}
use Rattle.snapshot.proofs.check_column.Goals as goal

pub returns-in_err-shape-clause-refused : goal.returns-in_err-shape-clause-refused
returns-in_err-shape-clause-refused c =
    rw (passed_on _ _ c.from_residual.ensures.1) (lent_refused block_limit _ _ c.in_err-shape.ensures.refused (refusal_some _))

pub lengths-requires : goal.lengths-requires
lengths-requires c = numbered block_limit _ (lent_column block_limit _ (sym c.in_ok-shape.ensures.refused))

pub fences-requires : goal.fences-requires
fences-requires c = numbered block_limit _ (lent_column block_limit _ (sym c.in_ok-shape.ensures.refused))

pub sound_ok-requires : goal.sound_ok-requires
sound_ok-requires c =
    let p = parts_lent block_limit _ (lent_column block_limit _ (sym c.in_ok-shape.ensures.refused)) c.lengths.ensures c.fences.ensures in
    (p.even, p.rises, p.room)

pub returns-then-not-sound_ok-clause-refused : goal.returns-then-not-sound_ok-clause-refused
unfolding sound
returns-then-not-sound_ok-clause-refused c =
    shape_refused block_limit _ (sym c.in_ok-shape.ensures.refused)
    (sym (c.if-not-sound_ok.ensures ∙ ap₂ (λ (a b : List ℕ). sound_growers a b c.args.slices.growers.now) c.lengths.ensures c.fences.ensures))

pub part-records-requires : goal.part-records-requires
part-records-requires c =
    let l = lent_column block_limit _ (sym c.in_ok-shape.ensures.refused) in
    let a = c.in_ok-shape.ensures.accepted in
    (omega arith, omega (arith, l.shape.room, a.1.used_is, ap (λ (s : Slices). length s.growers) a.0))

pub returns-then-not-values_ok-clause-refused : goal.returns-then-not-values_ok-clause-refused
unfolding sound
returns-then-not-values_ok-clause-refused c =
    let p = sym c.in_ok-shape.ensures.refused in
    let a = c.in_ok-shape.ensures.accepted in
    values_refused block_limit _ p
    (sym (c.if-not-sound_ok.ensures ∙ ap₂ (λ (a b : List ℕ). sound_growers a b c.args.slices.growers.now) c.lengths.ensures c.fences.ensures))
    (values_of block_limit _ (lent_column block_limit _ p) _ _ (part_is block_limit _ _ _ _ a.1.used_is a.0 c.part-records.ensures) c.if-not-values_ok.ensures)

pub returns-clause-refused : goal.returns-clause-refused
unfolding sound
returns-clause-refused c =
    let p = sym c.in_ok-shape.ensures.refused in
    let a = c.in_ok-shape.ensures.accepted in
    all_passed block_limit _ p
    (sym (c.if-not-sound_ok.ensures ∙ ap₂ (λ (a b : List ℕ). sound_growers a b c.args.slices.growers.now) c.lengths.ensures c.fences.ensures))
    (values_of block_limit _ (lent_column block_limit _ p) _ _ (part_is block_limit _ _ _ _ a.1.used_is a.0 c.part-records.ensures) c.if-not-values_ok.ensures)

pub returns-clause-accepted : goal.returns-clause-accepted
returns-clause-accepted c = let a = c.in_ok-shape.ensures.accepted in part_is block_limit _ _ _ _ a.1.used_is a.0 c.part-records.ensures
