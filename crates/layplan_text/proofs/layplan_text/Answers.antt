-- A text that is no input is refused by 14; of one that is, each slice takes its column and one free slot, and every day is 0.
use Rattle.std.proofs.Common.{◌≡◌, ℕ, List, Ok, sym, ◌+◌, arith, length-take-le}
use Rattle.std.proofs.lemmas.List.{length-replicate}
use Rattle.model.specs.Bounds.{most_deliveries}
use Rattle.model.proofs.Tests.{of_true}
use Rattle.lines.proofs.Reading.{met}
use Rattle.lines.specs.Lines.{text_checked}
use Rattle.layplan_text.specs.Week.{week_ok, used_in}
use Rattle.layplan_text.proofs.WeekLaws.{head, good}
use Rattle.layplan_text.proofs.AnswerLaws.{Deliveries, deliveries, front_length, front_ok, front_stored, stored_room, program_refused, program_answers}
use Rattle.layplan_text.proofs.layplan_text.Goals as goal

held : (t : List ℕ) (m : ℕ) → Ok tt ≡ text_checked (week_ok t) → m ≡ used_in t → Deliveries t m
held t m e q = deliveries t m (met _ _ e).0 q

pub returns-in-Err : goal.returns-in-Err
returns-in-Err c = program_refused _ _ _ _ c.in-Err.ensures c.number.ensures c.one_number.ensures

pub spelled_at-m-requires : goal.spelled_at-m-requires
spelled_at-m-requires c = (head _ (good _ (of_true _ (met _ _ c.in_default.ensures).0)).first).used

pub slice_bounds-growers-end : goal.slice_bounds-growers-end
slice_bounds-growers-end c = omega (arith, (held _ _ c.in_default.ensures c.spelled_at-m.ensures).few)

pub slice_bounds-store-end : goal.slice_bounds-store-end
slice_bounds-store-end c = front_length c.args.text.now 91 _ _ (held _ _ c.in_default.ensures c.spelled_at-m.ensures).few

pub store-requires : goal.store-requires
store-requires c = let w = held _ _ c.in_default.ensures c.spelled_at-m.ensures in let f = front_length c.args.text.now 91 _ _ w.few in (
  omega arith,
  omega (arith, w.few, f),
  front_ok _ 91 _ _ w.few w.growers,
)

pub slice_bounds-weights-end : goal.slice_bounds-weights-end
slice_bounds-weights-end c = omega (arith, (held _ _ c.in_default.ensures c.spelled_at-m.ensures).few)

pub slice_bounds-store-end-2 : goal.slice_bounds-store-end-2
slice_bounds-store-end-2 c = front_length c.args.text.now 102 _ _ (held _ _ c.in_default.ensures c.spelled_at-m.ensures).few

pub store-requires-2 : goal.store-requires-2
store-requires-2 c = let w = held _ _ c.in_default.ensures c.spelled_at-m.ensures in let f = front_length c.args.text.now 102 _ _ w.few in (
  omega arith,
  omega (arith, w.few, f),
  front_ok _ 102 _ _ w.few w.weights,
)

pub slice_bounds-yields-end : goal.slice_bounds-yields-end
slice_bounds-yields-end c = omega (arith, (held _ _ c.in_default.ensures c.spelled_at-m.ensures).few)

pub slice_bounds-store-end-3 : goal.slice_bounds-store-end-3
slice_bounds-store-end-3 c = front_length c.args.text.now 113 _ _ (held _ _ c.in_default.ensures c.spelled_at-m.ensures).few

pub store-requires-3 : goal.store-requires-3
store-requires-3 c = let w = held _ _ c.in_default.ensures c.spelled_at-m.ensures in let f = front_length c.args.text.now 113 _ _ w.few in (
  omega arith,
  omega (arith, w.few, f),
  front_ok _ 113 _ _ w.few w.yields,
)

pub slice_bounds-growers-end-2 : goal.slice_bounds-growers-end-2
slice_bounds-growers-end-2 c =
    let w = held _ _ c.in_default.ensures c.spelled_at-m.ensures in
    omega (arith, stored_room c.args.text.now 91 _ _ w.few _ (front_stored _ 91 _ _ w.few _ c.store.ensures))

pub slice_bounds-slices-end : goal.slice_bounds-slices-end
slice_bounds-slices-end c =
    let w = held _ _ c.in_default.ensures c.spelled_at-m.ensures in
    sym (length-take-le _ _ (omega (arith, stored_room c.args.text.now 91 _ _ w.few _ (front_stored _ 91 _ _ w.few _ c.store.ensures))))

pub slice_bounds-weights-end-2 : goal.slice_bounds-weights-end-2
slice_bounds-weights-end-2 c =
    let w = held _ _ c.in_default.ensures c.spelled_at-m.ensures in
    omega (arith, stored_room c.args.text.now 102 _ _ w.few _ (front_stored _ 102 _ _ w.few _ c.store-2.ensures))

pub slice_bounds-slices-end-2 : goal.slice_bounds-slices-end-2
slice_bounds-slices-end-2 c =
    let w = held _ _ c.in_default.ensures c.spelled_at-m.ensures in
    sym (length-take-le _ _ (omega (arith, stored_room c.args.text.now 102 _ _ w.few _ (front_stored _ 102 _ _ w.few _ c.store-2.ensures))))

pub slice_bounds-yields-end-2 : goal.slice_bounds-yields-end-2
slice_bounds-yields-end-2 c =
    let w = held _ _ c.in_default.ensures c.spelled_at-m.ensures in
    omega (arith, stored_room c.args.text.now 113 _ _ w.few _ (front_stored _ 113 _ _ w.few _ c.store-3.ensures))

pub slice_bounds-slices-end-3 : goal.slice_bounds-slices-end-3
slice_bounds-slices-end-3 c =
    let w = held _ _ c.in_default.ensures c.spelled_at-m.ensures in
    sym (length-take-le _ _ (omega (arith, stored_room c.args.text.now 113 _ _ w.few _ (front_stored _ 113 _ _ w.few _ c.store-3.ensures))))

pub slice_bounds-days-end : goal.slice_bounds-days-end
slice_bounds-days-end c = omega (arith, (held _ _ c.in_default.ensures c.spelled_at-m.ensures).few)

pub slice_bounds-slices-end-4 : goal.slice_bounds-slices-end-4
slice_bounds-slices-end-4 c =
    sym (length-take-le _ _ (omega (arith, (held _ _ c.in_default.ensures c.spelled_at-m.ensures).few, length-replicate {A = ℕ} (most_deliveries + 1) 0)))

pub returns : goal.returns
returns c =
    let w = held _ _ c.in_default.ensures c.spelled_at-m.ensures in
    program_answers _ _ (met _ _ c.in_default.ensures).0 c.spelled_at-m.ensures _ _ _
    (front_stored _ 91 _ _ w.few _ c.store.ensures) (front_stored _ 102 _ _ w.few _ c.store-2.ensures) (front_stored _ 113 _ _ w.few _ c.store-3.ensures) _ c.answer.ensures
