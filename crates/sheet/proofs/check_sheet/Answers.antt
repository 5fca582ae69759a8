-- `sheet::check_sheet`: 19 and 15 are put where the column's checks passed, 15 of the order, of the room to work in and of the text; each "no" refuses.
-- Assumes nothing.
use Rattle.std.proofs.Common.{◌≡◌, ℕ, length, refl, sym, ap, ◌∙◌, arith}
use Rattle.std.specs.Prelude.{Some, None}
use Rattle.std.proofs.lemmas.Result.{err_from_is_err_and}
use Rattle.model.specs.Bounds.{block_limit}
use Rattle.model.specs.Lists.{every}
use Rattle.model.specs.Checks.{first_failed}
use Rattle.model.specs.Deliveries.{Slices, day_ok}
use Rattle.model.specs.Column.{all_records}
use Rattle.model.specs.Lent.{column_given, span_given}
use Rattle.model.specs.Sheet.{slots_during}
use Rattle.checks.specs.Values.{all_days_ok}
use Rattle.snapshot.specs.Answers.{sound_checks}
use Rattle.snapshot.proofs.WriteAnswers.{days_there}
use Rattle.sheet.specs.Answers.{span_slots}
use Rattle.sheet.proofs.SheetAnswers.{column_first, days_refused, order_short, work_short, text_short, all_fits, sound_lent, slots_are, text_size}
use Rattle.sheet.proofs.check_sheet.Goals as goal
use Rattle.sheet.proofs.check_sheet.Goals.{then-order_room-count-via-then-order_room-count, then-order_room-count-via-else-order_room-count+then-work_room-count}
use Rattle.sheet.proofs.check_sheet.Goals.{then-order_room-count-via-else-order_room-count+else-work_room-count+then-not-lines_fit}

pub returns-in_err-records-clause-refused : goal.returns-in_err-records-clause-refused
returns-in_err-records-clause-refused c =
    let p = err_from_is_err_and c.from_residual.result c.from_residual.ensures.1 in
    rw (p.1, p.2) (column_first block_limit (column_given c.args.directory.now c.args.slices) c.args.days _ _ _ _ c.in_err-records.ensures.refused)

pub returns-in_default-clause-refused : goal.returns-in_default-clause-refused
returns-in_default-clause-refused c =
    let col = column_given c.args.directory.now c.args.slices in
    let n : first_failed (sound_checks block_limit col) ≡ 0 = sym c.in_ok-records.ensures.refused in
    rw c.in_default.is (days_refused block_limit col None c.args.room c.args.order_room c.args.work_room n refl)

pub returns-then-not-days_ok-clause-refused : goal.returns-then-not-days_ok-clause-refused
returns-then-not-days_ok-clause-refused c =
    let col = column_given c.args.directory.now c.args.slices in
    let n : first_failed (sound_checks block_limit col) ≡ 0 = sym c.in_ok-records.ensures.refused in
    let q = c.in_ok-records.ensures.accepted in
    let l = sound_lent block_limit col n in
    let d : every day_ok (all_records block_limit col) ≡ c.days_ok.result
    = days_there block_limit col l _ _ refl (c.days_ok.ensures ∙ ap (λ (x : Slices). all_days_ok x.days) q) in
    rw c.in-Some.is (days_refused block_limit col (Some c.in-Some.days) c.args.room c.args.order_room c.args.work_room n (d ∙ c.if-not-days_ok.true))

pub returns-then-order_room-count-clause-refused : goal.returns-then-order_room-count-clause-refused
returns-then-order_room-count-clause-refused c =
    let col = column_given c.args.directory.now c.args.slices in
    let n : first_failed (sound_checks block_limit col) ≡ 0 = sym c.in_ok-records.ensures.refused in
    let q = c.in_ok-records.ensures.accepted in
    let l = sound_lent block_limit col n in
    let d : every day_ok (all_records block_limit col) ≡ c.days_ok.result
    = days_there block_limit col l _ _ refl (c.days_ok.ensures ∙ ap (λ (x : Slices). all_days_ok x.days) q) in
    let s = span_given c.in-Some.days in
    let e : length c.in_ok-records.records.days.now ≡ length c.in_ok-records.records.growers.now = omega (arith, c.in_ok-records.records.even) in
    let k : c.count_during-count.result ≡ length (span_slots block_limit col s)
    = c.count_during-count.ensures ∙ ap (λ (m : ℕ). length (slots_during s c.in_ok-records.records.days.now m)) e ∙ ap length (slots_are block_limit col l s q) in
    let y = d ∙ c.if-not-days_ok.false in
    rw c.in-Some.is
    elim c.then-order_room-count.branch [
      | then-order_room-count-via-then-order_room-count w ↦ order_short block_limit col (Some c.in-Some.days) c.args.room c.args.order_room c.args.work_room n y k w.if-order_room-count.true
      | then-order_room-count-via-else-order_room-count+then-work_room-count w ↦ work_short block_limit col
          (Some c.in-Some.days) c.args.room c.args.order_room c.args.work_room n y k w.if-order_room-count.false w.if-work_room-count.true
      | then-order_room-count-via-else-order_room-count+else-work_room-count+then-not-lines_fit w ↦
          text_short block_limit col (Some c.in-Some.days) c.args.room c.args.order_room c.args.work_room n y k (text_size block_limit col l s q) (sym w.lines_fit.ensures ∙ w.if-not-lines_fit.true)
    ]

pub returns-clause-refused : goal.returns-clause-refused
returns-clause-refused c =
    let col = column_given c.args.directory.now c.args.slices in
    let n : first_failed (sound_checks block_limit col) ≡ 0 = sym c.in_ok-records.ensures.refused in
    let q = c.in_ok-records.ensures.accepted in
    let l = sound_lent block_limit col n in
    let d : every day_ok (all_records block_limit col) ≡ c.days_ok.result
    = days_there block_limit col l _ _ refl (c.days_ok.ensures ∙ ap (λ (x : Slices). all_days_ok x.days) q) in
    let s = span_given c.in-Some.days in
    let e : length c.in_ok-records.records.days.now ≡ length c.in_ok-records.records.growers.now = omega (arith, c.in_ok-records.records.even) in
    let k : c.count_during-count.result ≡ length (span_slots block_limit col s)
    = c.count_during-count.ensures ∙ ap (λ (m : ℕ). length (slots_during s c.in_ok-records.records.days.now m)) e ∙ ap length (slots_are block_limit col l s q) in
    rw c.in-Some.is
    (all_fits block_limit col (Some c.in-Some.days) c.args.room c.args.order_room c.args.work_room n (d ∙ c.if-not-days_ok.false) k (text_size block_limit col l s q)
    (sym c.lines_fit.ensures ∙ c.if-not-lines_fit.false)
    c.if-order_room-count.false c.if-work_room-count.false)
