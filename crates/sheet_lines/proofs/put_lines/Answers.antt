-- `sheet_lines::put_lines`: a run is one grower's slots, so the line written is the first of those left. Assumes nothing.
use Rattle.std.proofs.Common.{◌≡◌, ◌+◌, length, ap, ◌∙◌, arith}
use Rattle.model.specs.declared.Totals.{Totals}
use Rattle.model.specs.Lent.{records_given}
use Rattle.slot_order.proofs.Counting.{slot_in}
use Rattle.sheet_lines.specs.Runs.{run_from}
use Rattle.sheet_lines.proofs.RunLaws.{run_long}
use Rattle.sheet_lines.proofs.GroupLines.{lines_start, sums_light, run_some, line_room, run_light, lines_next, lines_bytes, lines_text, lines-totals}
use Rattle.sheet_lines.proofs.put_lines.Goals as goal

pub loop-i-init : goal.loop-i-init
loop-i-init c = lines_start c.requires.0 c.requires.1 c.none-totals.ensures c.requires.2

pub bounds-r-order : goal.bounds-r-order
bounds-r-order c = slot_in c.args.r.growers.now c.args.order.now c.loop-i.i c.requires.1.there c.loop-i-test.true

pub put_line-requires : goal.put_line-requires
put_line-requires c = line_room c.loop-i.invariant c.loop-i-test.true

pub plus-totals-requires : goal.plus-totals-requires
plus-totals-requires c = (sums_light c.loop-i.invariant, run_light c.loop-i.invariant c.loop-i-test.true c.run_at-run.ensures)

pub overflow_add-i : goal.overflow_add-i
overflow_add-i c = omega (arith, (run_light c.loop-i.invariant c.loop-i-test.true c.run_at-run.ensures).few, c.requires.1.few)

pub loop-i-smaller : goal.loop-i-smaller
loop-i-smaller c =
    let s = records_given c.args.r in
    let run = run_from s.growers c.loop-i.i c.args.order.now in
    omega (arith, ap (λ (t : Totals). t.records) c.run_at-run.ensures ∙ run_long s run, run_some c.loop-i.invariant c.loop-i-test.true)

pub loop-i-preserved : goal.loop-i-preserved
loop-i-preserved c =
    let s = records_given c.args.r in
    let run = run_from s.growers c.loop-i.i c.args.order.now in
    let n : c.loop-i.i + c.run_at-run.result.records ≡ c.loop-i.i + length run
    = omega (arith, ap (λ (t : Totals). t.records) c.run_at-run.ensures ∙ run_long s run) in
    lines_next c.loop-i.invariant c.loop-i-test.true c.run_at-run.ensures c.put_line.ensures c.plus-totals.ensures n

pub returns : goal.returns
returns c = (lines_text c.loop-i.invariant c.loop-i-test.false, lines_bytes c.loop-i.invariant c.loop-i-test.false, lines-totals c.loop-i.invariant c.loop-i-test.false)
