-- `sheet_lines::run_at`: a slot of the grower adds its kg and oil; a slot of another grower, or the order's end, ends the run. Assumes nothing.
use Rattle.std.proofs.Common.{get_or, arith}
use Rattle.model.specs.Lent.{records_given}
use Rattle.slot_order.proofs.Counting.{slot_in}
use Rattle.slices.proofs.Scans.{modest}
use Rattle.sheet_lines.proofs.RunLaws.{run_start, run_next, run_stops, run_ends}
use Rattle.sheet_lines.proofs.run_at.Goals as goal

pub bounds-r-order : goal.bounds-r-order
bounds-r-order c = slot_in c.args.r.growers.now c.args.order.now c.args.from c.requires.2 c.requires.3

pub loop-i-init : goal.loop-i-init
loop-i-init c = rw c.none-run.ensures (run_start _ _ _ c.requires.3)

pub bounds-r-slot : goal.bounds-r-slot
bounds-r-slot c = slot_in c.args.r.growers.now c.args.order.now c.loop-i.i c.requires.2 c.loop-i-test.true

pub returns-then-r-slot : goal.returns-then-r-slot
returns-then-r-slot c = run_stops c.loop-i.invariant c.loop-i-test.true c.if-r-slot.true

pub bounds-r-slot-in-loop-i : goal.bounds-r-slot-in-loop-i
bounds-r-slot-in-loop-i c = omega (arith, slot_in c.args.r.growers.now c.args.order.now c.loop-i.i c.requires.2 c.loop-i-test.true, c.args.r.even)

pub bounds-r-slot-in-loop-i-2 : goal.bounds-r-slot-in-loop-i-2
bounds-r-slot-in-loop-i-2 c = omega (arith, slot_in c.args.r.growers.now c.args.order.now c.loop-i.i c.requires.2 c.loop-i-test.true, c.args.r.even)

pub overflow_add-run-in-loop-i-2 : goal.overflow_add-run-in-loop-i-2
overflow_add-run-in-loop-i-2 c =
    rw (c.from-weight.ensures, c.from.ensures) (omega (arith, c.loop-i.invariant.little, (modest (records_given c.args.r) (get_or c.args.order.now c.loop-i.i 0) c.requires.0).oil))

pub loop-i-preserved : goal.loop-i-preserved
loop-i-preserved c = rw (c.from-weight.ensures, c.from.ensures) (run_next c.loop-i.invariant c.requires.0 c.loop-i-test.true c.if-r-slot.false)

pub returns : goal.returns
returns c = run_ends c.loop-i.invariant c.loop-i-test.false
