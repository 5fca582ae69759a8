-- `grower_count::count_records`: a full window is counted, and `lo` is past the grower of its last slot, so that fewer are left; a window that is not full holds all
-- that are left. Assumes nothing.
use Rattle.std.proofs.Common.{arith}
use Rattle.grower_count.proofs.Counting.{counted_none, counting_fits, counting_end, last_slot, counting_less, counting_more, counting_last}
use Rattle.grower_count.proofs.count_records.Goals as goal

pub loop-days-init : goal.loop-days-init
loop-days-init c = counted_none _ _

pub overflow_add-total : goal.overflow_add-total
overflow_add-total c =
    let w = c.window-n.ensures in
    omega (arith, counting_fits (record { sum = c.loop-days.invariant; window = w.0 }) (omega (arith, w.0.few, w.1)))

pub returns-then-n-lt-MOST : goal.returns-then-n-lt-MOST
returns-then-n-lt-MOST c =
    let w = c.window-n.ensures in
    counting_end (record { sum = c.loop-days.invariant; window = w.0 }) (omega (arith, w.0.few, w.1)) (λ e. omega arith)

pub number_after-requires : goal.number_after-requires
number_after-requires c =
    let w = c.window-n.ensures in
    last_slot (record { sum = c.loop-days.invariant; window = w.0 }) (omega (arith, w.0.few, w.1)) (omega (arith, w.0.few))

pub returns-in-None : goal.returns-in-None
returns-in-None c =
    let w = c.window-n.ensures in
    counting_last (record { sum = c.loop-days.invariant; window = w.0 }) (omega (arith, w.0.few, w.1)) (omega (arith, w.0.few)) (λ p. omega (arith, c.in-None.ensures p))

pub loop-days-smaller : goal.loop-days-smaller
loop-days-smaller c =
    let w = c.window-n.ensures in
    counting_less (record { sum = c.loop-days.invariant; window = w.0 }) (omega (arith, w.0.few, w.1)) (omega (arith, w.0.few)) c.in-Some.ensures

pub loop-days-preserved : goal.loop-days-preserved
loop-days-preserved c =
    let w = c.window-n.ensures in
    counting_more (record { sum = c.loop-days.invariant; window = w.0 }) (omega (arith, w.0.few, w.1)) (omega (arith, w.0.few)) c.in-Some.ensures
