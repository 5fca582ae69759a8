-- `grower_count::window`: a turn adds slots of further growers and keeps the smallest, and passes at least one slot. Assumes nothing.
use Rattle.std.proofs.Common.{sym, ◌∙◌, arith, length-take-le}
use Rattle.grower_count.proofs.Windows.{window_start, filled_there, window_next}
use Rattle.grower_count.proofs.window.Goals as goal

pub loop-i-init : goal.loop-i-init
loop-i-init c = record { held = window_start _; inside = omega arith }

pub keep_smallest-n-requires : goal.keep_smallest-n-requires
keep_smallest-n-requires c =
    let e = c.fill-f.ensures.0 in
    let long = length-take-le c.fill-f.result.count c.fill-f.new.batch (omega (arith, e.room, e.same_length)) in
    (length-take-le _ _ (omega (arith, e.room)) ∙ sym long, omega (arith, long, e.room), filled_there c.loop-i.invariant.held e)

pub loop-i-preserved : goal.loop-i-preserved
loop-i-preserved c = record { held = window_next c.loop-i.invariant.held c.fill-f.ensures.0 _ c.keep_smallest-n.ensures.0; inside = c.fill-f.ensures.0.inside }
