-- A partition whose growers lie between its fences leaves those behind it, since the fences rise.
use Rattle.std.proofs.Common.{arith}
use Rattle.snapshot.proofs.Sounding.{fit_slice, sound_start, sound_room, tested, sound_stop, sound_next, sound_end}
use Rattle.snapshot.proofs.sound_ok.Goals as goal

pub loop-p-init : goal.loop-p-init
loop-p-init c = let q = c.requires in sound_start _ _ _ q.0 q.1 q.2 (fit_slice _ (λ i. omega (arith, c.type_inv.g i)))

pub slice_bounds-between-end : goal.slice_bounds-between-end
slice_bounds-between-end c = omega (arith, sound_room c.loop-p-test.true c.loop-p.invariant, c.loop-p.invariant.total)

pub returns-then-not-between : goal.returns-then-not-between
returns-then-not-between c =
    let h = c.loop-p-test.true in
    let w = c.loop-p.invariant in
    sound_stop h w (tested h w _ c.low_of.ensures c.high_of.ensures c.if-not-between.ensures)

pub loop-p-preserved : goal.loop-p-preserved
loop-p-preserved c =
    let h = c.loop-p-test.true in
    let w = c.loop-p.invariant in
    sound_next h w (tested h w _ c.low_of.ensures c.high_of.ensures c.if-not-between.ensures)

pub returns : goal.returns
returns c = sound_end (omega arith) c.loop-p.invariant
