-- A stride's search goes on from that of the strides before it (`seek_next`); where a record fails, the whole does (`stopped`).
use Rattle.std.proofs.Common.{◌≡◌, ◌+◌, ◌*◌, ◌/◌, ◌∙◌, arith}
use Rattle.scan.proofs.Fitting.{seek_start, seek_next, seek_end, stopped}
use Rattle.scan.proofs.seek_all.Goals as goal

pub loop-n-init : goal.loop-n-init
loop-n-init c = seek_start _ _

pub returns-in_err-found : goal.returns-in_err-found
returns-in_err-found c =
    let i = c.loop-n.n * 128 in
    c.from_residual.ensures ∙ stopped _ _ c.args.r.even _ i c.loop-n.invariant _ (i + 128) c.part.ensures (omega arith) (omega arith) _ c.in_err-found.ensures

pub loop-n-preserved : goal.loop-n-preserved
loop-n-preserved c =
    let i = c.loop-n.n * 128 in
    let next : (c.loop-n.n + 1) * 128 ≡ i + 128 = omega arith in
    rw next (seek_next c.args.d _ c.args.r.even _ i c.loop-n.invariant _ (i + 128) c.part.ensures (omega arith) (omega arith) _ c.in_ok-found.ensures)

pub returns : goal.returns
returns c =
    let last : c.loop-n.n ≡ c.len-strides.result / 128 = omega arith in
    seek_end c.args.d _ c.args.r.even _ _ (rw last at c.loop-n.invariant) _ _ c.part-2.ensures (omega arith) c.len.ensures _ c.seek_stride-2.ensures
