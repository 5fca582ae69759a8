-- A stride's sum goes on from that of the strides before it (`sum_next`); where a record fails, the whole does (`stopped`).
use Rattle.std.proofs.Common.{◌≡◌, ◌+◌, ◌*◌, ◌/◌, ◌∙◌, arith}
use Rattle.model.specs.Lent.{records_given}
use Rattle.model.specs.Deliveries.{totals_during}
use Rattle.scan.proofs.Fitting.{sum_start, sum_next, sum_small, lent_small, stopped, ended}
use Rattle.scan.proofs.sum_all.Goals as goal

pub loop-n-init : goal.loop-n-init
loop-n-init g c = rw c.none-sum.ensures (sum_start _ _ _ _)

pub returns-in_err-sum_stride : goal.returns-in_err-sum_stride
returns-in_err-sum_stride g c =
    let i = c.loop-n.n * 64 in
    c.from_residual.ensures ∙ stopped _ _ c.args.r.even _ i c.loop-n.invariant _ (i + 64) c.part.ensures (omega arith) (omega arith) _ c.in_err-sum_stride.ensures

pub plus-sum-requires : goal.plus-sum-requires
plus-sum-requires g c =
    let a = c.args in
    let z = g.D.Days.span_asked a.days in
    let s = c.part.result in (
      sum_small a.lo a.hi z _ a.r.even a.r.few _ _ c.loop-n.invariant,
      lent_small a.lo a.hi z (records_given s) s.even s.few _ c.in_ok-sum_stride.ensures,
    )

pub loop-n-preserved : goal.loop-n-preserved
loop-n-preserved g c =
    let a = c.args in
    let i = c.loop-n.n * 64 in
    let next : (c.loop-n.n + 1) * 64 ≡ i + 64 = omega arith in
    rw next (
    sum_next a.lo a.hi (g.D.Days.span_asked a.days) _ a.r.even _ i c.loop-n.invariant _ (i + 64) c.part.ensures (omega arith) (omega arith) _
    c.in_ok-sum_stride.ensures _ c.plus-sum.ensures
    )

pub returns-in_err-sum_stride-2 : goal.returns-in_err-sum_stride-2
returns-in_err-sum_stride-2 g c =
    let last : c.loop-n.n ≡ c.len-strides.result / 64 = omega arith in
    c.from_residual-in_err-sum_stride-2.ensures ∙ stopped _ _ c.args.r.even _ _ (rw last at c.loop-n.invariant) _ _ c.part-2.ensures (omega arith) (omega arith) _ c.in_err-sum_stride-2.ensures

pub plus-requires : goal.plus-requires
plus-requires g c =
    let a = c.args in
    let z = g.D.Days.span_asked a.days in
    let s = c.part-2.result in (
      sum_small a.lo a.hi z _ a.r.even a.r.few _ _ c.loop-n.invariant,
      lent_small a.lo a.hi z (records_given s) s.even s.few _ c.in_ok-sum_stride-2.ensures,
    )

pub returns : goal.returns
returns g c =
    let a = c.args in
    let z = g.D.Days.span_asked a.days in
    let last : c.loop-n.n ≡ c.len-strides.result / 64 = omega arith in
    let all = sum_next a.lo a.hi z _ a.r.even _ _ (rw last at c.loop-n.invariant) _ _ c.part-2.ensures (omega arith) (omega arith) _ c.in_ok-sum_stride-2.ensures _ c.plus.ensures in
    ended (totals_during a.lo a.hi z) _ a.r.even _ _ all (omega arith)
