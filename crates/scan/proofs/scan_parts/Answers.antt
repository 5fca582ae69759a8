-- A partition's sum and blocks go on from those of the partitions before it (`scanning_next`); an empty one adds none, and where a record fails,
-- the whole does (`scanning_not`).
use Rattle.std.proofs.Common.{◌+◌, ◌-◌, ◌≤◌, length, get_or, ap, ◌∙◌, arith}
use Rattle.model.specs.Lent.{records_given, span_given}
use Rattle.model.specs.Deliveries.{rows, totals_during}
use Rattle.model.proofs.AccessLaws.{blocks_most}
use Rattle.model.proofs.Deliveries.{length-rows}
use Rattle.model.proofs.Parts.{stop_le}
use Rattle.scan.specs.Scans.{records_in}
use Rattle.scan.proofs.Fitting.{fit_some, fit_none, fit_no, lent_small}
use Rattle.scan.proofs.Scanning.{scanning_start, scanning_next, scanning_not, scanning_skip, scanning_light, scanning_short, scanning_end}
use Rattle.scan.proofs.scan_parts.Goals as goal
use Rattle.scan.proofs.scan_parts.Goals.{then-k-gt0+in_ok-sum_part, else-k-gt0, In-loop-i}

-- a partition lies in the slices
inside : (c : In-loop-i) → c.loop-i.at + get_or c.args.lens.now c.loop-i.i 0 ≤ length c.args.r.growers.now
inside c = omega (arith, c.loop-i.invariant.here, stop_le c.args.lens.now c.loop-i.i (omega arith))

pub loop-i-init : goal.loop-i-init
loop-i-init c = rw c.none-totals.ensures (scanning_start _ _ _ _ _ _ _ _ c.requires.4)

pub overflow_add-e : goal.overflow_add-e
overflow_add-e c = omega (arith, c.loop-i.invariant.here, stop_le c.args.lens.now c.loop-i.i (omega arith), c.args.r.few)

pub part-requires : goal.part-requires
part-requires c = (omega arith, omega (arith, c.loop-i.invariant.here, stop_le c.args.lens.now c.loop-i.i (omega arith)))

pub returns-in_err-sum_part : goal.returns-in_err-sum_part
returns-in_err-sum_part c =
    let a = c.args in
    let bad = fit_none (rows (records_given c.part.result)) _ c.in_err-sum_part.ensures in
    c.from_residual.ensures
    ∙ fit_no (records_in a.lens.now a.from (a.to + 1 - a.from) (rows (records_given a.r))) _
    (scanning_not a.block a.lens.now a.from a.lo a.hi (span_given a.days) (records_given a.r) _ _ _ _ c.loop-i.invariant (omega arith) _ (ap rows c.part.ensures) _ (omega arith) bad)

pub plus-totals-requires : goal.plus-totals-requires
plus-totals-requires c =
    let a = c.args in
    let s = c.part.result in
    let z = length-rows (records_given a.r) a.r.even in (
      scanning_light _ _ _ _ _ _ _ _ _ _ _ c.loop-i.invariant (omega arith) (omega arith) (omega (arith, a.r.few)),
      lent_small a.lo a.hi (span_given a.days) (records_given s) s.even s.few _ c.in_ok-sum_part.ensures,
    )

pub blocks_of-requires : goal.blocks_of-requires
blocks_of-requires c = (omega arith, omega (arith, c.loop-i.invariant.here, stop_le c.args.lens.now c.loop-i.i (omega arith), c.args.r.few))

pub overflow_add-blocks : goal.overflow_add-blocks
overflow_add-blocks c =
    let a = c.args in
    let z = length-rows (records_given a.r) a.r.even in
    let short = scanning_short _ _ _ _ _ _ _ _ _ _ _ c.loop-i.invariant (omega arith) (omega arith) (omega (arith, a.r.few)) in
    omega (arith, short, c.blocks_of.ensures, blocks_most a.block (get_or a.lens.now c.loop-i.i 0) (omega arith), c.type_inv.lens c.loop-i.i)

pub loop-i-preserved : goal.loop-i-preserved
loop-i-preserved c =
    let a = c.args in
    let z = span_given a.days in
    elim c.if-k-gt0.branch [
      | then-k-gt0+in_ok-sum_part w ↦
          let ds = rows (records_given w.part.result) in
          let good = fit_some ds _ (totals_during a.lo a.hi z ds) w.in_ok-sum_part.ensures in
          rw (w.at-is, w.totals-is, w.blocks-is) (
          scanning_next a.block a.lens.now a.from a.lo a.hi z (records_given a.r) _ _ _ _ c.loop-i.invariant (omega arith) ds (ap rows w.part.ensures) good.0 _ _ good.1
          w.plus-totals.ensures _ w.blocks_of.ensures
          )
      | else-k-gt0 w ↦
          rw (w.at-is, w.totals-is, w.blocks-is) (
          scanning_skip a.block a.lens.now a.from a.lo a.hi z (records_given a.r) _ _ _ _ c.loop-i.invariant (omega arith) (omega arith) (omega (arith, w.if-k-gt0.false))
          )
    ]

pub returns : goal.returns
returns c = scanning_end _ _ _ _ _ _ _ _ _ _ _ _ c.loop-i.invariant (omega arith)
