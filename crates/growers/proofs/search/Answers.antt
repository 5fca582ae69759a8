-- `growers::search`: each partition of the path lies in the slices, since the lengths sum to no more (`Met`). An empty one answers nothing (`searching_skip`).
use Rattle.std.proofs.Common.{◌≡◌, ◌≤◌, length, ℕ, arith, Bool, get_or, sym, ap, ◌∙◌, ◌&&◌, List, Option, Some, None}
use Rattle.model.specs.Bounds.{most_slots}
use Rattle.model.specs.Lists.{every}
use Rattle.model.specs.Lent.{records_given}
use Rattle.model.specs.Deliveries.{Slices, rows}
use Rattle.model.specs.Growers.{Direction}
use Rattle.growers.specs.Searches.{near_all}
use Rattle.model.specs.Lists.{sum_of}
use Rattle.model.specs.Deliveries.{day_ok, Even}
use Rattle.checks.specs.Values.{all_days_ok}
use Rattle.model.proofs.AccessLaws.{blocks_most}
use Rattle.model.proofs.Parts.{stop_le}
use Rattle.model.proofs.Deliveries.{length-rows, days_rows}
use Rattle.std.proofs.lemmas.Result.{err_from_is_err_and}
use Rattle.growers.proofs.Searching.{steps_most, within_more, Met, met, searching_start, searching_end, searching_skip, searching_bad, searching_hit, searching_next, lent_part}
use Rattle.model.specs.declared.refusal.Refusal.TheVariants.{Values}
use Rattle.growers.specs.declared.Nearest.{Nearest}
use Rattle.growers.proofs.search.Goals as goal

-- what a search of a part of the records says
of_part : (w : Direction) (k : ℕ) {x o : Option Nearest} {s t : Slices} → x ≡ o → x ≡ near_all w k (rows s) → s ≡ t → o ≡ near_all w k (rows t)
of_part w k e f q = sym e ∙ f ∙ ap (λ (s : Slices). near_all w k (rows s)) q

days_of : (t u : Bool) (s v : Slices) → u ≡ all_days_ok s.days → Even s → s ≡ v → t && u ≡ t && every day_ok (rows v)
days_of t u s v e p q = ap (λ (b : Bool). t && b) (e ∙ sym (days_rows s p) ∙ ap (λ (x : Slices). every day_ok (rows x)) q)

pub overflow_add-start : goal.overflow_add-start
overflow_add-start g c = omega (arith, c.requires.4, stop_le c.args.lens.now c.args.from c.requires.0, c.requires.2, c.args.r.few)

pub loop-j-init : goal.loop-j-init
loop-j-init g c = searching_start _ _ _ _ _ _ _ _ c.requires.0 c.requires.4 c.either-edge.ensures

pub loop-j-preserved-then-count-eq0 : goal.loop-j-preserved-then-count-eq0
loop-j-preserved-then-count-eq0 g c =
    let w : Direction = g.W.Way.direction in
    let ns : List ℕ = c.args.lens.now in
    let m : Met w ns c.args.from c.loop-j.edge c.loop-j.j c.onward.result
    = met w ns c.args.from c.loop-j.edge c.loop-j.j c.onward.result c.requires.0 (rw c.either-j-end.ensures at c.loop-j-test.true) c.loop-j.invariant.here c.onward.ensures in
    searching_skip c.loop-j.invariant m c.requires.3 (omega arith)

pub part_onward-partition-requires : goal.part_onward-partition-requires
part_onward-partition-requires g c =
    let w : Direction = g.W.Way.direction in
    let ns : List ℕ = c.args.lens.now in
    let m : Met w ns c.args.from c.loop-j.edge c.loop-j.j c.onward.result
    = met w ns c.args.from c.loop-j.edge c.loop-j.j c.onward.result c.requires.0 (rw c.either-j-end.ensures at c.loop-j-test.true) c.loop-j.invariant.here c.onward.ensures in
    within_more w _ _ _ _ c.requires.2 m.within

pub onward-edge-requires : goal.onward-edge-requires
onward-edge-requires g c =
    let w : Direction = g.W.Way.direction in
    let ns : List ℕ = c.args.lens.now in
    let m : Met w ns c.args.from c.loop-j.edge c.loop-j.j c.onward.result
    = met w ns c.args.from c.loop-j.edge c.loop-j.j c.onward.result c.requires.0 (rw c.either-j-end.ensures at c.loop-j-test.true) c.loop-j.invariant.here c.onward.ensures in
    within_more w _ _ _ _ (omega (arith, c.requires.2, c.args.r.few)) m.within

pub returns-in_err-nearest : goal.returns-in_err-nearest
returns-in_err-nearest g c =
    let w : Direction = g.W.Way.direction in
    let ns : List ℕ = c.args.lens.now in
    let m : Met w ns c.args.from c.loop-j.edge c.loop-j.j c.onward.result
    = met w ns c.args.from c.loop-j.edge c.loop-j.j c.onward.result c.requires.0 (rw c.either-j-end.ensures at c.loop-j-test.true) c.loop-j.invariant.here c.onward.ensures in
    let room : sum_of ns ≤ length (rows (records_given c.args.r)) = omega (arith, length-rows (records_given c.args.r) c.args.r.even, c.requires.2) in
    let p = err_from_is_err_and c.from_residual.result c.from_residual.ensures.1 in
    let o : c.near_all.result ≡ None = c.in_err-nearest.ensures.ok_part in
    let v = rw o at c.in_err-nearest.ensures.value in
    let e : c.in_err-nearest.field-0.0 ≡ Values = cc in
    let bad : None ≡ near_all w c.args.grower (rows (lent_part c.loop-j.invariant c.onward.result)) = of_part w c.args.grower o c.near_all.ensures c.part_onward-partition.ensures in
    rw (p.1, p.2, e) (searching_bad c.loop-j.invariant m room bad)

pub blocks_of-scanned-requires : goal.blocks_of-scanned-requires
blocks_of-scanned-requires g c =
    let w : Direction = g.W.Way.direction in
    let ns : List ℕ = c.args.lens.now in
    let m : Met w ns c.args.from c.loop-j.edge c.loop-j.j c.onward.result
    = met w ns c.args.from c.loop-j.edge c.loop-j.j c.onward.result c.requires.0 (rw c.either-j-end.ensures at c.loop-j-test.true) c.loop-j.invariant.here c.onward.ensures in
    (c.requires.3, omega (arith, stop_le ns c.onward.result m.there, c.requires.2, c.args.r.few))

pub overflow_add-blocks : goal.overflow_add-blocks
overflow_add-blocks g c =
    let w : Direction = g.W.Way.direction in
    let ns : List ℕ = c.args.lens.now in
    let m : Met w ns c.args.from c.loop-j.edge c.loop-j.j c.onward.result
    = met w ns c.args.from c.loop-j.edge c.loop-j.j c.onward.result c.requires.0 (rw c.either-j-end.ensures at c.loop-j-test.true) c.loop-j.invariant.here c.onward.ensures in
    let size : get_or ns c.onward.result 0 ≤ most_slots = omega (arith, stop_le ns c.onward.result m.there, c.requires.2, c.args.r.few) in
    omega (
      arith,
      c.loop-j.invariant.few,
      m.on-path,
      steps_most w ns c.args.from c.requires.0,
      c.requires.1,
      size,
      blocks_most c.args.block (get_or ns c.onward.result 0) c.requires.3,
      c.blocks_of-scanned.ensures,
    )

pub returns-then-nearest-gt0 : goal.returns-then-nearest-gt0
returns-then-nearest-gt0 g c =
    let w : Direction = g.W.Way.direction in
    let ns : List ℕ = c.args.lens.now in
    let m : Met w ns c.args.from c.loop-j.edge c.loop-j.j c.onward.result
    = met w ns c.args.from c.loop-j.edge c.loop-j.j c.onward.result c.requires.0 (rw c.either-j-end.ensures at c.loop-j-test.true) c.loop-j.invariant.here c.onward.ensures in
    let room : sum_of ns ≤ length (rows (records_given c.args.r)) = omega (arith, length-rows (records_given c.args.r) c.args.r.even, c.requires.2) in
    let days : c.loop-j.dated && c.days_ok-dated.result ≡ c.loop-j.dated && every day_ok (rows (lent_part c.loop-j.invariant c.onward.result))
    = days_of c.loop-j.dated c.days_ok-dated.result (records_given c.part_onward-partition.result) _ c.days_ok-dated.ensures c.part_onward-partition.result.even c.part_onward-partition.ensures in
    let o : c.near_all.result ≡ Some c.in_ok-nearest.nearest = c.in_ok-nearest.ensures.ok_part in
    let e : Some c.in_ok-nearest.nearest ≡ near_all w c.args.grower
    (rows (lent_part c.loop-j.invariant c.onward.result)) = of_part w c.args.grower o c.near_all.ensures c.part_onward-partition.ensures in
    c.found.ensures
    ∙ searching_hit c.loop-j.invariant m room e days c.blocks_of-scanned.ensures (omega (arith, c.if-nearest-gt0.true))

pub loop-j-preserved : goal.loop-j-preserved
loop-j-preserved g c =
    let w : Direction = g.W.Way.direction in
    let ns : List ℕ = c.args.lens.now in
    let m : Met w ns c.args.from c.loop-j.edge c.loop-j.j c.onward.result
    = met w ns c.args.from c.loop-j.edge c.loop-j.j c.onward.result c.requires.0 (rw c.either-j-end.ensures at c.loop-j-test.true) c.loop-j.invariant.here c.onward.ensures in
    let room : sum_of ns ≤ length (rows (records_given c.args.r)) = omega (arith, length-rows (records_given c.args.r) c.args.r.even, c.requires.2) in
    let days : c.loop-j.dated && c.days_ok-dated.result ≡ c.loop-j.dated && every day_ok (rows (lent_part c.loop-j.invariant c.onward.result))
    = days_of c.loop-j.dated c.days_ok-dated.result (records_given c.part_onward-partition.result) _ c.days_ok-dated.ensures c.part_onward-partition.result.even c.part_onward-partition.ensures in
    let size : get_or ns c.onward.result 0 ≤ most_slots = omega (arith, stop_le ns c.onward.result m.there, c.requires.2, c.args.r.few) in
    let o : c.near_all.result ≡ Some c.in_ok-nearest.nearest = c.in_ok-nearest.ensures.ok_part in
    let e : Some c.in_ok-nearest.nearest ≡ near_all w c.args.grower
    (rows (lent_part c.loop-j.invariant c.onward.result)) = of_part w c.args.grower o c.near_all.ensures c.part_onward-partition.ensures in
    searching_next c.loop-j.invariant m room e days c.blocks_of-scanned.ensures (omega (arith, c.if-nearest-gt0.false)) c.onward-edge.ensures c.requires.3 size

pub returns : goal.returns
returns g c = c.found-2.ensures ∙ searching_end c.loop-j.invariant (omega (arith, c.loop-j-test.false, c.either-j-end.ensures))
