-- `growers::near_all`: with a stride more the search is that of its records too (`onward_part`).
use Rattle.std.proofs.Common.{◌≡◌, ◌+◌, ℕ, ◌-◌, ◌*◌, ◌%◌, arith, Some, None}
use Rattle.model.specs.Lent.{records_given}
use Rattle.growers.proofs.Joining.{Onward, onward_start, onward_fits, onward_part, onward_end, onward_bad}
use Rattle.growers.proofs.near_all.Goals as goal

pub loop-i-init : goal.loop-i-init
loop-i-init g c = onward_start g.W.Way.direction c.args.grower (records_given c.args.r) c.args.r.even

pub near_more-requires : goal.near_more-requires
near_more-requires g c = onward_fits g.W.Way.direction c.args.grower (records_given c.args.r) c.args.r.even c.loop-i.so_far (64 * c.loop-i.i) c.loop-i.invariant c.args.r.few

pub returns-in_err-so_far : goal.returns-in_err-so_far
returns-in_err-so_far g c =
    let r = records_given c.args.r in
    let part : Onward g.W.Way.direction c.args.grower r None (64 * c.loop-i.i + 64)
    = onward_part g.W.Way.direction c.args.grower r c.args.r.even c.loop-i.so_far (64 * c.loop-i.i) c.loop-i.invariant c.len-n.result (c.loop-i.i * 64) 64 _ _ _ None
    c.len-n.ensures c.either-first_edge.ensures (omega arith) c.onward.ensures c.part_onward-stride.ensures (omega arith) c.in_err-so_far.ensures in
    rw c.from_residual.ensures (onward_bad g.W.Way.direction c.args.grower r c.args.r.even (64 * c.loop-i.i + 64) part)

pub loop-i-preserved : goal.loop-i-preserved
loop-i-preserved g c =
    let r = records_given c.args.r in
    let z : 64 * (c.loop-i.i + 1) ≡ 64 * c.loop-i.i + 64 = omega arith in
    let part : Onward g.W.Way.direction c.args.grower r (Some c.in_ok-so_far.so_far) (64 * c.loop-i.i + 64)
    = onward_part g.W.Way.direction c.args.grower r c.args.r.even c.loop-i.so_far (64 * c.loop-i.i) c.loop-i.invariant c.len-n.result (c.loop-i.i * 64) 64 _ _ _ (Some c.in_ok-so_far.so_far)
    c.len-n.ensures c.either-first_edge.ensures (omega arith) c.onward.ensures c.part_onward-stride.ensures (omega arith) c.in_ok-so_far.ensures in
    rw z part

pub near_more-requires-2 : goal.near_more-requires-2
near_more-requires-2 g c = onward_fits g.W.Way.direction c.args.grower (records_given c.args.r) c.args.r.even c.loop-i.so_far (64 * c.loop-i.i) c.loop-i.invariant c.args.r.few

pub returns : goal.returns
returns g c =
    let r = records_given c.args.r in
    let n : ℕ = c.len-n.result in
    onward_end g.W.Way.direction c.args.grower r c.args.r.even c.near_more-2.result (64 * c.loop-i.i + n % 64)
    (onward_part g.W.Way.direction c.args.grower r c.args.r.even c.loop-i.so_far (64 * c.loop-i.i) c.loop-i.invariant n (n - n % 64) (n % 64) _ _ _ c.near_more-2.result
    c.len-n.ensures c.either-first_edge.ensures (omega arith) c.onward-2.ensures c.part_onward.ensures (omega arith) c.near_more-2.ensures)
    (omega arith)
