-- What is handed on are the new partition's records and all behind them (`part_is`), where the old one begins as much later as it did (`start_from`); with what
-- comes back (`each_backward_back`) the slots are the model's.
use Rattle.std.proofs.Common.{arith}
use Rattle.model.proofs.Parts.{start_mono}
use Rattle.ripple.proofs.PutBack.{start_from, nth_from, part_is, each_backward_back}
use Rattle.ripple.proofs.backward_slots.Goals as goal

pub overflow_sub-from_start : goal.overflow_sub-from_start
overflow_sub-from_start c = omega (arith, start_mono c.args.lens.now c.args.to c.args.from (omega arith))

pub backward_part-requires : goal.backward_part-requires
backward_part-requires c =
    let a = c.args in
    let p = c.requires in
    let q = part_is _ _ _ _ p.3 p.6 in
    let k = start_from a.lens.now a.to a.from (omega arith) in
    (omega arith, omega arith, omega arith, rw (nth_from _ a.to a.from (omega arith)) p.4, omega arith, q.3)

pub returns : goal.returns
returns c =
    let p = c.requires in
    each_backward_back _ _ _ c.args.to_start _ _ p.3 _ _ _ p.6 p.0 p.1 p.4 p.5 p.2 c.backward_part.ensures
