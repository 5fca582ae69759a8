-- What is handed on are the old partition's records and all behind them (`part_is`); with what comes back (`each_forward_back`) the slots are the model's.
use Rattle.std.proofs.Common.{arith}
use Rattle.ripple.proofs.PutBack.{first_from, part_is, each_forward_back}
use Rattle.ripple.proofs.forward_slots.Goals as goal

pub forward_part-requires : goal.forward_part-requires
forward_part-requires c =
    let p = c.requires in
    let q = part_is _ _ _ _ p.2 p.5 in
    (omega arith, rw first_from p.3, omega arith, q.3)

pub returns : goal.returns
returns c =
    let p = c.requires in
    each_forward_back _ _ _ c.args.from_start _ _ p.2 _ _ p.0 p.1 c.forward_part.ensures
