-- What is handed on are the partition's records and all behind them (`part_is`); with what comes back (`each_put`) the slots are the model's.
use Rattle.std.proofs.Common.{arith}
use Rattle.ripple.proofs.PutBack.{part_is, each_put}
use Rattle.ripple.proofs.insert_slots.Goals as goal

pub insert_part-requires : goal.insert_part-requires
insert_part-requires c =
    let p = c.requires in
    let q = part_is _ _ _ _ p.1 p.4 in
    (omega arith, omega arith, omega arith, q.3)

pub returns : goal.returns
returns c = each_put _ _ _ c.args.start _ _ c.requires.1 c.insert_part.ensures
