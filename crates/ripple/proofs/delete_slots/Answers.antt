-- What is handed on are the partition's records and all behind them (`part_is`); with what comes back (`each_pull`) the slots are the model's.
use Rattle.std.proofs.Common.{arith}
use Rattle.ripple.proofs.PutBack.{first_from, part_is, each_pull}
use Rattle.ripple.proofs.delete_slots.Goals as goal

pub delete_part-requires : goal.delete_part-requires
delete_part-requires c =
    let p = c.requires in
    let q = part_is _ _ _ _ p.1 p.4 in
    (omega arith, rw first_from p.2, omega arith, q.3)

pub returns : goal.returns
returns c = each_pull _ _ _ c.args.start _ _ c.requires.1 _ c.delete_part.ensures
