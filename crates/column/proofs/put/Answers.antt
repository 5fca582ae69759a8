-- The ripple moves the slots by the lent lengths, which are the column's, and one length grows.
use Rattle.std.proofs.Common.{ℕ, List}
use Rattle.model.specs.Bounds.{block_limit}
use Rattle.model.specs.Moves.{inserted}
use Rattle.directory.proofs.Numbers.{has_numbered, has_inside}
use Rattle.column.proofs.Writing.{column_is}
use Rattle.column.proofs.put.Goals as goal

pub lengths-requires : goal.lengths-requires
lengths-requires c = has_numbered block_limit _ _ c.requires.0.here

pub insert_slots-requires : goal.insert_slots-requires
insert_slots-requires c =
    let p = c.requires in
    rw c.lengths.ensures (has_inside block_limit _ _ p.0.here, p.0.start, p.1, p.2, p.0.even)

pub returns : goal.returns
returns c = column_is (λ (ls : List ℕ). inserted ls c.args.partition) _ _ _ _ _ _ _ c.lengths.ensures c.grow.ensures c.insert_slots.ensures
