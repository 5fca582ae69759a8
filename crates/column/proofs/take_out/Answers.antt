-- The ripple moves the slots by the lent lengths, which are the column's, and one length shrinks.
use Rattle.std.proofs.Common.{ℕ, List}
use Rattle.model.specs.Bounds.{block_limit}
use Rattle.model.specs.Moves.{deleted}
use Rattle.directory.proofs.Numbers.{has_numbered, has_inside}
use Rattle.column.proofs.Writing.{column_is}
use Rattle.column.proofs.take_out.Goals as goal

pub lengths-requires : goal.lengths-requires
lengths-requires c = has_numbered block_limit _ _ c.requires.0.here

pub delete_slots-requires : goal.delete_slots-requires
delete_slots-requires c =
    let p = c.requires in
    rw c.lengths.ensures (has_inside block_limit _ _ p.0.here, p.0.start, p.1, p.0.room, p.0.even)

pub returns : goal.returns
returns c = column_is (λ (ls : List ℕ). deleted ls c.args.partition c.args.slot) _ _ _ _ _ _ _ c.lengths.ensures c.shrink.ensures c.delete_slots.ensures
