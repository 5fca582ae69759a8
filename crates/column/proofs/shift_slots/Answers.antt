-- To the same or a later partition the ripple goes forward, to an earlier one backward; each by the lent lengths, which are the column's.
use Rattle.model.specs.Bounds.{block_limit}
use Rattle.directory.specs.Numbers.{HasPartition}
use Rattle.directory.proofs.Numbers.{has_numbered, has_inside}
use Rattle.column.proofs.shift_slots.Goals as goal
use Rattle.column.proofs.shift_slots.Goals.{Start}

to_there : (c : Start) → HasPartition block_limit c.args.directory.now c.args.to
to_there c = record { shaped = c.requires.0.here.shaped; there = c.requires.2 }

pub lengths-requires : goal.lengths-requires
lengths-requires c = has_numbered block_limit _ _ c.requires.0.here

pub forward_slots-requires : goal.forward_slots-requires
forward_slots-requires c =
    let p = c.requires in
    rw c.lengths.ensures
    (c.if-from-to.true, has_inside block_limit _ _ (to_there (goal.at.forward_slots-requires c).Start), p.0.start, p.1, p.0.room, p.0.even)

pub returns-then-from-to : goal.returns-then-from-to
returns-then-from-to c = rw c.lengths.ensures at c.forward_slots.ensures

pub lengths-requires-2 : goal.lengths-requires-2
lengths-requires-2 c = has_numbered block_limit _ _ c.requires.0.here

pub backward_slots-requires : goal.backward_slots-requires
backward_slots-requires c =
    let p = c.requires in
    rw c.lengths-2.ensures
    (c.if-from-to.false, has_inside block_limit _ _ p.0.here, p.0.start, c.start_of-first.ensures, p.1, p.0.room, p.0.even)

pub returns : goal.returns
returns c = rw c.lengths-2.ensures at c.backward_slots.ensures
