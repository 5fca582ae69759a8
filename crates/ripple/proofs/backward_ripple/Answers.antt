-- Backward a move is an insert into the column that ends ahead of the old partition, whose first record has gone to the slot.
use Rattle.std.proofs.Common.{arith, ◌≤◌, ◌∙◌, ap, length, take}
use lib.Seq.{length-take-le}
use Rattle.model.proofs.Parts.{stop_le}
use Rattle.model.specs.Partitions.{start_of}
use Rattle.model.specs.Moves.{inserted}
use Rattle.model.specs.Deliveries.{storing}
use Rattle.ripple.proofs.EachSlice.{carried_length, each_backward}
use Rattle.ripple.proofs.backward_ripple.Goals as goal

pub overflow_add-start : goal.overflow_add-start
overflow_add-start c = omega (arith, stop_le c.args.lens.now c.args.from c.requires.1)

pub carry-requires : goal.carry-requires
carry-requires c = omega (arith, stop_le c.args.lens.now c.args.from c.requires.1)

pub insert_ripple-requires : goal.insert_ripple-requires
unfolding start_of
insert_ripple-requires c =
    let h : c.args.from ≤ length c.args.lens.now = omega arith in
    (omega (arith, length-take-le c.args.from c.args.lens.now h), c.requires.2, omega (arith, stop_le c.args.lens.now c.args.from c.requires.1, carried_length _ _ _ _ c.carry.ensures.slots))

pub returns-clause-slots : goal.returns-clause-slots
returns-clause-slots c =
    let p = c.requires in
    c.insert_ripple.ensures.slots
    ∙ ap (storing (inserted (take c.args.from c.args.lens.now) 0) c.args.d) c.carry.ensures.slots
    ∙ each_backward _ _ _ _ _ 0 _ c.args.r.now.even (omega arith) p.1 p.3 p.4 p.2
