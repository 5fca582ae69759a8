-- The slots move, then the one length shrinks and the other grows; in between the new partition is still there (`partition_after`), and the two changes are
-- one (`twice`).
use Rattle.std.proofs.Common.{ℕ, List, arith, refl}
use Rattle.model.specs.Bounds.{block_limit}
use Rattle.model.specs.Moves.{moved}
use Rattle.column.proofs.Writing.{column_is, partition_after, twice}
use Rattle.column.proofs.shift.Goals as goal

pub grow-requires : goal.grow-requires
grow-requires c = let p = c.requires in rw c.shrink.ensures (partition_after block_limit _ _ _ p.0.here (omega (arith, p.1)) p.2)

pub returns : goal.returns
returns c =
    let p = c.requires in
    column_is (λ (ls : List ℕ). moved ls c.args.from c.args.slot c.args.to) _ _ _ _ _ _ _ refl
    (twice block_limit _ c.args.from c.args.to p.0.here (omega (arith, p.1)) _ _ c.shrink.ensures c.grow.ensures) c.shift_slots.ensures
