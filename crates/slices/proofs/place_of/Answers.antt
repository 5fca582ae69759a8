-- A turn counts its key where it is less.
use Rattle.std.proofs.Common.{arith}
use Rattle.slices.proofs.Places.{count_less, count-not, count_end}
use Rattle.slices.proofs.place_of.Goals as goal
use Rattle.slices.proofs.place_of.Goals.{then-keys-i, else-keys-i}

pub loop-i-preserved : goal.loop-i-preserved
loop-i-preserved c =
    elim c.if-keys-i.branch [
      | then-keys-i w ↦ rw w.t-is (count_less _ _ _ _ c.requires.2 (omega arith) c.loop-i.invariant w.if-keys-i.true)
      | else-keys-i w ↦ rw w.t-is (count-not _ _ _ _ c.requires.2 (omega arith) c.loop-i.invariant w.if-keys-i.false)
    ]

pub returns : goal.returns
returns c = count_end _ _ _ _ (omega arith) c.loop-i.invariant
