-- The numbers so far are those of the lines passed.
use Rattle.model.specs.Bounds.{block_limit}
use Rattle.snapshot.proofs.Judging.{Listing}
use Rattle.snapshot.proofs.list_parts.Given as goal

abbrev pub invariant-loop-i : goal.invariant-loop-i
invariant-loop-i l = Listing block_limit l.text l.block l.k l.directory l.i l.at
