-- The records of the partitions so far all pass checks 8 and 19, and totals and blocks are theirs (`Scanning`).
use Rattle.model.specs.Lent.{records_given, span_given}
use Rattle.model.specs.Deliveries.{rows}
use Rattle.scan.proofs.Scanning.{Scanning}
use Rattle.scan.proofs.scan_parts.Given as goal

abbrev pub invariant-loop-i : goal.invariant-loop-i
invariant-loop-i l = Scanning l.block l.lens l.from l.lo l.hi (span_given l.days) (rows (records_given l.r)) l.at l.i l.totals l.blocks
