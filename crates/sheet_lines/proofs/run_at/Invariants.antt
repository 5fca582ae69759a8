-- `sheet_lines::run_at`: what was added, and what the part of the run that is left adds, is the whole. Assumes nothing.
use Rattle.model.specs.Lent.{records_given}
use Rattle.sheet_lines.proofs.RunLaws.{RunLeft}
use Rattle.sheet_lines.proofs.run_at.Given as goal

abbrev pub invariant-loop-i : goal.invariant-loop-i
invariant-loop-i l = RunLeft (records_given l.r) l.order l.from l.run.records l.run.weight l.run.oil l.i
