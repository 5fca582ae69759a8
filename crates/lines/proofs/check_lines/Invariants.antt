-- The lines that are left, judged from here on, decide.
use Rattle.std.proofs.Common.{◌+◌, ◌*◌, ◌≤◌}
use Rattle.lines.specs.Lines.{line_length, lines_ok}
use Rattle.lines.proofs.Reading.{Left}
use Rattle.lines.proofs.check_lines.Given as goal

abbrev pub invariant-loop-i : goal.invariant-loop-i
invariant-loop-i g l = Left (λ k x. lines_ok g.row.N k x l.text) (line_length g.row.N) l.at l.m l.i l.e × (l.e ≤ l.at + 56 * l.i)
