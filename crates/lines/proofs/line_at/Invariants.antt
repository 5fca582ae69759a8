-- The numbers taken are those of the fields passed.
use Rattle.std.proofs.Common.{◌≡◌, length, take}
use Rattle.lines.proofs.Reading.{Took}
use Rattle.lines.proofs.line_at.Given as goal

abbrev pub invariant-loop-x : goal.invariant-loop-x
invariant-loop-x g l = (length l.x-items ≡ g.row.N) × Took l.text l.at g.row.N l.x-index l.e (take l.x-index l.x-items)
