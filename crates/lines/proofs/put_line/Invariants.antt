-- The numbers passed are placed.
use Rattle.std.proofs.Common.{◌≡◌, ◌+◌, ◌*◌, take}
use Rattle.fields.specs.Writing.{placed}
use Rattle.lines.proofs.Putting.{columns}
use Rattle.lines.proofs.put_line.Given as goal

abbrev pub invariant-loop-n : goal.invariant-loop-n
invariant-loop-n l = record { here : l.e ≡ l.at + 11 * l.n-index; so_far : l.text ≡ placed l.at (columns (take l.n-index l.numbers)) l.initial.text }
