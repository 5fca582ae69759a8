-- The columns that are left to write, before those that are written, make the whole.
use Rattle.std.proofs.Common.{◌-◌}
use Rattle.fields.proofs.Putting.{Putting}
use Rattle.fields.proofs.put.Given as goal

abbrev pub invariant-loop-i : goal.invariant-loop-i
invariant-loop-i l = Putting l.initial.text l.at (l.width - 1) l.sign l.initial.m l.text l.i l.m l.s
