-- The bytes passed are written.
use Rattle.std.proofs.Common.{◌+◌, take}
use Rattle.fields.specs.Writing.{Wrote}
use Rattle.fields.proofs.put_bytes.Given as goal

abbrev pub invariant-loop-i : goal.invariant-loop-i
invariant-loop-i l = Wrote l.initial.text l.at (take l.i l.bytes) l.text (l.at + l.i)
