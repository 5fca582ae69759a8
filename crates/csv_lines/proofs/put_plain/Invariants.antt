-- The digits that are left, placed before those that are written, make the whole.
use Rattle.model.specs.Weighbridge.{plain_number}
use Rattle.csv_lines.proofs.WritingLaws.{DigitsLeft}
use Rattle.csv_lines.proofs.put_plain.Given as goal

abbrev pub invariant-loop-i : goal.invariant-loop-i
invariant-loop-i l = DigitsLeft l.initial.text l.at (plain_number l.n) l.text l.i l.m
