-- The lines that are left, written from here on, make the whole.
use Rattle.layplan_text.proofs.Outputs.{PutEnds}
use Rattle.layplan_text.proofs.put_ends.Given as goal

abbrev pub invariant-loop-last : goal.invariant-loop-last
invariant-loop-last l = PutEnds l.initial.text l.at l.ends l.text l.last-index l.e l.first
