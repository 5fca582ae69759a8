-- The calls that are left, checked from here on, decide.
use Rattle.lines.proofs.Reading.{Left}
use Rattle.layplan_text.specs.Week.{calls_ok}
use Rattle.layplan_text.proofs.check_calls.Given as goal

abbrev pub invariant-loop-i : goal.invariant-loop-i
invariant-loop-i l = Left (λ k x. calls_ok k x l.text) 56 l.at l.q l.i l.e
