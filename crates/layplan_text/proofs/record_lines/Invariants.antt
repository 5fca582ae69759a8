-- `layplan_text::record_lines`: the calls that are left, recorded from here on, make the whole (`RecordsLeft`).
use Rattle.model.specs.Lent.{set_given}
use Rattle.layplan_text.proofs.CallLaws.{RecordsLeft}
use Rattle.layplan_text.proofs.record_lines.Given as goal

abbrev pub invariant-loop-i : goal.invariant-loop-i
invariant-loop-i l = RecordsLeft l.text l.at l.q (set_given l.set) l.initial.histograms l.histograms l.i l.e
