-- A field that is a number leaves those behind it; another ends the line.
use Rattle.std.proofs.Common.{sym, ◌∙◌, arith, length-set}
use Rattle.std.proofs.lemmas.List.{length-replicate}
use Rattle.lines.proofs.Reading.{took_start, took_set, took_stop, took_end, took_line}
use Rattle.lines.proofs.line_at.Goals as goal

pub loop-x-init : goal.loop-x-init
loop-x-init g c = (length-replicate _ _, took_start _ _ _)

pub returns-in_default : goal.returns-in_default
returns-in_default g c = let e = took_stop c.loop-x.invariant.1 (omega arith) c.in_default.ensures in rw (sym e)

pub loop-x-preserved : goal.loop-x-preserved
loop-x-preserved g c = let v = c.loop-x.invariant in (length-set _ _ _ ∙ v.0, took_set _ v.1 v.0 (omega arith) c.in-Some.ensures)

pub returns-then-not-ends : goal.returns-then-not-ends
returns-then-not-ends g c = let e = took_end c.loop-x.invariant.1 (omega arith) in rw (sym e ∙ sym c.if-not-ends.ensures)

pub returns : goal.returns
returns g c = let v = c.loop-x.invariant in took_line _ v.1 v.0 (omega arith) (sym c.if-not-ends.ensures)
