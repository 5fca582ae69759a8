use Rattle.std.proofs.Common.{sym, ◌∙◌, arith}
use Rattle.csv_fields.proofs.CursorLaws.{plain_start, plain_next, plain_stopped, plain_all}
use Rattle.csv_fields.proofs.plain_end.Goals as goal

pub loop-i-init : goal.loop-i-init
loop-i-init c = plain_start _ _ (omega arith)

pub returns-then-stops_at : goal.returns-then-stops_at
returns-then-stops_at c = plain_stopped c.loop-i.invariant (omega arith) (sym c.if-stops_at.true ∙ c.stops_at.ensures.is)

pub loop-i-preserved : goal.loop-i-preserved
loop-i-preserved c = plain_next c.loop-i.invariant (omega arith) (sym c.if-stops_at.false ∙ c.stops_at.ensures.is)

pub returns : goal.returns
returns c = plain_all c.loop-i.invariant (omega arith)
