-- A comma, a line end or the end, as the byte at the place and the one behind it say.
use Rattle.std.proofs.Common.{arith}
use Rattle.csv_fields.proofs.CursorLaws.{at_end, at-comma, at_lf, at_other, at_cr, at_cr_other, at_crlf}
use Rattle.csv_fields.proofs.behind_at.Goals as goal

pub returns-then-at-text : goal.returns-then-at-text
returns-then-at-text c = at_end _ _ c.if-at-text.true

pub returns-in-44 : goal.returns-in-44
returns-in-44 c = at-comma _ _ (omega arith) (omega arith)

pub returns-in-10 : goal.returns-in-10
returns-in-10 c = at_lf _ _ (omega arith) (omega arith)

pub returns-in-13 : goal.returns-in-13
returns-in-13 c = at_crlf _ _ (omega arith) (omega arith) (omega arith) (omega arith)

pub returns-in_default : goal.returns-in_default
returns-in_default c = at_cr_other _ _ (omega arith) (omega arith) (omega arith) (λ z. omega arith)

pub returns-in_default-2 : goal.returns-in_default-2
returns-in_default-2 c = at_cr _ _ (omega arith) (omega arith) (omega arith)

pub returns-in_default-3 : goal.returns-in_default-3
returns-in_default-3 c = at_other _ _ (omega arith) (λ z. omega arith) (λ z. omega arith) (λ z. omega arith)
