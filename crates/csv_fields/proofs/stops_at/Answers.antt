-- What may stand behind a field, or a quote, as the byte at the place and the one behind it say.
use Rattle.std.proofs.Common.{arith}
use Rattle.csv_fields.proofs.CursorLaws.{stops_high, stops_comma, stops_quote, stops_lf, stops_other, stops_cr, stops_crlf}
use Rattle.csv_fields.proofs.stops_at.Goals as goal

pub returns-then-b-gt44 : goal.returns-then-b-gt44
returns-then-b-gt44 c = stops_high _ _ c.requires c.if-b-gt44.true

pub returns-then-b-eq44 : goal.returns-then-b-eq44
returns-then-b-eq44 c = stops_comma _ _ (omega arith) c.if-b-eq44.true

pub returns-then-b-eq34 : goal.returns-then-b-eq34
returns-then-b-eq34 c = stops_quote _ _ (omega arith) c.if-b-eq34.true

pub returns-then-b-gt13 : goal.returns-then-b-gt13
returns-then-b-gt13 c = stops_other _ _ (omega arith) c.if-b-eq34.false c.if-b-eq44.false (λ z. omega arith) (λ z. omega arith)

pub returns-then-b-eq10 : goal.returns-then-b-eq10
returns-then-b-eq10 c = stops_lf _ _ (omega arith) c.if-b-eq10.true

pub returns-then-b-ne13 : goal.returns-then-b-ne13
returns-then-b-ne13 c = stops_other _ _ (omega arith) c.if-b-eq34.false c.if-b-eq44.false c.if-b-eq10.false c.if-b-ne13.true

pub returns-then-at-text : goal.returns-then-at-text
returns-then-at-text c = stops_cr _ _ (omega arith) (omega arith) c.if-at-text.true

pub returns : goal.returns
returns c = stops_crlf _ _ (omega arith) (omega arith) (omega arith)
