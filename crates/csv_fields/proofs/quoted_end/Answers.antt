use Rattle.std.proofs.Common.{arith}
use Rattle.csv_fields.proofs.CursorLaws.{quoted_next, quoted_doubled, quoted_end_last, quoted_closed, quoted_open}
use Rattle.csv_fields.proofs.quoted_end.Goals as goal
use Rattle.csv_fields.proofs.quoted_end.Goals.{then-i-text-via-then-i-text, then-i-text-via-else-i-text+then-text-i-ne34-2}

pub loop-i-preserved-then-text-i-ne34 : goal.loop-i-preserved-then-text-i-ne34
loop-i-preserved-then-text-i-ne34 c = quoted_next c.loop-i.invariant (omega arith) c.if-text-i-ne34.true

pub returns-then-i-text : goal.returns-then-i-text
returns-then-i-text c =
    elim c.then-i-text.branch [
      | then-i-text-via-then-i-text w ↦ record { is = quoted_end_last c.loop-i.invariant (omega arith) (omega arith) }
      | then-i-text-via-else-i-text+then-text-i-ne34-2 w ↦ record { is = quoted_closed c.loop-i.invariant (omega arith) (omega arith) (λ z. omega arith) }
    ]

pub loop-i-preserved : goal.loop-i-preserved
loop-i-preserved c = quoted_doubled c.loop-i.invariant (omega arith) (omega arith) (omega arith)

pub returns : goal.returns
returns c = record { is = quoted_open c.loop-i.invariant c.loop-i-test.false }
