-- A field is quoted where a quote is its first byte, else not.
use Rattle.std.proofs.Common.{arith}
use Rattle.csv_fields.proofs.CursorLaws.{field_none, field_plain, field_quoted, field_torn}
use Rattle.csv_fields.proofs.field_at.Goals as goal
use Rattle.csv_fields.proofs.field_at.Goals.{then-at-text-via-then-at-text, then-at-text-via-else-at-text+then-text-at-ne34}

pub returns-then-at-text : goal.returns-then-at-text
returns-then-at-text c =
    elim c.then-at-text.branch [
      | then-at-text-via-then-at-text w ↦ record { is = field_none _ _ w.if-at-text.true c.plain_end-to.ensures }
      | then-at-text-via-else-at-text+then-text-at-ne34 w ↦ record { is = field_plain _ _ (omega arith) (λ z. omega arith) c.plain_end-to.ensures }
    ]

pub returns-in_err-quoted : goal.returns-in_err-quoted
returns-in_err-quoted c = rw c.from_residual.ensures (field_torn _ _ (omega arith) (omega arith) c.in_err-quoted.ensures.is)

pub returns : goal.returns
returns c = record { is = field_quoted _ _ (omega arith) (omega arith) c.in_ok-quoted.ensures.is }
