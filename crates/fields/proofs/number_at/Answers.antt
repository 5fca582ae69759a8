-- Too short a text, a leading 0, or what `digits` finds behind the blanks.
use Rattle.std.proofs.Common.{sym, ◌∙◌, arith}
use Rattle.fields.proofs.Columns.{none_there, zero_fails}
use Rattle.fields.proofs.number_at.Goals as goal
use Rattle.fields.proofs.number_at.Goals.{then-text-lt-WIDTH-via-then-text-lt-WIDTH, then-text-lt-WIDTH-via-else-text-lt-WIDTH+then-text-at}

pub returns-then-text-lt-WIDTH : goal.returns-then-text-lt-WIDTH
returns-then-text-lt-WIDTH c =
    none_there _ _ (elim c.then-text-lt-WIDTH.branch [ then-text-lt-WIDTH-via-then-text-lt-WIDTH w ↦ omega arith | then-text-lt-WIDTH-via-else-text-lt-WIDTH+then-text-at w ↦ omega arith ])

pub returns-then-zero_leads : goal.returns-then-zero_leads
returns-then-zero_leads c = zero_fails (omega arith) c.blanks-first.ensures (sym c.zero_leads.ensures ∙ c.if-zero_leads.true)
