-- The digits from the first byte on are all of the bytes and at least one, or there is no number.
use Rattle.std.proofs.Common.{sym, arith}
use Rattle.model.specs.Bounds.{most_number}
use Rattle.csv_fields.proofs.NumberLaws.{none_empty, spell_other, spell_all}
use Rattle.csv_fields.proofs.spell.Goals as goal
use Rattle.csv_fields.proofs.spell.Goals.{then-digits-s-via-then-digits-s, then-digits-s-via-else-digits-s+then-digits-eq0}

pub returns-then-digits-s : goal.returns-then-digits-s
returns-then-digits-s c =
    elim c.then-digits-s.branch [
      | then-digits-s-via-then-digits-s w ↦ sym (spell_other c.in_ok-digits.ensures.is w.if-digits-s.true)
      | then-digits-s-via-else-digits-s+then-digits-eq0 w ↦ sym (none_empty most_number _ (omega arith))
    ]

pub returns : goal.returns
returns c = sym (spell_all c.in_ok-digits.ensures.is (omega arith) c.if-digits-eq0.false)
