-- `grower_count::fill`: a slot that is new is added, and another's grower is there already. What is remembered of slots seen does not matter: `is_new`
-- tests it. Assumes nothing.
use Rattle.std.proofs.Common.{sym, ◌∙◌, arith}
use Rattle.grower_count.proofs.Filling.{filling_start, filling_new, filling_old}
use Rattle.grower_count.proofs.fill.Goals as goal
use Rattle.grower_count.proofs.fill.Goals.{then-is_new, else-is_new}

pub loop-i-init : goal.loop-i-init
loop-i-init c = record { filled = filling_start _ _ _ _ _ _ (omega arith) (omega arith); taken = omega arith }

pub loop-i-preserved : goal.loop-i-preserved
loop-i-preserved c =
    let v = c.loop-i.invariant in
    elim c.if-is_new.branch [
      | then-is_new w ↦ record {
        filled = filling_new _ _ _ v.filled (omega arith) (omega (arith, v.filled.room, v.filled.same_length)) _ _ (sym c.is_new.ensures ∙ w.if-is_new.true) w.batch-is w.n-is;
        taken = omega (arith, w.n-is);
      }
      | else-is_new w ↦ record {
        filled = filling_old _ _ _ v.filled (omega arith) (omega (arith, v.filled.room, v.filled.same_length)) _ _ (sym c.is_new.ensures ∙ w.if-is_new.false) w.batch-is w.n-is;
        taken = omega (arith, w.n-is);
      }
    ]
