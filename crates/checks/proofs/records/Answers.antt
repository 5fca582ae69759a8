-- `checks::records`: slices that pass check 3 are of one length.
use Rattle.std.proofs.Common.{T, sym, subst, ◌∙◌}
use Rattle.model.proofs.SetLaws.{sliced}
use Rattle.checks.proofs.records.Goals as goal

pub invariant_of-result : goal.invariant_of-result
invariant_of-result c = let s = sliced _ (subst T (sym (sym c.slices_ok.ensures ∙ c.if-not-slices_ok.false)) tt) in record { few = s.most; even = s.even }
