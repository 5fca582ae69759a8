-- `sets::CheckedSet::values_ok` meets its contract: prefixes of one length, whose rows `values_law` tests by weight and yield. Assumes nothing.
use Rattle.std.proofs.Common.{◌∙◌}
use Rattle.sets.proofs.Sets.{values_law}
use Rattle.sets.proofs.checked.CheckedSet.values_ok.Goals as goal

pub returns : goal.returns
returns c = c.values_ok.ensures ∙ values_law _ c.args.self.records.even _ c.held-held.ensures
