-- `sets::CheckedSet::days_ok` meets its contract: prefixes of one length, whose rows `days_law` tests by day. Assumes nothing.
use Rattle.std.proofs.Common.{◌∙◌}
use Rattle.sets.proofs.Sets.{days_law}
use Rattle.sets.proofs.checked.CheckedSet.days_ok.Goals as goal

pub returns : goal.returns
returns c = c.days_ok.ensures ∙ days_law _ c.args.self.records.even _ c.held-held.ensures
