-- `recorder::has_delivery` meets its contract: the first match lies before the end just if there is one. Assumes nothing.
use Rattle.sets.specs.Checked.{checked_set}
use Rattle.recorder.proofs.Recording.{has_law}
use Rattle.recorder.proofs.has_delivery.Goals as goal

pub returns : goal.returns
returns c = has_law _ _ _ (checked_set c.args.set) _ c.held-held.result.even c.held-held.ensures c.first_match.ensures c.len.ensures
