-- Every record passes.
use Rattle.std.proofs.Common.{◌∙◌, ap, rules}
use Rattle.model.specs.Deliveries.{totals_of}
use Rattle.slices.proofs.Scans.{any, keep_any}
use Rattle.slices.proofs.total_all.Goals as goal

pub returns : goal.returns
returns c = c.total_of.ensures any (λ d t e. search rules) ∙ ap totals_of (keep_any _)
