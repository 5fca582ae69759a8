-- `histograms::counts_ok`: the length is tested first, and then each count.
use Rattle.std.proofs.Common.{◌∙◌}
use borrow.Author.Tests.{ne_eqb}
use Rattle.model.specs.Bounds.{block_limit}
use Rattle.histograms.proofs.Counts.{counts_other, counts_all}
use Rattle.histograms.proofs.counts_ok.Goals as goal

pub returns-then-h-eq-HISTOGRAMS_SIZE : goal.returns-then-h-eq-HISTOGRAMS_SIZE
returns-then-h-eq-HISTOGRAMS_SIZE c = c.within.ensures ∙ counts_all block_limit _ c.if-h-eq-HISTOGRAMS_SIZE.true

pub returns-else-h-eq-HISTOGRAMS_SIZE : goal.returns-else-h-eq-HISTOGRAMS_SIZE
returns-else-h-eq-HISTOGRAMS_SIZE c = let f = c.if-h-eq-HISTOGRAMS_SIZE.false in ne_eqb _ _ f ∙ counts_other block_limit _ f
