-- Where no grower is wanted nothing is added, and where all are everything.
use Rattle.std.proofs.Common.{◌∙◌, arith}
use Rattle.slices.proofs.Sums.{none_between, all_between}
use Rattle.slices.proofs.total_stride.Goals as goal

pub returns-then-k-lt1 : goal.returns-then-k-lt1
returns-then-k-lt1 c = c.none.ensures ∙ none_between _ _ _ c.requires (omega arith)

pub returns-then-k-len : goal.returns-then-k-len
returns-then-k-len c = c.total_all.ensures ∙ all_between _ _ _ c.requires (omega arith)
