-- Without its grower there is no match.
use Rattle.std.proofs.Common.{◌∙◌, arith}
use Rattle.slices.proofs.Matching.{grower_missing}
use Rattle.slices.proofs.first_in_stride.Goals as goal

pub returns-then-count_equal-lt1 : goal.returns-then-count_equal-lt1
returns-then-count_equal-lt1 c = c.len.ensures ∙ grower_missing _ _ c.args.r.even (omega arith)
