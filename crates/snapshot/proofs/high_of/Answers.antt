-- Whether a partition follows decides.
use Rattle.std.proofs.Common.{arith}
use Rattle.snapshot.proofs.FenceLaws.{high_inner, high_last}
use Rattle.snapshot.proofs.high_of.Goals as goal

pub returns-then-p-fences : goal.returns-then-p-fences
returns-then-p-fences c = high_inner _ _ (omega arith)

pub returns-else-p-fences : goal.returns-else-p-fences
returns-else-p-fences c = high_last _ _ (omega arith)
