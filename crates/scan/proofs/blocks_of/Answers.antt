-- n / B rounded up, as the definition has it.
use Rattle.std.proofs.Common.{ℕ, ◌/◌, ap, arith}
use Rattle.model.specs.Lists.{ceil_div}
use Rattle.model.specs.Accesses.{blocks_of}
use Rattle.scan.proofs.blocks_of.Goals as goal

pub returns : goal.returns
unfolding blocks_of ceil_div
returns c = rw c.from-b.ensures (ap (λ (n : ℕ). n / c.args.block) (omega arith))
