-- The test of the closure is that of `never_falls`.
use Rattle.std.proofs.Common.{◌∙◌, leb, rules}
use Rattle.slices.proofs.Flags.{chain_falls}
use Rattle.slices.proofs.never_falling.Goals as goal

pub returns : goal.returns
returns c = c.neighbours.ensures leb (λ x y t e. search rules) ∙ chain_falls _
