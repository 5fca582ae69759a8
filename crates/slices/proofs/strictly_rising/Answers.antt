-- The test of the closure is that of `rising`.
use Rattle.std.proofs.Common.{◌∙◌, ltb, rules}
use Rattle.slices.proofs.Flags.{chain_rising}
use Rattle.slices.proofs.strictly_rising.Goals as goal

pub returns : goal.returns
returns c = c.neighbours.ensures ltb (λ x y t e. search rules) ∙ chain_rising _
