-- `directory::start_of`: the lengths ahead are summed.
use Rattle.std.proofs.Common.{arith, ◌∙◌}
use Rattle.std.proofs.Math.ListN.{length-take}
use Rattle.directory.proofs.Numbers.{has_place, has_room, dir_ahead}
use Rattle.model.specs.Bounds.{block_limit}
use Rattle.directory.proofs.start_of.Goals as goal

pub slice_bounds-total-end : goal.slice_bounds-total-end
slice_bounds-total-end c = omega (arith, has_place block_limit _ _ c.requires)

pub total-requires : goal.total-requires
total-requires c = simp length-take (omega (arith, has_room block_limit _ _ c.requires))

pub returns : goal.returns
returns c = c.total.ensures ∙ dir_ahead block_limit _ c.requires.shaped _ (omega (arith, c.requires.there))
