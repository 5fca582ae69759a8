-- `directory::length_of`: the number there is the length.
use Rattle.std.proofs.Common.{arith}
use Rattle.directory.proofs.Numbers.{has_place, has_length}
use Rattle.model.specs.Bounds.{block_limit}
use Rattle.directory.proofs.length_of.Goals as goal

pub bounds-directory-partition : goal.bounds-directory-partition
bounds-directory-partition c = omega (arith, has_place block_limit _ _ c.requires)

pub returns : goal.returns
returns c = has_length block_limit _ _ c.requires
