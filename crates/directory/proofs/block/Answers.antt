-- `directory::block`: the number at the block length's place, as `directory_of` reads it.
use Rattle.directory.proofs.Numbers.{block_is}
use Rattle.std.proofs.Common.{sym}
use Rattle.model.specs.Bounds.{block_limit}
use Rattle.directory.proofs.block.Goals as goal

pub returns : goal.returns
returns c = sym (block_is block_limit _)
