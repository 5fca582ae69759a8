-- `directory::onward`: partitions are counted as the directory counts them.
use Rattle.std.proofs.Common.{arith}
use Rattle.directory.proofs.Numbers.{has_size, dir_count}
use Rattle.model.specs.Bounds.{block_limit}
use Rattle.directory.proofs.onward.Goals as goal

pub count-requires : goal.count-requires
count-requires c = has_size block_limit _ _ c.requires

pub returns : goal.returns
returns c = omega (arith, c.count.ensures, dir_count block_limit _ c.requires.shaped)
