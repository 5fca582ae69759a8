-- `directory::partition_of`: counting the fences below the grower places it.
use Rattle.std.proofs.Common.{arith}
use Rattle.directory.proofs.Numbers.{dir_size, dir_some, dir_few, dir_count, dir_rises}
use Rattle.model.specs.Bounds.{block_limit}
use Rattle.directory.proofs.partition_of.Goals as goal

pub fences-requires : goal.fences-requires
fences-requires c = record { size = dir_size block_limit _ c.requires; few = dir_few block_limit _ c.requires }

pub place_of-requires : goal.place_of-requires
place_of-requires c =
    let n = dir_count block_limit _ c.requires in
    rw c.fences.ensures (omega (arith, n, dir_some block_limit _ c.requires), omega (arith, n, dir_few block_limit _ c.requires), dir_rises block_limit _ c.requires)
