-- `directory::fences`: the part of the numbers that is handed back, as `directory_of` reads it.
use Rattle.directory.proofs.Judging.{fences_part}
use Rattle.model.specs.Bounds.{block_limit}
use Rattle.directory.proofs.fences.Goals as goal

pub returns : goal.returns
returns c = rw c.count.ensures (fences_part block_limit _ c.requires.size c.requires.few)
