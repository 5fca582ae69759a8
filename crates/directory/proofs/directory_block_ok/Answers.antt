-- `directory::directory_block_ok`: a slice of another length holds no block length, and is asked none.
use Rattle.std.proofs.Common.{length, ◌∙◌}
use Rattle.model.specs.Bounds.{block_limit}
use borrow.Author.Tests.{ne_eqb}
use Rattle.directory.proofs.Shapes.{no_directory, directory_block}
use Rattle.directory.proofs.directory_block_ok.Goals as goal

pub returns-then-directory-ne-DIRECTORY_SIZE : goal.returns-then-directory-ne-DIRECTORY_SIZE
returns-then-directory-ne-DIRECTORY_SIZE c =
    let h = c.if-directory-ne-DIRECTORY_SIZE.true in rw (ne_eqb (length c.args.directory.now) 130 h) (no_directory block_limit _ h)

pub returns-else-directory-ne-DIRECTORY_SIZE : goal.returns-else-directory-ne-DIRECTORY_SIZE
returns-else-directory-ne-DIRECTORY_SIZE c = c.block_length_ok.ensures ∙ directory_block block_limit _ c.if-directory-ne-DIRECTORY_SIZE.false
