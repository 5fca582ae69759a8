-- A number below the least fails, whatever the most is.
use borrow.Author.Tests.{lt-leb, le-leb}
use Rattle.model.specs.Blocks.{block_length_ok}
use Rattle.checks.proofs.block_length_ok.Goals as goal

pub returns-then-b-ge1 : goal.returns-then-b-ge1
unfolding block_length_ok
returns-then-b-ge1 c = rw (le-leb 1 c.args.b c.if-b-ge1.true)

pub returns-else-b-ge1 : goal.returns-else-b-ge1
unfolding block_length_ok
returns-else-b-ge1 c = rw (lt-leb 1 c.args.b c.if-b-ge1.false)
