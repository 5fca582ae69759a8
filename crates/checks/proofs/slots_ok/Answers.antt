-- A number below the least fails, whatever the most is.
use borrow.Author.Tests.{lt-leb, le-leb}
use Rattle.model.specs.Blocks.{slots_ok}
use Rattle.checks.proofs.slots_ok.Goals as goal

pub returns-then-c-ge1 : goal.returns-then-c-ge1
unfolding slots_ok
returns-then-c-ge1 c = rw (le-leb 1 c.args.c c.if-c-ge1.true)

pub returns-else-c-ge1 : goal.returns-else-c-ge1
unfolding slots_ok
returns-else-c-ge1 c = rw (lt-leb 1 c.args.c c.if-c-ge1.false)
