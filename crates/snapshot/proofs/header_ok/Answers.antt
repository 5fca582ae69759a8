-- Each test decides one side of a conjunction.
use Rattle.std.proofs.Common.{sym}
use borrow.Author.Tests.{le-leb, lt-leb}
use Rattle.model.specs.Bounds.{most_slots}
use Rattle.model.specs.Snapshot.{header_ok}
use Rattle.snapshot.proofs.header_ok.Goals as goal
use Rattle.snapshot.proofs.header_ok.Goals.{then-not-block_length_ok-via-then-not-block_length_ok, then-not-block_length_ok-via-else-not-block_length_ok+then-used-gt-MOST_SLOTS}

pub returns-then-not-block_length_ok : goal.returns-then-not-block_length_ok
unfolding header_ok
returns-then-not-block_length_ok c =
    elim c.then-not-block_length_ok.branch [
      | then-not-block_length_ok-via-then-not-block_length_ok w ↦ rw (sym w.if-not-block_length_ok.ensures)
      | then-not-block_length_ok-via-else-not-block_length_ok+then-used-gt-MOST_SLOTS w ↦
          rw (sym w.if-not-block_length_ok.ensures, lt-leb _ most_slots w.if-used-gt-MOST_SLOTS.true)
    ]

pub returns-then-count-ge1 : goal.returns-then-count-ge1
unfolding header_ok
returns-then-count-ge1 c = rw (sym c.if-not-block_length_ok.ensures, le-leb _ most_slots c.if-used-gt-MOST_SLOTS.false, le-leb 1 _ c.if-count-ge1.true)

pub returns-else-count-ge1 : goal.returns-else-count-ge1
unfolding header_ok
returns-else-count-ge1 c = rw (sym c.if-not-block_length_ok.ensures, le-leb _ most_slots c.if-used-gt-MOST_SLOTS.false, lt-leb 1 _ c.if-count-ge1.false)
