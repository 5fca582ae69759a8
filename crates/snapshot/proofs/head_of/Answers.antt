-- A line that is not there, or a number out of range, refuses the text; else its numbers are the header.
use Rattle.model.specs.Bounds.{block_limit}
use Rattle.lines.proofs.Reading.{refused_on}
use Rattle.snapshot.proofs.Judging.{no_head, head_said}
use Rattle.snapshot.proofs.head_of.Goals as goal

pub returns-in_err-block : goal.returns-in_err-block
returns-in_err-block c = refused_on _ _ _ _ _ _ c.from_residual.ensures.1 c.in_err-block.ensures (no_head block_limit _)

pub returns-then-not-header_ok : goal.returns-then-not-header_ok
returns-then-not-header_ok c = head_said block_limit _ _ c.in_ok-block.ensures _ c.if-not-header_ok.ensures

pub returns : goal.returns
returns c = head_said block_limit _ _ c.in_ok-block.ensures _ c.if-not-header_ok.ensures
