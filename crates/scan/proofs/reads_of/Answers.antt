-- Of no block there is no read; else the first block is the random read and the others are one fewer (`reads_some`).
use Rattle.std.proofs.Common.{sym, ◌∙◌, arith}
use Rattle.model.specs.Accesses.{reads_of}
use Rattle.model.proofs.AccessLaws.{reads_some}
use Rattle.scan.proofs.reads_of.Goals as goal

pub returns-then-blocks-eq0 : goal.returns-then-blocks-eq0
unfolding reads_of
returns-then-blocks-eq0 c = c.none.ensures ∙ rw c.if-blocks-eq0.true

pub returns : goal.returns
returns c = sym (reads_some _ (omega arith))
