-- `growers::search`: where j partitions of the path are searched, the rest of the path, after the blocks so far, answers what the whole path answers.
use Rattle.model.specs.Lent.{records_given}
use Rattle.growers.proofs.Searching.{Searching}
use Rattle.growers.proofs.search.Given as goal

abbrev pub invariant-loop-j : goal.invariant-loop-j
invariant-loop-j g l = Searching l.fn.block g.W.Way.direction l.fn.grower l.fn.lens (records_given l.fn.r) l.fn.from l.edge l.j l.blocks l.dated
