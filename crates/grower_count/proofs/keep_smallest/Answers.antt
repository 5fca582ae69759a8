-- `grower_count::keep_smallest`: sorting keeps the growers of the slots. Assumes nothing.
use Rattle.grower_count.proofs.Windows.{sorted_ready, smallest_cut}
use Rattle.grower_count.proofs.keep_smallest.Goals as goal

pub cut-requires : goal.cut-requires
cut-requires c = sorted_ready c.args.growers.now c.args.batch.now c.sort.ensures.0 c.requires.2

pub returns : goal.returns
returns c = (smallest_cut c.sort.ensures.0 c.cut.ensures c.min.ensures, c.sort.ensures.1)
