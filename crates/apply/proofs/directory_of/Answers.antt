-- `apply::directory_of` meets its contract: one partition more with each turn, and all of them at the end. Assumes nothing.
use Rattle.std.proofs.Common.{sym, arith}
use Rattle.model.specs.Bounds.{block_limit}
use Rattle.apply.proofs.Filling.{fill_start, fill_next, fill_end, few_ends}
use Rattle.apply.proofs.directory_of.Goals as goal

pub blank-d-requires : goal.blank-d-requires
blank-d-requires c = few_ends block_limit _ _ _ c.args.set.sized c.requires

pub loop-i-init : goal.loop-i-init
loop-i-init c = rw c.blank-d.ensures (fill_start block_limit _ _ (few_ends block_limit _ _ _ c.args.set.sized c.requires))

pub loop-i-preserved : goal.loop-i-preserved
loop-i-preserved c =
    fill_next block_limit _ _ _ _ _ c.loop-i-test.true c.requires c.loop-i.invariant _ _ _ c.put.ensures c.block_stop-stop.ensures c.last_grower-fence.ensures

pub returns : goal.returns
returns c = fill_end block_limit _ _ _ _ _ c.loop-i-test.false c.loop-i.invariant
