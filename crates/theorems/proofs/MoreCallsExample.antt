-- The examples of specs/MoreCallsExample.antt, each proved by computing. Assumes nothing.
use mathlib.Core.Path.{refl}
use Rattle.model.proofs.Computing.{computed}
use Rattle.theorems.specs.MoreCalls.{done, same, more}
use Rattle.theorems.specs.MoreCallsExample.{FourBlocks, OneBlock, DearReads, NoFreeSlot, RefusedAdded, OldPlan}

pub four_blocks : FourBlocks
unfolding computed
four_blocks = record {
  bound = refl;
  lower = refl;
  sharp = refl;
  none_added = same _ (same _ (same _ (same _ (same _ (same _ done)))));
  one_added = same _ (same _ (more _ (same _ (same _ (same _ (same _ done))))));
  two_added = more _ (same _ (same _ (same _ (same _ (same _ (same _ (more _ done)))))));
  main = refl;
  one_in_front = refl;
  one_between = refl;
  one_behind = refl;
  two = refl;
  main_accepted = refl;
  two_accepted = refl;
  finds_alone = refl;
  one_delete = refl;
  finds_accepted = refl;
  delete_accepted = refl;
  of-singles = refl;
  find_on-singles = refl;
  of_one = refl;
  find_on_one = refl;
}

pub one_block : OneBlock
unfolding computed
one_block = record { admitted = refl; allowed = refl; bound = refl; sharp = refl; main = refl; one_insert = refl; two_inserts = refl; main_accepted = refl; two_accepted = refl }

pub dear_reads : DearReads
unfolding computed
dear_reads = record { admitted = refl; bound = refl; lower = refl; sharp = refl; nothing = refl; one_delete = refl; accepted = refl }

pub no_free-slot : NoFreeSlot
unfolding computed
no_free-slot = record { admitted = refl; reports_nothing = refl; main = refl; one_insert = refl; accepted = refl }

pub refused_added : RefusedAdded
unfolding computed
refused_added = record { added = more _ (same _ (same _ (same _ (same _ (same _ (same _ done)))))); not_accepted = refl; unchanged = refl }

pub old_plan : OldPlan
unfolding computed
old_plan = record { without = refl; with_find = refl; old_plan = refl; new_plan = refl; accepted = refl }
