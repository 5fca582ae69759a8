-- The laws that specs/Laws.antt states. Assumes nothing.
use Prim.Native.Nat.{ℕ}
use mathlib.Core.Path.{refl}
use Rattle.model.specs.Histograms.{raises}
use Rattle.model.specs.Accesses.{call_counts}
use Rattle.model.specs.Laws.{BlocksInPartitions, FreshBlocks, KeepsRecords, KeepsPartitions, LeavesSlots, CommutesWithMap, SlicesMoveAsOne, DaysOfARange}
use Rattle.model.specs.Laws.{CostAdds, LimitsArePrices, NearestIsFirst, CountsOfARange, SheetsAddUp, EveryLayoutListed, TotalOrder, AnswerUnique}
use native.Mathlib.Omega.{arith}
use Rattle.model.proofs.LayoutLaws.{laid, every_layout_lem}
use Rattle.model.proofs.SetLaws.{good, spot, target, part_first, part_end}
use Rattle.model.proofs.Fresh.{fresh_blocks_from}
use Rattle.model.proofs.CostLaws.{cost_added}
use Rattle.model.proofs.Order.{comes_before_total, comes_before_trans, comes_before_antisym}
use Rattle.model.proofs.PlanLaws.{cheapest_unique}
use Rattle.model.proofs.LimitLaws.{limit_prices}
use Rattle.model.proofs.GrowerLaws.{nearest_is}
use Rattle.model.proofs.GrowerCounts.{range_counts}
use Rattle.model.proofs.SheetLaws.{sheet_adds_up}
use Rattle.model.proofs.MovesMap.{map-inserted, map-deleted, map-moved}
use Rattle.model.proofs.MovesBag.{insert_at-bag, delete_at-bag, move_at_bag}
use Rattle.model.proofs.MovesKeep.{insert_at-sound, delete_at-sound, move_at_sound}
use Rattle.model.proofs.MovesAgain.{inserted_again, deleted_again, moved_again}
use Rattle.model.proofs.SoundLaws.{every_at-sound, sound-every_at}
use Rattle.model.proofs.DayLaws.{nothing_during, over_all_days}
use Rattle.model.proofs.SliceLaws.{slots-inserted, slots-deleted, slots-moved}
use lib.Dec.{T}

pub blocks_in_partitions : BlocksInPartitions
blocks_in_partitions L s ends g h k =
    let o = good L s h in
    let l = laid s ends k in
    record { same = target L s o ends l g; first = part_first L s o ends l _; last = part_end L s o ends l _ (spot L s o g).within }

pub fresh_blocks : FreshBlocks
fresh_blocks L s ends h k = fresh_blocks_from L s (good L s h) 0 0 ends (omega arith) (laid s ends k).cut

pub keeps_records : {A : Type 0} → KeepsRecords A
keeps_records = record { insert = insert_at-bag; delete = delete_at-bag; move = move_at_bag }

pub keeps_partitions : {A : Type 0} → KeepsPartitions A
keeps_partitions {A} = record {
  insert = λ f t x ps h q w. sound-every_at f 0 _ (insert_at-sound (λ (p : ℕ) (a : A). T (f p a)) t x ps h q (every_at-sound f 0 ps w));
  delete = λ f t i ps h w. sound-every_at f 0 _ (delete_at-sound (λ (p : ℕ) (a : A). T (f p a)) t i ps h (every_at-sound f 0 ps w));
  move = λ f t i u x ps h k q w. sound-every_at f 0 _ (move_at_sound (λ (p : ℕ) (a : A). T (f p a)) t i u x ps h k q (every_at-sound f 0 ps w));
}

pub leaves_slots : {A : Type 0} → LeavesSlots A
leaves_slots = record {
  insert = λ ns s t x room h. inserted_again ns s room t x h;
  delete = λ ns s t i z room h k. deleted_again ns s room t i z h k;
  move = λ ns s t i u x room h k l. moved_again ns s room t i u x h k l;
}

pub commutes_with_map : {A B : Type 0} (f : A → B) → CommutesWithMap f
commutes_with_map f = record { insert = map-inserted f; delete = map-deleted f; move = map-moved f }

pub slices_move_as_one : SlicesMoveAsOne
slices_move_as_one = record { insert = slots-inserted; delete = slots-deleted; move = slots-moved }

pub days_of_a_range : DaysOfARange
unfolding call_counts raises
days_of_a_range = record { nothing = nothing_during; all_days = over_all_days; scanned = λ d lo hi s. refl; recorded = λ s lo hi days. refl }

pub cost-adds : CostAdds
cost-adds = cost_added

pub limits_are_prices : LimitsArePrices
limits_are_prices = limit_prices

pub nearest_is_first : NearestIsFirst
nearest_is_first w g gs = nearest_is w g gs

pub counts-of_a_range : CountsOfARange
counts-of_a_range = range_counts

pub sheets_add_up : SheetsAddUp
sheets_add_up bag = sheet_adds_up bag

pub every_layout_listed : EveryLayoutListed
every_layout_listed = every_layout_lem

pub total_order : TotalOrder
total_order = record { either = comes_before_total; transitive = comes_before_trans; antisymmetric = comes_before_antisym }

pub answer_unique : AnswerUnique
answer_unique L p l s hs = cheapest_unique p l s L hs
