-- Slip 11 computed: calls that meet the bounds of specs/MoreCalls.antt, and one that is refused.
use Rattle.std.specs.Prelude.{◌≡◌, true, List, [], ◌∷◌, ◌++◌, ℤ, pos}
use Rattle.model.specs.declared.PriceCard.{PriceCard}
use Rattle.model.specs.declared.Limits.{Limits}
use Rattle.model.specs.Bounds.{block_limit}
use Rattle.model.specs.Blocks.{Set, blocks}
use Rattle.model.specs.Calls.{Call, find, range, insert, delete}
use Rattle.model.specs.Prices.{prices, factory, limits}
use Rattle.model.specs.Layouts.{permitted}
use Rattle.model.specs.Recorder.{accepted_from_zeros}
use Rattle.model.specs.Examples.{week, of, calls, halves}
use Rattle.theorems.specs.Plan.{Admitted, reported, cost, output}
use Rattle.theorems.specs.PlanExample.{main_limits}
use Rattle.theorems.specs.LimitsExample.{singles, full_week}
use Rattle.theorems.specs.MoreCalls.{increase_bound, lower_price, sharp_bound, AllAccepted, Adds, least_cost}

-- the least bill at the factory card and the main case's limits
abbrev pub least_on : Set → List Call → ℤ
least_on s cs = least_cost block_limit factory main_limits s cs

-- 01's main case, one find more in front, in the middle, behind, and two more
abbrev pub in_front : List Call
in_front = find 10 ∷ calls

abbrev pub between : List Call
between = find 30 ∷ find 30 ∷ find 10 ∷ find 30 ∷ find 30 ∷ find 30 ∷ insert (of 15) ∷ []

abbrev pub behind : List Call
behind = calls ++ find 10 ∷ []

abbrev pub twice : List Call
twice = find 10 ∷ behind

-- three finds in each of the four blocks, and a delete more
abbrev pub finds : List Call
finds = find 10 ∷ find 10 ∷ find 10 ∷ find 30 ∷ find 30 ∷ find 30 ∷ find 50 ∷ find 50 ∷ find 50 ∷ find 70 ∷ find 70 ∷ find 70 ∷ []

abbrev pub finds_and_delete : List Call
finds_and_delete = finds ++ delete (of 10) ∷ []

pub record FourBlocks : Type 0 where
  pub bound : increase_bound factory (blocks week) ≡ 28
  pub lower : lower_price factory ≡ 1
  pub sharp : sharp_bound factory (blocks week) ≡ 25
  pub none_added : Adds 0 calls calls
  pub one_added : Adds 1 calls between
  pub two_added : Adds 2 calls twice
  -- a find adds RR, the least that a call can: 35 to 38, wherever it is added, and two finds 35 to 41
  pub main : least_on week calls ≡ pos 35
  pub one_in_front : least_on week in_front ≡ pos 38
  pub one_between : least_on week between ≡ pos 38
  pub one_behind : least_on week behind ≡ pos 38
  pub two : least_on week twice ≡ pos 41
  pub main_accepted : AllAccepted block_limit week calls
  pub two_accepted : AllAccepted block_limit week twice
  -- a delete adds 25, the most that a call can: 36 to 61
  pub finds_alone : least_on week finds ≡ pos 36
  pub one_delete : least_on week finds_and_delete ≡ pos 61
  pub finds_accepted : AllAccepted block_limit week finds
  pub delete_accepted : AllAccepted block_limit week finds_and_delete
  -- a layout's own bill: a partition a block, where the find adds 3, and one partition, where it adds 6
  pub of-singles : cost calls block_limit factory main_limits week singles ≡ pos 40
  pub find_on-singles : cost behind block_limit factory main_limits week singles ≡ pos 43
  pub of_one : cost calls block_limit factory main_limits week (3 ∷ []) ≡ pos 40
  pub find_on_one : cost behind block_limit factory main_limits week (3 ∷ []) ≡ pos 46

-- the same eight deliveries in one block
abbrev pub one_block : Set
one_block = record { block = 8; used = 8; slices = week.slices }

-- there an insert adds 10, which is 02's whole bound: 25 to 35, and two inserts 25 to 45
pub record OneBlock : Type 0 where
  pub admitted : Admitted block_limit factory main_limits one_block
  pub allowed : permitted factory main_limits one_block (0 ∷ []) ≡ true
  pub bound : increase_bound factory (blocks one_block) ≡ 10
  pub sharp : sharp_bound factory (blocks one_block) ≡ 10
  pub main : least_on one_block calls ≡ pos 25
  pub one_insert : least_on one_block (calls ++ insert (of 15) ∷ []) ≡ pos 35
  pub two_inserts : least_on one_block (insert (of 15) ∷ calls ++ insert (of 15) ∷ []) ≡ pos 45
  pub main_accepted : AllAccepted block_limit one_block calls
  pub two_accepted : AllAccepted block_limit one_block (insert (of 15) ∷ calls ++ insert (of 15) ∷ [])

-- prices at which a block read costs more than a partition passed, and limits that permit one partition alone
abbrev pub dear : PriceCard
dear = prices 1 1000 1

abbrev pub one_alone : Limits
one_alone = limits 1000000 5

-- there the most is added on one long partition: 0 to 3004
pub record DearReads : Type 0 where
  pub admitted : Admitted block_limit dear one_alone week
  pub bound : increase_bound dear (blocks week) ≡ 3010
  pub lower : lower_price dear ≡ 2
  pub sharp : sharp_bound dear (blocks week) ≡ 3004
  pub nothing : least_cost block_limit dear one_alone week [] ≡ pos 0
  pub one_delete : least_cost block_limit dear one_alone week (delete (of 10) ∷ []) ≡ pos 3004
  pub accepted : AllAccepted block_limit week (delete (of 10) ∷ [])

-- no free slot: the column refuses the insert and reports nothing, the recorder takes it, and the bill has it
pub record NoFreeSlot : Type 0 where
  pub admitted : Admitted block_limit factory main_limits full_week
  pub reports_nothing : reported block_limit factory full_week halves (insert (of 15)) ≡ 0
  pub main : least_on full_week calls ≡ pos 35
  pub one_insert : least_on full_week (calls ++ insert (of 15) ∷ []) ≡ pos 50
  pub accepted : AllAccepted block_limit full_week (calls ++ insert (of 15) ∷ [])

-- a call that the recorder refuses adds nothing, not even RR
pub record RefusedAdded : Type 0 where
  pub added : Adds 1 calls (range 5 4 ∷ calls)
  pub not_accepted : accepted_from_zeros block_limit week (range 5 4 ∷ calls) ≡ calls
  pub unchanged : least_on week (range 5 4 ∷ calls) ≡ pos 35

-- nothing recorded, and a find: one partition is planned without it and two with it, and the find costs 6 on the one, 3 on the other
pub record OldPlan : Type 0 where
  pub without : output [] block_limit factory main_limits week ≡ 3 ∷ []
  pub with_find : output (find 10 ∷ []) block_limit factory main_limits week ≡ 0 ∷ 3 ∷ []
  pub old_plan : cost (find 10 ∷ []) block_limit factory main_limits week (3 ∷ []) ≡ pos 6
  pub new_plan : least_on week (find 10 ∷ []) ≡ pos 3
  pub accepted : AllAccepted block_limit week (find 10 ∷ [])
