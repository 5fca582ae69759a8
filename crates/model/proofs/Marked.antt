-- 01's marked examples, each proved by computing. Assumes nothing.
use Prim.Native.Nat.{ℕ}
use mathlib.Core.Path.{refl}
use Rattle.model.specs.Examples.{OnThatColumn, Costs, UnderLimits, MainCase, EmptyPartitions, AllRecords, Reads, Refusals, EmptyScans, QuestionsInOrder}
use Rattle.model.proofs.Computing.{computed}

pub on_that_column : OnThatColumn
unfolding computed
on_that_column = record { laid = refl; find_30 = refl; find_99 = refl; range_40_50 = refl; insert_15 = refl; delete_30 = refl; move_20_70 = refl; move_70_20 = refl; move_20_25 = refl }

pub costs : Costs
unfolding computed
costs = record { two = refl; three = refl; one = refl }

pub under_limits : UnderLimits
unfolding computed
under_limits = record {
  main = refl;
  insert_15 = refl;
  insert_14 = refl;
  plan_15 = refl;
  plan_14 = refl;
  read_4 = refl;
  read_4_insert_20 = refl;
  read_3_insert_20 = refl;
  read_3 = refl;
  read_2 = refl;
}

pub main_case : MainCase
unfolding computed
main_case = record { output = refl }

pub empty_partitions : EmptyPartitions
unfolding computed
empty_partitions = record { insert_past = refl; delete_past = refl; forward_past = refl; backward_past = refl }

pub all_records : AllRecords
unfolding computed
all_records = record { empty_between = refl; free_past = refl; all_empty = refl }

pub reads : Reads
unfolding computed
reads = record { empty = refl; half = refl; full = refl; more = refl; none = refl; one = refl; three = refl }

pub refusals : Refusals
unfolding computed
refusals = record { missing = refl; nowhere = refl; backwards = refl; heavy = refl; full = refl; heavy_and_full = refl; rich_and_missing = refl; lowest = refl }

pub empty_scans : EmptyScans
unfolding computed
empty_scans = record {
  between = refl;
  first = refl;
  last = refl;
  one = refl;
  two = refl;
  all = refl;
  missing = refl;
  nowhere = refl;
  delete_past = refl;
  insert_past = refl;
  move_past = refl;
}

pub questions_in_order : (L : ℕ) → QuestionsInOrder L
unfolding computed
questions_in_order L = record {
  recorder = λ s hs c. refl;
  cost = λ p s ends hs. refl;
  planner = λ p l s hs needed room. refl;
  applying = λ s ends. refl;
  finding = λ c g. refl;
  ranging = λ c lo hi. refl;
  ranging_days = λ c lo hi s. refl;
  inserting = λ c d. refl;
  deleting = λ c d. refl;
  moving = λ c d g. refl;
  partition = λ ns gs. refl;
  writing = λ c room. refl;
  reading = λ text s. refl;
  tallying = λ t n. refl;
  ledger_finding = λ c b g. refl;
  ledger_ranging = λ c b lo hi. refl;
  ledger_ranging_days = λ c b lo hi s. refl;
  ledger_inserting = λ c b d. refl;
  ledger_deleting = λ c b d. refl;
  ledger_moving = λ c b d g. refl;
}
