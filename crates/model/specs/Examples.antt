-- 01's marked examples, as statements over the definitions: "on that column", the bills, the limits, and the main case.
use Rattle.std.specs.Prelude.{ℕ, ◌≡◌, List, [], ◌∷◌, map, length, replicate, pos}
use Prim.Native.String.{String, ◌++◌}
use Rattle.model.specs.declared.Delivery.{Delivery}
use Rattle.model.specs.declared.Totals.{Totals}
use Rattle.model.specs.declared.Counts.{Counts}
use Rattle.model.specs.declared.PriceCard.{PriceCard}
use Rattle.model.specs.declared.Limits.{Limits}
use Rattle.model.specs.Bounds.{block_limit}
use Rattle.model.specs.Checks.{Check}
use Rattle.model.specs.Calendar.{Span}
use Rattle.model.specs.Prices.{factory, limits}
use Rattle.model.specs.Deliveries.{Slices, slices_of, delivery, no_totals, first_match}
use Rattle.model.specs.Blocks.{Set, blocks}
use Rattle.model.specs.Calls.{Call, find, range, range_days, insert, delete, move}
use Rattle.model.specs.Layouts.{most_partitions}
use Rattle.model.specs.Cost.{cost_of}
use Rattle.model.specs.Moves.{inserted, deleted, moved}
use Rattle.model.specs.Directory.{directory_numbers}
use Rattle.model.specs.Column.{Column, all_records}
use Rattle.model.specs.Accesses.{counts, no_counts, blocks_of, reads_of}
use Rattle.model.specs.declared.Tally.{Tally}
use Rattle.model.specs.Tallies.{tally_checks}
use Rattle.model.specs.Questions.{recorder_checks, cost_checks, planner_checks, apply_checks, column_checks, partition_checks, write_checks, read_checks, ledger_checks}
use Rattle.model.specs.Recorder.{recorded_from_zeros}
use Rattle.model.specs.Planner.{PlanResult, plan_call}
use Rattle.model.specs.ColumnCalls.{Called, laid_column, column_call}
use Rattle.model.specs.Text.{bytes_of}
use Rattle.model.specs.Program.{layplan}

-- 01's deliveries have no day: each on day 0
abbrev pub undated : List ℕ → List ℕ → List ℕ → Slices
undated gs ws ys = slices_of gs ws ys (replicate (length gs) 0)

-- "B 2; growers 10, 20 up to 80, each 100 kg, yield 2000", and a free slot
abbrev pub week : Set
week = record {
  block = 2;
  used = 8;
  slices = undated
      (10 ∷ 20 ∷ 30 ∷ 40 ∷ 50 ∷ 60 ∷ 70 ∷ 80 ∷ 0 ∷ [])
      (100 ∷ 100 ∷ 100 ∷ 100 ∷ 100 ∷ 100 ∷ 100 ∷ 100 ∷ 0 ∷ [])
      (2000 ∷ 2000 ∷ 2000 ∷ 2000 ∷ 2000 ∷ 2000 ∷ 2000 ∷ 2000 ∷ 0 ∷ []);
}

-- a delivery of that week
abbrev pub of : ℕ → Delivery
of g = delivery g 100 2000 0

-- "five finds of 30, one insert of 15 (100, 2000)"
abbrev pub calls : List Call
calls = find 30 ∷ find 30 ∷ find 30 ∷ find 30 ∷ find 30 ∷ insert (of 15) ∷ []

-- the planned layout: two partitions of two blocks
abbrev pub halves : List ℕ
halves = 1 ∷ 3 ∷ []

-- that column, with these lengths and slices
abbrev pub column_with : List ℕ → Slices → Column
column_with ns s = record { directory = directory_numbers block_limit (record { block = 2; lengths = ns; fences = 40 ∷ 80 ∷ [] }); slices = s }

abbrev pub that_column : Column
that_column = column_with (4 ∷ 4 ∷ []) week.slices

-- an accepted call
abbrev pub gives : Totals → Counts → Column → Called
gives t n c = record { answer = record { refusal = 0; totals = t; counts = n }; column = c }

abbrev pub totals : ℕ → ℕ → ℕ → Totals
totals r w o = record { records = r; weight = w; oil = o }

-- eight and nine records of the week, and the free slots behind eight and seven of them
abbrev pub eight : ℕ → List ℕ
eight n = n ∷ n ∷ n ∷ n ∷ n ∷ n ∷ n ∷ n ∷ 0 ∷ []

abbrev pub nine : ℕ → List ℕ
nine n = n ∷ n ∷ n ∷ n ∷ n ∷ n ∷ n ∷ n ∷ n ∷ []

abbrev pub seven : ℕ → List ℕ
seven n = n ∷ n ∷ n ∷ n ∷ n ∷ n ∷ n ∷ 0 ∷ 0 ∷ []

-- "On that column (marked, to be shown of the rules as a group)"
pub record OnThatColumn : Type 0 where
  pub laid : laid_column block_limit week halves ≡ that_column
  -- "find 30: 1 record, rr 1 sr 1"
  pub find_30 : column_call block_limit that_column (find 30) ≡ gives (totals 1 100 200000) (counts 1 1 0) that_column
  -- "find 99: 0 records, rr 1 sr 1"
  pub find_99 : column_call block_limit that_column (find 99) ≡ gives no_totals (counts 1 1 0) that_column
  -- "range 40 to 50: 2 records, rr 1 sr 3"
  pub range_40_50 : column_call block_limit that_column (range 40 50) ≡ gives (totals 2 200 400000) (counts 1 3 0) that_column
  -- "insert 15: rr 3 rw 3; growers 10 20 30 40 15 60 70 80 50"
  pub insert_15 : column_call block_limit that_column (insert (of 15))
      ≡ gives no_totals (counts 3 0 3) (column_with (5 ∷ 4 ∷ []) (undated (10 ∷ 20 ∷ 30 ∷ 40 ∷ 15 ∷ 60 ∷ 70 ∷ 80 ∷ 50 ∷ []) (nine 100) (nine 2000)))
  -- "delete 30: rr 3 sr 1 rw 3; 10 20 40 80 50 60 70"
  pub delete_30 : column_call block_limit that_column (delete (of 30))
      ≡ gives no_totals (counts 3 1 3) (column_with (3 ∷ 4 ∷ []) (undated (10 ∷ 20 ∷ 40 ∷ 80 ∷ 50 ∷ 60 ∷ 70 ∷ 0 ∷ 0 ∷ []) (seven 100) (seven 2000)))
  -- "move 20 to 70: rr 3 sr 1 rw 3; 10 40 30 70 50 60 70 80"
  pub move_20_70 : column_call block_limit that_column (move (of 20) 70)
      ≡ gives no_totals (counts 3 1 3) (column_with (3 ∷ 5 ∷ []) (undated (10 ∷ 40 ∷ 30 ∷ 70 ∷ 50 ∷ 60 ∷ 70 ∷ 80 ∷ 0 ∷ []) (eight 100) (eight 2000)))
  -- "move 70 to 20: same counts; 10 20 30 40 20 60 50 80"
  pub move_70_20 : column_call block_limit that_column (move (of 70) 20)
      ≡ gives no_totals (counts 3 1 3) (column_with (5 ∷ 3 ∷ []) (undated (10 ∷ 20 ∷ 30 ∷ 40 ∷ 20 ∷ 60 ∷ 50 ∷ 80 ∷ 0 ∷ []) (eight 100) (eight 2000)))
  -- "move 20 to 25: rr 2 sr 1 rw 2"
  pub move_20_25 : column_call block_limit that_column (move (of 20) 25)
      ≡ gives no_totals (counts 2 1 2) (column_with (4 ∷ 4 ∷ []) (undated (10 ∷ 40 ∷ 30 ∷ 25 ∷ 50 ∷ 60 ∷ 70 ∷ 80 ∷ 0 ∷ []) (eight 100) (eight 2000)))

-- "Three partitions also cost 35; one costs 40."
pub record Costs : Type 0 where
  pub two : cost_of block_limit factory (blocks week) halves (recorded_from_zeros block_limit week calls) ≡ pos 35
  pub three : cost_of block_limit factory (blocks week) (0 ∷ 1 ∷ 3 ∷ []) (recorded_from_zeros block_limit week calls) ≡ pos 35
  pub one : cost_of block_limit factory (blocks week) (3 ∷ []) (recorded_from_zeros block_limit week calls) ≡ pos 40

-- the planner on that week, under a read limit R and an insert limit U, with room for four ends
abbrev pub plan_under : ℕ → ℕ → PlanResult
plan_under r u = plan_call block_limit factory (limits r u) week (recorded_from_zeros block_limit week calls) (replicate 4 0)

pub record UnderLimits : Type 0 where
  pub main : plan_under 100 100 ≡ record { answer = record { refusal = 0; count = 2; cost = pos 35 }; ends = 1 ∷ 3 ∷ 0 ∷ 0 ∷ [] }
  -- "U 15 permits two partitions, U 14 one"
  pub insert_15 : most_partitions factory (limits 100 15) ≡ 2
  pub insert_14 : most_partitions factory (limits 100 14) ≡ 1
  pub plan_15 : plan_under 100 15 ≡ record { answer = record { refusal = 0; count = 2; cost = pos 35 }; ends = 1 ∷ 3 ∷ 0 ∷ 0 ∷ [] }
  pub plan_14 : plan_under 100 14 ≡ record { answer = record { refusal = 0; count = 1; cost = pos 40 }; ends = 3 ∷ 0 ∷ 0 ∷ 0 ∷ [] }
  -- 02, Slip 2: "R 4 now gives two partitions and bill 35, with U 20 or U 100. R 3 with U 20 is the case that returns 11."
  pub read_4 : plan_under 4 100 ≡ record { answer = record { refusal = 0; count = 2; cost = pos 35 }; ends = 1 ∷ 3 ∷ 0 ∷ 0 ∷ [] }
  pub read_4_insert_20 : plan_under 4 20 ≡ record { answer = record { refusal = 0; count = 2; cost = pos 35 }; ends = 1 ∷ 3 ∷ 0 ∷ 0 ∷ [] }
  pub read_3_insert_20 : plan_under 3 20 ≡ record { answer = record { refusal = 11; count = 0; cost = pos 0 }; ends = 0 ∷ 0 ∷ 0 ∷ 0 ∷ [] }
  -- one block at R 3, and "with R below RR there is still none"
  pub read_3 : plan_under 3 100 ≡ record { answer = record { refusal = 0; count = 4; cost = pos 40 }; ends = 0 ∷ 1 ∷ 2 ∷ 3 ∷ [] }
  pub read_2 : plan_under 2 100 ≡ record { answer = record { refusal = 11; count = 0; cost = pos 0 }; ends = 0 ∷ 0 ∷ 0 ∷ 0 ∷ [] }

-- "Main case: prices 3, 1, 2; R 100, U 100; B 2; ..", as layplan's input
abbrev pub main_input : String
main_input =
    "          3          1          2\n"
    ++ "        100        100\n"
    ++ "          2          8          6\n"
    ++ "         10        100       2000\n"
    ++ "         20        100       2000\n"
    ++ "         30        100       2000\n"
    ++ "         40        100       2000\n"
    ++ "         50        100       2000\n"
    ++ "         60        100       2000\n"
    ++ "         70        100       2000\n"
    ++ "         80        100       2000\n"
    ++ "          1         30          0          0          0\n"
    ++ "          1         30          0          0          0\n"
    ++ "          1         30          0          0          0\n"
    ++ "          1         30          0          0          0\n"
    ++ "          1         30          0          0          0\n"
    ++ "          3         15        100       2000          0\n"

-- "Output, whole"
abbrev pub main_output : String
main_output =
    "          2                  35\n"
    ++ "          0          1\n"
    ++ "          2          3\n"

pub record MainCase : Type 0 where
  pub output : layplan (bytes_of main_input) ≡ bytes_of main_output

-- Partitions that are empty: on the way, first and last. "An empty one only shifts."
pub record EmptyPartitions : Type 0 where
  pub insert_past : inserted {A = ℕ} (1 ∷ 0 ∷ 2 ∷ []) 0 9 (1 ∷ 2 ∷ 3 ∷ 0 ∷ 7 ∷ []) ≡ 1 ∷ 9 ∷ 3 ∷ 2 ∷ 7 ∷ []
  pub delete_past : deleted {A = ℕ} (2 ∷ 0 ∷ 1 ∷ []) 0 1 0 (1 ∷ 2 ∷ 3 ∷ 7 ∷ []) ≡ 1 ∷ 3 ∷ 0 ∷ 7 ∷ []
  pub forward_past : moved {A = ℕ} (2 ∷ 0 ∷ 2 ∷ 0 ∷ []) 0 0 3 9 (1 ∷ 2 ∷ 3 ∷ 4 ∷ []) ≡ 2 ∷ 4 ∷ 3 ∷ 9 ∷ []
  pub backward_past : moved {A = ℕ} (0 ∷ 2 ∷ 0 ∷ 2 ∷ []) 3 1 0 9 (1 ∷ 2 ∷ 3 ∷ 4 ∷ []) ≡ 9 ∷ 2 ∷ 1 ∷ 3 ∷ []

-- The records of all partitions: none of an empty partition, and none of the slots past the last partition, whatever these hold.
abbrev pub three_parts : List ℕ → Column
three_parts ns = record {
  directory = directory_numbers block_limit (record { block = 2; lengths = ns; fences = 10 ∷ 15 ∷ 80 ∷ [] });
  slices = week.slices;
}

pub record AllRecords : Type 0 where
  pub empty_between : all_records block_limit (three_parts (1 ∷ 0 ∷ 7 ∷ [])) ≡ of 10 ∷ of 20 ∷ of 30 ∷ of 40 ∷ of 50 ∷ of 60 ∷ of 70 ∷ of 80 ∷ []
  pub free_past : all_records block_limit (three_parts (1 ∷ 0 ∷ 2 ∷ [])) ≡ of 10 ∷ of 20 ∷ of 30 ∷ []
  pub all_empty : all_records block_limit (three_parts (0 ∷ 0 ∷ 0 ∷ [])) ≡ []

-- "n / B blocks rounded up", and none of an empty partition; "the first is 1 rr, each other 1 sr", and no read of no block.
pub record Reads : Type 0 where
  pub empty : blocks_of 2 0 ≡ 0
  pub half : blocks_of 2 1 ≡ 1
  pub full : blocks_of 2 2 ≡ 1
  pub more : blocks_of 2 3 ≡ 2
  pub none : reads_of 0 ≡ no_counts
  pub one : reads_of 1 ≡ counts 1 0 0
  pub three : reads_of 3 ≡ counts 1 2 0

-- Refused calls: the first "no" answers, and nothing changes.
abbrev pub refused_on : Column → ℕ → Counts → Called
refused_on c n k = record { answer = record { refusal = n; totals = no_totals; counts = k }; column = c }

abbrev pub refuses : ℕ → Counts → Called
refuses n k = refused_on that_column n k

abbrev pub full_column : Column
full_column = column_with (4 ∷ 5 ∷ []) (undated (nine 50) (nine 100) (nine 2000))

pub record Refusals : Type 0 where
  -- "13 reports its scan"
  pub missing : column_call block_limit that_column (delete (of 31)) ≡ refuses 13 (counts 1 1 0)
  pub nowhere : column_call block_limit that_column (move (of 31) 20) ≡ refuses 13 (counts 1 1 0)
  pub backwards : column_call block_limit that_column (range 5 4) ≡ refuses 7 (counts 0 0 0)
  pub heavy : column_call block_limit that_column (insert (delivery 15 100001 2000 0)) ≡ refuses 8 (counts 0 0 0)
  pub full : (column_call block_limit full_column (insert (of 15))).answer.refusal ≡ 12
  -- 8 goes ahead of 12 and of 13
  pub heavy_and_full : (column_call block_limit full_column (insert (delivery 15 100001 2000 0))).answer.refusal ≡ 8
  pub rich_and_missing : column_call block_limit that_column (delete (delivery 31 100 10001 0)) ≡ refuses 8 (counts 0 0 0)
  -- of two equal deliveries the lower slot goes
  pub lowest : first_match (of 20) (of 10 ∷ of 20 ∷ of 20 ∷ []) ≡ 1

-- 02, Slip 6, on three partitions: "a scan of an empty partition now counts no block. The first block read in a call is the 1 rr,
-- wherever it is, and a call that scans only empty partitions reports no reads." A ripple counts as before.
abbrev pub report_on : List ℕ → Call → Counts
report_on ns k = (column_call block_limit (three_parts ns) k).answer.counts

pub record EmptyScans : Type 0 where
  -- an empty partition between two others: 1 + 0 + 4 blocks
  pub between : report_on (1 ∷ 0 ∷ 7 ∷ []) (range 10 80) ≡ counts 1 4 0
  -- an empty partition first: the first block read is the next one's
  pub first : report_on (1 ∷ 0 ∷ 7 ∷ []) (range 11 80) ≡ counts 1 3 0
  pub last : report_on (1 ∷ 0 ∷ 7 ∷ []) (range 10 15) ≡ counts 1 0 0
  -- only empty ones
  pub one : column_call block_limit (three_parts (1 ∷ 0 ∷ 7 ∷ [])) (find 12) ≡ gives no_totals no_counts (three_parts (1 ∷ 0 ∷ 7 ∷ []))
  pub two : report_on (8 ∷ 0 ∷ 0 ∷ []) (range 11 99) ≡ no_counts
  pub all : column_call block_limit (three_parts (0 ∷ 0 ∷ 0 ∷ [])) (range 0 99) ≡ gives no_totals no_counts (three_parts (0 ∷ 0 ∷ 0 ∷ []))
  -- a 13 on an empty one
  pub missing : column_call block_limit (three_parts (1 ∷ 0 ∷ 7 ∷ [])) (delete (of 12)) ≡ refused_on (three_parts (1 ∷ 0 ∷ 7 ∷ [])) 13 no_counts
  pub nowhere : column_call block_limit (three_parts (1 ∷ 0 ∷ 7 ∷ [])) (move (of 12) 20) ≡ refused_on (three_parts (1 ∷ 0 ∷ 7 ∷ [])) 13 no_counts
  -- a ripple that passes an empty one: a delete's scan of 1 block, 1 rw, and 1 rr and 1 rw for each of three partitions; an insert's
  -- end slot and three partitions; a move's scan of 1 block, 1 rr and 2 rw, and 1 rr and 1 rw for each of two
  pub delete_past : report_on (1 ∷ 0 ∷ 7 ∷ []) (delete (of 10)) ≡ counts 4 0 4
  pub insert_past : report_on (1 ∷ 0 ∷ 7 ∷ []) (insert (of 10)) ≡ counts 4 0 4
  pub move_past : report_on (1 ∷ 0 ∷ 7 ∷ []) (move (of 10) 20) ≡ counts 4 0 4

abbrev pub number : Check → ℕ
number c = c.number

-- The numbers of the checks that each call puts, in order.
pub record QuestionsInOrder (L : ℕ) : Type 0 where
  pub recorder : (s : Set) (hs : List ℕ) (c : Call) → map number (recorder_checks L s hs c) ≡ 2 ∷ 3 ∷ 4 ∷ 5 ∷ 7 ∷ 8 ∷ 19 ∷ 9 ∷ 10 ∷ []
  pub cost : (p : PriceCard) (s : Set) (ends hs : List ℕ) → map number (cost_checks L p s ends hs) ≡ 1 ∷ 2 ∷ 3 ∷ 4 ∷ 5 ∷ 6 ∷ 8 ∷ 19 ∷ 9 ∷ []
  pub planner : (p : PriceCard) (l : Limits) (s : Set) (hs : List ℕ) (needed room : ℕ) → map number (planner_checks L p l s hs needed room) ≡ 1 ∷ 2 ∷ 3 ∷ 4 ∷ 5 ∷ 8 ∷ 19 ∷ 9 ∷ 11 ∷ 15 ∷ []
  pub applying : (s : Set) (ends : List ℕ) → map number (apply_checks L s ends) ≡ 2 ∷ 3 ∷ 4 ∷ 5 ∷ 6 ∷ 8 ∷ 19 ∷ []
  pub finding : (c : Column) (g : ℕ) → map number (column_checks L c (find g)) ≡ 2 ∷ 3 ∷ 6 ∷ 8 ∷ 19 ∷ []
  pub ranging : (c : Column) (lo hi : ℕ) → map number (column_checks L c (range lo hi)) ≡ 2 ∷ 3 ∷ 6 ∷ 7 ∷ 8 ∷ 19 ∷ []
  pub ranging_days : (c : Column) (lo hi : ℕ) (s : Span) → map number (column_checks L c (range_days lo hi s)) ≡ 2 ∷ 3 ∷ 6 ∷ 7 ∷ 8 ∷ 19 ∷ []
  pub inserting : (c : Column) (d : Delivery) → map number (column_checks L c (insert d)) ≡ 2 ∷ 3 ∷ 6 ∷ 8 ∷ 19 ∷ 12 ∷ []
  pub deleting : (c : Column) (d : Delivery) → map number (column_checks L c (delete d)) ≡ 2 ∷ 3 ∷ 6 ∷ 8 ∷ 19 ∷ 13 ∷ []
  pub moving : (c : Column) (d : Delivery) (g : ℕ) → map number (column_checks L c (move d g)) ≡ 2 ∷ 3 ∷ 6 ∷ 8 ∷ 19 ∷ 13 ∷ []
  pub partition : (ns gs : List ℕ) → map number (partition_checks L ns gs) ≡ 2 ∷ 3 ∷ 6 ∷ []
  pub writing : (c : Column) (room : ℕ) → map number (write_checks L c room) ≡ 2 ∷ 3 ∷ 6 ∷ 6 ∷ 8 ∷ 19 ∷ 15 ∷ []
  pub reading : (text : List ℕ) (s : Slices) → map number (read_checks L text s) ≡ 3 ∷ 12 ∷ 14 ∷ []
  pub tallying : (t : Tally) (n : Counts) → map number (tally_checks t n) ≡ 10 ∷ []
  pub ledger_finding : (c : ℕ) (bag : List Delivery) (g : ℕ) → map number (ledger_checks c bag (find g)) ≡ []
  pub ledger_ranging : (c : ℕ) (bag : List Delivery) (lo hi : ℕ) → map number (ledger_checks c bag (range lo hi)) ≡ 7 ∷ []
  pub ledger_ranging_days : (c : ℕ) (bag : List Delivery) (lo hi : ℕ) (s : Span) → map number (ledger_checks c bag (range_days lo hi s)) ≡ 7 ∷ 19 ∷ []
  pub ledger_inserting : (c : ℕ) (bag : List Delivery) (d : Delivery) → map number (ledger_checks c bag (insert d)) ≡ 8 ∷ 19 ∷ 12 ∷ []
  pub ledger_deleting : (c : ℕ) (bag : List Delivery) (d : Delivery) → map number (ledger_checks c bag (delete d)) ≡ 8 ∷ 19 ∷ 13 ∷ []
  pub ledger_moving : (c : ℕ) (bag : List Delivery) (d : Delivery) (g : ℕ) → map number (ledger_checks c bag (move d g)) ≡ 8 ∷ 19 ∷ 13 ∷ []
