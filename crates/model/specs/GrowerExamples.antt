-- The next grower's edges (02: Slip 3), as statements over the definitions: the ends of the 32 bits, past every fence, an empty column, empty partitions between.
use Rattle.std.specs.Prelude.{ℕ, ◌≡◌, true, false, List, [], ◌∷◌, map}
use Rattle.model.specs.declared.Counts.{Counts}
use Rattle.model.specs.declared.GrowerAnswer.{GrowerAnswer}
use Rattle.model.specs.Bounds.{block_limit}
use Rattle.model.specs.Deliveries.{delivery}
use Rattle.model.specs.Directory.{directory_of, directory_numbers}
use Rattle.model.specs.Column.{Column, all_records}
use Rattle.model.specs.Accesses.{counts, no_counts}
use Rattle.model.specs.Questions.{grower_checks}
use Rattle.model.specs.Growers.{Direction, up, down, nearest, nearest_of, holds_one, path, up_to_first, counts_scanned, scanned_for}
use Rattle.model.specs.GrowerCalls.{grower_answer, grower_call, ledger_grower}
use Rattle.model.specs.Examples.{undated, number}

-- B 2 and fences 10, 20, 30, 40
abbrev pub four_parts : List ℕ → List ℕ → List ℕ → List ℕ → Column
four_parts ns gs ws ys = record { directory = directory_numbers block_limit (record { block = 2; lengths = ns; fences = 10 ∷ 20 ∷ 30 ∷ 40 ∷ [] }); slices = undated gs ws ys }

-- growers 9, 0, 9; none; none; 40, 4294967295, 35, 35; and two free slots, which hold growers too
abbrev pub gapped : List ℕ → Column
gapped ws = four_parts (3 ∷ 0 ∷ 0 ∷ 4 ∷ []) (9 ∷ 0 ∷ 9 ∷ 40 ∷ 4294967295 ∷ 35 ∷ 35 ∷ 12 ∷ 36 ∷ []) ws (1 ∷ 1 ∷ 1 ∷ 1 ∷ 1 ∷ 1 ∷ 1 ∷ 0 ∷ 0 ∷ [])

abbrev pub gaps : Column
gaps = gapped (1 ∷ 1 ∷ 1 ∷ 1 ∷ 1 ∷ 1 ∷ 1 ∷ 0 ∷ 0 ∷ [])

-- the same with a weight out of range in the last partition, and in the first
abbrev pub heavy_last : Column
heavy_last = gapped (1 ∷ 1 ∷ 1 ∷ 1 ∷ 1 ∷ 1 ∷ 100001 ∷ 0 ∷ 0 ∷ [])

abbrev pub heavy_first : Column
heavy_first = gapped (100001 ∷ 1 ∷ 1 ∷ 1 ∷ 1 ∷ 1 ∷ 1 ∷ 0 ∷ 0 ∷ [])

-- four empty partitions, and a free slot
abbrev pub no_records : Column
no_records = four_parts (0 ∷ 0 ∷ 0 ∷ 0 ∷ []) (7 ∷ []) (1 ∷ []) (1 ∷ [])

abbrev pub answers : Column → Direction → ℕ → GrowerAnswer
answers c w g = grower_call block_limit c w g

abbrev pub gives : ℕ → ℕ → Counts → GrowerAnswer
gives g n k = grower_answer 0 g n k

abbrev pub refused_by8 : GrowerAnswer
refused_by8 = grower_answer 8 0 0 no_counts

pub record NextGrowers : Type 0 where
  pub from_0 : answers gaps up 0 ≡ gives 0 1 (counts 1 1 0)
  pub from_1 : answers gaps up 1 ≡ gives 9 2 (counts 1 1 0)
  -- the first partition holds none at or above 10, the next two hold nothing: 2 + 0 + 0 + 2 blocks
  pub over_empty : answers gaps up 10 ≡ gives 35 2 (counts 1 3 0)
  pub over_scanned : scanned_for block_limit gaps up 10 ≡ 0 ∷ 1 ∷ 2 ∷ 3 ∷ []
  -- from an empty partition: the first block read is that of the last
  pub from_empty : answers gaps up 11 ≡ gives 35 2 (counts 1 1 0)
  pub past_fences : answers gaps up 41 ≡ gives 4294967295 1 (counts 1 1 0)
  pub greatest : answers gaps up 4294967295 ≡ gives 4294967295 1 (counts 1 1 0)

pub record PreviousGrowers : Type 0 where
  pub from_greatest : answers gaps down 4294967295 ≡ gives 4294967295 1 (counts 1 1 0)
  pub past_fences : answers gaps down 41 ≡ gives 40 1 (counts 1 1 0)
  pub over_empty : answers gaps down 34 ≡ gives 9 2 (counts 1 3 0)
  pub over_scanned : scanned_for block_limit gaps down 34 ≡ 3 ∷ 2 ∷ 1 ∷ 0 ∷ []
  pub from_empty : answers gaps down 30 ≡ gives 9 2 (counts 1 1 0)
  pub to_0 : answers gaps down 8 ≡ gives 0 1 (counts 1 1 0)
  pub least : answers gaps down 0 ≡ gives 0 1 (counts 1 1 0)

-- "if none exists it answers grower 0 and count 0, having scanned to the column's end or beginning"
pub record NoGrower : Type 0 where
  pub none_above : answers (four_parts (3 ∷ 0 ∷ 0 ∷ 0 ∷ []) (9 ∷ 0 ∷ 9 ∷ []) (1 ∷ 1 ∷ 1 ∷ []) (1 ∷ 1 ∷ 1 ∷ [])) up 10 ≡ gives 0 0 (counts 1 1 0)
  pub none_below : answers (four_parts (0 ∷ 0 ∷ 0 ∷ 2 ∷ []) (39 ∷ 35 ∷ []) (1 ∷ 1 ∷ []) (1 ∷ 1 ∷ [])) down 34 ≡ gives 0 0 (counts 1 0 0)
  -- only empty partitions are scanned: no read
  pub none_read : answers (four_parts (0 ∷ 0 ∷ 0 ∷ 2 ∷ []) (39 ∷ 35 ∷ []) (1 ∷ 1 ∷ []) (1 ∷ 1 ∷ [])) down 30 ≡ gives 0 0 no_counts
  -- an empty column, whatever its free slot holds
  pub empty_up : answers no_records up 5 ≡ gives 0 0 no_counts
  pub empty_down : answers no_records down 25 ≡ gives 0 0 no_counts

-- 8, of the partitions scanned and of no other
pub record GrowersScanned : Type 0 where
  pub heavy_scanned : answers heavy_last up 10 ≡ refused_by8
  pub heavy_not-reached : answers heavy_last up 1 ≡ gives 9 2 (counts 1 1 0)
  pub heavy_behind : answers heavy_first up 35 ≡ gives 35 2 (counts 1 1 0)
  pub heavy_scanned_down : answers heavy_first down 34 ≡ refused_by8
  pub heavy_not-reached_down : answers heavy_first down 35 ≡ gives 35 2 (counts 1 1 0)

-- the pieces at their edges
pub record GrowerPieces : Type 0 where
  pub smallest : nearest up (7 ∷ 5 ∷ 9 ∷ 5 ∷ []) ≡ 5
  pub largest : nearest down (7 ∷ 5 ∷ 9 ∷ 5 ∷ []) ≡ 9
  pub nothing : nearest_of up 5 [] ≡ record { grower = 0; records = 0 }
  pub grower_0 : nearest_of down 5 (0 ∷ 6 ∷ 0 ∷ []) ≡ record { grower = 0; records = 2 }
  pub path_up : path up 4 3 ≡ 3 ∷ []
  pub path_down : path down 4 0 ≡ 0 ∷ []
  pub stops_at_once : up_to_first (λ (i : ℕ). true) (1 ∷ 2 ∷ []) ≡ 1 ∷ []
  pub never_stops : up_to_first (λ (i : ℕ). false) (1 ∷ 2 ∷ []) ≡ 1 ∷ 2 ∷ []
  pub holds_himself : holds_one down 5 (delivery 5 0 0 0 ∷ []) ≡ true
  pub holds_nothing : holds_one down 5 [] ≡ false
  pub counts_empty : counts_scanned (directory_of block_limit gaps.directory) (1 ∷ 2 ∷ []) ≡ no_counts
  pub counts_last : counts_scanned (directory_of block_limit gaps.directory) (3 ∷ []) ≡ counts 1 1 0
  pub ledger_up : ledger_grower (all_records block_limit gaps) up 10 ≡ record { grower = 35; records = 2 }
  pub ledger_down : ledger_grower (all_records block_limit gaps) down 34 ≡ record { grower = 9; records = 2 }
  pub ledger_empty : ledger_grower [] up 0 ≡ record { grower = 0; records = 0 }

-- The numbers of the checks that both calls put, in order.
pub record GrowerQuestions (L : ℕ) : Type 0 where
  pub asked : (c : Column) (w : Direction) (g : ℕ) → map number (grower_checks L c w g) ≡ 2 ∷ 3 ∷ 6 ∷ 8 ∷ 19 ∷ []
