-- The edges of the settlement sheet, computed (02: Slip 4).
use Rattle.std.specs.Prelude.{ℕ, ◌≡◌, List, [], ◌∷◌, ◌++◌, map, length, replicate}
use Rattle.model.specs.declared.Delivery.{Delivery}
use Rattle.model.specs.declared.Totals.{Totals}
use Rattle.model.specs.Bounds.{block_limit}
use Rattle.model.specs.Checks.{first_failed}
use Rattle.model.specs.Column.{Column}
use Rattle.model.specs.Deliveries.{delivery, totals_of}
use Rattle.model.specs.Questions.{sheet_checks}
use Rattle.model.specs.Sheet.{placed_once, each_once, SheetLine, line_of, sheet_lines, lines_totals, wide_field, wide_line, totals_row, line_text, sheet_of, slots_of, by_grower, slots_in_order}
use Rattle.model.specs.SheetCalls.{sheet_call, settlement}
use Rattle.model.specs.Text.{bytes_of}
use Rattle.model.specs.Examples.{undated, number}

abbrev totals : ℕ → ℕ → ℕ → Totals
totals r w o = record { records = r; weight = w; oil = o }

abbrev row : ℕ → Totals → SheetLine
row g t = record { grower = g; totals = t }

-- five deliveries of four growers, the least and the greatest number among them
abbrev pub five : List Delivery
five = delivery 30 100 2 0 ∷ delivery 10 5 1 0 ∷ delivery 4294967295 0 9 0 ∷ delivery 30 1 7 0 ∷ delivery 0 2 2 0 ∷ []

-- two partitions with fences 20 and 30, of the lengths given, and a free slot
abbrev pub laid : List ℕ → List ℕ → Column
laid lens gs = record {
  directory = 2 ∷ 2 ∷ lens ++ replicate 62 0 ++ 20 ∷ 30 ∷ replicate 62 0;
  slices = undated gs (100 ∷ 200 ∷ 300 ∷ 400 ∷ 0 ∷ []) (1 ∷ 2 ∷ 3 ∷ 4 ∷ 0 ∷ []);
}

-- a record of grower 20 lies in his partition, or in the next
abbrev pub sound_one : Column
sound_one = laid (3 ∷ 1 ∷ []) (20 ∷ 10 ∷ 20 ∷ 30 ∷ 9 ∷ [])

abbrev pub unsound_one : Column
unsound_one = laid (2 ∷ 2 ∷ []) (20 ∷ 10 ∷ 20 ∷ 30 ∷ 9 ∷ [])

pub record SheetComputed : Type 0 where
  pub put_first : placed_once 0 (1 ∷ 4294967295 ∷ []) ≡ 0 ∷ 1 ∷ 4294967295 ∷ []
  pub there_already : placed_once 4294967295 (1 ∷ 4294967295 ∷ []) ≡ 1 ∷ 4294967295 ∷ []
  pub none : each_once [] ≡ []
  pub each_once_lem : each_once (30 ∷ 10 ∷ 4294967295 ∷ 30 ∷ 0 ∷ []) ≡ 0 ∷ 10 ∷ 30 ∷ 4294967295 ∷ []
  pub two_records : line_of five 30 ≡ row 30 (totals 2 101 207)
  pub no_kg : line_of five 4294967295 ≡ row 4294967295 (totals 1 0 0)
  pub no_lines : sheet_lines [] ≡ []
  pub lines : sheet_lines five ≡ row 0 (totals 1 2 4) ∷ row 10 (totals 1 5 5) ∷ row 30 (totals 2 101 207) ∷ row 4294967295 (totals 1 0 0) ∷ []
  pub no_sums : lines_totals [] ≡ totals 0 0 0
  pub sums : lines_totals (sheet_lines five) ≡ totals 5 108 216
  pub of_the_records : totals_of five ≡ totals 5 108 216
  pub zero : wide_field 0 ≡ bytes_of "                   0"
  -- every delivery of a full column at its most
  pub widest : wide_field 262144000000000 ≡ bytes_of "     262144000000000"
  pub one_line : line_text (row 30 (totals 2 101 207)) ≡ bytes_of "                  30                   2                 101                 207" ++ 10 ∷ []
  pub of_four : length (line_text (row 4294967295 (totals 262144 26214400000 262144000000000))) ≡ 81
  pub of_three : length (wide_line (totals_row (totals 0 0 0))) ≡ 61
  -- "an empty column prints only a line of zeros"
  pub empty : sheet_of [] ≡ bytes_of "                   0                   0                   0" ++ 10 ∷ []
  pub whole : sheet_of (delivery 9 300 1 0 ∷ delivery 7 100 20 0 ∷ delivery 7 50 2 0 ∷ [])
      ≡ bytes_of "                   7                   2                 150                2100" ++ 10 ∷
      bytes_of "                   9                   1                 300                 300" ++ 10 ∷ bytes_of "                   3                 450                2400" ++ 10 ∷ []
  pub no_slot : slots_of (20 ∷ 10 ∷ 20 ∷ []) (0 ∷ 1 ∷ 2 ∷ []) 30 ≡ []
  pub his_slots : slots_of (20 ∷ 10 ∷ 20 ∷ []) (0 ∷ 1 ∷ 2 ∷ []) 20 ≡ 0 ∷ 2 ∷ []
  -- slots of one grower stay in their order
  pub in_their_order : by_grower (20 ∷ 10 ∷ 20 ∷ []) (2 ∷ 1 ∷ 0 ∷ []) ≡ 1 ∷ 2 ∷ 0 ∷ []
  pub in_order : slots_in_order (20 ∷ 10 ∷ 20 ∷ 30 ∷ 9 ∷ []) 4 ≡ 1 ∷ 0 ∷ 2 ∷ 3 ∷ []
  -- 6: "an unsound column gives 6", also where there is no room; 15: one byte short, one number short of order or work
  pub exact : first_failed (sheet_checks block_limit sound_one 304 4 4) ≡ 0
  pub byte_short : first_failed (sheet_checks block_limit sound_one 303 4 4) ≡ 15
  pub order_short : first_failed (sheet_checks block_limit sound_one 304 3 4) ≡ 15
  pub work_short : first_failed (sheet_checks block_limit sound_one 304 4 3) ≡ 15
  pub unsound : first_failed (sheet_checks block_limit unsound_one 0 0 0) ≡ 6
  -- a refusal leaves the slices; an accepted call the used slots in order, and zeros where it worked
  pub left_alone : sheet_call block_limit unsound_one (1 ∷ 2 ∷ []) (3 ∷ []) (4 ∷ []) ≡ record { answer = record { refusal = 6; bytes = 0 }; text = 1 ∷ 2 ∷ []; order = 3 ∷ []; work = 4 ∷ [] }
  pub order_left : (sheet_call block_limit sound_one (replicate 304 0) (9 ∷ 9 ∷ 9 ∷ 9 ∷ 7 ∷ []) (9 ∷ 9 ∷ 9 ∷ 9 ∷ 8 ∷ [])).order ≡ 1 ∷ 0 ∷ 2 ∷ 3 ∷ 7 ∷ []
  pub work_left : (sheet_call block_limit sound_one (replicate 304 0) (9 ∷ 9 ∷ 9 ∷ 9 ∷ 7 ∷ []) (9 ∷ 9 ∷ 9 ∷ 9 ∷ 8 ∷ [])).work ≡ 0 ∷ 0 ∷ 0 ∷ 0 ∷ 8 ∷ []
  -- the program: no book, more deliveries than slots, a book without deliveries, one with two of one grower
  pub no_book : settlement [] ≡ bytes_of "         14" ++ 10 ∷ []
  pub too_many : settlement (bytes_of "          2        513          1" ++ 10 ∷ []) ≡ bytes_of "         12" ++ 10 ∷ []
  pub book_of_none : settlement (bytes_of "          2          0          1" ++ 10 ∷ bytes_of "          0          7" ++ 10 ∷ [])
      ≡ bytes_of "                   0                   0                   0" ++ 10 ∷ []
  pub book_of_two : settlement (bytes_of "          2          2          1" ++ 10 ∷ bytes_of "          2          7" ++ 10 ∷
      bytes_of "          7        100         20" ++ 10 ∷ bytes_of "          7        300          1" ++ 10 ∷ [])
      ≡ bytes_of "                   7                   2                 400                2300" ++ 10 ∷ bytes_of "                   2                 400                2300" ++ 10 ∷ []

-- 02's checks of a sheet, in order
pub record SheetQuestions (L : ℕ) : Type 0 where
  pub asked : (c : Column) (room orderRoom workRoom : ℕ) → map number (sheet_checks L c room orderRoom workRoom) ≡ 2 ∷ 3 ∷ 6 ∷ 6 ∷ 8 ∷ 19 ∷ 15 ∷ []
