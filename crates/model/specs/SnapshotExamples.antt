-- The book's edges, as statements over the definitions: number fields, texts read, and that column written.
use Rattle.std.specs.Prelude.{ℕ, ◌≡◌, ◌∷◌, [], take, drop, replicate, pos, negsuc}
use Prim.Native.String.{String, ◌++◌}
use Rattle.std.proofs.Math.Option.{none, some}
use Rattle.model.specs.Deliveries.{alike}
use Rattle.model.specs.Fields.{number_field, signed_field, read_field}
use Rattle.model.specs.SnapshotCalls.{write_call, read_call}
use Rattle.model.specs.Text.{bytes_of}
use Rattle.model.specs.Examples.{column_with, that_column}

-- "decimal, right-justified in 11 columns, no leading zeros, zero as `0`"; a signed one in 20
pub record NumberFields : Type 0 where
  pub zero-written : number_field 0 ≡ bytes_of "          0"
  pub greatest_written : number_field 4294967295 ≡ bytes_of " 4294967295"
  pub minus-written : signed_field (negsuc 34) ≡ bytes_of "                 -35"
  pub bill_written : signed_field (pos 35) ≡ bytes_of "                  35"
  pub greatest : read_field (bytes_of " 4294967295") ≡ some 4294967295
  pub above : read_field (bytes_of " 4294967296") ≡ none
  pub leading-zero : read_field (bytes_of "         01") ≡ none
  pub two_zeros : read_field (bytes_of "         00") ≡ none
  pub blank-behind : read_field (bytes_of "         1 ") ≡ none
  pub blank_within : read_field (bytes_of "        1 2") ≡ none
  pub signed : read_field (bytes_of "         +1") ≡ none
  pub no_digit : read_field (bytes_of "           ") ≡ none
  pub short : read_field (bytes_of "         1") ≡ none

-- the refusal of a text that is read into c slots
abbrev pub refusal_for : ℕ → String → ℕ
refusal_for c t = (read_call 64 (bytes_of t) (alike (replicate c 7))).refusal

-- lines that several texts below share
abbrev pub one_empty : String
one_empty = "          1          0          1\n          0 4294967295\n"

abbrev pub one_in_two : String
one_in_two = "          1          1          2\n          0          5\n          1          9\n"

pub record BooksRead : Type 0 where
  pub empty : refusal_for 1 one_empty ≡ 0
  pub above_the_last_fence : refusal_for 1 (one_in_two ++ " 4294967295     100000      10000\n") ≡ 0
  -- 14: no partition, a carriage return, a fourth number, M out of range, a line left over, no last LF
  pub no_partition : refusal_for 1 "          1          0          0\n" ≡ 14
  pub carriage_return : refusal_for 1 "          1          2          1\r\n" ≡ 14
  pub fourth_number : refusal_for 1 "          1          2          1          1\n" ≡ 14
  pub too_many : refusal_for 1 "          1     262145          1\n" ≡ 14
  pub line_left : refusal_for 1 (one_empty ++ "\n") ≡ 14
  pub no_line_end : refusal_for 1 "          1          0          1\n          0 4294967295" ≡ 14
  -- 14: a grower at the fence before its partition, a weight and a yield too great, a grower of 33 bits, equal fences, a leading zero
  pub unsound : refusal_for 1 (one_in_two ++ "          5     100000      10000\n") ≡ 14
  pub heavy : refusal_for 1 (one_in_two ++ "          6     100001      10000\n") ≡ 14
  pub rich : refusal_for 1 (one_in_two ++ "          6     100000      10001\n") ≡ 14
  pub wide : refusal_for 1 (one_in_two ++ " 4294967296     100000      10000\n") ≡ 14
  pub equal_fences : refusal_for 1 "          1          0          2\n          0          5\n          0          5\n" ≡ 14
  pub zero-ahead : refusal_for 1 "         01          0          1\n          0          5\n" ≡ 14
  -- 14: M is not the sum of the lengths
  pub other_sum : refusal_for 2 "          1          1          1\n          2          5\n          5          1          1\n" ≡ 14
  -- "12 goes ahead of 14 only if line 1 is three such numbers in range"; 3 ahead of both
  pub too_few_slots : refusal_for 1 "          1          2          1\nnothing more" ≡ 12
  pub too_few_and_bad : refusal_for 1 "          0          2          1\nnothing more" ≡ 14
  pub no_slots : refusal_for 0 one_empty ≡ 3

-- "line 1: B, M, K. K lines: length, fence. M lines: grower, weight, yield"
abbrev pub that_text : String
that_text =
    "          2          8          2\n          4         40\n          4         80\n"
    ++ "         10        100       2000\n         20        100       2000\n         30        100       2000\n         40        100       2000\n"
    ++ "         50        100       2000\n         60        100       2000\n         70        100       2000\n         80        100       2000\n"

pub record BooksWritten : Type 0 where
  -- "bytes .. past what is written stay"
  pub answered : (write_call 64 that_column (replicate 354 7)).answer ≡ record { refusal = 0; bytes = 352 }
  pub written : take 352 (write_call 64 that_column (replicate 354 7)).text ≡ bytes_of that_text
  pub past : drop 352 (write_call 64 that_column (replicate 354 7)).text ≡ 7 ∷ 7 ∷ []
  pub just_room : (write_call 64 that_column (replicate 352 7)).answer.refusal ≡ 0
  pub one_byte_short : write_call 64 that_column (replicate 351 7) ≡ record { answer = record { refusal = 15; bytes = 0 }; text = replicate 351 7 }
  pub read_again : read_call 64 (bytes_of that_text) that_column.slices ≡ record { refusal = 0; column = that_column }
  pub unsound : (write_call 64 (column_with (3 ∷ 5 ∷ []) that_column.slices) []).answer.refusal ≡ 6
