-- The weighbridge file's edges, as statements over the definitions: texts imported and exported.
use Rattle.std.specs.Prelude.{ℕ, ◌≡◌, List, [], ◌∷◌, ◌++◌ as ◌++ₗ◌, map, replicate}
use Prim.Native.String.{String, ◌++◌}
use Rattle.std.proofs.Math.Option.{none, some}
use Rattle.model.specs.Deliveries.{Slices, alike, delivery}
use Rattle.model.specs.Text.{bytes_of}
use Rattle.model.specs.Examples.{undated, number}
use Rattle.model.specs.Fields.{taken}
use Rattle.model.specs.Csv.{take_field, records_of}
use Rattle.model.specs.Weighbridge.{number_in, row_count, csv_text}
use Rattle.model.specs.Questions.{import_checks, export_checks}
use Rattle.model.specs.CsvCalls.{ImportResult, import_call, export_call}

-- "quoted fields and doubled quotes are read as the RFC says": a field and the text after it; the records of a text
pub record CsvFields : Type 0 where
  pub doubled : take_field (bytes_of "\"a\"\"b\",c") ≡ some (taken (bytes_of "a\"b") (bytes_of ",c"))
  pub closed : take_field (bytes_of "\"a\"b") ≡ some (taken (bytes_of "a") (bytes_of "b"))
  pub doubled_last : take_field (bytes_of "\"a\"\"") ≡ none
  pub to_a_quote : take_field (bytes_of "a\"b") ≡ some (taken (bytes_of "a") (bytes_of "\"b"))
  pub carriage_kept : take_field (bytes_of "a\rb\r\n") ≡ some (taken (bytes_of "a\rb") (bytes_of "\r\n"))
  pub nothing_left : take_field [] ≡ some (taken [] [])
  pub broken_last : records_of (bytes_of "a,\r\n\"b") ≡ some (bytes_of "a" ∷ [] ∷ []) ∷ none ∷ []
  pub no_record : records_of [] ≡ []

-- "numbers are plain digits in the ranges of 01, leading zeros allowed"
pub record CsvNumbers : Type 0 where
  pub zeros-ahead : number_in 10 (bytes_of "0010") ≡ some 10
  pub one_above : number_in 10 (bytes_of "11") ≡ none
  pub no_digit : number_in 10 [] ≡ none
  pub other_byte : number_in 10 (bytes_of "1:") ≡ none

-- a text imported into c slots that hold 7
abbrev pub import_of : String → ℕ → ImportResult
import_of t c = import_call (bytes_of t) (alike (replicate c 7))

abbrev pub import_refusal : String → ℕ → ℕ
import_refusal t c = (import_of t c).answer.refusal

abbrev pub growers_after : String → ℕ → List ℕ
growers_after t c = (import_of t c).slices.growers

abbrev pub yields_after : String → ℕ → List ℕ
yields_after t c = (import_of t c).slices.yields

abbrev pub head : String
head = "grower,weight,yield\r\n"

-- "with CRLF or LF line ends"; the last may be missing, and an empty text has no header
pub record CsvLineEnds : Type 0 where
  pub empty_text : import_refusal "" 1 ≡ 16
  pub no_rows : import_refusal head 1 ≡ 0
  pub no_last_end : import_refusal "grower,weight,yield" 1 ≡ 0
  pub one_row : growers_after (head ++ "12,3,4\r\n") 2 ≡ 12 ∷ 7 ∷ []
  pub row_no_last_end : growers_after (head ++ "12,3,4") 2 ≡ 12 ∷ 7 ∷ []
  pub line_feeds : growers_after "grower,weight,yield\n12,3,4\n13,3,4\n" 2 ≡ 12 ∷ 13 ∷ []
  pub mixed_ends : import_refusal "grower,weight,yield\n12,3,4\r\n13,3,4" 2 ≡ 0
  pub carriage_alone : import_refusal (head ++ "1,2,3\r") 1 ≡ 18
  pub carriage_inside : import_refusal "x,grower,weight,yield\na\rb,1,2,3\n" 1 ≡ 0
  pub two_carriages : import_refusal (head ++ "1,2,3\r\r\n") 1 ≡ 18
  pub empty_line : import_refusal (head ++ "\r\n") 1 ≡ 18
  pub empty_line_last : import_refusal (head ++ "1,2,3\r\n\n") 1 ≡ 18

-- "columns are found by the names grower, weight and yield, in any order; others are skipped"
pub record CsvColumns : Type 0 where
  pub other_order : growers_after "yield,x,grower,weight\n1,,2,3" 1 ≡ 2 ∷ []
  pub other_order_yield : yields_after "yield,x,grower,weight\n1,,2,3" 1 ≡ 1 ∷ []
  pub quoted_names : import_refusal "\"grower\",\"weight\",yield\n" 1 ≡ 0
  pub upper_case : import_refusal "Grower,weight,yield\n" 1 ≡ 16
  pub blank_name : import_refusal "grower ,weight,yield\n" 1 ≡ 16
  pub doubled_in_name : import_refusal "\"grow\"\"er\",weight,yield\n" 1 ≡ 16
  pub absent : import_refusal "grower,weight\n" 1 ≡ 16
  pub twice : import_refusal "grower,weight,yield,grower\n" 1 ≡ 17
  pub twice_unneeded : import_refusal "grower,weight,yield,x,x\n" 1 ≡ 0
  pub sixteen_first : import_refusal "grower,grower,yield\n" 1 ≡ 16
  pub seventeen_first : import_refusal "grower,weight,yield,grower\n\"" 1 ≡ 17

-- "quoted fields and doubled quotes are read as the RFC says"; a broken quote is 16 in the header, 18 in a row
pub record CsvQuotes : Type 0 where
  pub quoted_row : growers_after (head ++ "\"12\",3,\"4\"\r\n") 1 ≡ 12 ∷ []
  pub quoted_comma : growers_after "mill,grower,weight,yield\n\"a,\"\"b\"\"\r\n\",5,3,4" 1 ≡ 5 ∷ []
  pub never_closed : import_refusal "grower,weight,yield,\"x" 1 ≡ 16
  pub quote_inside : import_refusal "grower,weight,yield,x\"\n" 1 ≡ 16
  pub behind-quote : import_refusal "grower,weight,yield,\"x\"y\n" 1 ≡ 16
  pub carriage_behind-quote : import_refusal "grower,weight,yield,\"x\"\ry\n" 1 ≡ 16
  pub row_never_closed : import_refusal (head ++ "1,2,\"3") 1 ≡ 18
  pub row_only_quote : import_refusal (head ++ "\"") 1 ≡ 18
  pub row-quote_inside : import_refusal (head ++ "1,2,3\"") 1 ≡ 18
  pub row-behind-quote : import_refusal (head ++ "1,2,\"3\" ") 1 ≡ 18
  pub row_closed : import_refusal (head ++ "1,2,\"3\"") 1 ≡ 0
  pub empty_quoted : import_refusal (head ++ "1,2,\"\"") 1 ≡ 18

-- "18: a row has another field count, .. or a number out of range"; "leading zeros allowed"
pub record CsvRows : Type 0 where
  pub one_short : import_refusal (head ++ "1,2\n") 1 ≡ 18
  pub one_long : import_refusal (head ++ "1,2,3,\n") 1 ≡ 18
  pub empty_number : import_refusal (head ++ "1,,3\n") 1 ≡ 18
  pub signed : import_refusal (head ++ "1,+2,3\n") 1 ≡ 18
  pub blank-number : import_refusal (head ++ "1, 2,3\n") 1 ≡ 18
  pub leading_zeros : growers_after (head ++ "00000000000000004294967295,0100000,0010000") 1 ≡ 4294967295 ∷ []
  pub grower_above : import_refusal (head ++ "4294967296,0,0") 1 ≡ 18
  pub weight_above : import_refusal (head ++ "0,100001,0") 1 ≡ 18
  pub yield_above : import_refusal (head ++ "0,0,10001") 1 ≡ 18
  pub wrapped : import_refusal (head ++ "18446744073709551617,0,0") 1 ≡ 18

-- "and then 12"; a refused import stores nothing
pub record CsvSlots : Type 0 where
  pub too_many : import_refusal (head ++ "1,2,3\n1,2,3\n") 1 ≡ 12
  pub twelve_behind : import_refusal (head ++ "1,2,3\n1,2,3\n1,2\n") 1 ≡ 18
  pub refused_stays : growers_after (head ++ "1,2,3\n1,2,3\n") 1 ≡ 7 ∷ []
  pub no_slots : import_refusal "" 0 ≡ 3
  pub counted : (import_of (head ++ "1,2,3\n4,5,6") 2).answer ≡ record { refusal = 0; rows = 2 }
  pub slots_past : growers_after (head ++ "1,2,3\n4,5,6") 3 ≡ 1 ∷ 4 ∷ 7 ∷ []
  pub no_row_counted : row_count (bytes_of head) ≡ 0
  pub bad_rows_counted : row_count (bytes_of (head ++ "1\n\n2,\"")) ≡ 3

-- two slots, the second with a weight out of range
abbrev pub heavy_second : Slices
heavy_second = undated (1 ∷ 2 ∷ []) (3 ∷ 100001 ∷ []) (4 ∷ 5 ∷ [])

-- "the header line `grower,weight,yield` and, in that order, the first M slots .. with CRLF, unquoted (M 0 to C, else 4)"
pub record CsvWritten : Type 0 where
  pub no_delivery : csv_text [] ≡ bytes_of head
  pub two_deliveries : csv_text (delivery 4294967295 100000 10000 0 ∷ delivery 0 10 0 36524 ∷ []) ≡ bytes_of (head ++ "4294967295,100000,10000\r\n0,10,0\r\n")
  pub no_slot : export_call 0 (undated (1 ∷ []) (100001 ∷ []) (2 ∷ [])) (replicate 22 7) ≡ record { answer = record { refusal = 0; bytes = 21 }; text = csv_text [] ++ₗ 7 ∷ [] }
  pub one_slot : (export_call 1 heavy_second (replicate 28 7)).answer ≡ record { refusal = 0; bytes = 28 }
  pub one_byte_short : export_call 1 heavy_second (replicate 27 7) ≡ record { answer = record { refusal = 15; bytes = 0 }; text = replicate 27 7 }
  pub heavy : (export_call 2 heavy_second []).answer.refusal ≡ 8
  pub past_the_slots : (export_call 3 heavy_second []).answer.refusal ≡ 4
  pub no_slices : (export_call 3 (alike []) []).answer.refusal ≡ 3

-- The numbers of the checks that both calls put, in order.
pub record CsvQuestions : Type 0 where
  pub importing : (text : List ℕ) (s : Slices) → map number (import_checks text s) ≡ 3 ∷ 16 ∷ 17 ∷ 18 ∷ 12 ∷ []
  pub exporting : (m room : ℕ) (s : Slices) → map number (export_checks m s room) ≡ 3 ∷ 4 ∷ 8 ∷ 19 ∷ 15 ∷ []
