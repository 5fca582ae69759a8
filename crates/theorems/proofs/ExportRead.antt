-- The text of an export is read as its deliveries, each on day 0: digits are read as one field, three of them and a line end as a record, and the
-- lines one after the other. Assumes nothing.
use Prim.Native.Nat.{ℕ, zero, suc, ◌≤◌}
use mathlib.Core.Path.{◌≡◌, refl, sym, ap, ◌∙◌}
use mathlib.Core.Bool.{true}
use mathlib.Core.Option.{Option, some}
use mathlib.Core.List.{List, [], ◌∷◌, ◌++◌, append_assoc, map, flatten}
use native.Mathlib.Omega.{arith}
use lib.ListN.{length, length-append, length-map}
use Rattle.model.specs.declared.Delivery.{Delivery}
use Rattle.model.specs.Bounds.{most_number, most_weight, most_yield}
use Rattle.model.specs.Lists.{same_list, and_then}
use Rattle.model.specs.Deliveries.{delivery}
use Rattle.model.specs.Fields.{taken, line_end, after_line_end}
use Rattle.model.specs.Csv.{Bytes, comma, carriage_return, after_end, behind, take_plain, take_field, take_fields, take_record, take_records}
use Rattle.model.specs.Weighbridge.{
  grower_name,
  weight_name,
  yield_name,
  times_named,
  column_named,
  header_named,
  header_once,
  row_of,
  rows_of,
  read_rows,
  row_count,
  plain_number,
  three_fields,
  header_line,
  row_line,
  csv_text,
}
use Rattle.model.proofs.DigitLaws.{Digits, plain_digits, plain_some, number_read, field_read}
use Rattle.model.proofs.CsvLaws.{records_next, records_none, rows_next, rows_none, rows_counted}

-- the three columns of an export
abbrev names : List Bytes
names = grower_name ∷ weight_name ∷ yield_name ∷ []

-- a comma and a line end end a field
comma_ends : (t : List ℕ) → take_plain (comma ∷ t) ≡ taken [] (comma ∷ t)
unfolding take_plain behind
comma_ends t = refl

line_ends : (t : List ℕ) → take_plain (carriage_return ∷ line_end ∷ t) ≡ taken [] (carriage_return ∷ line_end ∷ t)
unfolding take_plain behind after_end after_line_end
line_ends t = refl

-- a line of three numbers is a record of three fields
module _ {a b c : List ℕ} (da : Digits a) (db : Digits b) (dc : Digits c) (na : 1 ≤ length a) (nb : 1 ≤ length b) (nc : 1 ≤ length c) (t : List ℕ) where
  abbrev line_then : List ℕ
  line_then = a ++ comma ∷ (b ++ comma ∷ (c ++ carriage_return ∷ line_end ∷ t))

  three_fields_lem : (n : ℕ) → take_fields (suc (suc (suc n))) line_then ≡ some (taken (a ∷ b ∷ c ∷ []) t)
  unfolding take_fields behind after_end after_line_end
  three_fields_lem n =
      rw (
        field_read (comma ∷ (b ++ comma ∷ (c ++ carriage_return ∷ line_end ∷ t))) da na (comma_ends _),
        field_read (comma ∷ (c ++ carriage_return ∷ line_end ∷ t)) db nb (comma_ends _),
        field_read (carriage_return ∷ line_end ∷ t) dc nc (line_ends t),
      )

  three_joined : three_fields a b c ++ t ≡ line_then
  three_joined = simp append_assoc

  enough : (k : ℕ) → 3 ≤ k → take_fields k line_then ≡ some (taken (a ∷ b ∷ c ∷ []) t)
  enough zero h = absurd (omega arith)
  enough (suc zero) h = absurd (omega arith)
  enough (suc (suc zero)) h = absurd (omega arith)
  enough (suc (suc (suc n))) h = three_fields_lem n

  long : 3 ≤ length line_then
  long =
      omega (arith, length-append a (comma ∷ (b ++ comma ∷ (c ++ carriage_return ∷ line_end ∷ t))), length-append b (comma ∷ (c ++ carriage_return ∷ line_end ∷ t)))

  record_read : take_record (three_fields a b c ++ t) ≡ some (taken (a ∷ b ∷ c ∷ []) t)
  record_read = rw three_joined (enough (suc (length line_then)) (omega (arith, long)))

  not_empty : 1 ≤ length (three_fields a b c ++ t)
  not_empty = rw three_joined (omega (arith, long))

-- a delivery whose numbers are in range
pub record Fit (d : Delivery) : Type 0 where
  pub grower : d.grower ≤ most_number
  pub weight : d.weight ≤ most_weight
  pub oil : d.oil_yield ≤ most_yield

pub data Fits : List Delivery → Type 0 where
  none_fits : Fits []
  fit_then : {d : Delivery} {ds : List Delivery} → Fit d → Fits ds → Fits (d ∷ ds)

-- the delivery that its line is read as: on day 0
abbrev pub undated : Delivery → Delivery
undated d = delivery d.grower d.weight d.oil_yield 0

-- a delivery's line, ahead of any text
module _ (d : Delivery) (t : List ℕ) where
  abbrev numbers : List Bytes
  numbers = plain_number d.grower ∷ plain_number d.weight ∷ plain_number d.oil_yield ∷ []

  line_read : take_record (row_line d ++ t) ≡ some (taken numbers t)
  line_read =
      record_read (plain_digits d.grower) (plain_digits d.weight) (plain_digits d.oil_yield) (plain_some d.grower) (plain_some d.weight)
      (plain_some d.oil_yield) t

  line_there : 1 ≤ length (row_line d ++ t)
  line_there =
      not_empty (plain_digits d.grower) (plain_digits d.weight) (plain_digits d.oil_yield) (plain_some d.grower) (plain_some d.weight)
      (plain_some d.oil_yield) t

  row_read : Fit d → row_of names numbers ≡ some (undated d)
  unfolding row_of column_named same_list
  row_read f =
      rw (
        number_read most_number d.grower f.grower f.grower,
        number_read most_weight d.weight f.weight (omega (arith, f.weight)),
        number_read most_yield d.oil_yield f.oil (omega (arith, f.oil)),
      )

rows_read : {ds : List Delivery} (n : ℕ) → Fits ds → length ds ≤ n → rows_of names (take_records n (flatten (map row_line ds))) ≡ some (map undated ds)
unfolding flatten
rows_read n none_fits h = ap (rows_of names) (records_none n) ∙ rows_none names
rows_read zero (fit_then f fs) h = absurd (omega arith)
rows_read (suc n) (fit_then {d} {ds} f fs) h =
    let t : List ℕ = flatten (map row_line ds) in
    ap (rows_of names) (records_next n (row_line d ++ t) (line_there d t) (numbers d t) t (line_read d t))
    ∙ rows_next names (numbers d t) (take_records n t) (undated d) (row_read d t f)
    ∙ ap (λ (o : Option (List Delivery)). and_then o (λ es. some (undated d ∷ es))) (rows_read n fs (omega arith))

lines_long : (ds : List Delivery) → length ds ≤ length (flatten (map row_line ds))
unfolding flatten
lines_long [] = omega arith
lines_long (d ∷ ds) =
    omega (arith, line_there d [], length-append (row_line d) [], length-append (row_line d) (flatten (map row_line ds)), lines_long ds)

header_read : (t : List ℕ) → take_record (header_line ++ t) ≡ some (taken names t)
unfolding take_fields take_field take_plain behind after_end after_line_end
header_read t = refl

-- an export's header has every name, once
pub named : (ds : List Delivery) → header_named (csv_text ds) ≡ true
unfolding header_named csv_text times_named same_list
named ds = rw (header_read (flatten (map row_line ds)))

pub once : (ds : List Delivery) → header_once (csv_text ds) ≡ true
unfolding header_once csv_text times_named same_list
once ds = rw (header_read (flatten (map row_line ds)))

-- and its rows are the deliveries, each on day 0
module _ {ds : List Delivery} (f : Fits ds) where
  behind_header : rows_of names (take_records (length (flatten (map row_line ds))) (flatten (map row_line ds))) ≡ some (map undated ds)
  behind_header = rows_read (length (flatten (map row_line ds))) f (lines_long ds)

  pub text_read : read_rows (csv_text ds) ≡ some (map undated ds)
  unfolding read_rows csv_text
  text_read = rw (header_read (flatten (map row_line ds))) behind_header

  pub text_counted : row_count (csv_text ds) ≡ length ds
  unfolding row_count csv_text
  text_counted = rw (header_read (flatten (map row_line ds)))
      (sym (rows_counted names (take_records (length (flatten (map row_line ds))) (flatten (map row_line ds))) (map undated ds) behind_header) ∙ length-map ds undated)
