-- The weighbridge file (02: Slip 1): the header, the columns by name, a row's numbers, and the text of an export.
use Rattle.std.specs.Prelude.{ℕ, zero, suc, ◌+◌, ◌/◌, Bool, false, cond, ◌&&◌, length, get_or, leb, eqb}
use Rattle.std.proofs.Math.Option.{Option, some}
use mathlib.Core.List.{List, [], ◌∷◌, ◌++◌, map, flatten}
use Rattle.model.specs.declared.Delivery.{Delivery}
use Rattle.model.specs.Bounds.{most_number, most_weight, most_yield}
use Rattle.model.specs.Lists.{every, same_list, only_if, and_then, value_or}
use Rattle.model.specs.Deliveries.{delivery}
use Rattle.model.specs.Fields.{line_end, last_digit, spelled}
use Rattle.model.specs.Csv.{Bytes, comma, carriage_return, take_record, records_of}

-- "the names grower, weight and yield"
abbrev pub grower_name : Bytes
grower_name = 103 ∷ 114 ∷ 111 ∷ 119 ∷ 101 ∷ 114 ∷ []

abbrev pub weight_name : Bytes
weight_name = 119 ∷ 101 ∷ 105 ∷ 103 ∷ 104 ∷ 116 ∷ []

abbrev pub yield_name : Bytes
yield_name = 121 ∷ 105 ∷ 101 ∷ 108 ∷ 100 ∷ []

-- how many columns have a name, and the first of them
unfoldable pub times_named : Bytes → List Bytes → ℕ
times_named name [] = 0
times_named name (f ∷ fs) = cond (same_list f name) (times_named name fs + 1) (times_named name fs)

unfoldable pub column_named : Bytes → List Bytes → ℕ
column_named name [] = 0
column_named name (f ∷ fs) = cond (same_list f name) 0 (column_named name fs + 1)

abbrev pub is_named : List Bytes → Bytes → Bool
is_named header name = leb 1 (times_named name header)

abbrev pub named_once : List Bytes → Bytes → Bool
named_once header name = leb (times_named name header) 1

abbrev pub all_named : List Bytes → Bool
all_named header = is_named header grower_name && is_named header weight_name && is_named header yield_name

abbrev pub all_named_once : List Bytes → Bool
all_named_once header = named_once header grower_name && named_once header weight_name && named_once header yield_name

-- does the first record of a text pass? One with a broken quote does not.
abbrev pub header_passes : (List Bytes → Bool) → List ℕ → Bool
header_passes p text = value_or false (and_then (take_record text) (λ h. some (p h.value)))

-- 16: "a needed name is absent, or the header has a broken quote"
unfoldable pub header_named : List ℕ → Bool
header_named text = header_passes all_named text

-- 17: "a needed name occurs twice"
unfoldable pub header_once : List ℕ → Bool
header_once text = header_passes all_named_once text

-- "numbers are plain digits in the ranges of 01, leading zeros allowed"
abbrev pub is_digit : ℕ → Bool
is_digit b = leb 48 b && leb b 57

unfoldable pub number_in : ℕ → Bytes → Option ℕ
number_in most f = only_if (leb 1 (length f) && every is_digit f && leb (spelled 0 f) most) (spelled 0 f)

-- a record's field in a column
abbrev pub field_at : ℕ → List Bytes → Bytes
field_at i fs = get_or fs i []

-- the number of a named column
abbrev pub number_named : Bytes → ℕ → List Bytes → List Bytes → Option ℕ
number_named name most header fs = number_in most (field_at (column_named name header) fs)

-- a row's delivery, on day 0 (02, Slip 7: "imports .. give day 0"); 18: "a row has another field count, .. or a number out of range"
unfoldable pub row_of : List Bytes → List Bytes → Option Delivery
row_of header fs =
    and_then (only_if (eqb (length fs) (length header)) fs) (λ fs.
    and_then (number_named grower_name most_number header fs) (λ g.
    and_then (number_named weight_name most_weight header fs) (λ w.
    and_then (number_named yield_name most_yield header fs) (λ y.
    some (delivery g w y 0)))))

-- the deliveries of all rows, if each is good; 18: ".. a broken quote"
unfoldable pub rows_of : List Bytes → List (Option (List Bytes)) → Option (List Delivery)
rows_of header [] = some []
rows_of header (r ∷ rs) =
    and_then r (λ fs.
    and_then (row_of header fs) (λ d.
    and_then (rows_of header rs) (λ ds.
    some (d ∷ ds))))

-- the deliveries of a text with a header line
unfoldable pub read_rows : List ℕ → Option (List Delivery)
read_rows text = and_then (take_record text) (λ h. rows_of h.value (records_of h.rest))

-- how many rows there are behind the header, good or bad
unfoldable pub row_count : List ℕ → ℕ
row_count text = value_or 0 (and_then (take_record text) (λ h. some (length (records_of h.rest))))

-- Export: "unquoted", plain digits without leading zeros; at most w digits, none for 0
unfoldable pub digits : ℕ → ℕ → List ℕ
digits zero n = []
digits (suc w) n = cond (eqb n 0) [] (digits w (n / 10) ++ last_digit n ∷ [])

-- a number of 32 bits has at most ten digits, zero is `0`
unfoldable pub plain_number : ℕ → Bytes
plain_number n = digits 9 (n / 10) ++ last_digit n ∷ []

-- three fields "with CRLF"
abbrev pub three_fields : Bytes → Bytes → Bytes → List ℕ
three_fields a b c = a ++ comma ∷ b ++ comma ∷ c ++ carriage_return ∷ line_end ∷ []

-- "the header line `grower,weight,yield`"
abbrev pub header_line : List ℕ
header_line = three_fields grower_name weight_name yield_name

-- "in that order"
abbrev pub row_line : Delivery → List ℕ
row_line d = three_fields (plain_number d.grower) (plain_number d.weight) (plain_number d.oil_yield)

-- the header line and a line for each delivery
unfoldable pub csv_text : List Delivery → List ℕ
csv_text ds = header_line ++ flatten (map row_line ds)
