-- What checking a text answers: in which columns its header has a name, its three columns, and its rows.
use Rattle.std.specs.Prelude.{ℕ, ◌+◌, ◌≤◌, ◌≡◌, Bool, cond, List, [], ◌∷◌, length, drop, leb, eqb}
use Rattle.std.specs.Prelude.{Option, None, Some}
use Rattle.std.proofs.Math.Option.{none, some}
use Rattle.model.specs.Lists.{same_list, is_some}
use Rattle.model.specs.Checks.{ask, first_failed}
use Rattle.model.specs.Fields.{taken}
use Rattle.model.specs.Csv.{Bytes, take_record}
use Rattle.model.specs.Weighbridge.{times_named, column_named, header_named, header_once, read_rows, row_count}
use Rattle.csv_fields.specs.Reading.{Holds}
use Rattle.csv_rows.specs.Rows.{ColumnsOf, GoodRows}
use Rattle.csv_calls.specs.declared.Named.{Named}
use Rattle.csv_calls.specs.declared.Header.{Header}
use Rattle.csv_calls.specs.declared.Checked.{Checked}

-- is the field between two places this name?
pub record IsName (text : List ℕ) (from to : ℕ) (clean : Bool) (name : Bytes) (r : Bool) : Type 0 where
  pub is : (f : Bytes) → Holds text from to clean f → r ≡ same_list f name

-- the column of a name after one column more: the first that has it
abbrev pub column_with : Named → Bool → ℕ
column_with s found = cond found (cond (eqb s.times 0) s.count s.column) s.column

-- a name with one column more, of which there are then `count`
abbrev pub with_column : Named → Bool → ℕ → ℕ → Named
with_column s found count next = record { times = cond found (s.times + 1) s.times; column = column_with s found; count = count; next = next }

-- a name among columns
pub record NameAmong (name : Bytes) (fs : List Bytes) (s : Named) : Type 0 where
  pub times : s.times ≡ times_named name fs
  pub first : 1 ≤ s.times → s.column ≡ column_named name fs
  pub counted : s.count ≡ length fs

-- a name in a header, and where the text goes on
pub record NamedIn (text : List ℕ) (name : Bytes) (s : Named) : Type 0 where
  pub header : List Bytes
  pub is : take_record text ≡ some (taken header (drop s.next text))
  pub among : NameAmong name header s
  pub within : s.next ≤ length text

-- a header with a broken quote is none
abbrev pub NamedByCase : List ℕ → Bytes → Option Named → Type 0
NamedByCase text name (Some s) = NamedIn text name s
NamedByCase text name None = take_record text ≡ none

pub record NamedIs (text : List ℕ) (name : Bytes) (r : Option Named) : Type 0 where
  pub is : NamedByCase text name r

-- checks 16 and 17, in this order
abbrev pub header_refusal : List ℕ → ℕ
header_refusal text = first_failed (ask 16 (header_named text) ∷ ask 17 (header_once text) ∷ [])

-- the header, its columns and where the rows begin
pub record HeaderAt (text : List ℕ) (h : Header) : Type 0 where
  pub header : List Bytes
  pub is : take_record text ≡ some (taken header (drop h.next text))
  pub columns : ColumnsOf header h.columns
  pub within : h.next ≤ length text

-- checks 16, 17, 18 and 12 of a text for so many slots, in this order
abbrev pub text_refusal : List ℕ → ℕ → ℕ
text_refusal text slots =
    first_failed (ask 16 (header_named text) ∷ ask 17 (header_once text) ∷ ask 18 (is_some (read_rows text)) ∷ ask 12 (leb (row_count text) slots) ∷ [])

-- a text whose rows are good and have slots: its columns, and where the rows begin
pub record GoodText (text : List ℕ) (slots : ℕ) (t : Checked) : Type 0 where
  pub found : HeaderAt text t.header
  pub good : GoodRows found.header text t.header.next t.rows
  pub fits : t.rows ≤ slots
