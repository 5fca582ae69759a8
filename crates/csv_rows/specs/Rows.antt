-- What reading rows at a byte answers, for a header's columns.
use Rattle.std.specs.Prelude.{ℕ, ◌≤◌, ◌<◌, ◌≡◌, Bool, cond, ◌&&◌, ◌||◌, List, length, drop, eqb}
use Rattle.std.specs.Prelude.{Option, None, Some}
use Rattle.std.proofs.Math.Option as maybe
use Rattle.std.proofs.Math.Option.{none, some}
use Rattle.model.specs.declared.Delivery.{Delivery}
use Rattle.model.specs.Bounds.{most_number}
use Rattle.model.specs.Lists.{and_then}
use Rattle.model.specs.Deliveries.{grower_of, weight_of, yield_of}
use Rattle.model.specs.Fields.{taken}
use Rattle.model.specs.Csv.{Bytes, take_record, records_of}
use Rattle.model.specs.Weighbridge.{grower_name, weight_name, yield_name, column_named, number_in, field_at, row_of, rows_of}
use Rattle.model.specs.SnapshotCalls.{slots_read}
use Rattle.csv_fields.specs.Reading.{number_of, CellIs}
use Rattle.csv_rows.specs.declared.Columns.{Columns}
use Rattle.csv_rows.specs.declared.Picks.{Picks}
use Rattle.csv_rows.specs.declared.Step.{Step}
use Rattle.csv_rows.specs.declared.Record.{Record}
use Rattle.csv_rows.specs.declared.Row.{Row}

-- the columns of a header: where the three names stand, and how many columns there are
pub record ColumnsOf (h : List Bytes) (c : Columns) : Type 0 where
  pub grower : c.grower ≡ column_named grower_name h
  pub weight : c.weight ≡ column_named weight_name h
  pub oil : c.oil_yield ≡ column_named yield_name h
  pub counted : c.count ≡ length h

-- is a column one of the three?
abbrev pub is_wanted : ℕ → Columns → Bool
is_wanted k c = eqb k c.grower || eqb k c.weight || eqb k c.oil_yield

-- the number of a column after one field more: that field's if it is the one, else the one of before
pub record PickedIs (k col : ℕ) (new old r : Option ℕ) : Type 0 where
  pub is : number_of r ≡ cond (eqb k col) (number_of new) (number_of old)

-- the same for each of the three columns
pub record PicksIs (k : ℕ) (c : Columns) (new : Option ℕ) (old r : Picks) : Type 0 where
  pub grower : PickedIs k c.grower new old.grower r.grower
  pub weight : PickedIs k c.weight new old.weight r.weight
  pub oil : PickedIs k c.oil_yield new old.oil_yield r.oil_yield

-- field k at a byte with its number, and the numbers of the three columns after it
pub record Stepped (text : List ℕ) (at k : ℕ) (c : Columns) (old : Picks) (s : Step) : Type 0 where
  pub number : Option ℕ
  pub is : CellIs text at (Some (record { number = number; behind = s.behind }))
  pub picks : PicksIs k c number old s.picks

abbrev pub StepByCase : List ℕ → ℕ → ℕ → Columns → Picks → Option Step → Type 0
StepByCase text at k c old (Some s) = Stepped text at k c old s
StepByCase text at k c old None = CellIs text at None

pub record StepIs (text : List ℕ) (at k : ℕ) (c : Columns) (old : Picks) (r : Option Step) : Type 0 where
  pub is : StepByCase text at k c old r

-- the record at a byte: how many fields, the numbers of three of them, and where the text goes on
pub record ReadAt (text : List ℕ) (at : ℕ) (c : Columns) (r : Record) : Type 0 where
  pub fields : List Bytes
  pub is : take_record (drop at text) ≡ some (taken fields (drop r.next text))
  pub counted : r.count ≡ length fields
  pub grower : number_of r.picks.grower ≡ number_in most_number (field_at c.grower fields)
  pub weight : number_of r.picks.weight ≡ number_in most_number (field_at c.weight fields)
  pub oil : number_of r.picks.oil_yield ≡ number_in most_number (field_at c.oil_yield fields)
  pub within : r.next ≤ length text
  pub moves : at < length text → at < r.next

abbrev pub RecordByCase : List ℕ → ℕ → Columns → Option Record → Type 0
RecordByCase text at c (Some r) = ReadAt text at c r
RecordByCase text at c None = take_record (drop at text) ≡ none

pub record RecordIs (text : List ℕ) (at : ℕ) (c : Columns) (r : Option Record) : Type 0 where
  pub is : RecordByCase text at c r

-- the three columns are the first, in the order of an export
abbrev pub in_order : Columns → Bool
in_order c = eqb c.grower 0 && eqb c.weight 1 && eqb c.oil_yield 2

-- a record of three numbers; nothing is said of anything else
abbrev pub ShortRecordByCase : List ℕ → ℕ → Columns → Option Record → Type 0
ShortRecordByCase text at c (Some r) = RecordIs text at c (Some r)
ShortRecordByCase text at c None = Unit {0}

pub record ShortRecordIs (text : List ℕ) (at : ℕ) (c : Columns) (r : Option Record) : Type 0 where
  pub is : ShortRecordByCase text at c r

-- the row at a byte
pub record GoodRow (h : List Bytes) (text : List ℕ) (at : ℕ) (r : Row) : Type 0 where
  pub fields : List Bytes
  pub is : take_record (drop at text) ≡ some (taken fields (drop r.next text))
  pub row : row_of h fields ≡ some r.delivery

-- a record that is no row, or none
pub record BadRow (h : List Bytes) (t : List ℕ) : Type 0 where
  pub is : and_then (take_record t) (λ r. row_of h r.value) ≡ none

abbrev pub RowByCase : List Bytes → List ℕ → ℕ → Option Row → Type 0
RowByCase h text at (Some r) = GoodRow h text at r
RowByCase h text at None = BadRow h (drop at text)

-- where the text goes on
abbrev pub row_next : List ℕ → Option Row → ℕ
row_next text (Some r) = r.next
row_next text None = length text

pub record RowIs (text : List ℕ) (at : ℕ) (c : Columns) (r : Option Row) : Type 0 where
  pub within : row_next text r ≤ length text
  pub moves : at < length text → at < row_next text r
  pub is : (h : List Bytes) → ColumnsOf h c → RowByCase h text at r

-- the row that a record is, wherever it was read
pub record RowOf (read : Record) (c : Columns) (r : Option Row) : Type 0 where
  pub is : (text : List ℕ) (at : ℕ) → ReadAt text at c read → RowIs text at c r

-- the deliveries of the rows from a byte on, if each is good
abbrev pub rows_from : List Bytes → ℕ → List ℕ → maybe.Option (List Delivery)
rows_from h at text = rows_of h (records_of (drop at text))

pub record GoodRows (h : List Bytes) (text : List ℕ) (at m : ℕ) : Type 0 where
  pub rows : List Delivery
  pub is : rows_from h at text ≡ some rows
  pub counted : m ≡ length rows

abbrev pub JudgedByCase : List Bytes → List ℕ → ℕ → Option ℕ → Type 0
JudgedByCase h text at (Some m) = GoodRows h text at m
JudgedByCase h text at None = rows_from h at text ≡ none

pub record JudgedIs (text : List ℕ) (at : ℕ) (c : Columns) (r : Option ℕ) : Type 0 where
  pub is : (h : List Bytes) → ColumnsOf h c → JudgedByCase h text at r

-- rows that are good, and room for them
pub record Storable (text : List ℕ) (at : ℕ) (c : Columns) (gs ws ys : List ℕ) : Type 0 where
  pub start : at ≤ length text
  pub header : List Bytes
  pub columns : ColumnsOf header c
  pub rows : List Delivery
  pub is : rows_from header at text ≡ some rows
  pub fits_growers : length rows ≤ length gs
  pub fits_weights : length rows ≤ length ws
  pub fits_yields : length rows ≤ length ys

-- the three slices with rows in front
pub record Filled (ds : List Delivery) (gs ws ys gs' ws' ys' : List ℕ) : Type 0 where
  pub growers : gs' ≡ slots_read grower_of ds gs
  pub weights : ws' ≡ slots_read weight_of ds ws
  pub yields : ys' ≡ slots_read yield_of ds ys

pub record Stored (text : List ℕ) (at : ℕ) (c : Columns) (gs ws ys gs' ws' ys' : List ℕ) : Type 0 where
  pub is : (h : List Bytes) → ColumnsOf h c → (ds : List Delivery) → rows_from h at text ≡ some ds → Filled ds gs ws ys gs' ws' ys'

-- slots for so many rows
pub record RoomFor (room : ℕ) (gs ws ys : List ℕ) : Type 0 where
  pub growers : room ≤ length gs
  pub weights : room ≤ length ws
  pub yields : room ≤ length ys

-- the rows judged; they are in front of the three slices if there is room for all, and else nothing is said of the slices
pub record ReadRows (text : List ℕ) (at : ℕ) (c : Columns) (room : ℕ) (gs ws ys : List ℕ) (r : Option ℕ) (gs' ws' ys' : List ℕ) : Type 0 where
  pub judged : JudgedIs text at c r
  pub stored : (h : List Bytes) → ColumnsOf h c → (ds : List Delivery) → rows_from h at text ≡ some ds → length ds ≤ room → Filled ds gs ws ys gs' ws' ys'
