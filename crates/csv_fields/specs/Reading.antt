-- What reading a field at a byte answers.
use Rattle.std.specs.Prelude.{◌≡◌, ℕ, suc, ◌+◌, ◌<◌, ◌≤◌, Bool, true, false, cond, ◌||◌, List, [], ◌∷◌, length, drop, ◌==◌, slice_index, slice_range}
use Rattle.std.specs.Prelude.{Option, None, Some, option_map}
use Rattle.std.proofs.Math.Option as maybe
use Rattle.std.proofs.Math.Option.{none, some}
use Rattle.model.specs.Bounds.{most_number}
use Rattle.model.specs.Lists.{every, is_some}
use Rattle.model.specs.Fields.{Taken, taken, spelled}
use Rattle.model.specs.Csv.{Bytes, quote, behind, take_plain, take_quoted, take_field, take_fields}
use Rattle.model.specs.Weighbridge.{is_digit, number_in}
use Rattle.csv_fields.specs.declared.Behind.{Behind}
use Rattle.csv_fields.specs.declared.Behind.TheVariants.{Comma, End}
use Rattle.csv_fields.specs.declared.Quoted.{Quoted}
use Rattle.csv_fields.specs.declared.Field.{Field}
use Rattle.csv_fields.specs.declared.Digits.{Digits}
use Rattle.csv_fields.specs.declared.Cell.{Cell}

-- a comma, a line end or the end, or neither
abbrev pub behind_of : List ℕ → Option Behind → maybe.Option (Taken Bool)
behind_of text (Some (Comma n)) = some (taken true (drop n text))
behind_of text (Some (End n)) = some (taken false (drop n text))
behind_of text None = none

-- where the text goes on
abbrev pub next_of : List ℕ → Option Behind → ℕ
next_of text (Some (Comma n)) = n
next_of text (Some (End n)) = n
next_of text None = length text

-- a comma is a byte
abbrev pub step_of : Option Behind → ℕ
step_of (Some (Comma n)) = 1
step_of (Some (End n)) = 0
step_of None = 0

pub record BehindIs (text : List ℕ) (at : ℕ) (r : Option Behind) : Type 0 where
  pub is : behind_of text r ≡ behind (drop at text)
  pub within : next_of text r ≤ length text
  pub moves : at < length text → at < next_of text r
  pub on : at + step_of r ≤ next_of text r

-- does an unquoted field stop ahead of this byte?
pub record StopsIs (text : List ℕ) (at : ℕ) (r : Bool) : Type 0 where
  pub is : r ≡ (slice_index text at == quote) || is_some (behind (drop at text))

-- a number, or none
abbrev pub number_of : Option ℕ → maybe.Option ℕ
number_of (Some n) = some n
number_of None = none

-- the bytes from one place to another
abbrev pub between : ℕ → ℕ → List ℕ → List ℕ
between from to text = slice_range text from to

-- the unquoted field at a byte ends at e
pub record PlainEnd (text : List ℕ) (at e : ℕ) : Type 0 where
  pub low : at ≤ e
  pub high : e ≤ length text
  pub is : take_plain (drop at text) ≡ taken (between at e text) (drop e text)

-- is a quote among these bytes?
unfoldable pub holds_quote : List ℕ → Bool
holds_quote [] = false
holds_quote (b ∷ t) = b == quote || holds_quote t

-- the bytes of a field: those of the text if no quote in it is doubled, else there is a quote among them
pub record Holds (text : List ℕ) (from to : ℕ) (clean : Bool) (f : Bytes) : Type 0 where
  pub plain : clean ≡ true → f ≡ between from to text
  pub doubled : clean ≡ false → holds_quote f ≡ true

-- a quoted field that is closed at `to`, read from behind its opening quote
pub record ClosedAt (text : List ℕ) (at to : ℕ) (clean : Bool) : Type 0 where
  pub low : at ≤ to
  pub high : to < length text
  pub bytes : Bytes
  pub is : take_quoted (drop at text) ≡ some (taken bytes (drop (to + 1) text))
  pub holds : Holds text at to clean bytes

abbrev pub QuotedByCase : List ℕ → ℕ → Option Quoted → Type 0
QuotedByCase text at (Some q) = ClosedAt text at q.to q.clean
QuotedByCase text at None = take_quoted (drop at text) ≡ none

pub record QuotedIs (text : List ℕ) (at : ℕ) (r : Option Quoted) : Type 0 where
  pub is : QuotedByCase text at r

-- the field at a byte
pub record FoundAt (text : List ℕ) (at from to : ℕ) (clean : Bool) (rest : ℕ) : Type 0 where
  pub order : from ≤ to
  pub high : to ≤ length text
  pub on : at ≤ rest
  pub within : rest ≤ length text
  pub bytes : Bytes
  pub is : take_field (drop at text) ≡ some (taken bytes (drop rest text))
  pub holds : Holds text from to clean bytes

abbrev pub FieldByCase : List ℕ → ℕ → Option Field → Type 0
FieldByCase text at (Some f) = FoundAt text at f.from f.to f.clean f.rest
FieldByCase text at None = take_field (drop at text) ≡ none

pub record FieldIs (text : List ℕ) (at : ℕ) (r : Option Field) : Type 0 where
  pub is : FieldByCase text at r

-- the bytes from one place to another are digits, and spell a number
pub record Spells (text : List ℕ) (at number to : ℕ) : Type 0 where
  pub low : at ≤ to
  pub high : to ≤ length text
  pub digits : every is_digit (between at to text) ≡ true
  pub value : spelled 0 (between at to text) ≡ number

-- a number of 32 bits
pub record DigitsTo (text : List ℕ) (at number to : ℕ) : Type 0 where
  pub spells : Spells text at number to
  pub small : number ≤ most_number

-- and no digit follows
pub record DigitsAt (text : List ℕ) (at number to : ℕ) : Type 0 where
  pub passed : DigitsTo text at number to
  pub stops : to < length text → is_digit (slice_index text to) ≡ false

abbrev pub RunByCase : List ℕ → ℕ → Option Digits → Type 0
RunByCase text at (Some d) = DigitsAt text at d.number d.next
RunByCase text at None = number_in most_number (drop at text) ≡ none

pub record RunIs (text : List ℕ) (at : ℕ) (r : Option Digits) : Type 0 where
  pub is : RunByCase text at r

-- the field at a byte with its number, and the text that goes on behind it, in the same record or not
pub record CellAt (text : List ℕ) (at : ℕ) (v : Option ℕ) (more : Bool) (next : ℕ) : Type 0 where
  pub bytes : Bytes
  pub rest : List ℕ
  pub field : take_field (drop at text) ≡ some (taken bytes rest)
  pub goes_on : behind rest ≡ some (taken more (drop next text))
  pub number : number_of v ≡ number_in most_number bytes
  pub within : next ≤ length text
  pub on : at + cond more 1 0 ≤ next
  pub moves : at < length text → at < next

-- the same by what stands behind the field
abbrev pub CellBefore : List ℕ → ℕ → Option ℕ → Behind → Type 0
CellBefore text at v (Comma n) = CellAt text at v true n
CellBefore text at v (End n) = CellAt text at v false n

-- or no record goes on or ends here
abbrev pub CellByCase : List ℕ → ℕ → Option Cell → Type 0
CellByCase text at (Some c) = CellBefore text at c.number c.behind
CellByCase text at None = (k : ℕ) → take_fields (suc k) (drop at text) ≡ none

pub record CellIs (text : List ℕ) (at : ℕ) (r : Option Cell) : Type 0 where
  pub is : CellByCase text at r

-- the same without the number, whatever it is
pub record SkippedIs (text : List ℕ) (at : ℕ) (r : Option Behind) : Type 0 where
  pub number : Option ℕ
  pub is : CellIs text at (option_map (λ b. record { number = number; behind = b }) r)

-- digits that were read, if there are any; nothing is said of anything else
pub record ShortAt (text : List ℕ) (at number to : ℕ) : Type 0 where
  pub passed : DigitsTo text at number to
  pub behind : to < length text

abbrev pub ShortByCase : List ℕ → ℕ → Option Digits → Type 0
ShortByCase text at (Some d) = ShortAt text at d.number d.next
ShortByCase text at None = Unit {0}

pub record ShortIs (text : List ℕ) (at : ℕ) (r : Option Digits) : Type 0 where
  pub is : ShortByCase text at r

-- the same of a whole field, with a comma behind it or not
abbrev pub ShortCellByCase : List ℕ → ℕ → Bool → Option Digits → Type 0
ShortCellByCase text at more (Some d) = CellAt text at (Some d.number) more d.next
ShortCellByCase text at more None = Unit {0}

pub record ShortCellIs (text : List ℕ) (at : ℕ) (more : Bool) (r : Option Digits) : Type 0 where
  pub is : ShortCellByCase text at more r
