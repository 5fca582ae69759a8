-- Refusals by name, and their numbers (01: the questions; 02: 16 to 19 and 23).
use Rattle.std.specs.Prelude.{ℕ, Result, Ok, Err}
use Rattle.model.specs.declared.refusal.Refusal.{Refusal}
use Rattle.model.specs.declared.refusal.Refusal.TheVariants.{Prices, BlockLength, Slices, UsedSlots, Order, Shape, Range, Values, Histograms, Overflow}
use Rattle.model.specs.declared.refusal.Refusal.TheVariants.{NoLayout, Full, Absent, Text, Room, NameAbsent, NameTwice, Row, Days, ListedBlocks}

-- "the first 'no' is returned as its number"
abbrev pub refusal_number : Refusal → ℕ
refusal_number Prices = 1
refusal_number BlockLength = 2
refusal_number Slices = 3
refusal_number UsedSlots = 4
refusal_number Order = 5
refusal_number Shape = 6
refusal_number Range = 7
refusal_number Values = 8
refusal_number Histograms = 9
refusal_number Overflow = 10
refusal_number NoLayout = 11
refusal_number Full = 12
refusal_number Absent = 13
refusal_number Text = 14
refusal_number Room = 15
refusal_number NameAbsent = 16
refusal_number NameTwice = 17
refusal_number Row = 18
refusal_number Days = 19
refusal_number ListedBlocks = 23

-- "an accepted call gives 0"
abbrev pub number_of : {A : Type 0} → Result A Refusal → ℕ
number_of (Ok x) = 0
number_of (Err r) = refusal_number r
