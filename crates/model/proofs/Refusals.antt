-- Every refusal has a number, and what was accepted has none. Assumes nothing.
use mathlib.Core.Path.{◌≡◌}
use native.Mathlib.Omega.{arith}
use Rattle.model.specs.declared.refusal.Refusal.{Refusal}
use Rattle.model.specs.declared.refusal.Refusal.TheVariants.{Prices, BlockLength, Slices, UsedSlots, Order, Shape, Range, Values, Histograms, Overflow}
use Rattle.model.specs.declared.refusal.Refusal.TheVariants.{NoLayout, Full, Absent, Text, Room, NameAbsent, NameTwice, Row, Days, ListedBlocks}
use Rattle.model.specs.Refusals.{refusal_number}

pub refusal_some : (r : Refusal) → refusal_number r ≡ 0 → ⊥
refusal_some Prices e = omega arith
refusal_some BlockLength e = omega arith
refusal_some Slices e = omega arith
refusal_some UsedSlots e = omega arith
refusal_some Order e = omega arith
refusal_some Shape e = omega arith
refusal_some Range e = omega arith
refusal_some Values e = omega arith
refusal_some Histograms e = omega arith
refusal_some Overflow e = omega arith
refusal_some NoLayout e = omega arith
refusal_some Full e = omega arith
refusal_some Absent e = omega arith
refusal_some Text e = omega arith
refusal_some Room e = omega arith
refusal_some NameAbsent e = omega arith
refusal_some NameTwice e = omega arith
refusal_some Row e = omega arith
refusal_some Days e = omega arith
refusal_some ListedBlocks e = omega arith
