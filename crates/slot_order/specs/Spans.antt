-- The slots of the records of some days (02: Slip 7).
use Rattle.std.specs.Prelude.{ℕ, List, length}
use Rattle.model.specs.Calendar.{Span}
use Rattle.model.specs.Deliveries.{Slices}
use Rattle.model.specs.Sheet.{slots_during}

abbrev pub slots_on : Span → Slices → List ℕ
slots_on s x = slots_during s x.days (length x.growers)
