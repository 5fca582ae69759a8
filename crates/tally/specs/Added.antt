-- A sum's outcome as the store answers it: with the number of its refusal.
use Rattle.std.specs.Prelude.{Result, Ok, Err}
use Rattle.model.specs.declared.refusal.Refusal.{Refusal}
use Rattle.model.specs.declared.Tally.{Tally}
use Rattle.model.specs.declared.Added.{Added}
use Rattle.model.specs.Refusals.{refusal_number}

-- "10 leaves it alone"
abbrev pub added_of : Tally → Result Tally Refusal → Added
added_of t (Ok x) = record { refusal = 0; tally = x }
added_of t (Err r) = record { refusal = refusal_number r; tally = t }
