-- The answers of C: a call's outcome with its refusal's number, and 0 for all that a refused call does not report.
use Rattle.std.specs.Prelude.{ℕ, ℤ, pos, List, Result, Ok, Err}
use Rattle.model.specs.declared.refusal.Refusal.{Refusal}
use Rattle.model.specs.declared.answers.Report.{Report}
use Rattle.model.specs.declared.answers.Refused.{Refused}
use Rattle.model.specs.declared.answers.GrowerReport.{GrowerReport}
use Rattle.model.specs.declared.answers.PartitionPlace.{PartitionPlace}
use Rattle.model.specs.declared.answers.Plan.{Plan}
use Rattle.model.specs.declared.answers.Listing.{Listing}
use Rattle.model.specs.declared.Answer.{Answer}
use Rattle.model.specs.declared.GrowerAnswer.{GrowerAnswer}
use Rattle.model.specs.declared.Applied.{Applied}
use Rattle.model.specs.declared.PartitionSlice.{PartitionSlice}
use Rattle.model.specs.declared.Costed.{Costed}
use Rattle.model.specs.declared.Planned.{Planned}
use Rattle.model.specs.declared.Listed.{Listed}
use Rattle.model.specs.declared.Imported.{Imported}
use Rattle.model.specs.declared.Written.{Written}
use Rattle.model.specs.Refusals.{refusal_number}
use Rattle.model.specs.Deliveries.{no_totals}
use Rattle.model.specs.Accesses.{no_counts}
use Rattle.model.specs.Bounds.{block_limit}
use Rattle.model.specs.Directory.{no_directory}

-- "totals and counts 0 (13 reports its scan)"
abbrev pub refused_ahead : Refusal → Refused
refused_ahead r = record { refusal = r; counts = no_counts }

abbrev pub answer_of : Result Report Refused → Answer
answer_of (Ok x) = record { refusal = 0; counts = x.counts; totals = x.totals }
answer_of (Err x) = record { refusal = refusal_number x.refusal; counts = x.counts; totals = no_totals }

abbrev pub grower_answer_of : Result GrowerReport Refusal → GrowerAnswer
grower_answer_of (Ok x) = record { refusal = 0; grower = x.grower; records = x.records; counts = x.counts }
grower_answer_of (Err r) = record { refusal = refusal_number r; grower = 0; records = 0; counts = no_counts }

-- "the directory of a refused laying or reading all 0"
abbrev pub applied_of : Result (List ℕ) Refusal → Applied
applied_of (Ok ns) = record { refusal = 0; directory = ns }
applied_of (Err r) = record { refusal = refusal_number r; directory = no_directory block_limit }

abbrev pub slice_answer_of : Result PartitionPlace Refusal → PartitionSlice
slice_answer_of (Ok x) = record { refusal = 0; start = x.start; count = x.count }
slice_answer_of (Err r) = record { refusal = refusal_number r; start = 0; count = 0 }

-- "any bill 0"
abbrev pub costed_of : Result ℤ Refusal → Costed
costed_of (Ok z) = record { refusal = 0; cost = z }
costed_of (Err r) = record { refusal = refusal_number r; cost = pos 0 }

abbrev pub planned_of : Result Plan Refusal → Planned
planned_of (Ok x) = record { refusal = 0; count = x.count; cost = x.cost }
planned_of (Err r) = record { refusal = refusal_number r; count = 0; cost = pos 0 }

abbrev pub listed_of : Result Listing Refusal → Listed
listed_of (Ok x) = record { refusal = 0; layouts = x.layouts; bytes = x.bytes }
listed_of (Err r) = record { refusal = refusal_number r; layouts = 0; bytes = 0 }

abbrev pub imported_of : Result ℕ Refusal → Imported
imported_of (Ok n) = record { refusal = 0; rows = n }
imported_of (Err r) = record { refusal = refusal_number r; rows = 0 }

abbrev pub written_of : Result ℕ Refusal → Written
written_of (Ok n) = record { refusal = 0; bytes = n }
written_of (Err r) = record { refusal = refusal_number r; bytes = 0 }
