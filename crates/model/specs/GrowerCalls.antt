-- The calls for the next grower with deliveries (02: Slip 3), and the ledger's answer.
use Rattle.std.specs.Prelude.{ℕ, cond, List, eqb}
use Rattle.model.specs.declared.Delivery.{Delivery}
use Rattle.model.specs.declared.Counts.{Counts}
use Rattle.model.specs.declared.GrowerAnswer.{GrowerAnswer}
use Rattle.model.specs.Checks.{first_failed}
use Rattle.model.specs.Directory.{directory_of}
use Rattle.model.specs.Column.{Column}
use Rattle.model.specs.Accesses.{no_counts}
use Rattle.model.specs.Questions.{grower_checks}
use Rattle.model.specs.Growers.{Direction, GrowerCount, nearest_of, growers_of, scanned_for, records_scanned, counts_scanned}

abbrev pub grower_answer : ℕ → ℕ → ℕ → Counts → GrowerAnswer
grower_answer n g r k = record { refusal = n; grower = g; records = r; counts = k }

-- the next grower at or above g, or the previous at or below; "its counts are those of a range over the partitions it scanned"
unfoldable pub grower_call : (L : ℕ) → Column → Direction → ℕ → GrowerAnswer
grower_call L c w g =
    let n : ℕ = first_failed (grower_checks L c w g) in
    let is : List ℕ = scanned_for L c w g in
    let found : GrowerCount = nearest_of w g (growers_of (records_scanned L c is)) in
    cond (eqb n 0)
    (grower_answer 0 found.grower found.records (counts_scanned (directory_of L c.directory) is))
    (grower_answer n 0 0 no_counts)

-- "both answers are those of the ledger": on a bag of deliveries
unfoldable pub ledger_grower : List Delivery → Direction → ℕ → GrowerCount
ledger_grower bag w g = nearest_of w g (growers_of bag)
