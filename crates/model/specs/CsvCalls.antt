-- Import and export (02: Slip 1): what they answer and what they leave.
use Rattle.std.specs.Prelude.{ℕ, cond, List, [], ◌++◌, length, drop, eqb}
use Rattle.model.specs.declared.Delivery.{Delivery}
use Rattle.model.specs.declared.Imported.{Imported}
use Rattle.model.specs.Lists.{value_or}
use Rattle.model.specs.Checks.{first_failed}
use Rattle.model.specs.Deliveries.{Slices, first_slots}
use Rattle.model.specs.Weighbridge.{read_rows, csv_text}
use Rattle.model.specs.Questions.{import_checks, export_checks}
use Rattle.model.specs.SnapshotCalls.{WriteResult, slices_read}

-- what importing answers, and the slices afterwards
pub record ImportResult : Type 0 where
  pub answer : Imported
  pub slices : Slices

-- "rows go into the three slices in file order"; slots past them stay
abbrev pub imported : List Delivery → Slices → ImportResult
imported ds s = record { answer = record { refusal = 0; rows = length ds }; slices = slices_read ds s }

-- a refused import stores nothing
abbrev pub not_imported : ℕ → Slices → ImportResult
not_imported n s = record { answer = record { refusal = n; rows = 0 }; slices = s }

unfoldable pub import_call : List ℕ → Slices → ImportResult
import_call text s =
    let n : ℕ = first_failed (import_checks text s) in
    cond (eqb n 0) (imported (value_or [] (read_rows text)) s) (not_imported n s)

-- "an export writes the header line .. and .. the first M slots"; bytes past what is written stay
unfoldable pub export_call : ℕ → Slices → List ℕ → WriteResult
export_call m s out =
    let n : ℕ = first_failed (export_checks m s (length out)) in
    let t : List ℕ = csv_text (first_slots m s) in
    cond (eqb n 0)
    (record { answer = record { refusal = 0; bytes = length t }; text = t ++ drop (length t) out })
    (record { answer = record { refusal = n; bytes = 0 }; text = out })
