-- Writing and reading a snapshot (01: book).
use Rattle.std.specs.Prelude.{ℕ, cond, List, ◌++◌, map, length, drop, eqb}
use Rattle.std.proofs.Math.Option.{Option, none, some}
use Rattle.model.specs.declared.Delivery.{Delivery}
use Rattle.model.specs.declared.Written.{Written}
use Rattle.model.specs.Checks.{first_failed}
use Rattle.model.specs.Deliveries.{Slices, slices_for, each_slice, joined}
use Rattle.model.specs.Directory.{directory_numbers, no_directory}
use Rattle.model.specs.Column.{Column}
use Rattle.model.specs.Snapshot.{Book, snapshot_text, read_book}
use Rattle.model.specs.Questions.{write_checks, read_checks}

-- what writing answers, and the lent text afterwards
pub record WriteResult : Type 0 where
  pub answer : Written
  pub text : List ℕ

-- what reading answers, and the column that it leaves
pub record ReadResult : Type 0 where
  pub refusal : ℕ
  pub column : Column

-- one slice afterwards: the deliveries' own numbers, and "slots past what is written stay"
abbrev pub slots_read : (Delivery → ℕ) → List Delivery → List ℕ → List ℕ
slots_read f ds old = map f ds ++ drop (length ds) old

-- the slices afterwards
abbrev pub slices_read : List Delivery → Slices → Slices
slices_read ds old = joined (slices_for ds) (each_slice (drop (length ds)) old)

-- L is the block limit
module _ (L : ℕ) where
  -- "bytes .. past what is written stay"
  unfoldable pub write_call : Column → List ℕ → WriteResult
  write_call c out =
      let n : ℕ = first_failed (write_checks L c (length out)) in
      let t : List ℕ = snapshot_text L c in
      cond (eqb n 0)
      (record { answer = record { refusal = 0; bytes = length t }; text = t ++ drop (length t) out })
      (record { answer = record { refusal = n; bytes = 0 }; text = out })

  -- the column of a book
  unfoldable pub column_read : Option Book → Slices → Column
  column_read none s = record { directory = no_directory L; slices = s }
  column_read (some b) s = record { directory = directory_numbers L b.directory; slices = slices_read b.deliveries s }

  -- "the directory of a refused .. reading all 0"
  unfoldable pub read_call : List ℕ → Slices → ReadResult
  read_call text s =
      let n : ℕ = first_failed (read_checks L text s) in
      record { refusal = n; column = column_read (cond (eqb n 0) (read_book L text) none) s }
