-- The settlement sheet (02: Slip 4; of a term by Slip 7): the calls, and the program that reads a book and prints the sheet.
use Rattle.std.specs.Prelude.{ℕ, cond, List, ◌++◌, length, drop, replicate, eqb}
use Rattle.model.specs.declared.Written.{Written}
use Rattle.model.specs.Bounds.{block_limit, sheet_slots}
use Rattle.model.specs.Lists.{sum_of}
use Rattle.model.specs.Checks.{first_failed}
use Rattle.model.specs.Deliveries.{alike}
use Rattle.model.specs.Column.{Column, lengths_of}
use Rattle.model.specs.Sheet.{sheet_text, term_sheet_text, by_grower, slots_in_order, term_slots}
use Rattle.model.specs.Questions.{sheet_checks, term_sheet_checks}
use Rattle.model.specs.SnapshotCalls.{ReadResult, read_call}
use Rattle.model.specs.Program.{refusal_text}

-- what the call answers, and the three slices that it writes to, afterwards
pub record SheetResult : Type 0 where
  pub answer : Written
  pub text : List ℕ
  pub order : List ℕ
  pub work : List ℕ

-- the text t; the slots of its m records in the order of its lines; the room that was worked in is left 0; what is past them stays
abbrev pub written : List ℕ → ℕ → List ℕ → List ℕ → List ℕ → List ℕ → SheetResult
written t m is out order work = record {
  answer = record { refusal = 0; bytes = length t };
  text = t ++ drop (length t) out;
  order = is ++ drop m order;
  work = replicate m 0 ++ drop m work;
}

-- a refusal writes to no slice
abbrev pub not_written : ℕ → List ℕ → List ℕ → List ℕ → SheetResult
not_written n out order work = record { answer = record { refusal = n; bytes = 0 }; text = out; order = order; work = work }

-- L is the block limit
module _ (L : ℕ) where
  unfoldable pub sheet_call : Column → List ℕ → List ℕ → List ℕ → SheetResult
  sheet_call c out order work =
      let n : ℕ = first_failed (sheet_checks L c (length out) (length order) (length work)) in
      let m : ℕ = sum_of (lengths_of L c) in
      cond (eqb n 0) (written (sheet_text L c) m (slots_in_order c.slices.growers m) out order work) (not_written n out order work)

  -- 02, Slip 7: "the sheet can be made for the term that holds a given day"
  unfoldable pub term_sheet_call : Column → ℕ → List ℕ → List ℕ → List ℕ → SheetResult
  term_sheet_call c day out order work =
      let n : ℕ = first_failed (term_sheet_checks L c day (length out) (length order) (length work)) in
      let is : List ℕ = term_slots L c day in
      cond (eqb n 0) (written (term_sheet_text L c day) (length is) (by_grower c.slices.growers is) out order work) (not_written n out order work)

-- "a second program, with 512 slots": the column that a book is read into
abbrev pub book_read : List ℕ → ReadResult
book_read t = read_call block_limit t (alike (replicate sheet_slots 0))

-- "reads a book from standard input and prints the sheet, or only the refusal number in 11 columns"
unfoldable pub settlement : List ℕ → List ℕ
settlement t = cond (eqb (book_read t).refusal 0) (sheet_text block_limit (book_read t).column) (refusal_text (book_read t).refusal)
