-- What judging a text and checking a column find, and what reading answers.
use Rattle.std.specs.Prelude.{ℕ, ◌+◌, ◌*◌, Bool, cond, ◌&&◌, List, [], ◌∷◌, ◌++◌, length, take, eqb, Result, Ok, Err}
use Rattle.model.specs.declared.refusal.Refusal.{Refusal}
use Rattle.model.specs.declared.refusal.Refusal.TheVariants.{Text, Full}
use Rattle.std.proofs.Math.Option.{Option, none, some}
use Rattle.model.specs.declared.Applied.{Applied}
use Rattle.model.specs.Lists.{sum_of, every, rising}
use Rattle.model.specs.Deliveries.{Slices, each_slice, in_range}
use Rattle.model.specs.Directory.{Directory, directory_of, directory_numbers}
use Rattle.model.specs.Checks.{Check, ask}
use Rattle.model.specs.Column.{Column, lengths_of, all_records, sound}
use Rattle.model.specs.Lent.{LentMut, slices_out}
use Rattle.model.specs.Questions.{lent_checks}
use Rattle.model.specs.Snapshot.{Book, read_book, slots_for_book}
use Rattle.model.specs.SnapshotCalls.{ReadResult}
use Rattle.snapshot.specs.declared.Judged.{Judged}
use Rattle.snapshot.specs.Texts.{parts_ok}

-- an answer and the slices as one result: the slices given, and those after the call
abbrev pub result_of : Applied → Slices → ReadResult
result_of a s = record { refusal = a.refusal; column = record { directory = a.directory; slices = s } }

abbrev pub read_out : Applied → LentMut → LentMut → LentMut → LentMut → ReadResult
read_out a g w y n = result_of a (slices_out g w y n)

-- do the fences rise, do the lengths add up to m, are the delivery lines from a byte on right?
abbrev pub right_parts : List ℕ → ℕ → Directory → ℕ → Bool
right_parts t start d m = rising d.fences && (eqb (sum_of d.lengths) m && parts_ok d.fences 0 d.lengths start t)

-- L is the block limit
module _ (L : ℕ) where
  -- the used slots of a column's slices
  abbrev pub used_slices : Column → Slices
  used_slices c = each_slice (take (sum_of (lengths_of L c))) c.slices

  unfoldable pub numbers_ok : List ℕ → ℕ → List ℕ → ℕ → Bool
  numbers_ok t start ns m = right_parts t start (directory_of L ns) m

  -- what a text that is a book holds
  abbrev pub judged_book : Option Book → Result Judged Refusal
  judged_book none = Err Text
  judged_book (some b) = Ok (record { used = length b.deliveries; start = 34 + 23 * length b.directory.lengths; directory = directory_numbers L b.directory })

  -- checks 12 and 14 of a text for n slots
  unfoldable pub judged_of : List ℕ → ℕ → Result Judged Refusal
  judged_of t n = cond (slots_for_book L t n) (judged_book (read_book L t)) (Err Full)

  -- the checks of writing but for days and room: 2 3 6 6 8
  abbrev pub sound_checks : Column → List Check
  sound_checks c = lent_checks L c ++ ask 6 (sound L c) ∷ ask 8 (every in_range (all_records L c)) ∷ []
