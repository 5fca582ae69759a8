-- The calls on the laid column (01): laying, the five calls, the run call.
use Rattle.std.specs.Prelude.{ℕ, cond, List, [], ◌∷◌, get_or, eqb}
use Rattle.model.specs.declared.Delivery.{Delivery}
use Rattle.model.specs.declared.Totals.{Totals}
use Rattle.model.specs.declared.Counts.{Counts}
use Rattle.model.specs.declared.Answer.{Answer}
use Rattle.model.specs.declared.Applied.{Applied}
use Rattle.model.specs.declared.PartitionSlice.{PartitionSlice}
use Rattle.model.specs.Checks.{first_failed}
use Rattle.model.specs.Place.{place}
use Rattle.model.specs.Deliveries.{delivery, with_grower, storing, no_totals, totals_between, totals_during, first_match}
use Rattle.model.specs.Blocks.{Set}
use Rattle.model.specs.Calls.{Call, find, range, range_days, insert, delete, move}
use Rattle.model.specs.Partitions.{start_of, one_more, one_fewer}
use Rattle.model.specs.Moves.{inserted, deleted, moved}
use Rattle.model.specs.Directory.{Directory, directory_of, directory_numbers, no_directory, with_lengths}
use Rattle.model.specs.Column.{Column, lengths_of, target, records_of, records_near, directory_for}
use Rattle.model.specs.Accesses.{no_counts, call_counts, miss_counts}
use Rattle.model.specs.Questions.{apply_checks, column_checks, partition_checks}

-- what a call answers, and the column it leaves
pub record Called : Type 0 where
  pub answer : Answer
  pub column : Column

-- "the freed slot becomes 0, 0, 0"; 02, Slip 7: "a freed slot's day becomes 0"
abbrev pub freed : Delivery
freed = delivery 0 0 0 0

-- the slices each changed by the one move f, which stores a number of d, and the lengths that the move leaves
unfoldable pub move_slices : (ℕ → List ℕ → List ℕ) → Delivery → List ℕ → Column → Column
move_slices f d ns c = record { directory = with_lengths ns c.directory; slices = storing f d c.slices }

-- L is the block limit
module _ (L : ℕ) where
  -- Applying a layout (01: laying).

  -- "the directory of a refused laying .. all 0"
  unfoldable pub apply_call : Set → List ℕ → Applied
  apply_call s ends =
      let n : ℕ = first_failed (apply_checks L s ends) in
      record { refusal = n; directory = cond (eqb n 0) (directory_numbers L (directory_for s ends)) (no_directory L) }

  -- the column that laying returns: the set's own slices under the layout's directory
  unfoldable pub laid_column : Set → List ℕ → Column
  laid_column s ends = record { directory = (apply_call s ends).directory; slices = s.slices }

  -- The five calls.

  -- the slot, in its partition, of the delivery that delete and move take: "the lowest matching slot"
  abbrev pub slot_of : Column → Delivery → ℕ
  slot_of c d = first_match d (records_near L c d.grower)

  -- "find, range: the number of matching records, their total weight and their total oil"; the others have no totals
  unfoldable pub call_totals : Column → Call → Totals
  call_totals c (find g) = totals_between g g (records_near L c g)
  call_totals c (range lo hi) = totals_between lo hi (records_of L c (target L c lo) (target L c hi))
  call_totals c (range_days lo hi s) = totals_during lo hi s (records_of L c (target L c lo) (target L c hi))
  call_totals c (insert d) = no_totals
  call_totals c (delete d) = no_totals
  call_totals c (move d g) = no_totals

  -- the column after an accepted call
  unfoldable pub column_after : Column → Call → Column
  column_after c (find g) = c
  column_after c (range lo hi) = c
  column_after c (range_days lo hi s) = c
  column_after c (insert d) =
      let ns : List ℕ = lengths_of L c in
      let t : ℕ = target L c d.grower in
      move_slices (inserted ns t) d (one_more t ns) c
  column_after c (delete d) =
      let ns : List ℕ = lengths_of L c in
      let t : ℕ = target L c d.grower in
      move_slices (deleted ns t (slot_of c d)) freed (one_fewer t ns) c
  column_after c (move d g) =
      let ns : List ℕ = lengths_of L c in
      let t : ℕ = target L c d.grower in
      let u : ℕ = target L c g in
      move_slices (moved ns t (slot_of c d) u) (with_grower g d) (one_more u (one_fewer t ns)) c

  unfoldable pub column_refusal : Column → Call → ℕ
  column_refusal c k = first_failed (column_checks L c k)

  -- what a refused call reports: "totals and counts 0 (13 reports its scan)"
  unfoldable pub refused_counts : Column → Call → Counts
  refused_counts c k = cond (eqb (column_refusal c k) 13) (miss_counts (directory_of L c.directory) k) no_counts

  -- a call on the column
  unfoldable pub column_call : Column → Call → Called
  column_call c k =
      cond (eqb (column_refusal c k) 0)
      (record { answer = record { refusal = 0; totals = call_totals c k; counts = call_counts (directory_of L c.directory) k }; column = column_after c k })
      (record { answer = record { refusal = column_refusal c k; totals = no_totals; counts = refused_counts c k }; column = c })

  -- a list of calls, each on the column that the one before it left: the columns and answers in order
  unfoldable pub column_calls : Column → List Call → List Called
  column_calls c [] = []
  column_calls c (k ∷ ks) = column_call c k ∷ column_calls (column_call c k).column ks

  -- "a call made alone gets the slices as the unlaid set has them and the directory that laying returned": what it reports
  unfoldable pub report_alone : Set → List ℕ → Call → Counts
  report_alone s ends k = (column_call (laid_column s ends) k).answer.counts

  -- Partition slice (01: the run call): where g's partition lies in the growers; "refused, an empty part at its start".
  unfoldable pub partition_call : List ℕ → List ℕ → ℕ → PartitionSlice
  partition_call ns gs g =
      let n : ℕ = first_failed (partition_checks L ns gs) in
      let d : Directory = directory_of L ns in
      let p : ℕ = place d.fences g in
      cond (eqb n 0)
      (record { refusal = 0; start = start_of d.lengths p; count = get_or d.lengths p 0 })
      (record { refusal = n; start = 0; count = 0 })
