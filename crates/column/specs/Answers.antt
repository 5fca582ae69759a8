-- Why a call is refused, and where a delivery lies that insert, delete or move names.
use Rattle.std.specs.Prelude.{ℕ, ◌+◌, ◌*◌, ◌≤◌, ◌<◌, ◌≡◌, cond, ◌&&◌, List, [], ◌∷◌, length, get_or, take, drop, eqb}
use Rattle.model.specs.declared.Delivery.{Delivery}
use Rattle.model.specs.declared.answers.Refused.{Refused}
use Rattle.model.specs.declared.PartitionSlice.{PartitionSlice}
use Rattle.model.specs.Refusals.{refusal_number}
use Rattle.model.specs.Lists.{sum_of, every}
use Rattle.model.specs.Checks.{Check, ask, first_failed}
use Rattle.model.specs.Deliveries.{Even, in_range, day_ok, among, first_match}
use Rattle.model.specs.Calls.{Call, insert, delete}
use Rattle.model.specs.Partitions.{start_of, one_more, one_fewer}
use Rattle.model.specs.Moves.{inserted, deleted, moved}
use Rattle.model.specs.Directory.{directory_of}
use Rattle.model.specs.Column.{Column, lengths_of, target}
use Rattle.model.specs.Accesses.{no_counts, blocks_of, reads_of, scan_near}
use Rattle.model.specs.ColumnCalls.{column_refusal, refused_counts, slot_of, freed, move_slices}
use Rattle.slices.specs.declared.Place.{Place}
use Rattle.directory.specs.Numbers.{HasPartition}
use Rattle.column.specs.declared.Sought.{Sought}
use Rattle.column.specs.declared.Located.{Located}

-- checks 8, 19 and 13 of delete and move in a partition that holds the records ds
abbrev pub part_checks : Delivery → List Delivery → List Check
part_checks d ds = ask 8 (every in_range ds) ∷ ask 19 (day_ok d && every day_ok ds) ∷ ask 13 (among d ds) ∷ []

-- b is the block length: the delivery's slot there, and the scan
pub record IsSought (b : ℕ) (d : Delivery) (ds : List Delivery) (s : Sought) : Type 0 where
  pub passed : first_failed (part_checks d ds) ≡ 0
  pub slot : s.slot ≡ first_match d ds
  pub inside : s.slot < length ds
  pub counts : s.counts ≡ reads_of (blocks_of b (length ds))

-- refused by the first of those checks that fails; "13 reports its scan"
pub record NotSought (b : ℕ) (d : Delivery) (ds : List Delivery) (x : Refused) : Type 0 where
  pub number : refusal_number x.refusal ≡ first_failed (part_checks d ds)
  pub counts : x.counts ≡ cond (eqb (first_failed (part_checks d ds)) 13) (reads_of (blocks_of b (length ds))) no_counts

-- L is the block limit
module _ (L : ℕ) where
  -- what a refused call on the column reports
  pub record RefusedBy (c : Column) (k : Call) (x : Refused) : Type 0 where
    pub number : refusal_number x.refusal ≡ column_refusal L c k
    pub counts : x.counts ≡ refused_counts L c k

  -- where an accepted insert goes
  pub record IsOpen (c : Column) (d : Delivery) (p : Place) : Type 0 where
    pub accepted : column_refusal L c (insert d) ≡ 0
    pub used_is : p.used ≡ sum_of (lengths_of L c)
    pub target_is : p.target ≡ target L c d.grower
    pub start_is : p.start ≡ start_of (lengths_of L c) (target L c d.grower)
    pub free : p.used < length c.slices.growers

  -- where a delivery lies that an accepted delete or move takes, and what its scan cost
  pub record IsLocated (c : Column) (d : Delivery) (f : Located) : Type 0 where
    pub accepted : column_refusal L c (delete d) ≡ 0
    pub target_is : f.target ≡ target L c d.grower
    pub start_is : f.start ≡ start_of (lengths_of L c) (target L c d.grower)
    pub slot_is : f.slot ≡ slot_of L c d
    pub inside : f.slot < get_or (lengths_of L c) (target L c d.grower) 0
    pub counts_are : f.counts ≡ scan_near (directory_of L c.directory) d.grower

  -- a column of proper shape, and partition t of it, which starts at a
  pub record Ready (c : Column) (t a : ℕ) : Type 0 where
    pub here : HasPartition L c.directory t
    pub start : a ≡ start_of (lengths_of L c) t
    pub room : sum_of (lengths_of L c) ≤ length c.slices.growers
    pub even : Even c.slices

  -- the column after the slots and lengths of an insert, a delete and a move have changed
  abbrev pub put_of : Column → ℕ → Delivery → Column
  put_of c t d = move_slices (inserted (lengths_of L c) t) d (one_more t (lengths_of L c)) c

  abbrev pub taken_of : Column → ℕ → ℕ → Column
  taken_of c t i = move_slices (deleted (lengths_of L c) t i) freed (one_fewer t (lengths_of L c)) c

  abbrev pub shifted_of : Column → ℕ → ℕ → ℕ → Delivery → Column
  shifted_of c t i u d = move_slices (moved (lengths_of L c) t i u) d (one_more u (one_fewer t (lengths_of L c))) c

-- what the partition call hands back: where it lies (its block and its byte there), its numbers, and the number that is left
pub record Part : Type 0 where
  pub place : ℕ × ℕ
  pub part : List ℕ
  pub refusal : ℕ

-- of growers that lie at o, four bytes each
unfoldable pub part_of : PartitionSlice → ℕ × ℕ → List ℕ → Part
part_of p o gs = record { place = (o.0, p.start * 4 + o.1); part = take p.count (drop p.start gs); refusal = p.refusal }
