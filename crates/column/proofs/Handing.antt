-- The partition call: where a grower's partition lies, and the part that is handed back. Assumes nothing.
use Prim.Native.Nat.{ℕ, zero, suc, ◌+◌, ◌-◌, ◌*◌, ◌≤◌}
use mathlib.Core.Path.{◌≡◌, refl, sym, ap, ◌∙◌}
use mathlib.Core.List.{List}
use native.Mathlib.Omega.{arith}
use lib.ListN.{length, get_or, take, drop}
use lib.Dec.{T, leb, leb→le}
use borrow.Author.Tests.{ne_eqb}
use Rattle.model.specs.declared.PartitionSlice.{PartitionSlice}
use Rattle.model.specs.Bounds.{most_slots}
use Rattle.model.specs.Checks.{first_failed}
use Rattle.model.specs.Place.{place}
use Rattle.model.specs.Blocks.{slots_ok}
use Rattle.model.specs.Partitions.{start_of}
use Rattle.model.specs.Directory.{directory_of, directory_block_ok, directory_ok}
use Rattle.model.specs.Questions.{partition_checks}
use Rattle.model.specs.ColumnCalls.{partition_call}
use Rattle.model.proofs.Tests.{and_snd, yes_first}
use Rattle.model.proofs.Places.{placed}
use Rattle.model.proofs.Parts.{stop_le}
use Rattle.model.proofs.DirectoryLaws.{Shaped, shaped, shaped_passes}
use Rattle.column.specs.Answers.{Part, part_of}
use Rattle.directory.specs.Numbers.{HasPartition}
use Rattle.directory.proofs.Numbers.{dir_some, dir_count, dir_many}

module _ (L : ℕ) where
  module _ (ns gs : List ℕ) (g : ℕ) where
    pub partition_refused : (n : ℕ) → n ≡ first_failed (partition_checks L ns gs) → (n ≡ 0 → ⊥) → ◌≡◌ {A = PartitionSlice} (record { refusal = n; start = 0; count = 0 }) (partition_call L ns gs g)
    unfolding partition_call
    partition_refused n e h = rw (sym e, ne_eqb n 0 h)

    module _ (h : first_failed (partition_checks L ns gs) ≡ 0) where
      abbrev t : ℕ
      t = place (directory_of L ns).fences g

      pub partition_done : (a n : ℕ) → a ≡ start_of (directory_of L ns).lengths t → n ≡ get_or (directory_of L ns).lengths t 0
          → ◌≡◌ {A = PartitionSlice} (record { refusal = 0; start = a; count = n }) (partition_call L ns gs g)
      unfolding partition_call
      partition_done a n ea en = rw (h, ea, en)

      shape : Shaped L (length gs) ns × (length gs ≤ most_slots)
      unfolding partition_checks slots_ok
      shape =
          let c2 = yes_first 1 (directory_block_ok L ns) _ h in
          let c3 = yes_first 2 (slots_ok (length gs)) _ c2.1 in
          let c6 = yes_first 5 (directory_ok L (length gs) ns) _ c3.1 in
          (shaped L (length gs) ns c6.0, leb→le (length gs) most_slots (and_snd (leb 1 (length gs)) (leb (length gs) most_slots) c3.0))

      pub partition_directory : T (directory_ok L most_slots ns)
      partition_directory =
          let s = shape.0 in
          shaped_passes L most_slots ns (record { size = s.size; some = s.some; few = s.few; unused = s.unused; rises = s.rises; room = omega (arith, s.room, shape.1) })

      pub partition_has : HasPartition L ns t
      partition_has = record {
        shaped = partition_directory;
        there = omega (arith, (placed (directory_of L ns).fences g (omega (arith, dir_count L ns partition_directory, dir_some L ns partition_directory))).within, dir_count L ns partition_directory);
      }

      partition_inside : start_of (directory_of L ns).lengths t + get_or (directory_of L ns).lengths t 0 ≤ length gs
      partition_inside = omega (arith, stop_le (directory_of L ns).lengths t (omega (arith, partition_has.there, dir_many L ns partition_directory)), shape.0.room)

  -- what is handed back lies in the growers
  pub handed_inside : (ns gs : List ℕ) (g : ℕ) (p : PartitionSlice) → p ≡ partition_call L ns gs g → p.start + p.count ≤ length gs
  handed_inside ns gs g p e = go (first_failed (partition_checks L ns gs)) refl
    where
      go : (n : ℕ) → first_failed (partition_checks L ns gs) ≡ n → p.start + p.count ≤ length gs
      go zero f =
          let d = e ∙ sym (partition_done ns gs g f _ _ refl refl) in
          omega (arith, ap (λ (x : PartitionSlice). x.start) d, ap (λ (x : PartitionSlice). x.count) d, partition_inside ns gs g f)
      go (suc n) f =
          let d = e ∙ sym (partition_refused ns gs g (suc n) (sym f) (λ z. omega arith)) in
          omega (arith, ap (λ (x : PartitionSlice). x.start) d, ap (λ (x : PartitionSlice). x.count) d)

-- the part from its start to its end, and where it lies
pub cut_out : (p : PartitionSlice) (o : ℕ × ℕ) (gs : List ℕ)
    → ◌≡◌ {A = Part} (record { place = (o.0, p.start * 4 + o.1); part = take (p.start + p.count - p.start) (drop p.start gs); refusal = p.refusal }) (part_of p o gs)
unfolding part_of
cut_out p o gs =
    let count : p.start + p.count - p.start ≡ p.count = omega arith in
    let byte : p.start * 4 + o.1 ≡ (part_of p o gs).place.1 = omega arith in
    rw (count) (ap (λ (n : ℕ). record { place = (o.0, n); part = take p.count (drop p.start gs); refusal = p.refusal }) byte)
