-- Where a delivery lies that delete or move names. Assumes nothing.
use Prim.Native.Nat.{ℕ, ◌+◌, ◌-◌, ◌≤◌, ◌<◌}
use mathlib.Core.Path.{◌≡◌, refl, sym, ap, ◌∙◌}
use mathlib.Core.Bool.{Bool, true, false, cond, ◌&&◌}
use mathlib.Core.List.{List, [], ◌∷◌, map}
use native.Mathlib.Omega.{arith}
use lib.ListN.{length, get_or, take, drop}
use lib.Seq.{drop-cons}
use lib.Dec.{ltb}
use borrow.Author.Tests.{lt-ltb, le-ltb, ne_eqb}
use Rattle.model.specs.declared.Delivery.{Delivery}
use Rattle.model.specs.declared.Counts.{Counts}
use Rattle.model.specs.Lists.{sum_of, every}
use Rattle.model.specs.Checks.{first_failed}
use Rattle.model.specs.Lent.{slices_part}
use Rattle.model.specs.Deliveries.{Slices, rows, in_range, day_ok, among, first_match}
use Rattle.model.specs.Calls.{delete}
use Rattle.model.specs.Partitions.{start_of}
use Rattle.model.specs.Directory.{directory_of}
use Rattle.model.specs.Column.{Column, slots, lengths_of, target, records_near, scanned_ok, scanned_days_ok, has_delivery}
use Rattle.model.specs.Accesses.{blocks_of, reads_of, blocks_scanned, scan_counts, scan_near, miss_counts}
use Rattle.model.specs.Questions.{lent_checks, call_checks}
use Rattle.model.specs.ColumnCalls.{column_refusal, refused_counts}
use Rattle.model.proofs.AccessLaws.{blocks_none}
use Rattle.model.proofs.Parts.{between_one, length_part}
use Rattle.model.proofs.Deliveries.{first_among}
use Rattle.scan.specs.Scans.{all_fit}
use Rattle.scan.proofs.Scanning.{lent_part_lem}
use Rattle.model.specs.declared.refusal.Refusal.{Refusal}
use Rattle.model.specs.declared.refusal.Refusal.TheVariants.{Values, Days, Absent}
use Rattle.model.specs.declared.answers.Refused.{Refused}
use Rattle.model.specs.Refusals.{refusal_number}
use Rattle.model.specs.Answers.{refused_ahead}
use Rattle.column.specs.declared.Sought.{Sought}
use Rattle.column.specs.Answers.{part_checks, IsSought, NotSought, IsLocated, RefusedBy}
use Rattle.column.proofs.Answering.{lent_yes, refused_ahead_by}
use Rattle.column.proofs.Reading.{lengths_fit, target_there}

-- a delivery is held just if the first match is inside
pub among_match : (d : Delivery) (ds : List Delivery) → among d ds ≡ ltb (first_match d ds) (length ds)
among_match d ds = sym (first_among d ds)

-- In one partition.

module _ (b : ℕ) (d : Delivery) (ds : List Delivery) where
  part_refusal : (s t u : Bool) → every in_range ds ≡ s → day_ok d && every day_ok ds ≡ t → among d ds ≡ u → first_failed (part_checks d ds) ≡ cond s (cond t (cond u 0 13) 19) 8
  unfolding first_failed
  part_refusal s t u e f g = rw (e, f, g)

  -- refused ahead of the scan's counts
  ahead : (r : Refusal) (x : Refused) → x ≡ refused_ahead r → first_failed (part_checks d ds) ≡ refusal_number r → (refusal_number r ≡ 13 → ⊥) → NotSought b d ds x
  ahead r x w e f = rw w (record { number = sym e; counts = rw (e, ne_eqb (refusal_number r) 13 f) })

  pub search_bad : (x : Refused) → x ≡ refused_ahead Values → every in_range ds ≡ false → NotSought b d ds x
  search_bad x w e = ahead Values x w (part_refusal false _ _ e refl refl) (λ z. omega arith)

  pub search_undated : (x : Refused) → x ≡ refused_ahead Days → every in_range ds ≡ true → day_ok d && every day_ok ds ≡ false → NotSought b d ds x
  search_undated x w e f = ahead Days x w (part_refusal true false _ e f refl) (λ z. omega arith)

  -- values in range, but not all days: of the records, or of the delivery
  pub search_late : (x : Refused) → x ≡ refused_ahead Days → all_fit ds ≡ false → every in_range ds ≡ true → NotSought b d ds x
  search_late x w e f = search_undated x w f (go (day_ok d) (every day_ok ds) (sym (rw f) ∙ e))
    where
      go : (x y : Bool) → y ≡ false → x && y ≡ false
      go true y h = h
      go false y h = refl

  module _ (e : every in_range ds ≡ true) (f : day_ok d && every day_ok ds ≡ true) (i : ℕ) (k : Counts) (m : i ≡ first_match d ds) (n : k ≡ reads_of (blocks_of b (length ds))) where
    pub search_found : i < length ds → IsSought b d ds (record { slot = i; counts = k })
    search_found h = record {
      passed = part_refusal true true true e f (among_match d ds ∙ rw (← m) (lt-ltb i (length ds) h));
      slot = m;
      inside = h;
      counts = n;
    }

    pub search_missing : length ds ≤ i → NotSought b d ds (record { refusal = Absent; counts = k })
    search_missing h =
        let z : first_failed (part_checks d ds) ≡ 13 = part_refusal true true false e f (among_match d ds ∙ rw (← m) (le-ltb i (length ds) h)) in
        record { number = sym z; counts = rw z n }

-- an empty partition: no delivery is there, and no block is read
pub search_empty : (b : ℕ) (d : Delivery) (ds : List Delivery) (x : Refused) → x ≡ refused_ahead Absent → 1 ≤ b → length ds ≡ 0 → day_ok d ≡ true → NotSought b d ds x
unfolding every among reads_of
search_empty b d [] x w h e f =
    let z : first_failed (part_checks d []) ≡ 13 = part_refusal b d [] true true false refl (rw f) refl in
    rw w (record { number = sym z; counts = rw (z, blocks_none b h) refl })
search_empty b d (y ∷ ds) x w h e f = absurd (omega arith)

pub empty_undated : (b : ℕ) (d : Delivery) (ds : List Delivery) (x : Refused) → x ≡ refused_ahead Days → length ds ≡ 0 → day_ok d ≡ false → NotSought b d ds x
unfolding every
empty_undated b d [] x w e f = search_undated b d [] x w refl (rw f)
empty_undated b d (y ∷ ds) x w e f = absurd (omega arith)

-- In the column.

module _ (L : ℕ) where
  module _ (c : Column) (d : Delivery) where
    module _ (h : first_failed (lent_checks L c) ≡ 0) where
      -- refused by 8
      pub located_range : (x : Refused) → x ≡ refused_ahead Values → in_range d ≡ false → RefusedBy L c (delete d) x
      unfolding call_checks first_failed
      located_range x w e = refused_ahead_by L c (delete d) Values x w (lent_yes L c (delete d) h ∙ rw e) (λ z. omega arith)

      there : target L c d.grower < length (lengths_of L c)
      there = target_there L c h d.grower

      pub near_length : length (records_near L c d.grower) ≡ get_or (lengths_of L c) (target L c d.grower) 0
      near_length = ap length (between_one (target L c d.grower) (lengths_of L c) (slots c) there) ∙ length_part (target L c d.grower) (lengths_of L c) (slots c) there (lengths_fit L c h)

      -- the scan of the grower's partition
      near_counts : reads_of (blocks_of (get_or c.directory 0 0) (length (records_near L c d.grower))) ≡ scan_near (directory_of L c.directory) d.grower
      unfolding scan_near scan_counts blocks_scanned directory_of sum_of
      near_counts =
          let t = target L c d.grower in
          let ns = lengths_of L c in
          let one : t + 1 - t ≡ 1 = omega arith in
          let e : sum_of (map (blocks_of (get_or c.directory 0 0)) (take (t + 1 - t) (drop t ns))) ≡ blocks_of (get_or c.directory 0 0) (get_or ns t 0)
          = rw (one, drop-cons ns t 0 there) (omega arith) in
          ap (λ (n : ℕ). reads_of (blocks_of (get_or c.directory 0 0) n)) near_length ∙ ap reads_of (sym e)

      -- the checks put in the partition are the call's
      module _ (e : in_range d ≡ true) where
        part_is : first_failed (part_checks d (records_near L c d.grower)) ≡ column_refusal L c (delete d)
        unfolding call_checks scanned_ok scanned_days_ok has_delivery
        part_is = sym (lent_yes L c (delete d) h ∙ rw e)

        -- the block length and the records are those of the grower's partition
        module _ (b : ℕ) (ds : List Delivery) (eb : b ≡ get_or c.directory 0 0) (ed : ds ≡ records_near L c d.grower) where
          pub located_not : (x : Refused) → NotSought b d ds x → RefusedBy L c (delete d) x
          unfolding refused_counts miss_counts
          located_not x n =
              let m : NotSought (get_or c.directory 0 0) d (records_near L c d.grower) x = rw (eb, ed) at n in
              record { number = m.number ∙ part_is; counts = m.counts ∙ rw (part_is, near_counts) }

          pub located_at : (s : Sought) → IsSought b d ds s → (t a : ℕ) → t ≡ target L c d.grower → a ≡ start_of (lengths_of L c) (target L c d.grower)
              → IsLocated L c d (record { target = t; start = a; slot = s.slot; counts = s.counts })
          located_at s n t a et ea =
              let m : IsSought (get_or c.directory 0 0) d (records_near L c d.grower) s = rw (eb, ed) at n in
              record {
                accepted = sym part_is ∙ m.passed;
                target_is = et;
                start_is = ea;
                slot_is = m.slot;
                inside = omega (arith, m.inside, near_length);
                counts_are = m.counts ∙ near_counts;
              }

      -- the part that is lent is the grower's partition
      pub near_part : (a n : ℕ) → a ≡ start_of (lengths_of L c) (target L c d.grower) → n ≡ get_or (lengths_of L c) (target L c d.grower) 0 → (r : Slices) → r ≡ c.slices
          → (p : Slices) → p ≡ slices_part a (a + n) r → rows p ≡ records_near L c d.grower
      near_part a n ea en r er p ep =
          ap rows (ep ∙ ap (slices_part a (a + n)) er)
          ∙ lent_part_lem (lengths_of L c) (target L c d.grower) a n c.slices ea en
          ∙ sym (between_one (target L c d.grower) (lengths_of L c) (slots c) there)
