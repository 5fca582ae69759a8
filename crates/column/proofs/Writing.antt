-- insert, delete and move: the slots and lengths that they leave, and their answers. Assumes nothing.
use Prim.Native.Nat.{ℕ, ◌+◌, ◌-◌, ◌≤◌, ◌<◌}
use mathlib.Core.Path.{◌≡◌, refl, sym, ap, ap₂, ◌∙◌, subst}
use mathlib.Core.Bool.{Bool, true, false, cond}
use mathlib.Core.List.{List, [], ◌∷◌, ◌++◌}
use native.Mathlib.Omega.{arith}
use lib.ListN.{length, get_or, drop, length-set}
use lib.Seq.{drop_at}
use lib.Dec.{eqb}
use borrow.Author.Tests.{lt-ltb, le-ltb}
use Rattle.std.specs.Prelude.{Ok}
use Rattle.model.specs.declared.Delivery.{Delivery}
use Rattle.model.specs.declared.Counts.{Counts}
use Rattle.model.specs.declared.refusal.Refusal.{Refusal}
use Rattle.model.specs.declared.answers.Refused.{Refused}
use Rattle.model.specs.declared.answers.Report.{Report}
use Rattle.model.specs.Bounds.{most_slots}
use Rattle.model.specs.Lists.{sum_of}
use Rattle.model.specs.Refusals.{refusal_number}
use Rattle.model.specs.Answers.{refused_ahead, answer_of}
use Rattle.model.specs.Checks.{first_failed}
use Rattle.model.specs.Deliveries.{Slices, storing, with_grower, in_range, day_ok, no_totals}
use Rattle.model.specs.Calls.{insert, delete, move}
use Rattle.model.specs.Partitions.{start_of, one_more, one_fewer}
use Rattle.model.specs.Directory.{Directory, partition_count, directory_of, with_lengths}
use Rattle.model.specs.Column.{Column, lengths_of, target, has_free_slot}
use Rattle.model.specs.Accesses.{counts, no_counts, and_also, onward, apart, scan_near, scan_counts, call_counts, miss_counts}
use Rattle.model.specs.Questions.{lent_checks, call_checks, column_checks}
use Rattle.model.specs.ColumnCalls.{Called, column_refusal, column_after, column_call, call_totals, refused_counts, move_slices}
use Rattle.model.proofs.DirectoryLaws.{Shaped, Kept, with_lengths_lem, shaped, shaped_passes, shaped_with, length_lengths}
use Rattle.model.proofs.AccessLaws.{reads_small}
use Rattle.model.proofs.MovesLengths.{sum-one_fewer}
use Rattle.slices.specs.declared.Place.{Place}
use Rattle.directory.specs.Numbers.{HasPartition}
use Rattle.directory.proofs.LentColumns.{lent_column, has_partition, count_lengths}
use Rattle.column.specs.declared.Located.{Located}
use Rattle.column.specs.Answers.{RefusedBy, IsOpen, IsLocated, Ready, put_of, taken_of, shifted_of}
use Rattle.column.proofs.Answering.{lent_yes, accepted_lent, accepted_call}
use Rattle.column.proofs.Reading.{target_there}

-- two changes of the lengths are the last one
with_with : (a b ns : List ℕ) → 2 ≤ length ns → length a ≡ length b → with_lengths a (with_lengths b ns) ≡ with_lengths a ns
unfolding with_lengths
with_with a b [] h e = let z : ⊥ = omega arith in absurd z
with_with a b (x ∷ []) h e = let z : ⊥ = omega arith in absurd z
with_with a b (x ∷ y ∷ r) h e =
    let q : drop (length a) (b ++ drop (length b) r) ≡ drop (length a) r = rw e (drop_at b (drop (length b) r) (length b) refl) in
    ap (λ (l : List ℕ). x ∷ y ∷ (a ++ l)) q

-- the column afterwards: the ripple moved by the lengths l it was lent, which are ns, and the directory has the lengths ls
pub column_is : (f : List ℕ → ℕ → List ℕ → List ℕ) (d : Delivery) (ls ns : List ℕ) (c : Column) (after l : List ℕ) (s : Slices) → l ≡ ns → after ≡ with_lengths ls c.directory
    → s ≡ storing (f l) d c.slices → ◌≡◌ {A = Column} (record { directory = after; slices = s }) (move_slices (f ns) d ls c)
unfolding move_slices
column_is f d ls ns c after l s e m n = rw (n, e, m)

-- whether a test is passed or not
same_either : {A : Type 0} (b : Bool) (x : A) → x ≡ cond b x x
same_either true x = refl
same_either false x = refl

module _ (L : ℕ) where
  -- One length changed.
  -- a directory after one length has fallen
  module _ (ns : List ℕ) (t u : ℕ) (h : HasPartition L ns t) (k : 1 ≤ get_or (directory_of L ns).lengths t 0) where
    s : Shaped L most_slots ns
    s = shaped L most_slots ns h.shaped

    ls : List ℕ
    ls = (directory_of L ns).lengths

    count : length ls ≡ get_or ns 1 0
    unfolding ls
    count = length_lengths L most_slots ns s

    fewer : sum_of (one_fewer t ls) + 1 ≡ sum_of ls
    unfolding ls
    fewer = sum-one_fewer t ls (omega (arith, count, h.there)) k

    changed : Kept L (one_fewer t ls) ns
    changed = with_lengths_lem L (one_fewer t ls) ns s.size (length-set ls t (get_or ls t 0 - 1) ∙ count) s.few

    pub partition_after : u < partition_count L ns → HasPartition L (with_lengths (one_fewer t (directory_of L ns).lengths) ns) u
    unfolding ls
    partition_after m = record {
      shaped = shaped_passes L most_slots _ (shaped_with L most_slots (one_fewer t ls) ns s (length-set ls t (get_or ls t 0 - 1) ∙ count) (omega (arith, fewer, s.room)));
      there = rw changed.count m;
    }

    pub twice : (after last : List ℕ) → after ≡ with_lengths (one_fewer t (directory_of L ns).lengths) ns → last ≡ with_lengths (one_more u (directory_of L after).lengths) after
        → last ≡ with_lengths (one_more u (one_fewer t (directory_of L ns).lengths)) ns
    unfolding ls
    twice after last e f =
        let d : (directory_of L after).lengths ≡ one_fewer t ls = ap (λ (n : List ℕ). (directory_of L n).lengths) e ∙ ap (λ (x : Directory). x.lengths) changed.directory in
        f ∙ ap₂ (λ (l n : List ℕ). with_lengths (one_more u l) n) d e
        ∙ with_with (one_more u (one_fewer t ls)) (one_fewer t ls) ns (omega (arith, s.size)) (length-set (one_fewer t ls) u _)

  -- insert.

  module _ (c : Column) (d : Delivery) where
    module _ (h : first_failed (lent_checks L c) ≡ 0) where
      pub insert_refusal : (s t u : Bool) → in_range d ≡ s → day_ok d ≡ t → has_free_slot L c ≡ u → column_refusal L c (insert d) ≡ cond s (cond t (cond u 0 12) 19) 8
      unfolding call_checks first_failed
      insert_refusal s t u e f g = lent_yes L c (insert d) h ∙ rw (e, f, g)

      pub insert_full : in_range d ≡ true → day_ok d ≡ true → length c.slices.growers ≤ sum_of (lengths_of L c) → column_refusal L c (insert d) ≡ 12
      unfolding has_free_slot
      insert_full e f k = insert_refusal true true false e f (le-ltb (sum_of (lengths_of L c)) (length c.slices.growers) k)

      pub insert_accepted : in_range d ≡ true → day_ok d ≡ true → sum_of (lengths_of L c) < length c.slices.growers → column_refusal L c (insert d) ≡ 0
      unfolding has_free_slot
      insert_accepted e f k = insert_refusal true true true e f (lt-ltb (sum_of (lengths_of L c)) (length c.slices.growers) k)

  -- a column that has passed 2, 3 and 6 is ready at the partition of a grower
  pub ready : (c : Column) (g : ℕ) → first_failed (lent_checks L c) ≡ 0 → Ready L c (target L c g) (start_of (lengths_of L c) (target L c g))
  ready c g h =
      let l = lent_column L c h in
      record { here = has_partition L c l (target L c g) (target_there L c h g); start = refl; room = l.shape.room; even = l.even }

  module _ (c : Column) (d : Delivery) where
    -- no insert reports what it read
    pub insert_refused : (r : Refusal) (x : Refused) → x ≡ refused_ahead r → refusal_number r ≡ column_refusal L c (insert d) → RefusedBy L c (insert d) x
    unfolding refused_counts miss_counts
    insert_refused r x w e = rw w (record { number = e; counts = same_either (eqb (column_refusal L c (insert d)) 13) no_counts })

    module _ (p : Place) (o : IsOpen L c d p) where
      pub open_ready : Ready L c p.target p.start
      open_ready = rw (o.target_is, o.start_is) (ready c d.grower (accepted_lent L c (insert d) o.accepted))

      -- what an accepted insert leaves and answers
      pub insert_done : (after : Column) (n : ℕ) (r : Report) → after ≡ put_of L c p.target d → n ≡ onward (directory_of L c.directory) p.target
          → r ≡ record { counts = counts (1 + n) 0 (1 + n); totals = no_totals } → ◌≡◌ {A = Called} (record { answer = answer_of (Ok r); column = after }) (column_call L c (insert d))
      unfolding call_totals call_counts column_after
      insert_done after n r e f i = rw (i, e, f, o.target_is) (accepted_call L c (insert d) o.accepted)

  -- delete and move.

  -- the two put the same checks, and report the same where they are refused
  move_refusal : (c : Column) (d : Delivery) (g : ℕ) → column_refusal L c (move d g) ≡ column_refusal L c (delete d)
  unfolding column_refusal column_checks call_checks
  move_refusal c d g = refl

  pub move_refused : (c : Column) (d : Delivery) (g : ℕ) (x : Refused) → RefusedBy L c (delete d) x → RefusedBy L c (move d g) x
  unfolding refused_counts miss_counts
  move_refused c d g x r = record { number = r.number ∙ sym (move_refusal c d g); counts = r.counts ∙ rw move_refusal }

  module _ (c : Column) (d : Delivery) (f : Located) (o : IsLocated L c d f) where
    pub located_lent : first_failed (lent_checks L c) ≡ 0
    located_lent = accepted_lent L c (delete d) o.accepted

    -- a scan's counts leave room
    pub scan_small : (f.counts.rr ≤ 1) × (f.counts.«rw» ≤ 0)
    unfolding scan_near scan_counts
    scan_small = subst (λ (n : Counts). (n.rr ≤ 1) × (n.«rw» ≤ 0)) (sym o.counts_are) (reads_small _)

    -- the partition and the slot are there
    pub located_ready : Ready L c f.target f.start × (f.slot < get_or (lengths_of L c) f.target 0)
    located_ready = rw (o.target_is, o.start_is) (ready c d.grower located_lent, o.inside)

    -- the new grower's partition is one of the partitions, no further off than there are partitions
    pub move_few : (g u n : ℕ) → u ≡ target L c g → n ≡ apart f.target u → (u < partition_count L c.directory) × (n ≤ L)
    move_few g u n eu en =
        let l = lent_column L c located_lent in
        let k : u < partition_count L c.directory = omega (arith, target_there L c located_lent g, count_lengths L c l) in
        (k, omega (arith, k, target_there L c located_lent d.grower, count_lengths L c l, l.shape.few, o.target_is))

    -- what an accepted delete or move leaves and answers
    module _ (after : Column) (n : ℕ) (k : Counts) (r : Report) (i : r ≡ record { counts = k; totals = no_totals }) where
      pub delete_done : after ≡ taken_of L c f.target f.slot → n ≡ onward (directory_of L c.directory) f.target → k ≡ and_also f.counts n (1 + n)
          → ◌≡◌ {A = Called} (record { answer = answer_of (Ok r); column = after }) (column_call L c (delete d))
      unfolding call_totals call_counts column_after
      delete_done e m j = rw (i, j, e, m, o.counts_are, o.target_is, o.slot_is) (accepted_call L c (delete d) o.accepted)

      pub move_done : (g u : ℕ) → u ≡ target L c g → after ≡ shifted_of L c f.target f.slot u (with_grower g d) → n ≡ apart f.target u
          → k ≡ and_also f.counts (1 + n) (2 + n) → ◌≡◌ {A = Called} (record { answer = answer_of (Ok r); column = after }) (column_call L c (move d g))
      unfolding call_totals call_counts column_after
      move_done g u v e m j = rw (i, j, e, m, o.counts_are, o.target_is, o.slot_is, v) (accepted_call L c (move d g) (move_refusal c d g ∙ o.accepted))
