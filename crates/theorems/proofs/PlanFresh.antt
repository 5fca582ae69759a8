-- A call made alone on the freshly laid column: how it is answered, and what it reports. Assumes nothing.
use Prim.Native.Nat.{ℕ, ◌≤◌, ◌<◌}
use mathlib.Core.Path.{◌≡◌, refl, sym, ap, ◌∙◌}
use mathlib.Core.Bool.{Bool, true, false, not, cond}
use mathlib.Core.List.{List}
use native.Mathlib.Omega.{arith}
use lib.Dec.{T, leb, eqb, le→leb, lt→ltb}
use lib.ListN.{length, length-map}
use Rattle.model.specs.declared.Delivery.{Delivery}
use Rattle.model.specs.Lists.{sum_of}
use Rattle.model.specs.Checks.{first_failed}
use Rattle.model.specs.Place.{place}
use Rattle.model.specs.Deliveries.{rows, among, in_range, day_ok}
use Rattle.model.specs.Blocks.{Set, held, last_grower, block_of, block_length_ok}
use Rattle.model.specs.Calendar.{Span}
use Rattle.model.specs.Calls.{Call, find, range, range_days, insert, delete, move, span_ok}
use Rattle.model.specs.Layouts.{layout_ok}
use Rattle.model.specs.Directory.{Directory, directory_size, directory_of, directory_numbers, directory_block_ok, directory_ok}
use Rattle.model.specs.Partitions.{between}
use Rattle.model.specs.Column.{Column, lengths_of, target, records_of, lengths_from, directory_for, scanned_ok, scanned_days_ok, has_free_slot, has_delivery}
use Rattle.model.specs.Accesses.{no_counts, call_counts, miss_counts}
use Rattle.model.specs.Questions.{apply_checks, call_checks, column_checks}
use Rattle.model.specs.ColumnCalls.{apply_call, laid_column, column_refusal, refused_counts, column_call, report_alone}
use Rattle.model.specs.Laws.{SetPasses}
use Rattle.model.proofs.Tests.{is_true, first_passed, or_snd, nothing_failed}
use Rattle.model.proofs.Places.{placed_mono}
use Rattle.model.proofs.LayoutLaws.{Laid, laid}
use Rattle.model.proofs.SetLaws.{Good, good, few, block_mono, part_placed, target as same_target}
use Rattle.model.proofs.DirectoryLaws.{Fits, directory_again, numbers_shaped, shaped_passes}
use Rattle.model.proofs.Fresh.{length_lengths, fences_rise, total_used, all_in_range, all_days_ok, among_here}
use Rattle.theorems.proofs.PlanChecks.{InBounds, set_passes}

module _ (L : ℕ) (s : Set) (h : SetPasses L s) (ends : List ℕ) (t : T (layout_ok s ends)) where
  -- the freshly laid column, its directory, and a grower's partition
  abbrev column : Column
  column = laid_column L s ends

  abbrev fresh : Directory
  fresh = directory_for s ends

  abbrev home : ℕ → ℕ
  home g = place ends (block_of s g)

  o : Good L s
  o = good L s h

  l : Laid s ends
  l = laid s ends t

  -- Laying.

  -- laying accepts the layout
  pub laying_accepted : (apply_call L s ends).refusal ≡ 0
  unfolding apply_call apply_checks
  laying_accepted = (set_passes L s h).0 _ ∙ first_passed 6 _ _ t ∙ (set_passes L s h).1 _ ∙ nothing_failed

  laid_numbers : column.directory ≡ directory_numbers L fresh
  unfolding laid_column apply_call
  laid_numbers = rw laying_accepted

  fits : Fits L fresh
  unfolding directory_for
  fits = record { even = length-map ends (last_grower s) ∙ sym (length_lengths s 0 ends); few = omega (arith, length_lengths s 0 ends, few L s o ends l) }

  -- the directory that laying returned
  laid_directory : directory_of L column.directory ≡ fresh
  laid_directory = rw laid_numbers (directory_again L fresh fits)

  lengths_laid : lengths_of L column ≡ lengths_from s 0 ends
  unfolding directory_for
  lengths_laid = ap (λ (d : Directory). d.lengths) laid_directory

  records_laid : (p q : ℕ) → records_of L column p q ≡ between (lengths_from s 0 ends) p q (rows s.slices)
  unfolding laid_column
  records_laid p q = ap (λ (ns : List ℕ). between ns p q (rows s.slices)) lengths_laid

  target-laid : (g : ℕ) → target L column g ≡ home g
  unfolding directory_for
  target-laid g = ap (λ (d : Directory). place d.fences g) laid_directory ∙ same_target L s o ends l g

  pub part_in : (g : ℕ) → home g < length ends
  part_in g = (part_placed L s o ends l (block_of s g)).within

  pub part_mono : (f g : ℕ) → f ≤ g → home f ≤ home g
  part_mono f g k = placed_mono ends (block_of s f) (block_of s g) _ _ (block_mono L s o f g k) (part_placed L s o ends l (block_of s f)) (part_placed L s o ends l (block_of s g))

  -- The checks of a call.

  block_lent : T (directory_block_ok L column.directory)
  unfolding directory_block_ok directory_numbers directory_for
  block_lent = rw laid_numbers (or_snd (not (eqb (length (directory_numbers L fresh)) (directory_size L))) (block_length_ok s.block) o.block_ok)

  shape_lent : T (directory_ok L (length s.slices.growers) column.directory)
  unfolding directory_for
  shape_lent =
      rw laid_numbers
      (shaped_passes L _ _ (numbers_shaped L (length s.slices.growers) fresh fits (omega (arith, length_lengths s 0 ends, l.some))
      (fences_rise L s o 0 ends l.cut l.parted) (omega (arith, total_used L s o ends l, o.m_fits))))

  -- 2, 3 and 6 are passed
  refusal_is : (k : Call) → column_refusal L column k ≡ first_failed (call_checks L column k)
  unfolding column_refusal column_checks laid_column
  refusal_is k = first_passed 2 _ _ block_lent ∙ first_passed 3 _ _ o.slices_ok_lem ∙ first_passed 6 _ _ shape_lent

  scanned_passes : (lo hi : ℕ) → lo ≤ hi → scanned_ok L column lo hi ≡ true
  unfolding scanned_ok
  scanned_passes lo hi k =
      rw (target-laid lo, target-laid hi, records_laid (home lo) (home hi))
      (is_true _ (all_in_range L s o ends l (home lo) (home hi) (part_mono lo hi k) (part_in hi)))

  scanned_days_pass : (lo hi : ℕ) → lo ≤ hi → scanned_days_ok L column lo hi ≡ true
  unfolding scanned_days_ok
  scanned_days_pass lo hi k =
      rw (target-laid lo, target-laid hi, records_laid (home lo) (home hi))
      (is_true _ (all_days_ok L s o ends l (home lo) (home hi) (part_mono lo hi k) (part_in hi)))

  slot-free : s.used < length s.slices.growers → has_free_slot L column ≡ true
  unfolding has_free_slot laid_column
  slot-free k = rw lengths_laid (is_true _ (lt→ltb (sum_of (lengths_from s 0 ends)) (length s.slices.growers) (omega (arith, total_used L s o ends l))))

  held-laid : (d : Delivery) → has_delivery L column d ≡ among d (held s)
  unfolding has_delivery
  held-laid d = rw (target-laid d.grower, records_laid (home d.grower) (home d.grower)) (among_here L s o ends l d)

  -- How each call is answered.

  find_answer : (g : ℕ) → column_refusal L column (find g) ≡ 0
  unfolding call_checks first_failed
  find_answer g = refusal_is (find g) ∙ rw (scanned_passes g g (omega arith), scanned_days_pass g g (omega arith))

  range_answer : (lo hi : ℕ) → lo ≤ hi → column_refusal L column (range lo hi) ≡ 0
  unfolding call_checks first_failed
  range_answer lo hi k = refusal_is (range lo hi) ∙ rw (is_true (leb lo hi) (le→leb lo hi k), scanned_passes lo hi k, scanned_days_pass lo hi k)

  range_days_answer : (lo hi : ℕ) (days : Span) → lo ≤ hi → T (span_ok days) → column_refusal L column (range_days lo hi days) ≡ 0
  unfolding call_checks first_failed
  range_days_answer lo hi days k n =
      refusal_is (range_days lo hi days) ∙ rw (is_true (leb lo hi) (le→leb lo hi k), scanned_passes lo hi k, is_true (span_ok days) n, scanned_days_pass lo hi k)

  insert_answer : (d : Delivery) → InBounds d → s.used < length s.slices.growers → column_refusal L column (insert d) ≡ 0
  unfolding call_checks first_failed
  insert_answer d r k = refusal_is (insert d) ∙ rw (is_true (in_range d) r.0, is_true (day_ok d) r.1, slot-free k)

  -- a delete or a move of d
  taken-answer : (k : Call) (d : Delivery) → call_checks L column k ≡ call_checks L column (delete d) → InBounds d → column_refusal L column k ≡ cond (among d (held s)) 0 13
  unfolding call_checks first_failed
  taken-answer k d e r =
      let g = d.grower in
      refusal_is k ∙ ap first_failed e
      ∙ rw (is_true (in_range d) r.0, scanned_passes g g (omega arith), is_true (day_ok d) r.1, scanned_days_pass g g (omega arith), held-laid d)

  -- A report by its refusal number.

  report_full : (k : Call) → column_refusal L column k ≡ 0 → report_alone L s ends k ≡ call_counts fresh k
  unfolding report_alone column_call
  report_full k e = rw (e, report_alone) (ap (λ (d : Directory). call_counts d k) laid_directory)

  report_missing : (k : Call) → column_refusal L column k ≡ 13 → report_alone L s ends k ≡ miss_counts fresh k
  unfolding report_alone column_call refused_counts
  report_missing k e = rw (e, report_alone) (ap (λ (d : Directory). miss_counts d k) laid_directory)

  report_by : (k : Call) (b : Bool) → column_refusal L column k ≡ cond b 0 13 → report_alone L s ends k ≡ cond b (call_counts fresh k) (miss_counts fresh k)
  report_by k true e = report_full k e
  report_by k false e = report_missing k e

  -- What each call reports.

  pub find_report : (g : ℕ) → report_alone L s ends (find g) ≡ call_counts fresh (find g)
  find_report g = report_full (find g) (find_answer g)

  pub range_report : (lo hi : ℕ) → lo ≤ hi → report_alone L s ends (range lo hi) ≡ call_counts fresh (range lo hi)
  range_report lo hi k = report_full (range lo hi) (range_answer lo hi k)

  pub range_days_report : (lo hi : ℕ) (days : Span) → lo ≤ hi → T (span_ok days) → report_alone L s ends (range_days lo hi days) ≡ call_counts fresh (range_days lo hi days)
  range_days_report lo hi days k n = report_full (range_days lo hi days) (range_days_answer lo hi days k n)

  pub insert_report : (d : Delivery) → InBounds d → s.used < length s.slices.growers → report_alone L s ends (insert d) ≡ call_counts fresh (insert d)
  insert_report d r k = report_full (insert d) (insert_answer d r k)

  -- one of a delivery out of range is refused by 8, or by 19, and reports nothing
  pub refused_report : (d : Delivery) → in_range d ≡ false → report_alone L s ends (insert d) ≡ no_counts
  unfolding call_checks first_failed report_alone column_call refused_counts
  refused_report d e =
      let r : column_refusal L column (insert d) ≡ 8 = refusal_is (insert d) ∙ rw e in
      rw (r, report_alone)

  pub late_report : (d : Delivery) → in_range d ≡ true → day_ok d ≡ false → report_alone L s ends (insert d) ≡ no_counts
  unfolding call_checks first_failed report_alone column_call refused_counts
  late_report d e f =
      let r : column_refusal L column (insert d) ≡ 19 = refusal_is (insert d) ∙ rw (e, f) in
      rw (r, report_alone)

  pub delete_report : (d : Delivery) → InBounds d → report_alone L s ends (delete d) ≡ cond (among d (held s)) (call_counts fresh (delete d)) (miss_counts fresh (delete d))
  delete_report d r = report_by (delete d) (among d (held s)) (taken-answer (delete d) d refl r)

  pub move_report : (d : Delivery) (g : ℕ) → InBounds d → report_alone L s ends (move d g) ≡ cond (among d (held s)) (call_counts fresh (move d g)) (miss_counts fresh (move d g))
  unfolding call_checks
  move_report d g r = report_by (move d g) (among d (held s)) (taken-answer (move d g) d refl r)
