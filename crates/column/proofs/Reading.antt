-- find and range. Assumes nothing.
use Prim.Native.Nat.{ℕ, ◌+◌, ◌-◌, ◌≤◌, ◌<◌}
use mathlib.Core.Path.{◌≡◌, refl, sym, ap, ap₂, ◌∙◌}
use mathlib.Core.Bool.{Bool, true, false, cond, ◌&&◌}
use mathlib.Core.List.{List}
use native.Mathlib.Omega.{arith}
use lib.ListN.{length, get_or}
use borrow.Author.Tests.{le-leb, lt-leb}
use Rattle.model.specs.declared.Delivery.{Delivery}
use Rattle.model.specs.declared.Counts.{Counts}
use Rattle.model.specs.declared.Totals.{Totals}
use Rattle.model.specs.Bounds.{most_slots}
use Rattle.model.specs.Lists.{sum_of, every}
use Rattle.model.specs.Checks.{first_failed}
use Rattle.model.specs.Deliveries.{Even, in_range, day_ok}
use Rattle.model.specs.Calendar.{Span}
use Rattle.model.specs.Calls.{range_days, span_ok}
use Rattle.model.specs.Partitions.{start_of, between}
use Rattle.model.specs.Directory.{directory_of}
use Rattle.model.specs.Column.{Column, slots, lengths_of, fences_of, target, scanned_ok, scanned_days_ok}
use Rattle.model.specs.Accesses.{reads_of, scan_counts, blocks_scanned, call_counts}
use Rattle.model.specs.Questions.{lent_checks, call_checks}
use Rattle.model.specs.ColumnCalls.{Called, column_refusal, call_totals, column_call}
use Rattle.model.proofs.Places.{placed, placed_mono}
use Rattle.model.proofs.Parts.{stop_le}
use Rattle.model.proofs.Deliveries.{length-rows}
use Rattle.scan.specs.declared.Scan.{Scan}
use Rattle.scan.specs.Scans.{all_fit, records_in, found_in, scan_of}
use Rattle.scan.proofs.Fitting.{fit_some, fit_none, values_pass, days_pass}
use Rattle.std.specs.Prelude.{Ok, Option, Some, None}
use Rattle.model.specs.declared.refusal.Refusal.{Refusal}
use Rattle.model.specs.declared.refusal.Refusal.TheVariants.{Range, Values, Days}
use Rattle.model.specs.declared.answers.Refused.{Refused}
use Rattle.model.specs.Answers.{refused_ahead, answer_of}
use Rattle.column.specs.Answers.{RefusedBy}
use Rattle.directory.specs.Numbers.{HasPartition}
use Rattle.directory.proofs.LentColumns.{LentColumn, lent_column, count_lengths, count_fences, has_partition}
use Rattle.column.proofs.Answering.{lent_yes, refused_ahead_by, accepted_call}

and-true : (a : Bool) → a && true ≡ a
and-true true = refl
and-true false = refl

and-false : (a : Bool) → a && false ≡ false
and-false true = refl
and-false false = refl

module _ (L : ℕ) where
  module _ (c : Column) (h : first_failed (lent_checks L c) ≡ 0) where
    l : LentColumn L c
    l = lent_column L c h

    pub lengths_fit : sum_of (lengths_of L c) ≤ length (slots c)
    lengths_fit = omega (arith, length-rows c.slices l.even, l.shape.room)

    -- where lo and hi go
    pub target_there : (g : ℕ) → target L c g < length (lengths_of L c)
    target_there g = omega (arith, (placed (fences_of L c) g (omega (arith, count_fences L c l, l.shape.some))).within, count_fences L c l, count_lengths L c l)

    pub targets_ordered : (lo hi : ℕ) → lo ≤ hi → target L c lo ≤ target L c hi
    targets_ordered lo hi k =
        let one : 0 < length (fences_of L c) = omega (arith, count_fences L c l, l.shape.some) in
        placed_mono (fences_of L c) lo hi _ _ k (placed (fences_of L c) lo one) (placed (fences_of L c) hi one)

    -- the scan that is asked for, in the column's terms
    pub scan_is : (lo hi : ℕ) (z : Span) (lens : List ℕ) (from to b : ℕ) (ds : List Delivery) (s : Option Scan) → lens ≡ lengths_of L c → from ≡ target L c lo → to ≡ target L c hi
        → b ≡ get_or c.directory 0 0 → ds ≡ slots c → s ≡ scan_of b lens from (to + 1 - from) lo hi z ds
        → s ≡ scan_of (get_or c.directory 0 0) (lengths_of L c) (target L c lo) (target L c hi + 1 - target L c lo) lo hi z (slots c)
    scan_is lo hi z lens from to b ds s el ef et eb ed e = rw (el, ef, et, eb, ed) at e

    pub failed_is : (lo hi : ℕ) (lens : List ℕ) (from to : ℕ) (ds : List Delivery) (r : Refusal) → lens ≡ lengths_of L c → from ≡ target L c lo → to ≡ target L c hi → ds ≡ slots c
        → r ≡ cond (every in_range (records_in lens from (to + 1 - from) ds)) Days Values
        → r ≡ cond (every in_range (records_in (lengths_of L c) (target L c lo) (target L c hi + 1 - target L c lo) (slots c))) Days Values
    failed_is lo hi lens from to ds r el ef et ed e = rw (el, ef, et, ed) at e

    -- refused by 7
    pub range_backwards : (lo hi : ℕ) (z : Span) (x : Refused) → x ≡ refused_ahead Range → hi < lo → RefusedBy L c (range_days lo hi z) x
    unfolding call_checks first_failed
    range_backwards lo hi z x w k = refused_ahead_by L c (range_days lo hi z) Range x w (lent_yes L c (range_days lo hi z) h ∙ rw (lt-leb lo hi k)) (λ e. omega arith)

    module _ (lo hi : ℕ) (z : Span) (k : lo ≤ hi) where
      answered : (b t : Bool) → scanned_ok L c lo hi ≡ b → span_ok z && scanned_days_ok L c lo hi ≡ t → column_refusal L c (range_days lo hi z) ≡ cond b (cond t 0 19) 8
      unfolding call_checks first_failed
      answered b t f g = lent_yes L c (range_days lo hi z) h ∙ rw (le-leb lo hi k, f, g)

      -- the records scanned
      abbrev scanned : List Delivery
      scanned = records_in (lengths_of L c) (target L c lo) (target L c hi + 1 - target L c lo) (slots c)

      -- what the scan of them finds, and the scan
      abbrev found : Scan
      found = found_in (get_or c.directory 0 0) (lengths_of L c) (target L c lo) (target L c hi + 1 - target L c lo) lo hi z (slots c)

      abbrev scan : Option Scan
      scan = scan_of (get_or c.directory 0 0) (lengths_of L c) (target L c lo) (target L c hi + 1 - target L c lo) lo hi z (slots c)

      -- refused by 8, or else by 19
      pub range_bad : None ≡ scan → (r : Refusal) → r ≡ cond (every in_range scanned) Days Values → (x : Refused) → x ≡ refused_ahead r → RefusedBy L c (range_days lo hi z) x
      unfolding scanned_ok scanned_days_ok between
      range_bad e r i x w = go (every in_range scanned) refl (fit_none scanned found e)
        where
          go : (v : Bool) → every in_range scanned ≡ v → v && every day_ok scanned ≡ false → RefusedBy L c (range_days lo hi z) x
          go true j k =
              let n : r ≡ Days = i ∙ rw j in
              let u : span_ok z && every day_ok scanned ≡ false = rw k (and-false (span_ok z)) in
              refused_ahead_by L c (range_days lo hi z) Days x (w ∙ ap refused_ahead n) (answered true false j u) (λ o. omega arith)
          go false j k =
              let n : r ≡ Values = i ∙ rw j in
              refused_ahead_by L c (range_days lo hi z) Values x (w ∙ ap refused_ahead n) (answered false _ j refl) (λ o. omega arith)

      -- check 19 of the days named
      module _ (s : Scan) (e : Some s ≡ scan) (v : Bool) (p : v ≡ span_ok z) where
        good : (all_fit scanned ≡ true) × (s ≡ found)
        good = fit_some scanned s found e

        dated : span_ok z && scanned_days_ok L c lo hi ≡ v
        unfolding scanned_days_ok between
        dated = rw (days_pass scanned good.0) (and-true (span_ok z) ∙ sym p)

        -- refused by 19
        pub range_undated : (x : Refused) → x ≡ refused_ahead Days → v ≡ false → RefusedBy L c (range_days lo hi z) x
        unfolding scanned_ok between
        range_undated x w i = refused_ahead_by L c (range_days lo hi z) Days x w (answered true false (values_pass scanned good.0) (dated ∙ i)) (λ j. omega arith)

        -- accepted
        pub range_good : (n : Counts) → v ≡ true → n ≡ reads_of s.blocks
            → answer_of (Ok (record { counts = n; totals = s.totals })) ≡ (column_call L c (range_days lo hi z)).answer
        unfolding scanned_ok between call_totals call_counts scan_counts blocks_scanned directory_of
        range_good n i j =
            ap₂ (λ (t : Totals) (m : Counts). answer_of (Ok (record { counts = m; totals = t }))) (ap (λ (x : Scan). x.totals) good.1) (j ∙ ap (λ (x : Scan). reads_of x.blocks) good.1)
            ∙ ap (λ (x : Called). x.answer) (accepted_call L c (range_days lo hi z) (answered true true (values_pass scanned good.0) (dated ∙ i)))

  -- a grower's partition, which the checks have found, lies in the slices
  pub record Near (c : Column) (g a n : ℕ) : Type 0 where
    pub start : a ≡ start_of (lengths_of L c) (target L c g)
    pub count : n ≡ get_or (lengths_of L c) (target L c g) 0
    pub inside : a + n ≤ length c.slices.growers
    pub most : length c.slices.growers ≤ most_slots
    pub even : Even c.slices

  module _ (c : Column) (g : ℕ) (h : first_failed (lent_checks L c) ≡ 0) (t a : ℕ) (et : t ≡ target L c g) (ea : a ≡ start_of (lengths_of L c) (target L c g)) where
    pub near_partition : HasPartition L c.directory t
    near_partition = rw et (has_partition L c (lent_column L c h) (target L c g) (target_there c h g))

    pub near : (n : ℕ) → n ≡ get_or (lengths_of L c) t 0 → Near c g a n
    near n e =
        let l = lent_column L c h in
        let k : n ≡ get_or (lengths_of L c) (target L c g) 0 = e ∙ ap (λ (u : ℕ). get_or (lengths_of L c) u 0) et in
        record {
          start = ea;
          count = k;
          inside = omega (arith, ea, stop_le (lengths_of L c) (target L c g) (target_there c h g), l.shape.room);
          most = l.most;
          even = l.even;
        }
