-- A range over days: with the last day earlier it matches nothing, and a range is the one over all days, since 19 is put of what it scans. Assumes nothing.
use Prim.Native.Nat.{ℕ, ◌<◌}
use mathlib.Core.Path.{◌≡◌, refl, ap}
use mathlib.Core.Bool.{Bool, true, false, cond, ◌&&◌}
use mathlib.Core.List.{List, [], ◌∷◌}
use native.Mathlib.Omega.{arith}
use borrow.Author.Tests.{le-leb, lt-leb, leb-true}
use lib.Dec.{T, leb, eqb, eqb→eq}
use lib.ListN.{length}
use Rattle.model.specs.declared.Delivery.{Delivery}
use Rattle.model.specs.declared.Totals.{Totals}
use Rattle.model.specs.Bounds.{most_day}
use Rattle.model.specs.Lists.{sum_of, every, keep}
use Rattle.model.specs.Calendar.{Span, span}
use Rattle.model.specs.Deliveries.{day_ok, on_days, no_totals, totals_of, totals_between, totals_during}
use Rattle.model.specs.Blocks.{slices_ok}
use Rattle.model.specs.Calls.{range, range_days}
use Rattle.model.specs.Directory.{directory_of, directory_block_ok, directory_ok}
use Rattle.model.specs.Column.{Column, target, records_of, scanned_ok, scanned_days_ok}
use Rattle.model.specs.Accesses.{call_counts, miss_counts}
use Rattle.model.specs.Questions.{call_checks, column_checks}
use Rattle.model.specs.ColumnCalls.{Called, call_totals, column_after, column_refusal, refused_counts, column_call}
use Rattle.model.proofs.Tests.{and_fst, and_snd, and_mk, of_true, is_true, yes_first}

keep_nothing : {A : Type 0} (f : A → Bool) → ((x : A) → f x ≡ false) → (l : List A) → keep f l ≡ []
unfolding keep
keep_nothing f h [] = refl
keep_nothing f h (x ∷ l) = rw (h x, keep_nothing f h l)

keep-every : {A : Type 0} (f : A → Bool) (l : List A) → T (every f l) → keep f l ≡ l
unfolding keep every
keep-every f [] t = refl
keep-every f (x ∷ l) t = rw (is_true (f x) (and_fst (f x) (every f l) t), keep-every f l (and_snd (f x) (every f l) t))

-- no day is in a span whose last day is earlier than its first
on_no_day : (s : Span) → s.last < s.first → (d : Delivery) → on_days s d ≡ false
on_no_day s h d = go (leb s.first d.day) refl
  where
    go : (b : Bool) → leb s.first d.day ≡ b → b && leb d.day s.last ≡ false
    go true e = lt-leb d.day s.last (omega (arith, leb-true s.first d.day e, h))
    go false e = refl

pub nothing_during : (lo hi : ℕ) (s : Span) (ds : List Delivery) → s.last < s.first → totals_during lo hi s ds ≡ no_totals
unfolding totals_of keep sum_of
nothing_during lo hi s ds h = rw (keep_nothing (on_days s) (on_no_day s h) ds)

-- every day that passes 19 is in the span of all days
on_some_day : (ds : List Delivery) → T (every day_ok ds) → T (every (on_days (span 0 most_day)) ds)
unfolding every
on_some_day [] t = tt
on_some_day (d ∷ ds) t =
    let r = every (on_days (span 0 most_day)) ds in
    rw (le-leb 0 d.day (omega arith)) (and_mk (day_ok d) r (and_fst (day_ok d) (every day_ok ds) t) (on_some_day ds (and_snd (day_ok d) (every day_ok ds) t)))

pub every_day_lem : (lo hi : ℕ) (ds : List Delivery) → T (every day_ok ds) → totals_during lo hi (span 0 most_day) ds ≡ totals_between lo hi ds
every_day_lem lo hi ds t = ap (totals_between lo hi) (keep-every (on_days (span 0 most_day)) ds (on_some_day ds t))

module _ (L : ℕ) (c : Column) (lo hi : ℕ) where
  abbrev refusal : ℕ
  refusal = column_refusal L c (range lo hi)

  -- check 19 of a range that is accepted
  days_passed : refusal ≡ 0 → T (scanned_days_ok L c lo hi)
  unfolding column_refusal column_checks call_checks
  days_passed h =
      let c2 = yes_first 1 (directory_block_ok L c.directory) _ h in
      let c3 = yes_first 2 (slices_ok c.slices) _ c2.1 in
      let c6 = yes_first 5 (directory_ok L (length c.slices.growers) c.directory) _ c3.1 in
      let c7 = yes_first 6 (leb lo hi) _ c6.1 in
      let c8 = yes_first 7 (scanned_ok L c lo hi) _ c7.1 in
      (yes_first 18 (scanned_days_ok L c lo hi) _ c8.1).0

  pub over_all_days : column_call L c (range_days lo hi (span 0 most_day)) ≡ column_call L c (range lo hi)
  unfolding column_call column_refusal column_checks call_checks refused_counts miss_counts call_counts call_totals column_after scanned_days_ok
  over_all_days = go (eqb refusal 0) refl
    where
      given : Totals → Called
      given t = record { answer = record { refusal = 0; totals = t; counts = call_counts (directory_of L c.directory) (range lo hi) }; column = c }

      other : Called
      other = record { answer = record { refusal = refusal; totals = no_totals; counts = refused_counts L c (range lo hi) }; column = c }

      go : (b : Bool) → eqb refusal 0 ≡ b
          → cond b (given (call_totals L c (range_days lo hi (span 0 most_day)))) other ≡ cond b (given (call_totals L c (range lo hi))) other
      go true e = ap given (every_day_lem lo hi (records_of L c (target L c lo) (target L c hi)) (days_passed (eqb→eq refusal 0 (of_true _ e))))
      go false e = refl
