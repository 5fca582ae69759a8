-- Totals: of joined records, of records in range, of parts. Assumes nothing.
use Prim.Native.Nat.{ℕ, suc, ◌*◌, ◌≤◌, ◌<◌}
use mathlib.Core.Path.{◌≡◌, refl, sym, ap, ◌∙◌, subst}
use mathlib.Core.Bool.{Bool, true, false, cond, ◌&&◌}
use mathlib.Core.List.{List, [], ◌∷◌, ◌++◌, map, map-append}
use native.Mathlib.Omega.{arith}
use native.Mathlib.Nat.{mul-le-mul}
use lib.Dec.{T, leb, leb→le}
use lib.ListN.{length, take, drop, length-append, length-take, length-drop}
use Rattle.model.specs.declared.Delivery.{Delivery}
use Rattle.model.specs.declared.Totals.{Totals}
use Rattle.model.specs.Bounds.{most_slots}
use Rattle.model.specs.Calendar.{Span, span, is_in}
use Rattle.model.specs.Lists.{sum_of, every, keep}
use Rattle.model.specs.Deliveries.{grower_of, day_of, Slices, each_slice, rows, Even, LightTotals, plus_totals, in_range, matches, on_days, no_totals, totals_of, totals_between, totals_during}
use Rattle.model.proofs.Tests.{and_fst, and_snd, and_mk}
use Rattle.model.proofs.ListLaws.{sum-append, keep_append, keep_fewer, every_kept}
use Rattle.model.proofs.Deliveries.{slices_for_lem, values_rows, length-rows}
use Rattle.slices.specs.Slices.{all_within, count_between, Measured}

-- two tests, one of the records that pass the other
pub keep_both : (p q : Delivery → Bool) (l : List Delivery) → keep p (keep q l) ≡ keep (λ (d : Delivery). q d && p d) l
unfolding keep
keep_both p q [] = refl
keep_both p q (d ∷ l) = go (q d) (keep_both p q l)
  where
    kept : List Delivery
    kept = keep (λ (x : Delivery). q x && p x) l

    go : (a : Bool) → keep p (keep q l) ≡ kept → keep p (cond a (d ∷ keep q l) (keep q l)) ≡ cond (a && p d) (d ∷ kept) kept
    go true e = ap (λ (t : List Delivery). cond (p d) (d ∷ t) t) e
    go false e = e

-- Totals of records that were joined.

pub totals-joined : (lo hi : ℕ) (a b : List Delivery) → totals_between lo hi (a ++ b) ≡ plus_totals (totals_between lo hi a) (totals_between lo hi b)
unfolding totals_of
totals-joined lo hi a b =
    simp (keep_append, length-append, map-append, sum-append)

pub during-joined : (lo hi : ℕ) (s : Span) (a b : List Delivery) → totals_during lo hi s (a ++ b) ≡ plus_totals (totals_during lo hi s a) (totals_during lo hi s b)
during-joined lo hi s a b = ap (totals_between lo hi) (keep_append (on_days s) a b) ∙ totals-joined lo hi (keep (on_days s) a) (keep (on_days s) b)

-- Totals of records in range.

weights_most : (ds : List Delivery) → T (every in_range ds) → sum_of (map (λ (d : Delivery). d.weight) ds) ≤ 100000 * length ds
unfolding sum_of every
weights_most [] t = omega arith
weights_most (d ∷ ds) t =
    let h = and_fst (in_range d) (every in_range ds) t in
    omega (arith, leb→le d.weight 100000 (and_fst (leb d.weight 100000) (leb d.oil_yield 10000) h), weights_most ds (and_snd (in_range d) (every in_range ds) t))

oil_most : (ds : List Delivery) → T (every in_range ds) → sum_of (map (λ (d : Delivery). d.weight * d.oil_yield) ds) ≤ 1000000000 * length ds
unfolding sum_of every
oil_most [] t = omega arith
oil_most (d ∷ ds) t =
    let h = and_fst (in_range d) (every in_range ds) t in
    let w : d.weight ≤ 100000 = leb→le d.weight 100000 (and_fst (leb d.weight 100000) (leb d.oil_yield 10000) h) in
    let y : d.oil_yield ≤ 10000 = leb→le d.oil_yield 10000 (and_snd (leb d.weight 100000) (leb d.oil_yield 10000) h) in
    let p : d.weight * d.oil_yield ≤ 100000 * 10000 = mul-le-mul w y in
    omega (arith, oil_most ds (and_snd (in_range d) (every in_range ds) t))

all_light : (m : ℕ) (ds : List Delivery) → T (every in_range ds) → length ds ≤ m → LightTotals m (totals_of ds)
unfolding totals_of
all_light m ds t h = record { few = h; light = omega (arith, weights_most ds t); little = omega (arith, oil_most ds t) }

pub totals_light : (lo hi m : ℕ) (ds : List Delivery) → T (every in_range ds) → length ds ≤ m → LightTotals m (totals_between lo hi ds)
totals_light lo hi m ds t h = all_light m (keep (matches lo hi) ds) (every_kept in_range (matches lo hi) ds t) (omega (arith, keep_fewer (matches lo hi) ds))

pub during_light : (lo hi : ℕ) (s : Span) (m : ℕ) (ds : List Delivery) → T (every in_range ds) → length ds ≤ m → LightTotals m (totals_during lo hi s ds)
during_light lo hi s m ds t h = totals_light lo hi m (keep (on_days s) ds) (every_kept in_range (on_days s) ds t) (omega (arith, keep_fewer (on_days s) ds))

-- Records that were counted.

-- those whose number f is lo to hi
keep_by : (f : Delivery → ℕ) (test : ℕ → Bool) (ds : List Delivery) → length (keep test (map f ds)) ≡ length (keep (λ (d : Delivery). test (f d)) ds)
unfolding keep
keep_by f test [] = refl
keep_by f test (d ∷ ds) = go (test (f d)) (keep_by f test ds)
  where
    go : (t : Bool) → length (keep test (map f ds)) ≡ length (keep (λ (x : Delivery). test (f x)) ds)
        → length (cond t (f d ∷ keep test (map f ds)) (keep test (map f ds))) ≡ length (cond t (d ∷ keep (λ (x : Delivery). test (f x)) ds) (keep (λ (x : Delivery). test (f x)) ds))
    go true e = ap suc e
    go false e = e

keep_none : (f : Delivery → Bool) (l : List Delivery) → length (keep f l) ≡ 0 → keep f l ≡ []
keep_none f l e = empty (keep f l) e
  where
    empty : (k : List Delivery) → length k ≡ 0 → k ≡ []
    empty [] h = refl
    empty (d ∷ k) h = let z : ⊥ = omega arith in absurd z

keep_full : (f : Delivery → Bool) (l : List Delivery) → length (keep f l) ≡ length l → keep f l ≡ l
unfolding keep
keep_full f [] e = refl
keep_full f (d ∷ l) e = go (f d) (keep_full f l) (keep_fewer f l) e
  where
    go : (t : Bool) → (length (keep f l) ≡ length l → keep f l ≡ l) → length (keep f l) ≤ length l → length (cond t (d ∷ keep f l) (keep f l)) ≡ length (d ∷ l)
        → cond t (d ∷ keep f l) (keep f l) ≡ d ∷ l
    go true r h k = ap (λ (x : List Delivery). d ∷ x) (r (omega arith))
    go false r h k = let z : ⊥ = omega arith in absurd z

module _ (s : Slices) (m : Measured s) where
  values : T (every in_range (rows s))
  values = subst T (sym (values_rows s m.even)) (and_mk (all_within 100000 s.weights) (all_within 10000 s.yields) m.good_weights m.good_yields)

  rows_few : length (rows s) ≤ most_slots
  rows_few = omega (arith, m.few, length-rows s m.even)

  pub rows_light : LightTotals most_slots (totals_of (rows s))
  rows_light = all_light most_slots (rows s) values rows_few

module _ (lo hi : ℕ) (s : Slices) (m : Measured s) where
  counted : count_between lo hi s.growers ≡ length (keep (matches lo hi) (rows s))
  counted = ap (λ (t : Slices). count_between lo hi t.growers) (sym (slices_for_lem s m.even)) ∙ keep_by grower_of (is_in (span lo hi)) (rows s)

  pub none_between : count_between lo hi s.growers < 1 → no_totals ≡ totals_between lo hi (rows s)
  unfolding totals_of sum_of
  none_between h = rw (keep_none (matches lo hi) (rows s) (omega (arith, counted)))

  pub all_between : count_between lo hi s.growers ≡ length s.growers → totals_of (rows s) ≡ totals_between lo hi (rows s)
  all_between h =
      rw (keep_full (matches lo hi) (rows s) (omega (arith, counted, length-rows s m.even)))

  -- the totals of measured slices are small
  pub measured_light : (t : Totals) → t ≡ totals_between lo hi (rows s) → LightTotals most_slots t
  measured_light t e = subst (LightTotals most_slots) (sym e) (totals_light lo hi most_slots (rows s) (values s m) (rows_few s m))

-- Records of growers and days that were counted.

and_comm : (a b : Bool) → a && b ≡ b && a
and_comm true true = refl
and_comm true false = refl
and_comm false true = refl
and_comm false false = refl

module _ (lo hi first last : ℕ) (s : Slices) (m : Measured s) where
  pub dated : count_between first last s.days ≡ length (keep (on_days (span first last)) (rows s))
  dated = ap (λ (t : Slices). count_between first last t.days) (sym (slices_for_lem s m.even)) ∙ keep_by day_of (is_in (span first last)) (rows s)

  -- growers and days are tested in either order
  pub kept_either : keep (on_days (span first last)) (keep (matches lo hi) (rows s)) ≡ keep (matches lo hi) (keep (on_days (span first last)) (rows s))
  kept_either =
      keep_both (on_days (span first last)) (matches lo hi) (rows s) ∙ (λ i. keep (λ (d : Delivery). and_comm (matches lo hi d) (on_days (span first last) d) i) (rows s))
      ∙ sym (keep_both (matches lo hi) (on_days (span first last)) (rows s))

  -- where no grower is wanted nothing is added, and where all are only the days decide
  pub none_during : count_between lo hi s.growers < 1 → no_totals ≡ totals_during lo hi (span first last) (rows s)
  unfolding totals_of sum_of keep
  none_during h =
      let e : keep (matches lo hi) (rows s) ≡ [] = keep_none (matches lo hi) (rows s) (omega (arith, counted lo hi s m)) in
      ap totals_of (ap (keep (on_days (span first last))) (sym e) ∙ kept_either)

  pub all_during : count_between lo hi s.growers ≡ length s.growers → totals_of (keep (on_days (span first last)) (rows s)) ≡ totals_during lo hi (span first last) (rows s)
  all_during h =
      let e : keep (matches lo hi) (rows s) ≡ rows s = keep_full (matches lo hi) (rows s) (omega (arith, counted lo hi s m, length-rows s m.even)) in
      ap totals_of (ap (keep (on_days (span first last))) (sym e) ∙ kept_either)

  pub during_measured : (t : Totals) → t ≡ totals_during lo hi (span first last) (rows s) → LightTotals most_slots t
  during_measured t e = subst (LightTotals most_slots) (sym e) (during_light lo hi (span first last) most_slots (rows s) (values s m) (rows_few s m))

-- parts of even slices
pub even_part : (s : Slices) (k a : ℕ) → Even s → Even (each_slice (λ (l : List ℕ). take k (drop a l)) s)
even_part s k a e =
    record {
      weights = simp (length-take, length-drop) (omega (arith, e.weights));
      yields = simp (length-take, length-drop) (omega (arith, e.yields));
      days = simp (length-take, length-drop) (omega (arith, e.days));
    }
