-- Scans of the rows of the slices: totals of those in a range, and the first that is a given delivery. Assumes nothing.
use Prim.Native.Nat.{ℕ, zero, suc, ◌+◌, ◌*◌, ◌≤◌, ◌<◌}
use mathlib.Core.Path.{◌≡◌, refl, sym, ap, ◌∙◌}
use mathlib.Core.Bool.{Bool, true, false, cond, ◌&&◌}
use mathlib.Core.List.{List, [], ◌∷◌, map}
use native.Mathlib.Omega.{arith}
use native.Mathlib.Nat.{mul-le-mul}
use borrow.Author.Tests.{ne_eqb, le-leb, leb-true}
use lib.Dec.{T, leb, eqb}
use native.Mathlib.Numerals.{add-one}
use lib.ListN.{length, get_or, drop, drop_of_length-le}
use lib.Seq.{drop-cons}
use Rattle.model.specs.declared.Delivery.{Delivery}
use Rattle.model.specs.declared.Totals.{Totals}
use Rattle.model.specs.Lists.{sum_of, every, keep}
use Rattle.model.specs.Deliveries.{Slices, each_slice, rows, Even, zipped, totals_of, same, first_match}
use Rattle.model.proofs.Tests.{and_fst, and_snd, is_true}
use Rattle.model.proofs.Deliveries.{row_at, rows_from}
use Rattle.slices.specs.Slices.{all_within, Measured}
use Rattle.slices.proofs.Flags.{and_both}

-- a number of a slice whose numbers are all within m; past its end it is 0
within_at : (m : ℕ) (s : List ℕ) → T (all_within m s) → (i : ℕ) → get_or s i 0 ≤ m
unfolding every
within_at m [] t i = omega arith
within_at m (x ∷ s) t zero = leb-true x m (is_true (leb x m) (and_fst (leb x m) (every (λ (n : ℕ). leb n m) s) t))
within_at m (x ∷ s) t (suc i) = within_at m s (and_snd (leb x m) (every (λ (n : ℕ). leb n m) s) t) i

-- the rows from i on that pass a test
unfoldable pub rest : (Delivery → Bool) → Slices → ℕ → List Delivery
rest f s i = keep f (rows (each_slice (drop i) s))

abbrev weight_of : List Delivery → ℕ
weight_of l = sum_of (map (λ (d : Delivery). d.weight) l)

abbrev oil_of : List Delivery → ℕ
oil_of l = sum_of (map (λ (d : Delivery). d.weight * d.oil_yield) l)

-- what a loop has when it stands at i: so far, and the rest, is the whole
pub record Running (f : Delivery → Bool) (s : Slices) (records weight oil i : ℕ) : Type 0 where
  pub at : i ≤ length s.growers
  pub counted : records + length (rest f s i) ≡ length (rest f s 0)
  pub weighed : weight + weight_of (rest f s i) ≡ weight_of (rest f s 0)
  pub pressed : oil + oil_of (rest f s i) ≡ oil_of (rest f s 0)

-- bounds of what i records add up to
pub record Bounded (records weight oil i : ℕ) : Type 0 where
  pub few : records ≤ i
  pub light : weight ≤ 100000 * i
  pub little : oil ≤ 1000000000 * i

-- the weight and the yield of one record
pub record Modest (s : Slices) (i : ℕ) : Type 0 where
  pub weight : get_or s.weights i 0 ≤ 100000
  pub oil : get_or s.weights i 0 * get_or s.yields i 0 ≤ 1000000000

pub modest : (s : Slices) (i : ℕ) → Measured s → Modest s i
modest s i m =
    let a : get_or s.weights i 0 ≤ 100000 = within_at 100000 s.weights m.good_weights i in
    let b : get_or s.yields i 0 ≤ 10000 = within_at 10000 s.yields m.good_yields i in
    record { weight = a; oil = mul-le-mul a b }

pub running_start : (f : Delivery → Bool) (s : Slices) → Running f s 0 0 0 0
running_start f s = omega arith

module _ (f : Delivery → Bool) (s : Slices) (m : Measured s) (records weight oil i : ℕ) (h : i < length s.growers) (t : Running f s records weight oil i) where
  step : (b : Bool) → f (row_at s i) ≡ b → rest f s i ≡ cond b (row_at s i ∷ rest f s (i + 1)) (rest f s (i + 1))
  unfolding rest keep
  step b e = rw (rows_from s i h m.even, e)

  pub running_take : f (row_at s i) ≡ true → Running f s (records + 1) (weight + get_or s.weights i 0) (oil + get_or s.weights i 0 * get_or s.yields i 0) (i + 1)
  unfolding sum_of
  running_take k =
      let e : rest f s i ≡ row_at s i ∷ rest f s (i + 1) = step true k in
      record {
        at = omega arith;
        counted = omega (arith, ap length e, t.counted);
        weighed = omega (arith, ap weight_of e, t.weighed);
        pressed = omega (arith, ap oil_of e, t.pressed);
      }

  pub running_pass : f (row_at s i) ≡ false → Running f s records weight oil (i + 1)
  running_pass k =
      let e : rest f s i ≡ rest f s (i + 1) = step false k in
      record {
        at = omega arith;
        counted = omega (arith, ap length e, t.counted);
        weighed = omega (arith, ap weight_of e, t.weighed);
        pressed = omega (arith, ap oil_of e, t.pressed);
      }

  -- after a record that counts if t
  pub running_by : (t : Bool) → f (row_at s i) ≡ t → (x y z : ℕ) → x ≡ cond t 1 0 → y ≡ cond t (get_or s.weights i 0) 0 → z ≡ cond t (get_or s.weights i 0 * get_or s.yields i 0) 0
      → Running f s (records + x) (weight + y) (oil + z) (i + 1)
  running_by true e x y z p q r = rw (p, q, r) (running_take e)
  running_by false e x y z p q r =
      let a : records + 0 ≡ records = omega arith in
      let b : weight + 0 ≡ weight = omega arith in
      let c : oil + 0 ≡ oil = omega arith in
      rw (p, q, r, a, b, c) (running_pass e)

-- the bounds after a record that counts if t
module _ (s : Slices) (m : Measured s) (records weight oil i : ℕ) (b : Bounded records weight oil i) where
  pub bounded_by : (t : Bool) (x y z : ℕ) → x ≡ cond t 1 0 → y ≡ cond t (get_or s.weights i 0) 0 → z ≡ cond t (get_or s.weights i 0 * get_or s.yields i 0) 0
      → Bounded (records + x) (weight + y) (oil + z) (i + 1)
  bounded_by true x y z p q r =
      let o = modest s i m in
      record { few = omega (arith, b.few, p); light = omega (arith, b.light, o.weight, q); little = omega (arith, b.little, o.oil, r) }
  bounded_by false x y z p q r = record { few = omega (arith, b.few, p); light = omega (arith, b.light, q); little = omega (arith, b.little, r) }

rest_end : (f : Delivery → Bool) (s : Slices) (i : ℕ) → length s.growers ≤ i → rest f s i ≡ []
unfolding rest zipped keep
rest_end f s i h = rw (drop_of_length-le s.growers h)

rest_all : (f : Delivery → Bool) (s : Slices) → rest f s 0 ≡ keep f (rows s)
unfolding rest
rest_all f s = refl

pub running_end : (f : Delivery → Bool) (s : Slices) (records weight oil i : ℕ) → length s.growers ≤ i → Running f s records weight oil i
    → ◌≡◌ {A = Totals} (record { records = records; weight = weight; oil = oil }) (totals_of (keep f (rows s)))
unfolding totals_of sum_of
running_end f s records weight oil i h t =
    let e : rest f s i ≡ [] = rest_end f s i h in
    let a : keep f (rows s) ≡ rest f s 0 = sym (rest_all f s) in
    let er : records ≡ length (rest f s 0) = omega (arith, ap length e, t.counted) in
    let ew : weight ≡ weight_of (rest f s 0) = omega (arith, ap weight_of e, t.weighed) in
    let eo : oil ≡ oil_of (rest f s 0) = omega (arith, ap oil_of e, t.pressed) in
    rw (a, er, ew, eo)

-- The tests: a grower in a range, and any.

abbrev pub inside : ℕ → ℕ → ℕ → Bool
inside lo hi x = leb lo x && leb x hi

pub is_inside : (lo hi x : ℕ) → lo ≤ x → x ≤ hi → inside lo hi x ≡ true
is_inside lo hi x l m = rw (le-leb lo x l, le-leb x hi m)

pub is_equal : (q x : ℕ) → x ≡ q → inside q q x ≡ true
is_equal q x e = is_inside q q x (omega arith) (omega arith)

pub is_other : (q x : ℕ) → (x ≡ q → ⊥) → inside q q x ≡ false
is_other q x h = go (leb q x) (leb x q) refl refl
  where
    go : (a b : Bool) → leb q x ≡ a → leb x q ≡ b → a && b ≡ false
    go true true l m = absurd (h (omega (arith, leb-true q x l, leb-true x q m)))
    go true false l m = refl
    go false b l m = refl

-- Growers counted.

pub record Counting (f : ℕ → Bool) (s : List ℕ) (n i : ℕ) : Type 0 where
  pub at : i ≤ length s
  pub so_far : n + length (keep f (drop i s)) ≡ length (keep f s)
  pub few : n ≤ i

pub counting_start : (f : ℕ → Bool) (s : List ℕ) → Counting f s 0 0
counting_start f s = omega arith

module _ (f : ℕ → Bool) (s : List ℕ) (n i : ℕ) (h : i < length s) (w : Counting f s n i) where
  next : (b : Bool) → f (get_or s i 0) ≡ b → keep f (drop i s) ≡ cond b (get_or s i 0 ∷ keep f (drop (i + 1) s)) (keep f (drop (i + 1) s))
  unfolding keep
  next b e = rw (drop-cons s i 0 h, add-one, e)

  pub counting_yes : f (get_or s i 0) ≡ true → Counting f s (n + 1) (i + 1)
  counting_yes e = record { at = omega arith; so_far = omega (arith, ap length (next true e), w.so_far); few = omega (arith, w.few) }

  pub counting_no : f (get_or s i 0) ≡ false → Counting f s n (i + 1)
  counting_no e = record { at = omega arith; so_far = omega (arith, ap length (next false e), w.so_far); few = omega (arith, w.few) }

pub counting_end : (f : ℕ → Bool) (s : List ℕ) (n i : ℕ) → length s ≤ i → Counting f s n i → n ≡ length (keep f s)
unfolding keep
counting_end f s n i h w = omega (arith, ap (λ (l : List ℕ). length (keep f l)) (drop_of_length-le s h), w.so_far)

abbrev pub any : Delivery → Bool
any d = true

pub keep_any : (l : List Delivery) → keep any l ≡ l
unfolding keep
keep_any [] = refl
keep_any (d ∷ l) = ap (λ (t : List Delivery). d ∷ t) (keep_any l)

-- The first that is the delivery.

-- the test as it is derived
pub same_is : (a b : Delivery) → same a b ≡ eqb a.grower b.grower && (eqb a.weight b.weight && (eqb a.oil_yield b.oil_yield && eqb a.day b.day))
same_is a b = and_both (eqb a.grower b.grower && eqb a.weight b.weight) (eqb a.oil_yield b.oil_yield) (eqb a.day b.day)
    ∙ and_both (eqb a.grower b.grower) (eqb a.weight b.weight) (eqb a.oil_yield b.oil_yield && eqb a.day b.day)

pub other_grower : (a b : Delivery) → (a.grower ≡ b.grower → ⊥) → same a b ≡ false
other_grower a b h = rw (ne_eqb a.grower b.grower h)

-- none before i is
pub record Searched (d : Delivery) (s : Slices) (i : ℕ) : Type 0 where
  pub at : i ≤ length s.growers
  pub none_yet : first_match d (rows s) ≡ i + first_match d (rows (each_slice (drop i) s))

pub search_start : (d : Delivery) (s : Slices) → Searched d s 0
search_start d s = record { at = omega arith; none_yet = omega arith }

module _ (d : Delivery) (s : Slices) (i : ℕ) (h : i < length s.growers) (p : Even s) (t : Searched d s i) where
  at_i : (b : Bool) → same d (row_at s i) ≡ b → first_match d (rows (each_slice (drop i) s)) ≡ cond b 0 (first_match d (rows (each_slice (drop (i + 1)) s)) + 1)
  unfolding first_match
  at_i b e = rw (rows_from s i h p, e)

  pub search_found : same d (row_at s i) ≡ true → i ≡ first_match d (rows s)
  search_found e = omega (arith, t.none_yet, at_i true e)

  pub search_next : same d (row_at s i) ≡ false → Searched d s (i + 1)
  search_next e = record { at = omega arith; none_yet = omega (arith, t.none_yet, at_i false e) }

pub search_end : (d : Delivery) (s : Slices) (i : ℕ) → length s.growers ≤ i → Searched d s i → i ≡ first_match d (rows s)
unfolding first_match zipped
search_end d s i h t =
    let e : first_match d (rows (each_slice (drop i) s)) ≡ 0 = rw (drop_of_length-le s.growers h) in
    omega (arith, t.none_yet)
