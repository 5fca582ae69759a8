-- A scan of partitions, one after the other. Assumes nothing.
use Prim.Native.Nat.{ℕ, ◌+◌, ◌-◌, ◌≤◌, ◌<◌}
use mathlib.Core.Path.{◌≡◌, refl, sym, ap, ◌∙◌}
use mathlib.Core.Bool.{Bool, true, false, cond, ◌&&◌}
use Rattle.std.proofs.Common.{Option, Some, None}
use Rattle.std.specs.Prelude.{IfSome}
use mathlib.Core.List.{List, [], ◌∷◌, ◌++◌, append-nil, map, map-append, flatten}
use native.Mathlib.Omega.{arith}
use native.Mathlib.Numerals.{add-one}
use lib.ListN.{length, get_or, take, drop, length-take, length-drop}
use lib.Seq.{take-add, take-suc, get_or-drop}
use Rattle.model.specs.declared.Delivery.{Delivery}
use Rattle.model.specs.declared.Totals.{Totals}
use Rattle.model.specs.Bounds.{most_slots}
use Rattle.model.specs.Lists.{sum_of, every, keep}
use Rattle.model.specs.Calendar.{Span}
use Rattle.model.specs.Deliveries.{Slices, each_slice, rows, Even, LightTotals, plus_totals, in_range, no_totals, totals_of, totals_during}
use Rattle.model.specs.Partitions.{parts, part, start_of}
use Rattle.model.specs.Accesses.{blocks_of}
use Rattle.model.proofs.AccessLaws.{blocks_none, blocks_most}
use Rattle.model.proofs.ListLaws.{sum-append, sum_cut, sum-take_le, flatten-append}
use Rattle.model.proofs.Parts.{flatten-parts, take-parts, drop-parts, part-parts, part_none, length-parts, start_next}
use Rattle.model.proofs.Deliveries.{rows-part, values_rows}
use Rattle.scan.specs.declared.Scan.{Scan}
use Rattle.checks.specs.Values.{all_values_ok}
use Rattle.slices.proofs.Sums.{during-joined, even_part}
use Rattle.scan.specs.Scans.{all_fit, records_in, found_in, scan_of}
use Rattle.scan.proofs.Fitting.{fit_joined, fit_broken, fit_yes, totals_small}

-- Partitions, one after the other.

module _ (b : ℕ) (ns : List ℕ) (p : ℕ) (ds : List Delivery) where
  records_next : (n : ℕ) → p + n < length ns → records_in ns p (n + 1) ds ≡ records_in ns p n ds ++ part (p + n) (parts ns ds)
  unfolding flatten
  records_next n h =
      let l : List (List Delivery) = drop p (parts ns ds) in
      let k : n < length l = omega (arith, length-drop p (parts ns ds), length-parts ns ds) in
      let e : get_or l n [] ≡ part (p + n) (parts ns ds) = get_or-drop p (parts ns ds) n [] in
      ap (λ (m : ℕ). flatten (take m l)) (add-one n) ∙ ap flatten (take-suc l n [] k) ∙ flatten-append (take n l) (get_or l n [] ∷ [])
      ∙ ap (λ (x : List Delivery). flatten (take n l) ++ x) (append-nil (get_or l n []) ∙ e)

  blocks_next : (n : ℕ) → p + n < length ns → sum_of (map (blocks_of b) (take (n + 1) (drop p ns))) ≡ sum_of (map (blocks_of b) (take n (drop p ns))) + blocks_of b (get_or ns (p + n) 0)
  unfolding sum_of
  blocks_next n h =
      let l : List ℕ = drop p ns in
      let k : n < length l = omega (arith, length-drop p ns) in
      let e : get_or l n 0 ≡ get_or ns (p + n) 0 = get_or-drop p ns n 0 in
      ap (λ (m : ℕ). sum_of (map (blocks_of b) (take m l))) (add-one n)
      ∙ ap (λ (x : List ℕ). sum_of (map (blocks_of b) x)) (take-suc l n 0 k)
      ∙ ap sum_of (map-append (blocks_of b) (take n l) (get_or l n 0 ∷ []))
      ∙ sum-append (map (blocks_of b) (take n l)) _
      ∙ ap (λ (x : ℕ). sum_of (map (blocks_of b) (take n l)) + (blocks_of b x + 0)) e
      ∙ omega arith

  -- an empty partition has no record and no block
  module _ (n : ℕ) (h : p + n < length ns) (e : get_or ns (p + n) 0 ≡ 0) where
    records_same : records_in ns p (n + 1) ds ≡ records_in ns p n ds
    records_same = records_next n h ∙ ap (λ (l : List Delivery). records_in ns p n ds ++ l) (part_none (p + n) ns ds e) ∙ append-nil (records_in ns p n ds)

    blocks_same : 1 ≤ b → sum_of (map (blocks_of b) (take (n + 1) (drop p ns))) ≡ sum_of (map (blocks_of b) (take n (drop p ns)))
    blocks_same one = omega (arith, blocks_next n h, ap (blocks_of b) e, blocks_none b one)

-- an empty partition leaves a scan as it was, of any records
pub scan_empty : (b : ℕ) (ns : List ℕ) (p lo hi : ℕ) (z : Span) (ds : List Delivery) (n : ℕ) → p + n < length ns → 1 ≤ b → get_or ns (p + n) 0 ≡ 0
    → scan_of b ns p (n + 1) lo hi z ds ≡ scan_of b ns p n lo hi z ds
scan_empty b ns p lo hi z ds n h one e = rw (records_same b ns p ds n h e, blocks_same b ns p ds n h e one)

blocks-sum : (b : ℕ) (l : List ℕ) → 1 ≤ b → sum_of (map (blocks_of b) l) ≤ sum_of l
unfolding sum_of
blocks-sum b [] h = omega arith
blocks-sum b (n ∷ l) h = omega (arith, blocks_most b n h, blocks-sum b l h)

-- a scan of at most m records
pub record Light (m : ℕ) (s : Scan) : Type 0 where
  pub light : LightTotals m s.totals
  pub short : s.blocks ≤ m

module _ (b : ℕ) (ns : List ℕ) (p n lo hi : ℕ) (z : Span) (ds : List Delivery) (one : 1 ≤ b) (room : sum_of ns ≤ length ds) (few : length ds ≤ most_slots) where
  -- the counters stay small
  found_light : all_fit (records_in ns p n ds) ≡ true → (s : Scan) → s ≡ found_in b ns p n lo hi z ds → Light most_slots s
  found_light e s f =
      let len : length (records_in ns p n ds) ≤ length ds = rw (drop-parts, take-parts, flatten-parts, length-take, length-drop) (omega arith) in
      record {
        light = totals_small lo hi z (records_in ns p n ds) e (omega (arith, len)) s.totals (ap (λ (x : Scan). x.totals) f);
        short = omega (arith, ap (λ (x : Scan). x.blocks) f, sum-take_le (drop p ns) n, sum_cut p ns, blocks-sum b (take n (drop p ns)) one);
      }

  -- of any records, what a scan finds
  pub scan_light : IfSome (scan_of b ns p n lo hi z ds) (Light most_slots)
  scan_light = go (all_fit (records_in ns p n ds)) refl
    where
      go : (t : Bool) → all_fit (records_in ns p n ds) ≡ t → IfSome (cond t (Some (found_in b ns p n lo hi z ds)) None) (Light most_slots)
      go true e = found_light e (found_in b ns p n lo hi z ds) refl
      go false e = tt

-- The loop.

pub record Scanning (b : ℕ) (ns : List ℕ) (p lo hi : ℕ) (z : Span) (ds : List Delivery) (at i : ℕ) (t : Totals) (n : ℕ) : Type 0 where
  pub from : p ≤ i
  pub here : at ≡ start_of ns i
  pub fit : all_fit (records_in ns p (i - p) ds) ≡ true
  pub totalled : t ≡ totals_during lo hi z (records_in ns p (i - p) ds)
  pub counted : n ≡ sum_of (map (blocks_of b) (take (i - p) (drop p ns)))

pub scanning_start : (b : ℕ) (ns : List ℕ) (p lo hi : ℕ) (z : Span) (ds : List Delivery) (at : ℕ) → at ≡ start_of ns p → Scanning b ns p lo hi z ds at p no_totals 0
unfolding every keep totals_of sum_of flatten
scanning_start b ns p lo hi z ds at e =
    let o : p - p ≡ 0 = omega arith in
    record { from = omega arith; here = e; fit = rw o; totalled = rw o; counted = rw o }

-- the part that is lent is the partition
pub lent_part_lem : (ns : List ℕ) (i a n : ℕ) (ss : Slices) → a ≡ start_of ns i → n ≡ get_or ns i 0
    → rows (each_slice (λ (l : List ℕ). take (a + n - a) (drop a l)) ss) ≡ part i (parts ns (rows ss))
lent_part_lem ns i a n ss ea en =
    let e : a + n - a ≡ n = omega arith in
    rw (rows-part (a + n - a) a ss, e, ea, en) (sym (part-parts i ns (rows ss)))

-- more partitions have the records of fewer, and others
records_more : (ns : List ℕ) (p n m : ℕ) (ds : List Delivery) → n ≤ m → (rest : List Delivery) × (records_in ns p m ds ≡ records_in ns p n ds ++ rest)
records_more ns p n m ds h =
    let l : List (List Delivery) = drop p (parts ns ds) in
    let z : m ≡ n + (m - n) = omega arith in
    (flatten (take (m - n) (drop n l)), ap (λ (k : ℕ). flatten (take k l)) z ∙ ap flatten (take-add n (m - n) l) ∙ flatten-append (take n l) (take (m - n) (drop n l)))

module _ (b : ℕ) (ns : List ℕ) (p lo hi : ℕ) (z : Span) (ss : Slices) (at i : ℕ) (t : Totals) (n : ℕ) (w : Scanning b ns p lo hi z (rows ss) at i t n) (h : i < length ns) where
  next : i + 1 - p ≡ i - p + 1
  next = omega (arith, w.from)

  place : p + (i - p) ≡ i
  place = omega (arith, w.from)

  -- the records to the end of partition i, whose are ds
  upto : (ds : List Delivery) → ds ≡ rows (each_slice (λ (l : List ℕ). take (at + get_or ns i 0 - at) (drop at l)) ss)
      → records_in ns p (i + 1 - p) (rows ss) ≡ records_in ns p (i - p) (rows ss) ++ ds
  upto ds e =
      let x : p + (i - p) < length ns = omega (arith, place) in
      ap (λ (k : ℕ). records_in ns p k (rows ss)) next ∙ records_next b ns p (rows ss) (i - p) x
      ∙ ap (λ (k : ℕ). records_in ns p (i - p) (rows ss) ++ part k (parts ns (rows ss))) place
      ∙ ap (λ (l : List Delivery). records_in ns p (i - p) (rows ss) ++ l) (sym (e ∙ lent_part_lem ns i at (get_or ns i 0) ss w.here refl))

  counted_next : n + blocks_of b (get_or ns i 0) ≡ sum_of (map (blocks_of b) (take (i + 1 - p) (drop p ns)))
  counted_next =
      let x : p + (i - p) < length ns = omega (arith, place) in
      ap (λ (k : ℕ). k + blocks_of b (get_or ns i 0)) w.counted
      ∙ ap (λ (k : ℕ). sum_of (map (blocks_of b) (take (i - p) (drop p ns))) + blocks_of b (get_or ns k 0)) (sym place)
      ∙ sym (blocks_next b ns p (rows ss) (i - p) x) ∙ ap (λ (k : ℕ). sum_of (map (blocks_of b) (take k (drop p ns)))) (sym next)

  module _ (ds : List Delivery) (e : ds ≡ rows (each_slice (λ (l : List ℕ). take (at + get_or ns i 0 - at) (drop at l)) ss)) where
    pub scanning_next : all_fit ds ≡ true → (u r : Totals) → u ≡ totals_during lo hi z ds → r ≡ plus_totals t u → (m : ℕ) → m ≡ blocks_of b (get_or ns i 0)
        → Scanning b ns p lo hi z (rows ss) (at + get_or ns i 0) (i + 1) r (n + m)
    scanning_next f u r o q m x =
        let past = records_in ns p (i - p) (rows ss) in
        record {
          from = omega (arith, w.from);
          here = omega (arith, w.here, start_next ns i h);
          fit = ap all_fit (upto ds e) ∙ fit_joined past ds ∙ (λ j. w.fit j && f j);
          totalled = q ∙ (λ j. plus_totals (w.totalled j) (o j)) ∙ sym (during-joined lo hi z past ds) ∙ ap (totals_during lo hi z) (sym (upto ds e));
          counted = ap (λ (k : ℕ). n + k) x ∙ counted_next;
        }

    -- a record that fails, and what the partitions to q + 1 then are
    pub scanning_not : (m : ℕ) → i + 1 - p ≤ m → all_fit ds ≡ false → all_fit (records_in ns p m (rows ss)) ≡ false
    scanning_not m o f =
        let past = records_in ns p (i - p) (rows ss) in
        let r = records_more ns p (i + 1 - p) m (rows ss) o in
        ap all_fit (r.1 ∙ ap (λ (l : List Delivery). l ++ r.0) (upto ds e)) ∙ fit_broken past ds r.0 w.fit f

  -- an empty partition is passed over
  pub scanning_skip : 1 ≤ b → get_or ns i 0 ≡ 0 → Scanning b ns p lo hi z (rows ss) at (i + 1) t n
  scanning_skip one e =
      let x : p + (i - p) < length ns = omega (arith, place) in
      let none : get_or ns (p + (i - p)) 0 ≡ 0 = rw place e in
      let same : records_in ns p (i + 1 - p) (rows ss) ≡ records_in ns p (i - p) (rows ss)
      = ap (λ (k : ℕ). records_in ns p k (rows ss)) next ∙ records_same b ns p (rows ss) (i - p) x none in
      record {
        from = omega (arith, w.from);
        here = omega (arith, w.here, start_next ns i h, e);
        fit = ap all_fit same ∙ w.fit;
        totalled = w.totalled ∙ ap (totals_during lo hi z) (sym same);
        counted = w.counted ∙ sym (blocks_same b ns p (rows ss) (i - p) x none one) ∙ ap (λ (k : ℕ). sum_of (map (blocks_of b) (take k (drop p ns)))) (sym next);
      }

module _ (b : ℕ) (ns : List ℕ) (p lo hi : ℕ) (z : Span) (ds : List Delivery) (at i : ℕ) (t : Totals) (n : ℕ) (w : Scanning b ns p lo hi z ds at i t n)
    (one : 1 ≤ b) (room : sum_of ns ≤ length ds) (few : length ds ≤ most_slots) where
  -- the scan so far
  so_far : Light most_slots (record { totals = t; blocks = n })
  so_far = found_light b ns p (i - p) lo hi z ds one room few w.fit (record { totals = t; blocks = n }) (λ j. record { totals = w.totalled j; blocks = w.counted j })

  pub scanning_light : LightTotals most_slots t
  scanning_light = so_far.light

  pub scanning_short : n ≤ most_slots
  scanning_short = so_far.short

pub scanning_end : (b : ℕ) (ns : List ℕ) (p lo hi : ℕ) (z : Span) (ds : List Delivery) (at i : ℕ) (t : Totals) (n m : ℕ) → Scanning b ns p lo hi z ds at i t n → i - p ≡ m
    → ◌≡◌ {A = Option Scan} (Some (record { totals = t; blocks = n })) (scan_of b ns p m lo hi z ds)
scanning_end b ns p lo hi z ds at i t n m w e =
    let a : t ≡ totals_during lo hi z (records_in ns p m ds) = rw (sym e) w.totalled in
    let c : n ≡ sum_of (map (blocks_of b) (take m (drop p ns))) = rw (sym e) w.counted in
    fit_yes {A = Scan} (records_in ns p m ds) _ _ (rw e at w.fit) (λ j. record { totals = a j; blocks = c j })

-- Partitions p to q are one part of each slice, which lies inside and whose values are theirs.

module _ (ns : List ℕ) (p n a : ℕ) (e : a ≡ start_of ns p) where
  pub parts_end : a + sum_of (take n (drop p ns)) ≤ sum_of ns
  unfolding start_of
  parts_end = omega (arith, e, sum-take_le (drop p ns) n, sum_cut p ns)

  pub parts_values : (ss : Slices) → Even ss → (m : ℕ) → m ≡ sum_of (take n (drop p ns))
      → every in_range (records_in ns p n (rows ss)) ≡ all_values_ok (take (a + m - a) (drop a ss.weights)) (take (a + m - a) (drop a ss.yields))
  unfolding start_of
  parts_values ss v m f =
      let k : a + m - a ≡ m = omega arith in
      let r : records_in ns p n (rows ss) ≡ take m (drop a (rows ss)) = rw (drop-parts, take-parts, flatten-parts, f, e) in
      ap (every in_range) (r ∙ sym (rows-part m a ss)) ∙ values_rows (each_slice (λ (l : List ℕ). take m (drop a l)) ss) (even_part ss m a v)
      ∙ ap (λ (i : ℕ). all_values_ok (take i (drop a ss.weights)) (take i (drop a ss.yields))) (sym k)
