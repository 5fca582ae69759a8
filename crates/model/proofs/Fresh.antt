-- The freshly laid column: its shape, the blocks of its partitions, and the deliveries in them. Assumes nothing.
use Prim.Native.Nat.{ℕ, zero, suc, ◌+◌, ◌-◌, ◌*◌, ◌≤◌, ◌<◌}
use mathlib.Core.Path.{◌≡◌, refl, sym, ap, ◌∙◌}
use mathlib.Core.Logic.{◌≢◌}
use mathlib.Core.Bool.{Bool, ◌&&◌}
use mathlib.Core.List.{List, [], ◌∷◌, map}
use native.Mathlib.Omega.{arith}
use native.Mathlib.Numerals.{add-one}
use native.Mathlib.Decide.{ℕ_discrete, dec_lt}
use native.Mathlib.Nat.{mul-le-mul_right}
use lib.Dec.{T, ltb, eqb, lt→ltb, T_not}
use lib.ListN.{length, get_or, take, drop}
use lib.Seq.{take_all}
use Rattle.model.specs.declared.Delivery.{Delivery}
use Rattle.model.specs.Lists.{sum_of, every, rising}
use Rattle.model.specs.Place.{place}
use Rattle.model.specs.Deliveries.{rows, same, among, in_range, day_ok}
use Rattle.model.specs.Blocks.{Set, held, blocks, block_stop, last_grower, block_of}
use Rattle.model.specs.Layouts.{end_of, first_of, separates_none, block_counts}
use Rattle.model.specs.Partitions.{start_of, between}
use Rattle.model.specs.Column.{lengths_from, directory_for}
use Rattle.model.specs.Accesses.{blocks_of, blocks_scanned}
use Rattle.model.proofs.Tests.{and_fst, and_snd, and_mk, eq→eqb}
use Rattle.model.proofs.ListLaws.{sum-span, map-take, map-drop, every-at, every-part, ceil_only, ceil_most}
use Rattle.model.proofs.AccessLaws.{blocks_hold}
use Rattle.model.proofs.Places.{Placed}
use Rattle.model.proofs.Deliveries.{nobody, same_equal, among-part, rows_grower}
use Rattle.model.proofs.Parts.{between_is}
use Rattle.model.proofs.LayoutLaws.{Cut, cut_last, cut_early, Laid}
use Rattle.model.proofs.SetLaws.{Good, spot, past_early, past_last, stop_mono, growers_rise, lasts_rise, part_placed}

-- The slots of a set as rows, and the lengths of its partitions.

abbrev slot_rows : Set → List Delivery
slot_rows s = rows s.slices

abbrev lens : Set → List ℕ → List ℕ
lens s ends = lengths_from s 0 ends

-- The blocks of the partitions.

sum_sizes : (f : ℕ) (ends : List ℕ) (n m : ℕ) → Cut f ends n → m < length ends → sum_of (take (suc m) (block_counts f ends)) + f ≡ get_or ends m 0 + 1
unfolding Cut block_counts sum_of
sum_sizes f [] n m c h = absurd (omega arith)
sum_sizes f (e ∷ es) n zero c h = omega (arith, c.0)
sum_sizes f (e ∷ es) n (suc m) c h = omega (arith, c.0, sum_sizes (e + 1) es n m c.2 (omega arith))

-- of partitions a to q: from the first block of a to the end of q
span_sizes : (f : ℕ) (ends : List ℕ) (n a m q : ℕ) → Cut f ends n → q ≡ a + m → q < length ends
    → sum_of (take (suc m) (drop a (block_counts f ends))) + get_or (f ∷ map (λ (e : ℕ). e + 1) ends) a 0 ≡ get_or ends q 0 + 1
unfolding Cut block_counts
span_sizes f [] n a m q c h k = absurd (omega arith)
span_sizes f (e ∷ es) n zero m q c h k = let u : q ≡ m = omega arith in rw u (sum_sizes f (e ∷ es) n m c (omega arith))
span_sizes f (e ∷ es) n (suc a) m zero c h k = absurd (omega arith)
span_sizes f (e ∷ es) n (suc a) m (suc q) c h k = span_sizes (e + 1) es n a m q c.2 (omega arith) (omega arith)

pub length_lengths : (s : Set) (a : ℕ) (ends : List ℕ) → length (lengths_from s a ends) ≡ length ends
unfolding lengths_from
length_lengths s a [] = refl
length_lengths s a (e ∷ es) = ap suc (length_lengths s (block_stop s e) es)

module _ (L : ℕ) (s : Set) (o : Good L s) where
  -- a partition of d blocks that ends at block e
  size : (f d a e : ℕ) → a ≡ f * s.block → e + 1 ≡ f + d → 1 ≤ d → e < blocks s → blocks_of s.block (block_stop s e - a) ≡ d
  unfolding blocks_of
  size f d a e h k one w =
      let u : (e + 1) * s.block ≤ blocks s * s.block = mul-le-mul_right s.block (omega arith) in
      let v : (e + 1) * s.block ≡ (f + d) * s.block = ap (λ (n : ℕ). n * s.block) k in
      let x : 1 * s.block ≤ d * s.block = mul-le-mul_right s.block one in
      let y = ceil_most s.used s.block o.b_least in
      omega (arith, ceil_only (block_stop s e - a) s.block d o.b_least (omega arith) (omega arith))

  pub fresh_blocks_from : (f a : ℕ) (ends : List ℕ) → a ≡ f * s.block → Cut f ends (blocks s) → map (blocks_of s.block) (lengths_from s a ends) ≡ block_counts f ends
  unfolding lengths_from block_counts Cut
  fresh_blocks_from f a [] h c = refl
  fresh_blocks_from f a (e ∷ []) h c = rw (size f (e + 1 - f) a e h (omega (arith, c.0)) (omega (arith, c.0)) c.1)
  fresh_blocks_from f a (e ∷ d ∷ es) h c =
      rw (size f (e + 1 - f) a e h (omega (arith, c.0)) (omega (arith, c.0)) c.1)
      (ap (λ (r : List ℕ). (e + 1 - f) ∷ r) (fresh_blocks_from (e + 1) (block_stop s e) (d ∷ es) (past_early L s o e (omega (arith, c.2.0, c.2.1))) c.2))

  -- each has a block, and so a record
  counts_some : (f : ℕ) (ends : List ℕ) → Cut f ends (blocks s) → T (every (ltb 0) (block_counts f ends))
  unfolding block_counts Cut every
  counts_some f [] c = tt
  counts_some f (e ∷ es) c = and_mk (ltb 0 (e + 1 - f)) (every (ltb 0) (block_counts (e + 1) es)) (lt→ltb 0 (e + 1 - f) (omega (arith, c.0))) (counts_some (e + 1) es c.2)

  pub none_empty : (ends : List ℕ) → Cut 0 ends (blocks s) → T (every (ltb 0) (lens s ends))
  none_empty ends c = blocks_hold s.block (lens s ends) o.b_least (rw (fresh_blocks_from 0 0 ends (omega arith) c) (counts_some 0 ends c))

  -- where partitions end, in slots
  stops : (f a : ℕ) (ends : List ℕ) (q : ℕ) → a ≤ block_stop s f → Cut f ends (blocks s) → q < length ends → sum_of (take (suc q) (lengths_from s a ends)) + a ≡ block_stop s (get_or ends q 0)
  unfolding lengths_from Cut sum_of
  stops f a [] q h c k = absurd (omega arith)
  stops f a (e ∷ es) zero h c k = omega (arith, stop_mono s f e c.0)
  stops f a (e ∷ es) (suc q) h c k =
      let u = stop_mono s f e c.0 in
      omega (arith, stops (e + 1) (block_stop s e) es q (stop_mono s e (e + 1) (omega arith)) c.2 (omega arith))

  -- growers differ across an end
  differ : (e : ℕ) → e + 1 < blocks s → T (separates_none s e)
      → ((e + 1) * s.block < s.used) × (get_or s.slices.growers ((e + 1) * s.block - 1) 0 < get_or s.slices.growers ((e + 1) * s.block) 0)
  differ e h t =
      let k : (e + 2) * s.block ≤ blocks s * s.block = mul-le-mul_right s.block (omega arith) in
      let i : ℕ = (e + 1) * s.block in
      let w : i < s.used = omega (arith, k, ceil_most s.used s.block o.b_least) in
      let g = growers_rise L s o (i - 1) i (omega arith) w in
      let a : Bool = ltb i s.used in
      let b : Bool = eqb (get_or s.slices.growers (i - 1) 0) (get_or s.slices.growers i 0) in
      let n : get_or s.slices.growers (i - 1) 0 ≢ get_or s.slices.growers i 0 = λ q. T_not (a && b) t (and_mk a b (lt→ltb i s.used w) (eq→eqb _ _ q)) in
      (w, omega arith)

  pub fences_rise : (f : ℕ) (ends : List ℕ) → Cut f ends (blocks s) → T (every (separates_none s) ends) → T (rising (map (last_grower s) ends))
  unfolding rising Cut every
  fences_rise f [] c t = tt
  fences_rise f (e ∷ []) c t = tt
  fences_rise f (e ∷ d ∷ es) c t =
      let rest = every (separates_none s) (d ∷ es) in
      let w = differ e (omega (arith, c.2.0, c.2.1)) (and_fst (separates_none s e) rest t) in
      let p = past_early L s o e (omega (arith, c.2.0, c.2.1)) in
      let k : (e + 2) * s.block ≤ (d + 1) * s.block = mul-le-mul_right s.block (omega (arith, c.2.0)) in
      let g = growers_rise L s o ((e + 1) * s.block) (block_stop s d - 1) (omega (arith, w.0, o.b_least)) (omega (arith, o.m_least)) in
      let q : last_grower s e ≡ get_or s.slices.growers ((e + 1) * s.block - 1) 0 = ap (λ (n : ℕ). get_or s.slices.growers (n - 1) 0) p in
      and_mk (ltb (last_grower s e) (last_grower s d)) (rising (map (last_grower s) (d ∷ es))) (lt→ltb (last_grower s e) (last_grower s d) (omega (arith, w.1)))
      (fences_rise (e + 1) (d ∷ es) c.2 (and_snd (separates_none s e) rest t))

  module _ (ends : List ℕ) (l : Laid s ends) where
    pub total_used : sum_of (lens s ends) ≡ s.used
    total_used =
        let q : ℕ = length ends - 1 in
        let e : suc q ≡ length ends = omega (arith, l.some) in
        let a = stops 0 0 ends q (omega arith) l.cut (omega (arith, l.some)) in
        let b = past_last L s o (get_or ends q 0) (cut_last 0 ends (blocks s) q l.cut (omega (arith, l.some))) in
        let c : take (suc q) (lens s ends) ≡ lens s ends = take_all (suc q) (lens s ends) (omega (arith, length_lengths s 0 ends)) in
        omega (arith, ap sum_of c)

    -- the slots of partitions p to q
    stop_of : (p q : ℕ) → p ≤ q → q < length ends → start_of (lens s ends) p + sum_of (take (q + 1 - p) (drop p (lens s ends))) ≡ block_stop s (end_of ends q)
    unfolding start_of
    stop_of p q h k =
        let a : sum_of (take (q + 1) (lens s ends)) + 0 ≡ block_stop s (end_of ends q) = rw (add-one q) (stops 0 0 ends q (omega arith) l.cut k) in
        omega (arith, sum-span (lens s ends) p (q + 1) (omega arith))

    pub start_next : (p : ℕ) → p < length ends → start_of (lens s ends) (suc p) ≡ block_stop s (end_of ends p)
    unfolding start_of
    start_next p h = omega (arith, stops 0 0 ends p (omega arith) l.cut h)

    start_zero : start_of (lens s ends) 0 ≡ 0
    unfolding start_of sum_of
    start_zero = refl

    -- the blocks of partitions p to q
    pub scanned_is : (p q : ℕ) → p ≤ q → q < length ends → blocks_scanned (directory_for s ends) p q + first_of ends p ≡ end_of ends q + 1
    unfolding blocks_scanned directory_for
    scanned_is p q h k =
        let m : ℕ = q - p in
        let e : q + 1 - p ≡ suc m = omega arith in
        rw (map-take, map-drop, fresh_blocks_from 0 0 ends (omega arith) l.cut, e) (span_sizes 0 ends (blocks s) p m q l.cut (omega arith) k)

    -- every delivery scanned passes a test that the set's pass: it is in range, and its day too
    all_pass : (f : Delivery → Bool) → T (every f (held s)) → (p q : ℕ) → p ≤ q → q < length ends → T (every f (between (lens s ends) p q (slot_rows s)))
    all_pass f t p q h k =
        rw (between_is (lens s ends) p q (slot_rows s))
        (every-part f (start_of (lens s ends) p) (sum_of (take (q + 1 - p) (drop p (lens s ends)))) s.used (slot_rows s) (omega (arith, stop_of p q h k)) t)

    pub all_in_range : (p q : ℕ) → p ≤ q → q < length ends → T (every in_range (between (lens s ends) p q (slot_rows s)))
    all_in_range = all_pass in_range o.values_ok_lem

    pub all_days_ok : (p q : ℕ) → p ≤ q → q < length ends → T (every day_ok (between (lens s ends) p q (slot_rows s)))
    all_days_ok = all_pass day_ok o.days_ok_lem

    -- the slot of a grower lies in the grower's partition
    pub lower : (g i p : ℕ) → i < s.used → get_or s.slices.growers i 0 ≡ g → Placed ends (block_of s g) p → start_of (lens s ends) p ≤ i
    lower g i zero h e c = rw start_zero (omega arith)
    lower g i (suc p) h e c = rw (start_next p (omega (arith, c.within))) (go (dec_lt i (block_stop s (end_of ends p))))
      where
        go : Dec (i < block_stop s (end_of ends p)) → block_stop s (end_of ends p) ≤ i
        go (no n) = omega arith
        go (yes n) =
            let a = (spot L s o g).before (end_of ends p) (c.before p (omega arith)) in
            let b = growers_rise L s o i (block_stop s (end_of ends p) - 1) (omega arith) (omega (arith, o.m_least)) in
            absurd (omega arith)

    pub upper : (g i p : ℕ) → i < s.used → get_or s.slices.growers i 0 ≡ g → Placed ends (block_of s g) p → i < block_stop s (end_of ends p)
    upper g i p h e c = go (ℕ_discrete (p + 1) (length ends)) (dec_lt i (block_stop s (end_of ends p)))
      where
        go : Dec (p + 1 ≡ length ends) → Dec (i < block_stop s (end_of ends p)) → i < block_stop s (end_of ends p)
        go d (yes w) = w
        go (yes q) (no w) = rw (past_last L s o (end_of ends p) (cut_last 0 ends (blocks s) p l.cut q)) h
        go (no q) (no w) =
            let k : p + 1 < length ends = omega (arith, c.within) in
            let m : end_of ends p + 1 < blocks s = cut_early 0 ends (blocks s) p l.cut k in
            let u : block_stop s (end_of ends p) ≡ (end_of ends p + 1) * s.block = past_early L s o (end_of ends p) m in
            let x = differ (end_of ends p) m (every-at (separates_none s) ends p l.parted c.within) in
            let y : block_of s g ≤ end_of ends p = c.here k in
            let a = (spot L s o g).here (omega arith) in
            let b = lasts_rise L s o (block_of s g) (end_of ends p) y in
            let r : last_grower s (end_of ends p) ≡ get_or s.slices.growers ((end_of ends p + 1) * s.block - 1) 0 = ap (λ (n : ℕ). get_or s.slices.growers (n - 1) 0) u in
            let f = growers_rise L s o ((end_of ends p + 1) * s.block) i (omega arith) h in
            absurd (omega (arith, x.1))

    -- a delivery is in the set just if it is in its grower's partition
    pub among_here : (d : Delivery) → let p : ℕ = place ends (block_of s d.grower) in among d (between (lens s ends) p p (slot_rows s)) ≡ among d (held s)
    among_here d = ap (among d) (between_is (lens s ends) p p (slot_rows s)) ∙ among-part d _ _ s.used (slot_rows s) (omega (arith, e)) only
      where
        p : ℕ
        p = place ends (block_of s d.grower)

        c : Placed ends (block_of s d.grower) p
        c = part_placed L s o ends l (block_of s d.grower)

        e : start_of (lens s ends) p + sum_of (take (p + 1 - p) (drop p (lens s ends))) ≡ block_stop s (end_of ends p)
        e = stop_of p p (omega arith) c.within

        only : (i : ℕ) → i < s.used → i < length (slot_rows s) → T (same d (get_or (slot_rows s) i nobody))
            → (start_of (lens s ends) p ≤ i) × (i < start_of (lens s ends) p + sum_of (take (p + 1 - p) (drop p (lens s ends))))
        only i h k t =
            let q : get_or s.slices.growers i 0 ≡ d.grower = sym (ap (λ (r : Delivery). r.grower) (same_equal d (get_or (slot_rows s) i nobody) t) ∙ rows_grower s.slices i k) in
            (lower d.grower i p h q c, omega (arith, e, upper d.grower i p h q c))
