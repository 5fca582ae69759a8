-- An unpartitioned set that passes its checks: its blocks, its slots, and that a grower's block lies in its partition. Assumes nothing.
use Prim.Native.Nat.{ℕ, zero, suc, ◌+◌, ◌-◌, ◌*◌, ◌≤◌, ◌<◌}
use mathlib.Core.Path.{◌≡◌, sym, ap, ◌∙◌, subst}
use mathlib.Core.Bool.{◌&&◌}
use mathlib.Core.List.{List, [], ◌∷◌, ◌++◌, map}
use native.Mathlib.Omega.{arith}
use native.Mathlib.Decide.{ℕ_discrete}
use native.Mathlib.Nat.{mul-le-mul_right}
use lib.Dec.{T, leb, eqb, leb→le, le→leb, eqb→eq}
use lib.ListN.{length, get_or, take, length-map}
use lib.Seq.{length-take-le, get_or-take}
use Rattle.model.specs.Bounds.{most_slots, most_block_length}
use Rattle.model.specs.Lists.{up_from, every, never_falls}
use Rattle.model.specs.Checks.{ask, first_failed}
use Rattle.model.specs.Place.{place}
use Rattle.model.specs.Deliveries.{Slices, Even, in_range, day_ok}
use Rattle.model.specs.Blocks.{Set, held, blocks, block_stop, last_grower, block_of, block_length_ok, slots_ok, slices_ok, used_ok, growers_ok, values_ok, days_ok}
use Rattle.model.specs.Layouts.{end_of, first_of}
use Rattle.model.specs.Questions.{set_checks}
use Rattle.model.proofs.Tests.{and_fst, and_snd, and_mk, eq→eqb, yes_first}
use Rattle.model.proofs.ListLaws.{at_map, at_up_from, length_up_from, sorted, ceil_least, ceil_most, ceil_some, ceil_within}
use Rattle.model.proofs.Places.{Placed, placed, placed_only, placed_mono}
use Rattle.model.proofs.LayoutLaws.{cut_count, cut_last, cut_early, Laid}

-- Check 3, taken apart.

pub record Sliced (s : Slices) : Type 0 where
  pub even : Even s
  pub one : 1 ≤ length s.growers
  pub most : length s.growers ≤ most_slots

pub sliced : (s : Slices) → T (slices_ok s) → Sliced s
unfolding slices_ok slots_ok
sliced s t =
    let n : ℕ = length s.growers in
    let a = eqb (length s.weights) n in
    let b = eqb (length s.yields) n in
    let d = eqb (length s.days) n in
    let c = leb 1 n && leb n most_slots in
    let u = and_fst (a && b && d) c t in
    let x = and_fst (a && b) d u in
    let v = and_snd (a && b && d) c t in
    record {
      even = record { weights = eqb→eq _ _ (and_fst a b x); yields = eqb→eq _ _ (and_snd a b x); days = eqb→eq _ _ (and_snd (a && b) d u) };
      one = leb→le _ _ (and_fst (leb 1 n) (leb n most_slots) v);
      most = leb→le _ _ (and_snd (leb 1 n) (leb n most_slots) v);
    }

pub slices_pass : (s : Slices) → Sliced s → T (slices_ok s)
unfolding slices_ok slots_ok
slices_pass s k =
    let n : ℕ = length s.growers in
    let a = eqb (length s.weights) n in
    let b = eqb (length s.yields) n in
    let d = eqb (length s.days) n in
    and_mk (a && b && d) (leb 1 n && leb n most_slots) (and_mk (a && b) d (and_mk a b (eq→eqb _ _ k.even.weights) (eq→eqb _ _ k.even.yields)) (eq→eqb _ _ k.even.days))
    (and_mk (leb 1 n) (leb n most_slots) (le→leb 1 n k.one) (le→leb n most_slots k.most))

-- Checks 2 to 5, 8 and 19 of the set, taken apart.

module _ (L : ℕ) where
  pub record Good (s : Set) : Type 0 where
    pub block_ok : T (block_length_ok s.block)
    pub slices_ok_lem : T (slices_ok s.slices)
    pub values_ok_lem : T (every in_range (held s))
    pub days_ok_lem : T (every day_ok (held s))
    pub falls_not : T (never_falls (take s.used s.slices.growers))
    pub b_least : 1 ≤ s.block
    pub m_least : 1 ≤ s.used
    pub m_fits : s.used ≤ length s.slices.growers
    pub m_most : s.used ≤ L * s.block

  pub good : (s : Set) → first_failed (set_checks L s ++ ask 8 (values_ok s) ∷ ask 19 (days_ok s) ∷ []) ≡ 0 → Good s
  unfolding block_length_ok slots_ok slices_ok used_ok growers_ok values_ok days_ok
  good s h =
      let c = length s.slices.growers in
      let c2 = yes_first 1 (block_length_ok s.block) _ h in
      let c3 = yes_first 2 (slices_ok s.slices) _ c2.1 in
      let c4 = yes_first 3 (used_ok L s) _ c3.1 in
      let c5 = yes_first 4 (growers_ok s) _ c4.1 in
      let c8 = yes_first 7 (values_ok s) _ c5.1 in
      let c19 = yes_first 18 (days_ok s) _ c8.1 in
      let u = and_fst (leb 1 s.used && leb s.used c) (leb s.used (L * s.block)) c4.0 in
      record {
        block_ok = c2.0;
        slices_ok_lem = c3.0;
        values_ok_lem = c8.0;
        days_ok_lem = c19.0;
        falls_not = c5.0;
        b_least = leb→le _ _ (and_fst (leb 1 s.block) (leb s.block most_block_length) c2.0);
        m_least = leb→le _ _ (and_fst (leb 1 s.used) (leb s.used c) u);
        m_fits = leb→le _ _ (and_snd (leb 1 s.used) (leb s.used c) u);
        m_most = leb→le _ _ (and_snd (leb 1 s.used && leb s.used c) (leb s.used (L * s.block)) c4.0);
      }

-- The blocks of any set.

module _ (s : Set) where
  -- the slot past a block
  pub stop_mono : (i j : ℕ) → i ≤ j → block_stop s i ≤ block_stop s j
  stop_mono i j h =
      let k : i * s.block ≤ j * s.block = mul-le-mul_right s.block h in
      omega arith

  abbrev lasts : List ℕ
  lasts = map (last_grower s) (up_from 0 (blocks s))

  lasts_length : length lasts ≡ blocks s
  lasts_length = length-map (up_from 0 (blocks s)) (last_grower s) ∙ length_up_from 0 (blocks s)

  lasts_at : (i : ℕ) → i < blocks s → get_or lasts i 0 ≡ last_grower s i
  lasts_at i h = at_map (last_grower s) (up_from 0 (blocks s)) i (rw length_up_from h) ∙ ap (last_grower s) (at_up_from 0 (blocks s) i h ∙ omega arith)

  block_placed : 1 ≤ blocks s → (g : ℕ) → Placed lasts g (block_of s g)
  unfolding block_of
  block_placed n g = placed lasts g (rw lasts_length n)

  -- a grower's block
  pub record Spot (g i : ℕ) : Type 0 where
    pub within : i < blocks s
    pub before : (j : ℕ) → j < i → last_grower s j < g
    pub here : i + 1 < blocks s → g ≤ last_grower s i

  pub spot_of : 1 ≤ blocks s → (g : ℕ) → Spot g (block_of s g)
  spot_of n g =
      let p = block_placed n g in
      let w : block_of s g < blocks s = rw lasts_length at p.within in
      record {
        within = w;
        before = λ j h. subst (λ (x : ℕ). x < g) (lasts_at j (omega arith)) (p.before j h);
        here = λ h. subst (λ (x : ℕ). g ≤ x) (lasts_at (block_of s g) w) (p.here (rw lasts_length h));
      }

  -- there is no other
  pub spot_only : (g i : ℕ) → Spot g i → i ≡ block_of s g
  spot_only g i p = placed_only lasts g i (block_of s g) q (block_placed (omega (arith, p.within)) g)
    where
      q : Placed lasts g i
      q = record {
        within = rw lasts_length p.within;
        before = λ j h. subst (λ (x : ℕ). x < g) (sym (lasts_at j (omega (arith, p.within)))) (p.before j h);
        here = λ h. subst (λ (x : ℕ). g ≤ x) (sym (lasts_at i p.within)) (p.here (rw lasts_length at h));
      }

  -- a greater grower has no earlier block
  pub block_rises : 1 ≤ blocks s → (g h : ℕ) → g ≤ h → block_of s g ≤ block_of s h
  block_rises n g h l = placed_mono lasts g h (block_of s g) (block_of s h) l (block_placed n g) (block_placed n h)

module _ (L : ℕ) (s : Set) (o : Good L s) where
  -- N
  pub n-least : 1 ≤ blocks s
  n-least = ceil_some s.used s.block o.b_least o.m_least

  pub n_most : blocks s ≤ L
  n_most = ceil_within L s.used s.block o.b_least o.m_most

  -- slots past a block
  pub past_early : (i : ℕ) → i + 1 < blocks s → block_stop s i ≡ (i + 1) * s.block
  past_early i h =
      let k : (i + 2) * s.block ≤ blocks s * s.block = mul-le-mul_right s.block (omega arith) in
      omega (arith, k, ceil_most s.used s.block o.b_least)

  pub past_last : (i : ℕ) → i + 1 ≡ blocks s → block_stop s i ≡ s.used
  past_last i h =
      let k : s.used ≤ (i + 1) * s.block = subst (λ (n : ℕ). s.used ≤ n * s.block) (sym h) (ceil_least s.used s.block o.b_least) in
      omega arith

  -- growers never fall
  pub growers_rise : (i j : ℕ) → i ≤ j → j < s.used → get_or s.slices.growers i 0 ≤ get_or s.slices.growers j 0
  growers_rise i j h k =
      let r = sorted (take s.used s.slices.growers) i j o.falls_not h (rw (length-take-le s.used s.slices.growers o.m_fits) k) in
      rw (← get_or-take s.used s.slices.growers i 0 (omega arith), ← get_or-take s.used s.slices.growers j 0 k) r

  pub lasts_rise : (i j : ℕ) → i ≤ j → last_grower s i ≤ last_grower s j
  lasts_rise i j h = growers_rise (block_stop s i - 1) (block_stop s j - 1) (omega (arith, stop_mono s i j h)) (omega (arith, o.m_least))

  -- a grower's block
  pub spot : (g : ℕ) → Spot s g (block_of s g)
  spot = spot_of s n-least

  pub block_mono : (g h : ℕ) → g ≤ h → block_of s g ≤ block_of s h
  block_mono = block_rises s n-least

  module _ (ends : List ℕ) (l : Laid s ends) where
    pub few : length ends ≤ L
    few = omega (arith, cut_count 0 ends (blocks s) l.cut, n_most)

    pub part_placed : (i : ℕ) → Placed ends i (place ends i)
    part_placed i = placed ends i l.some

    -- the partition of a block that there is ends no earlier
    pub part_end : (i : ℕ) → i < blocks s → i ≤ end_of ends (place ends i)
    part_end i h = go (ℕ_discrete (place ends i + 1) (length ends))
      where
        go : Dec (place ends i + 1 ≡ length ends) → i ≤ end_of ends (place ends i)
        go (yes e) = omega (arith, cut_last 0 ends (blocks s) (place ends i) l.cut e)
        go (no e) = (part_placed i).here (omega (arith, (part_placed i).within))

    -- and starts no later
    pub part_first : (i : ℕ) → first_of ends (place ends i) ≤ i
    part_first i = go (place ends i) (part_placed i)
      where
        go : (p : ℕ) → Placed ends i p → first_of ends p ≤ i
        go zero q = omega arith
        go (suc p) q = rw (at_map (λ (e : ℕ). e + 1) ends p (omega (arith, q.within))) (omega (arith, q.before p (omega arith)))

    -- a grower's partition is the partition of its block
    pub target : (g : ℕ) → place (map (last_grower s) ends) g ≡ place ends (block_of s g)
    target g = placed_only (map (last_grower s) ends) g _ _ (placed (map (last_grower s) ends) g (rw length-map l.some)) (record { within = rw length-map p.within; before = early; here = late })
      where
        p : Placed ends (block_of s g) (place ends (block_of s g))
        p = part_placed (block_of s g)

        q : Spot s g (block_of s g)
        q = spot g

        early : (j : ℕ) → j < place ends (block_of s g) → get_or (map (last_grower s) ends) j 0 < g
        early j h = rw (at_map (last_grower s) ends j (omega (arith, p.within))) (q.before (end_of ends j) (p.before j h))

        late : place ends (block_of s g) + 1 < length (map (last_grower s) ends) → g ≤ get_or (map (last_grower s) ends) (place ends (block_of s g)) 0
        late h =
            let k : place ends (block_of s g) + 1 < length ends = rw length-map at h in
            let m : block_of s g ≤ end_of ends (place ends (block_of s g)) = p.here k in
            let n = cut_early 0 ends (blocks s) (place ends (block_of s g)) l.cut k in
            rw (at_map (last_grower s) ends (place ends (block_of s g)) p.within) (omega (arith, q.here (omega arith), lasts_rise (block_of s g) (end_of ends (place ends (block_of s g))) m))
