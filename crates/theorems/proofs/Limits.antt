-- The theorems that specs/Limits.antt states. A find scans the blocks of its grower's partition and an insert passes the partitions from
-- there on, so each limit is a bound on its price; and a partition's fence is a grower whose find scans it, that of the first partition
-- one whose insert passes all. Assumes nothing.
use Prim.Native.Nat.{ℕ, ◌+◌, ◌-◌, ◌*◌, ◌≤◌, ◌<◌}
use mathlib.Core.Path.{◌≡◌, refl, sym, ap, ◌∙◌}
use mathlib.Core.Bool.{Bool, true, false}
use mathlib.Core.List.{List, map}
use native.Mathlib.Omega.{arith}
use native.Mathlib.Nat.{mul-le-mul_left}
use lib.Dec.{T}
use lib.ListN.{length, get_or, length-map}
use Rattle.model.specs.declared.Delivery.{Delivery}
use Rattle.model.specs.declared.PriceCard.{PriceCard}
use Rattle.model.specs.declared.Limits.{Limits}
use Rattle.model.specs.Lists.{sum_of}
use Rattle.model.specs.Place.{place}
use Rattle.model.specs.Deliveries.{delivery, in_range, day_ok}
use Rattle.model.specs.Blocks.{Set, blocks, block_stop, last_grower, block_of}
use Rattle.model.specs.Calls.{find, insert, ordered, offered_ok, offered_days_ok}
use Rattle.model.specs.Histograms.{raises}
use Rattle.model.specs.Prices.{prices_ok, limits_ok, priced}
use Rattle.model.specs.Layouts.{end_of, first_of, layout_ok, before, after, trailing, longest_partition, permitted}
use Rattle.model.specs.Cost.{point_price}
use Rattle.model.specs.Laws.{SetPasses, LimitPrices}
use Rattle.model.proofs.Tests.{and_fst, of_true}
use Rattle.model.proofs.ListLaws.{at_map, rises}
use Rattle.model.proofs.Places.{placed, placed_only}
use Rattle.model.proofs.LayoutLaws.{cut_first, Laid, laid}
use Rattle.model.proofs.SetLaws.{Good, good, spot, part_first, part_end, target}
use Rattle.model.proofs.Fresh.{fences_rise}
use Rattle.model.proofs.LimitLaws.{FewAndShort, permitted-parts, parts-permitted}
use Rattle.model.proofs.Laws.{limits_are_prices}
use Rattle.theorems.specs.Plan.{Admitted, reported}
use Rattle.theorems.specs.Limits.{WithinLimits, OwnWithinLimits, LimitsKept, OwnLimitsKept}
use Rattle.theorems.proofs.PlanChecks.{InBounds, prices_pass}
use Rattle.theorems.proofs.RecordingCosts.{plus, minus}
use Rattle.theorems.proofs.PlanFresh.{part_in, refused_report, late_report}
use Rattle.theorems.proofs.PlanReports.{balanced}

module _ (L : ℕ) (p : PriceCard) (l : Limits) (s : Set) (h : Admitted L p l s) (free : s.used < length s.slices.growers) (ends : List ℕ) where
  passes : SetPasses L s
  passes = (prices_pass L p l s h).1

  o : Good L s
  o = good L s passes

  -- the limits as prices
  limit : LimitPrices p l
  limit = limits_are_prices p l (and_fst (prices_ok p) (limits_ok l) (prices_pass L p l s h).0)

  module _ (t : T (layout_ok s ends)) where
    d : Laid s ends
    d = laid s ends t

    -- a grower's partition, and the blocks of partition q beside its first
    abbrev home : ℕ → ℕ
    home g = place ends (block_of s g)

    abbrev others : ℕ → ℕ
    others q = end_of ends q - first_of ends q

    find_price : (g : ℕ) → reported L p s ends (find g) ≡ p.rr + p.sr * others (home g)
    unfolding raises plus minus sum_of point_price before after ordered offered_ok offered_days_ok
    find_price g =
        let b = block_of s g in
        let e : b - first_of ends (home g) + (end_of ends (home g) - b) ≡ others (home g)
        = omega (arith, part_first L s o ends d b, part_end L s o ends d b (spot L s o g).within) in
        omega (arith, balanced L s passes ends t p free (find g) tt (tt, tt), ap (λ (x : ℕ). p.sr * x) e)

    insert_price : (x : Delivery) → InBounds x → reported L p s ends (insert x) ≡ (p.rr + p.«rw») * (1 + (length ends - home x.grower))
    unfolding raises plus minus sum_of trailing ordered offered_ok offered_days_ok
    insert_price x r = omega (arith, balanced L s passes ends t p free (insert x) tt r)

    -- at most that of one that passes all partitions; out of range it costs nothing
    insert_most : (x : Delivery) → reported L p s ends (insert x) ≤ (p.rr + p.«rw») * (1 + length ends)
    unfolding priced
    insert_most x = go (in_range x) (day_ok x) refl refl
      where
        go : (b n : Bool) → in_range x ≡ b → day_ok x ≡ n → reported L p s ends (insert x) ≤ (p.rr + p.«rw») * (1 + length ends)
        go true true e f = rw (insert_price x (of_true _ e, of_true _ f)) (mul-le-mul_left (p.rr + p.«rw») (omega arith))
        go true false e f = rw (late_report L s passes ends t x e f) (omega arith)
        go false n e f = rw (refused_report L s passes ends t x e) (omega arith)

    -- A layout that is short and few enough keeps every call within the limits.

    keeps : FewAndShort p l ends → WithinLimits L p l s ends
    keeps f = record {
      finds = λ g. omega (arith, find_price g, (limit.reads (others (home g))).0 (short_home g));
      inserts = λ x. omega (arith, insert_most x, (limit.inserts (length ends) d.some).0 f.few);
    }
      where
        short_home : (g : ℕ) → others (home g) + 1 ≤ longest_partition p l
        short_home g =
            let w = part_in L s passes ends t g in
            omega (arith, f.short (home g) w, cut_first 0 ends (blocks s) (home g) d.cut w)

    -- The fence of partition q is a grower of the set, and its partition is q.

    abbrev fence_slot : ℕ → ℕ
    fence_slot q = block_stop s (end_of ends q) - 1

    abbrev fence : ℕ → ℕ
    fence q = get_or s.slices.growers (fence_slot q) 0

    fence_home : (q : ℕ) → q < length ends → home (fence q) ≡ q
    fence_home q w =
        let fences : List ℕ = map (last_grower s) ends in
        let at : (j : ℕ) → j < length ends → get_or fences j 0 ≡ fence j = λ j v. at_map (last_grower s) ends j v in
        sym (target L s o ends d (fence q))
        ∙ placed_only fences (fence q) _ q
        (placed fences (fence q) (rw length-map d.some))
        (record {
          within = rw length-map w;
          before = λ j v. rw (← at q w) (rises fences j q (fences_rise L s o 0 ends d.cut d.parted) v (rw length-map w));
          here = λ v. rw (at q w) (omega arith);
        })

    -- And one that keeps the fences' calls within them is short and few enough.

    kept : OwnWithinLimits L p l s ends → FewAndShort p l ends
    kept v = record {
      few = (limit.inserts (length ends) d.some).1 first_insert;
      short = λ q w. omega (arith, (limit.reads (others q)).1 (own_find q w), cut_first 0 ends (blocks s) q d.cut w);
    }
      where
        first_insert : (p.rr + p.«rw») * (1 + length ends) ≤ l.insert
        first_insert =
            let e : length ends - home (fence 0) ≡ length ends = omega (arith, fence_home 0 d.some) in
            rw (insert_price (delivery (fence 0) 0 0 0) (tt, tt), e) at (v.inserts (fence_slot 0) (omega (arith, o.m_least)))

        own_find : (q : ℕ) → q < length ends → p.rr + p.sr * others q ≤ l.read
        own_find q w = rw (find_price (fence q), fence_home q w) at (v.finds (fence_slot q) (omega (arith, o.m_least)))

  -- every grower, and so the set's own
  own : WithinLimits L p l s ends → OwnWithinLimits L p l s ends
  own w = record { finds = λ i v. omega (arith, w.finds (get_or s.slices.growers i 0)); inserts = λ i v. omega (arith, w.inserts (delivery (get_or s.slices.growers i 0) 0 0 0)) }

  permitted_within : T (permitted p l s ends) → T (layout_ok s ends) × WithinLimits L p l s ends
  permitted_within v = let r = permitted-parts p l ends s v in (r.0, keeps r.0 r.1)

  within_permitted : T (layout_ok s ends) → OwnWithinLimits L p l s ends → T (permitted p l s ends)
  within_permitted t w = parts-permitted p l ends s t (kept t w)

pub own_limits_kept : OwnLimitsKept
own_limits_kept L p l s h free ends = (
  λ v. let r = permitted_within L p l s h free ends v in (r.0, own L p l s h free ends r.1),
  λ r. within_permitted L p l s h free ends r.0 r.1,
)

pub limits_kept : LimitsKept
limits_kept L p l s h free ends = (permitted_within L p l s h free ends, λ r. within_permitted L p l s h free ends r.0 (own L p l s h free ends r.1))
