-- The limits of a permitted layout: each as the price of a call, by what a quotient rounded down means; and a permitted layout taken
-- apart, partition by partition. Assumes nothing.
use Prim.Native.Nat.{ℕ, zero, suc, ◌+◌, ◌-◌, ◌*◌, ◌/◌, ◌≤◌, ◌<◌}
use mathlib.Core.Path.{◌≡◌, refl, ap}
use mathlib.Core.Logic.{◌↔◌}
use mathlib.Core.Bool.{Bool, ◌&&◌}
use mathlib.Core.List.{List, [], ◌∷◌, map}
use native.Mathlib.Omega.{arith}
use native.Mathlib.Decide.{dec_le}
use native.Mathlib.Nat.{le-div_iff_mul-le}
use lib.Dec.{T, leb, leb→le, le→leb}
use lib.ListN.{length, get_or}
use Rattle.model.specs.declared.PriceCard.{PriceCard}
use Rattle.model.specs.declared.Limits.{Limits}
use Rattle.model.specs.Bounds.{most_price}
use Rattle.model.specs.Lists.{every}
use Rattle.model.specs.Blocks.{Set}
use Rattle.model.specs.Prices.{price_ok, prices_ok}
use Rattle.model.specs.Layouts.{end_of, first_of, layout_ok, block_counts, most_partitions, longest_partition, permitted}
use Rattle.model.specs.Laws.{LimitPrices}
use borrow.Author.Tests.{le-leb, lt-leb}
use Rattle.model.proofs.Tests.{and_fst, and_snd, and_mk}
use Rattle.model.proofs.ListLaws.{every-at, every_of}

-- Each limit as a price.

-- a quotient, rounded down
at_most_quotient : (k x y : ℕ) → 1 ≤ k → (x ≤ y / k) ↔ (x * k ≤ y)
at_most_quotient k x y h = le-div_iff_mul-le {k = k} {x = x} {y = y} (omega arith)

module _ (p : PriceCard) (l : Limits) (t : T (prices_ok p)) where
  least-of : (x : ℕ) → T (price_ok x) → 1 ≤ x
  least-of x h = leb→le 1 x (and_fst (leb 1 x) (leb x most_price) h)

  -- no price is 0
  some_prices : (1 ≤ p.sr) × (1 ≤ p.rr + p.«rw»)
  unfolding prices_ok
  some_prices =
      let a = price_ok p.rr in
      let b = price_ok p.sr in
      let h = and_fst (a && b) (price_ok p.«rw») t in
      (least-of p.sr (and_snd a b h), omega (arith, least-of p.rr (and_fst a b h)))

  read_of : (x : ℕ) → x + 1 ≤ longest_partition p l → p.rr + p.sr * x ≤ l.read
  unfolding longest_partition
  read_of x h = go (dec_le p.rr l.read)
    where
      go : Dec (p.rr ≤ l.read) → p.rr + p.sr * x ≤ l.read
      go (yes k) =
          let v = rw (le-leb p.rr l.read k) at h in
          let u = (at_most_quotient p.sr x (l.read - p.rr) some_prices.0).0 (omega arith) in
          omega arith
      go (no k) = let v = rw (lt-leb p.rr l.read (omega arith)) at h in absurd (omega arith)

  of_read : (x : ℕ) → p.rr + p.sr * x ≤ l.read → x + 1 ≤ longest_partition p l
  unfolding longest_partition
  of_read x h =
      let u = (at_most_quotient p.sr x (l.read - p.rr) some_prices.0).1 (omega arith) in
      rw (le-leb p.rr l.read (omega arith)) (omega arith)

  insert_of : (k : ℕ) → 1 ≤ k → (k ≤ most_partitions p l) ↔ ((p.rr + p.«rw») * (1 + k) ≤ l.insert)
  unfolding most_partitions
  insert_of k n =
      let q = at_most_quotient (p.rr + p.«rw») (1 + k) l.insert some_prices.1 in
      (λ h. let u = q.0 (omega arith) in omega arith, λ h. let u = q.1 (omega arith) in omega arith)

  pub limit_prices : LimitPrices p l
  limit_prices = record { reads = λ x. (read_of x, of_read x); inserts = insert_of }

-- A permitted layout taken apart.

length-counts : (f : ℕ) (ends : List ℕ) → length (block_counts f ends) ≡ length ends
unfolding block_counts
length-counts f [] = refl
length-counts f (e ∷ es) = ap suc (length-counts (e + 1) es)

counts-at : (f : ℕ) (ends : List ℕ) (q : ℕ) → q < length ends → get_or (block_counts f ends) q 0 ≡ get_or ends q 0 + 1 - get_or (f ∷ map (λ (e : ℕ). e + 1) ends) q 0
unfolding block_counts
counts-at f [] q h = absurd (omega arith)
counts-at f (e ∷ es) zero h = refl
counts-at f (e ∷ es) (suc q) h = counts-at (e + 1) es q (omega arith)

module _ (p : PriceCard) (l : Limits) (ends : List ℕ) where
  -- as few partitions, and each as short, as the limits ask
  pub record FewAndShort : Type 0 where
    pub few : length ends ≤ most_partitions p l
    pub short : (q : ℕ) → q < length ends → end_of ends q + 1 - first_of ends q ≤ longest_partition p l

  -- the two tests that `permitted` puts to the layout's ends
  abbrev counts : List ℕ
  counts = block_counts 0 ends

  abbrev short_enough : ℕ → Bool
  short_enough n = leb n (longest_partition p l)

  abbrev few_enough : Bool
  few_enough = leb (length ends) (most_partitions p l)

  module _ (s : Set) where
    pub permitted-parts : T (permitted p l s ends) → T (layout_ok s ends) × FewAndShort
    unfolding permitted
    permitted-parts t =
        let a = layout_ok s ends in
        let h = and_fst (a && few_enough) (every short_enough counts) t in
        (and_fst a few_enough h, record { few = leb→le _ _ (and_snd a few_enough h); short = each (and_snd (a && few_enough) (every short_enough counts) t) })
      where
        each : T (every short_enough counts) → (q : ℕ) → q < length ends → end_of ends q + 1 - first_of ends q ≤ longest_partition p l
        each u q w = rw (← counts-at 0 ends q w) (leb→le _ _ (every-at short_enough counts q u (rw (length-counts 0 ends) w)))

    pub parts-permitted : T (layout_ok s ends) → FewAndShort → T (permitted p l s ends)
    unfolding permitted
    parts-permitted t h =
        let a = layout_ok s ends in
        and_mk (a && few_enough) (every short_enough counts) (and_mk a few_enough t (le→leb _ _ h.few)) (every_of short_enough counts each)
      where
        each : (q : ℕ) → q < length counts → T (short_enough (get_or counts q 0))
        each q w =
            let v : q < length ends = rw (length-counts 0 ends) at w in
            le→leb (get_or counts q 0) (longest_partition p l) (rw (counts-at 0 ends q v) (h.short q v))
