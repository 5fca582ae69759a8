-- The cost of a layout, summed block by block, is the sum over its partitions. Assumes nothing.
use Prim.Native.Nat.{ℕ, zero, suc, ◌+◌, ◌-◌, ◌*◌, ◌≤◌, ◌<◌}
use mathlib.Core.Path.{◌≡◌, refl, ap, ap₂, ◌∙◌}
use mathlib.Core.List.{List, [], ◌∷◌, map}
use native.Mathlib.Omega.{arith}
use native.Mathlib.Numerals.{add-one}
use borrow.Author.Tests.{lt-leb, le-leb}
use lib.ListN.{length, get_or}
use lib.IntN.{ℤ, pos, ◌*ℤ◌}
use Rattle.model.specs.declared.PriceCard.{PriceCard}
use Rattle.model.specs.Place.{place}
use Rattle.model.specs.Histograms.{Histogram, histograms, at, count}
use Rattle.model.specs.Layouts.{before, after, trailing}
use Rattle.model.specs.Cost.{price, sum_blocks, sum_histograms, cost_of}
use Rattle.model.proofs.Integers.{Is, is_pos, is_add, is_shift}
use Rattle.model.proofs.LayoutLaws.{Cut}
use Rattle.layout_search.specs.Sums.{sum, upto, span, spans}
use Rattle.layout_search.specs.Task.{Covers}
use Rattle.layout_search.specs.RunningSums.{sums_per_place, fixed, per_block_before, per_block_after, per_partition_added, per_partition_saved, part_of, adds_of, takes_of}
use Rattle.layout_search.proofs.SumLaws.{sum_none, sum_split, sum_cong}
use Rattle.block_costs.specs.Terms.{term_of, Summed}
use Rattle.block_costs.proofs.TermLaws.{part_is}
use Rattle.block_costs.proofs.BlockCost.{block_cost}

-- the first partition's blocks, and the others

pub place_in : (e i : ℕ) (es : List ℕ) → i ≤ e → place (e ∷ es) i ≡ 0
unfolding place
place_in e i [] h = refl
place_in e i (f ∷ es) h = rw (le-leb i e h)

pub place_past : (e i : ℕ) (es : List ℕ) → e < i → 1 ≤ length es → place (e ∷ es) i ≡ place es i + 1
unfolding place
place_past e i [] h k = absurd (omega arith)
place_past e i (f ∷ es) h k = rw (lt-leb i e h)

-- a block's price by its place, where the first partition begins at block a
at_place : (ℕ → ℕ → ℕ → ℕ → ℕ) → ℕ → List ℕ → ℕ → ℕ
at_place g a es i = g i (i - get_or (a ∷ map (λ (e : ℕ). e + 1) es) (place es i) 0) (after es i) (trailing es i)

at_in : (g : ℕ → ℕ → ℕ → ℕ → ℕ) (a e i : ℕ) (es : List ℕ) → i ≤ e → at_place g a (e ∷ es) i ≡ g i (i - a) (e - i) (length es + 1)
unfolding at_place after trailing
at_in g a e i es h = rw (place_in e i es h) (ap (g i (i - a) (e - i)) (omega arith))

at_past : (g : ℕ → ℕ → ℕ → ℕ → ℕ) (a e i : ℕ) (es : List ℕ) → e < i → 1 ≤ length es → at_place g a (e ∷ es) i ≡ at_place g (e + 1) es i
unfolding at_place after trailing
at_past g a e i es h k = rw (place_past e i es h k, add-one (place es i)) (ap (g i (i - get_or ((e + 1) ∷ map (λ (e : ℕ). e + 1) es) (place es i) 0) (get_or es (place es i) 0 - i)) (omega arith))

some_left : (f n : ℕ) (es : List ℕ) → Cut f es n → f < n → 1 ≤ length es
unfolding Cut
some_left f n [] c h = absurd (omega (arith, c))
some_left f n (e ∷ es) c h = omega arith

by_partitions : (g : ℕ → ℕ → ℕ → ℕ → ℕ) (n a : ℕ) (es : List ℕ) → Cut a es n → sum (at_place g a es) a (n - a) ≡ spans g a es
unfolding span upto Cut
by_partitions g n a [] c = sum_none _ a (n - a) (omega (arith, c))
by_partitions g n a (e ∷ es) c =
    let w : n - a ≡ (e + 1 - a) + (n - (e + 1)) = omega (arith, c.0, c.1) in
    let f = at_place g a (e ∷ es) in
    let x = sum_split f a (e + 1 - a) (n - (e + 1)) in
    let s : a + (e + 1 - a) ≡ e + 1 = omega (arith, c.0) in
    let y : sum f a (e + 1 - a) ≡ sum (λ i. g i (i - a) (e - i) (length es + 1)) a (e + 1 - a) =
    sum_cong f _ a (e + 1 - a) (λ i u v. at_in g a e i es (omega (arith, c.0))) in
    let z : sum f (e + 1) (n - (e + 1)) ≡ sum (at_place g (e + 1) es) (e + 1) (n - (e + 1)) =
    sum_cong f _ (e + 1) (n - (e + 1)) (λ i u v. at_past g a e i es (omega arith) (some_left (e + 1) n es c.2 (omega arith))) in
    let r = by_partitions g n (e + 1) es c.2 in
    let v : sum f (a + (e + 1 - a)) (n - (e + 1)) ≡ sum f (e + 1) (n - (e + 1)) = ap (λ (j : ℕ). sum f j (n - (e + 1))) s in
    ap (sum f a) w ∙ x ∙ ap₂ (λ (p q : ℕ). p + q) y (v ∙ z ∙ r)

pub cut_covers : (f : ℕ) (es : List ℕ) (n : ℕ) → Cut f es n → Covers n f es
unfolding Cut
cut_covers f [] n c = c
cut_covers f (e ∷ es) n c = (c.0, c.1, cut_covers (e + 1) es n c.2)

pub covers_cut : (f : ℕ) (es : List ℕ) (n : ℕ) → Covers n f es → Cut f es n
unfolding Cut
covers_cut f [] n c = c
covers_cut f (e ∷ es) n c = (c.0, c.1, covers_cut (e + 1) es n c.2)

pub sum_is : (f : ℕ → ℤ) (p m : ℕ → ℕ) (n : ℕ) → ((i : ℕ) → i < n → Is (f i) (p i) (m i)) → Is (sum_blocks n f) (sum p 0 n) (sum m 0 n)
unfolding sum_blocks sum
sum_is f p m zero h = is_pos 0
sum_is f p m (suc n) h =
    let e : 0 + n ≡ n = omega arith in
    let k : Is (f n) (p (0 + n)) (m (0 + n)) = rw e (h n (omega arith)) in
    is_add _ _ _ _ _ _ (sum_is f p m n (λ i u. h i (omega arith))) k

-- the cost is what the terms add, less what they take off
module _ (L : ℕ) (c : PriceCard) (hs : List ℕ) (n : ℕ) (sums : List ℕ) (s : Summed L c hs ((n + 1) * sums_per_place) sums) (ends : List ℕ) where
  -- one block's, by its place
  pub block_by_sums : (i : ℕ) → i < n
      → Is (sum_histograms histograms (λ (h : Histogram). price c ends h i *ℤ pos (count L hs (at h i)))) (adds_of sums i (before ends i) (after ends i) (trailing ends i))
      (takes_of sums i (trailing ends i))
  unfolding adds_of takes_of term_of
  block_by_sums i g =
      let e : (q : ℕ) → q < sums_per_place → part_of sums q i ≡ term_of L c hs q i = λ q h. part_is L c hs n sums s q i h g in
      rw (e fixed (omega arith), e per_block_before (omega arith), e per_block_after (omega arith), e per_partition_added (omega arith), e per_partition_saved (omega arith))
      (block_cost L c ends hs i)

  at_block : (i : ℕ) → i < n
      → Is (sum_histograms histograms (λ (h : Histogram). price c ends h i *ℤ pos (count L hs (at h i)))) (at_place (adds_of sums) 0 ends i) (at_place (λ i b f k. takes_of sums i k) 0 ends i)
  unfolding at_place before
  at_block i g = block_by_sums i g

  pub layout_cost : Cut 0 ends n → Is (cost_of L c n ends hs) (spans (adds_of sums) 0 ends) (spans (λ i b f k. takes_of sums i k) 0 ends)
  unfolding cost_of
  layout_cost k =
      let z : n ≡ n - 0 = omega arith in
      let u = ap (sum (at_place (adds_of sums) 0 ends) 0) z ∙ by_partitions (adds_of sums) n 0 ends k in
      let d = ap (sum (at_place (λ i b f k. takes_of sums i k) 0 ends) 0) z ∙ by_partitions (λ i b f k. takes_of sums i k) n 0 ends k in
      is_shift _ _ _ _ _ (sum_is _ (at_place (adds_of sums) 0 ends) (at_place (λ i b f k. takes_of sums i k) 0 ends) n at_block) (omega (arith, u, d))
