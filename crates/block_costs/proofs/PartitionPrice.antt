-- The price that is taken from the running sums is 01's for those blocks: block by block it is what the terms say, and the sums add the blocks up. Assumes nothing.
use Prim.Native.Nat.{ℕ, zero, suc, ◌+◌, ◌-◌, ◌*◌, ◌^◌, ◌≤◌, ◌<◌}
use mathlib.Core.Path.{◌≡◌, refl, ◌∙◌, subst}
use mathlib.Core.List.{List, [], ◌∷◌, ◌++◌, map}
use native.Mathlib.Omega.{arith}
use lib.ListN.{length, get_or, length-append}
use lib.IntN.{pos, sub_ℕ, ◌*ℤ◌}
use Rattle.model.specs.declared.PriceCard.{PriceCard}
use Rattle.model.specs.Place.{place}
use Rattle.model.specs.Histograms.{Histogram, histograms, at, count}
use Rattle.model.specs.Layouts.{before, after, trailing}
use Rattle.model.specs.Cost.{price, sum_histograms}
use Rattle.model.proofs.Integers.{Is, is_shift, is_sub, eq_is}
use Rattle.layout_search.specs.Sums.{sum, upto, span}
use Rattle.layout_search.specs.Task.{Covers}
use Rattle.layout_search.specs.RunningSums.{sums_per_place, adds_of, takes_of, Priced}
use Rattle.layout_search.proofs.PriceLaws.{span_by_sums, saved_by_sums}
use Rattle.block_costs.specs.Terms.{Summed}
use Rattle.block_costs.specs.Price.{price_by_sums, blocks_cost, PriceIs01, SumsFit}
use Rattle.block_costs.proofs.TermLaws.{prices_pass, counted, sum_fits, summed_rising}
use Rattle.block_costs.proofs.LayoutCost.{place_in, place_past, sum_is, block_by_sums}

-- a partition's blocks in a layout, by the ends ahead of its own and those behind

-- the blocks a to e are a partition of the layout, and k partitions are from it to the last
record IsPartition (ends : List ℕ) (a e k : ℕ) : Type 0 where
  first : (i : ℕ) → a ≤ i → i ≤ e → before ends i ≡ i - a
  last : (i : ℕ) → a ≤ i → i ≤ e → after ends i ≡ e - i
  from : (i : ℕ) → a ≤ i → i ≤ e → trailing ends i ≡ k

place_at : (behind : List ℕ) (a e i : ℕ) → a ≤ i → i ≤ e → (s : ℕ) (ahead : List ℕ) → Covers a s ahead → place (ahead ++ e ∷ behind) i ≡ length ahead
place_at behind a e i u v s [] c = place_in e i behind v
place_at behind a e i u v s (f ∷ fs) c =
    place_past f i (fs ++ e ∷ behind) (omega (arith, c.1)) (omega (arith, length-append fs (e ∷ behind))) ∙ omega (arith, place_at behind a e i u v (f + 1) fs c.2)

first_at : (behind : List ℕ) (a e s : ℕ) (ahead : List ℕ) → Covers a s ahead → get_or (s ∷ map (λ (x : ℕ). x + 1) (ahead ++ e ∷ behind)) (length ahead) 0 ≡ a
first_at behind a e s [] c = c
first_at behind a e s (f ∷ fs) c = first_at behind a e (f + 1) fs c.2

end_at : (behind : List ℕ) (e : ℕ) (ahead : List ℕ) → get_or (ahead ++ e ∷ behind) (length ahead) 0 ≡ e
end_at behind e [] = refl
end_at behind e (f ∷ fs) = end_at behind e fs

is_partition : (ahead behind : List ℕ) (a e : ℕ) → Covers a 0 ahead → IsPartition (ahead ++ e ∷ behind) a e (length behind + 1)
unfolding before after trailing
is_partition ahead behind a e c = record {
  first = λ i u v. rw (place_at behind a e i u v 0 ahead c, first_at behind a e 0 ahead c) refl;
  last = λ i u v. rw (place_at behind a e i u v 0 ahead c, end_at behind e ahead) refl;
  from = λ i u v. omega (arith, place_at behind a e i u v 0 ahead c, length-append ahead (e ∷ behind));
}

sum_from : (f : ℕ → ℕ) (a c : ℕ) → sum (λ i. f (a + i)) 0 c ≡ sum f a c
unfolding sum
sum_from f a zero = refl
sum_from f a (suc c) = let z : 0 + c ≡ c = omega arith in rw (sum_from f a c, z)

module _ (L : ℕ) (c : PriceCard) (hs sums ends : List ℕ) (n a e k : ℕ) (s : Summed L c hs ((n + 1) * sums_per_place) sums) (u : a ≤ e) (v : e < n) (p : IsPartition ends a e k) where
  at_block : (i : ℕ) → i < e + 1 - a
      → Is (sum_histograms histograms (λ (h : Histogram). price c ends h (a + i) *ℤ pos (count L hs (at h (a + i))))) (adds_of sums (a + i) (a + i - a) (e - (a + i)) k)
      (takes_of sums (a + i) k)
  at_block i g =
      let j = a + i in
      rw (← p.first j (omega arith) (omega arith), ← p.last j (omega arith) (omega arith), ← p.from j (omega arith) (omega arith))
      (block_by_sums L c hs n sums s ends j (omega arith))

  cost_is : Is (blocks_cost L c ends hs a e) (span (adds_of sums) a e k) (span (λ i b f k. takes_of sums i k) a e k)
  unfolding blocks_cost span upto
  cost_is =
      let x = sum_from (λ j. adds_of sums j (j - a) (e - j) k) a (e + 1 - a) in
      let y = sum_from (λ j. takes_of sums j k) a (e + 1 - a) in
      is_shift _ _ _ _ _ (sum_is _ (λ i. adds_of sums (a + i) (a + i - a) (e - (a + i)) k) (λ i. takes_of sums (a + i) k) (e + 1 - a) at_block) (omega (arith, x, y))

  by_sums : price_by_sums sums a e k ≡ blocks_cost L c ends hs a e
  unfolding price_by_sums
  by_sums =
      let r = summed_rising L c hs n sums s in
      eq_is _ _ _ _ _ _ (is_sub _ _) cost_is (go _ _ _ _ _ _ _ _ _ (span_by_sums sums n r a e u v k) (saved_by_sums sums n r a e u v k))
    where
      go : (s t f w r m b x d : ℕ) → s + b + x ≡ f + w + r + m → t ≡ d → f + w + r + m + t ≡ s + (b + x + d)
      go s t f w r m b x d g h = omega arith

  by_search : (r : ℕ) → Priced sums a e k r → sub_ℕ r (2 ^ 60) ≡ blocks_cost L c ends hs a e
  by_search r q = eq_is _ _ _ _ _ _ (is_sub r (2 ^ 60)) cost_is (omega (arith, q.is))

pub price_is_01 : PriceIs01
price_is_01 L c hs sums ahead behind n a e s f g =
    let p = is_partition ahead behind a e f in
    let cost = blocks_cost L c (ahead ++ e ∷ behind) hs a e in (
      subst (λ (k : ℕ). price_by_sums sums a e k ≡ cost) (omega arith) (by_sums L c hs sums _ n a e (length behind + 1) s g.0 g.1 p),
      by_search L c hs sums _ n a e _ s g.0 g.1 p,
    )

pub sums_fit : SumsFit
sums_fit L c hs q j p k g = sum_fits L c hs q j (prices_pass c p) (counted L hs k) g
