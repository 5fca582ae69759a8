-- The number of a given layout, partition by partition. Assumes nothing.
use Prim.Native.Nat.{ℕ, ◌+◌, ◌-◌, ◌*◌, ◌^◌, ◌≤◌, ◌<◌}
use mathlib.Core.Path.{◌≡◌, refl, ap, ◌∙◌, subst}
use mathlib.Core.List.{List, [], ◌∷◌}
use native.Mathlib.Omega.{arith}
use native.Mathlib.Numerals.{add-one}
use lib.ListN.{length, get_or, drop, length-drop}
use lib.Seq.{drop-cons, drop-length}
use Rattle.layout_search.specs.Sums.{span, spans}
use Rattle.layout_search.specs.Task.{search_limit, Covers}
use Rattle.layout_search.specs.RunningSums.{adds_of, takes_of, Holds, Priced, Numbered}

covers_count : (n a : ℕ) (es : List ℕ) → Covers n a es → length es + a ≤ n
covers_count n a [] c = omega (arith, c)
covers_count n a (e ∷ es) c = omega (arith, c.0, covers_count n (e + 1) es c.2)

-- p ends are passed, and the blocks before a: s is 2 ^ 60 and their part of the cost
pub record Costing (sums ends : List ℕ) (n s a p : ℕ) : Type 0 where
  pub count : p ≤ length ends
  pub few : length ends ≤ n
  pub rest : Covers n a (drop p ends)
  pub inside : a ≤ n
  pub same : s + spans (λ i b f k. takes_of sums i k) 0 ends + spans (adds_of sums) a (drop p ends) ≡ 2 ^ 60 + spans (adds_of sums) 0 ends + spans (λ i b f k. takes_of sums i k) a (drop p ends)
  pub high : s ≤ 2 ^ 60 + a * 2 ^ 43
  pub low : 2 ^ 60 ≤ s + a * 2 ^ 43

pub costing_start : (sums ends : List ℕ) (n : ℕ) → Covers n 0 ends → Costing sums ends n (2 ^ 60) 0 0
costing_start sums ends n l = record {
  count = omega arith;
  few = omega (arith, covers_count n 0 ends l);
  rest = l;
  inside = omega arith;
  same = omega arith;
  high = omega arith;
  low = omega arith;
}

module _ (sums ends : List ℕ) (n s a p : ℕ) (holds : Holds sums n) (c : Costing sums ends n s a p) (h : p < length ends) where
  next : drop p ends ≡ get_or ends p 0 ∷ drop (p + 1) ends
  next = rw (add-one, ← drop-cons ends p 0 h) refl

  covers_next : Covers n a (get_or ends p 0 ∷ drop (p + 1) ends)
  covers_next = subst (λ (l : List ℕ). Covers n a l) next c.rest

  -- the next end lies where it must, and there are few
  pub costing_next : (a ≤ get_or ends p 0) × (get_or ends p 0 < n) × (n ≤ search_limit)
  costing_next = (covers_next.0, covers_next.1, holds.few)

  left : length (drop (p + 1) ends) + 1 ≡ length ends - p
  left = omega (arith, length-drop (p + 1) ends)

  split : (g : ℕ → ℕ → ℕ → ℕ → ℕ) → spans g a (drop p ends) ≡ span g a (get_or ends p 0) (length ends - p) + spans g (get_or ends p 0 + 1) (drop (p + 1) ends)
  split g = ap (spans g a) next ∙ ap (λ (k : ℕ). span g a (get_or ends p 0) k + spans g (get_or ends p 0 + 1) (drop (p + 1) ends)) left

  module _ (x : ℕ) (q : Priced sums a (get_or ends p 0) (length ends - p) x) where
    pub costing_more : Costing sums ends n (s + x - 2 ^ 60) (get_or ends p 0 + 1) (p + 1)
    costing_more =
        let w = costing_next in
        let u = split (adds_of sums) in
        let d = split (λ i b f k. takes_of sums i k) in
        record {
          count = omega arith;
          few = c.few;
          rest = covers_next.2;
          inside = omega arith;
          same = omega (arith, c.same, c.low, q.is, q.down, q.up);
          high = omega (arith, c.high, c.low, q.is, q.down, q.up);
          low = omega (arith, c.low, q.is, q.down, q.up);
        }

pub costing_done : (sums ends : List ℕ) (n s a p : ℕ) → Holds sums n → Costing sums ends n s a p → length ends ≤ p → Numbered sums ends s
costing_done sums ends n s a p holds c h =
    let g : p ≡ length ends = omega (arith, c.count) in
    let e : drop p ends ≡ [] = ap (λ (k : ℕ). drop k ends) g ∙ drop-length ends in
    let q : s + spans (λ i b f k. takes_of sums i k) 0 ends + 0 ≡ 2 ^ 60 + spans (adds_of sums) 0 ends + 0 = rw e at c.same in
    record { is = omega arith; small = omega (arith, c.high, c.inside, holds.few) }
