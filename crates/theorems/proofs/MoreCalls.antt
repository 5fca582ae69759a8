-- The theorems that specs/MoreCalls.antt states. The cost of a layout is the sum of the prices of the recorded calls, so that calls added add
-- their prices, each between two bounds; and the least cost lies between that of the other list's best layout, before and after. Assumes nothing.
use Prim.Native.Nat.{ℕ, ◌+◌, ◌-◌, ◌*◌, ◌≤◌}
use mathlib.Core.Path.{◌≡◌, refl, ap, ◌∙◌, subst}
use mathlib.Core.Bool.{Bool, true, false, cond}
use mathlib.Core.List.{List, [], ◌∷◌, ◌++◌, map}
use native.Mathlib.Omega.{arith}
use native.Mathlib.Nat.{mul-le-mul_left}
use lib.Dec.{T, eqb}
use lib.IntN.{ℤ, pos, ◌+ℤ◌}
use lib.Signed.{◌≤ℤ◌}
use Rattle.model.specs.declared.PriceCard.{PriceCard}
use Rattle.model.specs.declared.Limits.{Limits}
use Rattle.model.specs.Lists.{sum_of, every}
use Rattle.model.specs.Blocks.{Set, blocks}
use Rattle.model.specs.Calls.{Call, ordered}
use Rattle.model.specs.Histograms.{zeros}
use Rattle.model.specs.Layouts.{layout_ok, permitted}
use Rattle.model.specs.Recorder.{recorder_refusal, record_call, accepted_calls}
use Rattle.model.specs.Laws.{SetPasses}
use Rattle.model.proofs.Tests.{and_fst, and_snd, and_mk}
use Rattle.model.proofs.Integers.{Is, is_pos, is_exists, is_add, is_le, le_is}
use Rattle.model.proofs.PlanLaws.{permitted_ok}
use Rattle.theorems.specs.Plan.{Admitted, cost, output}
use Rattle.theorems.specs.MoreCalls.{increase_bound, sharp_bound, AllAccepted, Adds, done, same, more, Increases, IncreasesBetween, IncreaseBounded}
use Rattle.theorems.specs.MoreCalls.{least_cost, IsLeastCost, EachCostBounded, LeastCostPlanned, LeastCostBounded, OldPlanBounded}
use Rattle.theorems.proofs.PlanChecks.{prices_pass}
use Rattle.theorems.proofs.RecordingCalls.{accepted_passed}
use Rattle.theorems.proofs.CallPrices.{call_price, price_balanced}
use Rattle.theorems.proofs.CallBounds.{price-least, price_most}
use Rattle.theorems.proofs.PlanSums.{cost-sum}
use Rattle.theorems.proofs.Demand3.{plan_is_best}

-- Integers between bounds.

-- an integer, and n more
more_is : (z : ℤ) (q m n : ℕ) → Is z q m → Is (z +ℤ pos n) (q + n) (m + 0)
more_is z q m n i = is_add z (pos n) q m n 0 i (is_pos n)

-- wider bounds hold too, and an increase by 0 at least is not below
widened : (old new : ℤ) (least most low high : ℕ) → low ≤ least → most ≤ high → IncreasesBetween old new least most → IncreasesBetween old new low high
widened old new least most low high h k r =
    let x = is_exists old in
    let y = is_exists new in
    let a = is_le _ _ _ _ _ _ (more_is old _ _ least x.2) y.2 r.at_least in
    let b = is_le _ _ _ _ _ _ y.2 (more_is old _ _ most x.2) r.at_most in
    record {
      at_least = le_is _ _ _ _ _ _ (more_is old _ _ low x.2) y.2 (omega arith);
      at_most = le_is _ _ _ _ _ _ y.2 (more_is old _ _ high x.2) (omega arith);
    }

not_less : (old new : ℤ) (least most high : ℕ) → most ≤ high → IncreasesBetween old new least most → Increases old new high
not_less old new least most high k r =
    let x = is_exists old in
    let y = is_exists new in
    let w = widened old new least most 0 high (omega arith) k r in
    let a = is_le _ _ _ _ _ _ (more_is old _ _ 0 x.2) y.2 w.at_least in
    record { not_below = le_is _ _ _ _ _ _ x.2 y.2 (omega arith); at_most = w.at_most }

-- From the sharp bounds of n calls to 02's, and from n calls to one.

-- one call more, in its place
adds_one : (front back : List Call) (c : Call) → Adds 1 (front ++ back) (front ++ c ∷ back)
adds_one [] back c = more c (adds_none back)
  where
    adds_none : (cs : List Call) → Adds 0 cs cs
    adds_none [] = done
    adds_none (c ∷ cs) = same c (adds_none cs)
adds_one (d ∷ front) back c = same d (adds_one front back c)

module _ (L : ℕ) (p : PriceCard) (s : Set) (price : List Call → ℤ) where
  abbrev Sharply : Type 0
  Sharply = (n : ℕ) (old new : List Call) → Adds n old new → AllAccepted L s old → AllAccepted L s new → IncreasesBetween (price old) (price new) (n * p.rr) (n * sharp_bound p (blocks s))

  bounded : Sharply → IncreaseBounded L p s price
  bounded k = record {
    one = λ front back c u v. not_less _ _ _ _ _ (omega arith) (k 1 (front ++ back) (front ++ c ∷ back) (adds_one front back c) u v);
    several = λ n old new a u v.
        let e : n * sharp_bound p (blocks s) ≤ n * increase_bound p (blocks s) = mul-le-mul_left n (omega arith) in
        not_less _ _ _ _ _ (omega (arith, e)) (k n old new a u v);
    sharply = λ n old new a u v. widened _ _ _ _ _ _ (omega arith) (omega arith) (k n old new a u v);
  }

-- One layout's own cost.

module _ (L : ℕ) (s : Set) (h : SetPasses L s) where
  -- an accepted call has passed 7
  accepted_ordered : (cs : List Call) (hs : List ℕ) → T (every ordered (accepted_calls L s hs cs))
  unfolding every accepted_calls
  accepted_ordered [] hs = tt
  accepted_ordered (c ∷ cs) hs = go (eqb (recorder_refusal L s hs c) 0) refl (accepted_ordered cs (record_call L s hs c).histograms)
    where
      rest : List Call
      rest = accepted_calls L s (record_call L s hs c).histograms cs

      go : (b : Bool) → eqb (recorder_refusal L s hs c) 0 ≡ b → T (every ordered rest) → T (every ordered (cond b (c ∷ []) [] ++ rest))
      go true e r = and_mk (ordered c) (every ordered rest) (accepted_passed L s h hs c e).0 r
      go false e r = r

  all_ordered : (cs : List Call) → AllAccepted L s cs → T (every ordered cs)
  all_ordered cs e = subst (λ (l : List Call). T (every ordered l)) e (accepted_ordered cs (zeros L))

  module _ (ends : List ℕ) (t : T (layout_ok s ends)) (p : PriceCard) where
    abbrev total : List Call → ℕ
    total cs = sum_of (map (call_price s ends p) cs)

    -- the cost of a list that is accepted
    cost_total : (l : Limits) (cs : List Call) → AllAccepted L s cs → cost cs L p l s ends ≡ pos (total cs)
    cost_total l cs e = cost-sum L s h ends p (call_price s ends p) (λ c a b. price_balanced L s h ends t p c a) cs ∙ ap (λ (l : List Call). pos (total l)) e

    -- n calls, by induction from one
    record Added (n : ℕ) (old new : List Call) : Type 0 where
      least : total old + n * p.rr ≤ total new
      most : total new ≤ total old + n * sharp_bound p (blocks s)

    added : {n : ℕ} {old new : List Call} → Adds n old new → T (every ordered new) → Added n old new
    unfolding every sum_of
    added done k = record { least = omega arith; most = omega arith }
    added (same {n} {old} {new} c a) k =
        let r = added a (and_snd (ordered c) (every ordered new) k) in
        record { least = omega (arith, r.least); most = omega (arith, r.most) }
    added (more {n} {old} {new} c a) k =
        let r = added a (and_snd (ordered c) (every ordered new) k) in
        record {
          least = omega (arith, r.least, price-least s ends p c);
          most = omega (arith, r.most, price_most L s h ends t p c (and_fst (ordered c) (every ordered new) k));
        }

    each_sharply : (l : Limits) → Sharply L p s (λ (calls : List Call). cost calls L p l s ends)
    each_sharply l n old new a u v =
        let r = added a (all_ordered new v) in
        rw (cost_total l old u, cost_total l new v)
        (record { at_least = le_is _ _ _ _ _ _ (is_pos _) (is_pos _) (omega (arith, r.least)); at_most = le_is _ _ _ _ _ _ (is_pos _) (is_pos _) (omega (arith, r.most)) })

own_cost : (L : ℕ) (p : PriceCard) (l : Limits) (s : Set) → Admitted L p l s → (ends : List ℕ) → T (permitted p l s ends) → Sharply L p s (λ (calls : List Call). cost calls L p l s ends)
own_cost L p l s h ends t = each_sharply L s (prices_pass L p l s h).1 ends (permitted_ok p l s ends t) p l

pub each_cost_bounded : EachCostBounded
each_cost_bounded L p l s h ends t = bounded L p s _ (own_cost L p l s h ends t)

-- The least cost.

pub least-cost-planned : LeastCostPlanned
least-cost-planned L p l s h ends t calls =
    let d = plan_is_best calls L p l s h in
    let out : List ℕ = output calls L p l s in
    let b = d.best out (d.answers out (λ e. (d.refuses out).0 e ends t) (omega arith)) in
    record {
      allowed = subst (λ (es : List ℕ). T (permitted p l s es)) b.whole b.allowed;
      least = λ es v. subst (λ (fs : List ℕ). cost calls L p l s fs ≤ℤ cost calls L p l s es) b.whole (b.least es v);
      answered = λ lent e. let r = d.best lent e in r.billed ∙ ap (λ (es : List ℕ). cost calls L p l s es) r.whole;
    }

-- x and y are the least costs of the two lists; u is what the new one's best layout cost before, v what the old one's costs now
between : (x y u v : ℤ) (least most : ℕ) → x ≤ℤ u → y ≤ℤ v → IncreasesBetween u y least most → IncreasesBetween x v least most → IncreasesBetween x y least most
between x y u v least most below above new-best old-best =
    let i = is_exists x in
    let j = is_exists y in
    let e = is_exists u in
    let f = is_exists v in
    let a = is_le _ _ _ _ _ _ i.2 e.2 below in
    let b = is_le _ _ _ _ _ _ j.2 f.2 above in
    let c = is_le _ _ _ _ _ _ (more_is u _ _ least e.2) j.2 new-best.at_least in
    let d = is_le _ _ _ _ _ _ f.2 (more_is x _ _ most i.2) old-best.at_most in
    record {
      at_least = le_is _ _ _ _ _ _ (more_is x _ _ least i.2) j.2 (omega arith);
      at_most = le_is _ _ _ _ _ _ j.2 (more_is x _ _ most i.2) (omega arith);
    }

-- two that increase from one number between the same bounds differ by no more than these
near : (x y v : ℤ) (least most n : ℕ) → most ≤ n + least → IncreasesBetween x y least most → IncreasesBetween x v least most → v ≤ℤ (y +ℤ pos n)
near x y v least most n k r q =
    let i = is_exists x in
    let j = is_exists y in
    let f = is_exists v in
    let c = is_le _ _ _ _ _ _ (more_is x _ _ least i.2) j.2 r.at_least in
    let d = is_le _ _ _ _ _ _ f.2 (more_is x _ _ most i.2) q.at_most in
    le_is _ _ _ _ _ _ f.2 (more_is y _ _ n j.2) (omega arith)

module _ (L : ℕ) (p : PriceCard) (l : Limits) (s : Set) (h : Admitted L p l s) (ends : List ℕ) (t : T (permitted p l s ends)) where
  best : (calls : List Call) → IsLeastCost L p l s calls
  best calls = least-cost-planned L p l s h ends t calls

  module _ (n : ℕ) (old new : List Call) (a : Adds n old new) (u : AllAccepted L s old) (v : AllAccepted L s new) where
    abbrev low : ℕ
    low = n * p.rr

    abbrev high : ℕ
    high = n * sharp_bound p (blocks s)

    -- what a permitted layout costs under the two lists
    own : (es : List ℕ) → T (permitted p l s es) → IncreasesBetween (cost old L p l s es) (cost new L p l s es) low high
    own es k = own_cost L p l s h es k n old new a u v

    least-between : IncreasesBetween (least_cost L p l s old) (least_cost L p l s new) low high
    least-between = between _ _ _ _ low high ((best old).least _ (best new).allowed) ((best new).least _ (best old).allowed) (own _ (best new).allowed) (own _ (best old).allowed)

    old_plan_near : (x : ℕ) → high ≤ x + low → cost new L p l s (output old L p l s) ≤ℤ (least_cost L p l s new +ℤ pos x)
    old_plan_near x k = near _ _ _ low high x k least-between (own _ (best old).allowed)

pub least-cost_bounded : LeastCostBounded
least-cost_bounded L p l s h ends t = bounded L p s (least_cost L p l s) (least-between L p l s h ends t)

pub old_plan_bounded : OldPlanBounded
old_plan_bounded L p l s h ends t n old new a u v =
    let e : n * sharp_bound p (blocks s) ≤ n * ((sharp_bound p (blocks s) - p.rr) + p.rr) = mul-le-mul_left n (omega arith) in
    old_plan_near L p l s h ends t n old new a u v _ (omega (arith, e))
