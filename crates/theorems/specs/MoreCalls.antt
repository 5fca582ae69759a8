-- 02, Slip 11: what one more call can do to the bill. "All this is for columns laid without spares." Proved in proofs/MoreCalls.antt.
use Rattle.std.specs.Prelude.{ℕ, ◌+◌, ◌-◌, ◌*◌, min, ◌≡◌, List, [], ◌∷◌, ◌++◌, T, ℤ, pos, ◌+ℤ◌, ◌≤ℤ◌}
use Rattle.model.specs.declared.PriceCard.{PriceCard}
use Rattle.model.specs.declared.Limits.{Limits}
use Rattle.model.specs.Blocks.{Set, blocks}
use Rattle.model.specs.Calls.{Call}
use Rattle.model.specs.Layouts.{permitted}
use Rattle.model.specs.Recorder.{accepted_from_zeros}
use Rattle.theorems.specs.Plan.{Admitted, cost, planned, output}

-- "SR × (N - 1) + (RR + RW) × (N + 1)", of N blocks
abbrev pub increase_bound : PriceCard → ℕ → ℕ
increase_bound p n = p.sr * (n - 1) + (p.rr + p.«rw») * (n + 1)

-- the price of a block read or of a partition passed, whichever is lower
abbrev pub lower_price : PriceCard → ℕ
lower_price p = min p.sr (p.rr + p.«rw»)

-- The same bound less min(SR, RR + RW) × (N - 1). On K partitions a find, insert, delete or move reads at most N - K blocks beside the first and passes
-- at most K partitions, SR × (N - K) + (RR + RW) × (K + 1) together, which is most where K is 1 or N; a range costs RR + SR × (N - 1) at most.
abbrev pub sharp_bound : PriceCard → ℕ → ℕ
sharp_bound p n = increase_bound p n - lower_price p * (n - 1)

-- "the recorder accepting" a list: each call of it. L is the block limit.
abbrev pub AllAccepted : ℕ → Set → List Call → Type 0
AllAccepted L s calls = accepted_from_zeros L s calls ≡ calls

-- "n calls added" anywhere: the new list has the old one's calls in their order, and n calls more
pub data Adds : ℕ → List Call → List Call → Type 0 where
  done : Adds 0 [] []
  same : {n : ℕ} {old new : List Call} (c : Call) → Adds n old new → Adds n (c ∷ old) (c ∷ new)
  more : {n : ℕ} {old new : List Call} (c : Call) → Adds n old new → Adds (n + 1) old (c ∷ new)

-- "The new .. bill is not below the old one. It exceeds it by at most" so much.
pub record Increases (old new : ℤ) (most : ℕ) : Type 0 where
  pub not_below : old ≤ℤ new
  pub at_most : new ≤ℤ (old +ℤ pos most)

-- it exceeds it by at least and by at most so much
pub record IncreasesBetween (old new : ℤ) (least most : ℕ) : Type 0 where
  pub at_least : (old +ℤ pos least) ≤ℤ new
  pub at_most : new ≤ℤ (old +ℤ pos most)

-- What calls added do to `price`, a number that a recorded list comes to: the block limit, the card and the set.
pub record IncreaseBounded (L : ℕ) (p : PriceCard) (s : Set) (price : List Call → ℤ) : Type 0 where
  -- "Let one call be added anywhere in a recorded list, .. the recorder accepting both lists. The new .. bill is not below the old
  -- one. It exceeds it by at most SR × (N - 1) + (RR + RW) × (N + 1)."
  pub one : (front back : List Call) (c : Call) → AllAccepted L s (front ++ back) → AllAccepted L s (front ++ c ∷ back)
      → Increases (price (front ++ back)) (price (front ++ c ∷ back)) (increase_bound p (blocks s))
  -- "The same pair of bounds, times n, holds for n calls added."
  pub several : (n : ℕ) (old new : List Call) → Adds n old new → AllAccepted L s old → AllAccepted L s new
      → Increases (price old) (price new) (n * increase_bound p (blocks s))
  -- How near these are: each call adds RR at least and `sharp_bound` at most, so that 02's upper bound is met at N 1 alone.
  pub sharply : (n : ℕ) (old new : List Call) → Adds n old new → AllAccepted L s old → AllAccepted L s new
      → IncreasesBetween (price old) (price new) (n * p.rr) (n * sharp_bound p (blocks s))

-- the block limit, the prices, the limits and the set
module _ (L : ℕ) (p : PriceCard) (l : Limits) (s : Set) where
  -- "the least bill" of a recorded list: the cost of the planner's output
  abbrev pub least_cost : List Call → ℤ
  least_cost calls = cost calls L p l s (output calls L p l s)

  -- a permitted layout has it, none has less, and the planner answers it whenever it accepts
  pub record IsLeastCost (calls : List Call) : Type 0 where
    pub allowed : T (permitted p l s (output calls L p l s))
    pub least : (ends : List ℕ) → T (permitted p l s ends) → least_cost calls ≤ℤ cost calls L p l s ends
    pub answered : (out : List ℕ) → (planned calls L p l s out).answer.refusal ≡ 0 → (planned calls L p l s out).answer.cost ≡ least_cost calls

-- each permitted layout's own bill
abbrev pub EachCostBounded : Type 0
EachCostBounded = (L : ℕ) (p : PriceCard) (l : Limits) (s : Set) → Admitted L p l s → (ends : List ℕ) → T (permitted p l s ends)
    → IncreaseBounded L p s (λ (calls : List Call). cost calls L p l s ends)

-- "at least one layout being permitted": the least bill, first that it is the least, for every list of calls
abbrev pub LeastCostPlanned : Type 0
LeastCostPlanned = (L : ℕ) (p : PriceCard) (l : Limits) (s : Set) → Admitted L p l s → (ends : List ℕ) → T (permitted p l s ends)
    → (calls : List Call) → IsLeastCost L p l s calls

-- Slip 11
abbrev pub LeastCostBounded : Type 0
LeastCostBounded = (L : ℕ) (p : PriceCard) (l : Limits) (s : Set) → Admitted L p l s → (ends : List ℕ) → T (permitted p l s ends)
    → IncreaseBounded L p s (least_cost L p l s)

-- "how far the plan depends on a single recorded call": under the new list, the layout planned from the old one costs at most so much more
-- than the least, n times the most that a call adds less the least
abbrev pub OldPlanBounded : Type 0
OldPlanBounded = (L : ℕ) (p : PriceCard) (l : Limits) (s : Set) → Admitted L p l s → (ends : List ℕ) → T (permitted p l s ends)
    → (n : ℕ) (old new : List Call) → Adds n old new → AllAccepted L s old → AllAccepted L s new
    → cost new L p l s (output old L p l s) ≤ℤ (least_cost L p l s new +ℤ pos (n * (sharp_bound p (blocks s) - p.rr)))
