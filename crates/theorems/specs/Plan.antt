-- Demand 3, one theorem about a whole list of calls; proofs/Demand3.antt proves it.
-- "For every list of the five calls, recorded from zeros, refused ones included: the planner refuses by 11 exactly when no layout
-- is permitted; otherwise, given room for its output (15), its layout is permitted and no permitted layout has a smaller bill; and
-- with a free slot, each permitted layout's bill is the sum, over the accepted calls, of the priced counts each reports when made
-- alone on the column freshly laid by it." Among the calls are 02's ranges over days (Slip 7), which are recorded and scan as any range.
use Rattle.std.specs.Prelude.{ℕ, ◌≤◌, ◌<◌, ◌≡◌, ◌↔◌, ◌≢◌, ◌&&◌, List, [], ◌∷◌, ◌++◌, map, length, take, T, ltb, ℤ, pos, ◌≤ℤ◌}
use Rattle.model.specs.declared.PriceCard.{PriceCard}
use Rattle.model.specs.declared.Limits.{Limits}
use Rattle.model.specs.Lists.{sum_of, every}
use Rattle.model.specs.Checks.{ask, first_failed}
use Rattle.model.specs.Blocks.{Set, blocks, values_ok, days_ok}
use Rattle.model.specs.Calls.{Call}
use Rattle.model.specs.Histograms.{counts_ok}
use Rattle.model.specs.Prices.{prices_ok, limits_ok, priced}
use Rattle.model.specs.Layouts.{permitted}
use Rattle.model.specs.Cost.{cost_of}
use Rattle.model.specs.Questions.{set_checks}
use Rattle.model.specs.Recorder.{recorded_from_zeros, accepted_from_zeros}
use Rattle.model.specs.Planner.{PlanResult, cost_call, planned_ends, plan_call}
use Rattle.model.specs.Column.{lengths_of}
use Rattle.model.specs.ColumnCalls.{apply_call, laid_column, report_alone}

-- the checks that the planner puts ahead of 11 are answered by yes: 1 2 3 4 5 8 19. Its 9 is not assumed: see `counted`.
abbrev pub Admitted : ℕ → PriceCard → Limits → Set → Type 0
Admitted L p l s = first_failed (ask 1 (prices_ok p && limits_ok l) ∷ set_checks L s ++ ask 8 (values_ok s) ∷ ask 19 (days_ok s) ∷ []) ≡ 0

-- the layout that the planner wrote: as many ends as it answers
abbrev pub layout_of : PlanResult → List ℕ
layout_of r = take r.answer.count r.ends

-- "the priced counts" that a call "reports when made alone on the column freshly laid by" a layout
abbrev pub reported : ℕ → PriceCard → Set → List ℕ → Call → ℕ
reported L p s ends k = priced p (report_alone L s ends k)

-- the list of calls; the block limit, the prices, the limits and the set
module _ (calls : List Call) (L : ℕ) (p : PriceCard) (l : Limits) (s : Set) where
  -- the histograms that the calls leave, "recorded from zeros, refused ones included"
  abbrev pub recorded : List ℕ
  recorded = recorded_from_zeros L s calls

  -- a layout's cost (01: its bill) under them
  abbrev pub cost : List ℕ → ℤ
  cost ends = cost_of L p (blocks s) ends recorded

  -- the planner's answer under them, and the slice of ends `out` that it was lent
  abbrev pub planned : List ℕ → PlanResult
  planned out = plan_call L p l s recorded out

  -- the planner's "output": the ends for which there is to be room
  abbrev pub output : List ℕ
  output = planned_ends L p l s recorded

  -- an answer that is the best: the whole output, permitted, billed at its own cost, and none costs less
  pub record IsBest (r : PlanResult) : Type 0 where
    pub whole : layout_of r ≡ output
    pub allowed : T (permitted p l s (layout_of r))
    pub billed : r.answer.cost ≡ cost (layout_of r)
    pub least : (ends : List ℕ) → T (permitted p l s ends) → cost (layout_of r) ≤ℤ cost ends

  pub record PlanIsBest : Type 0 where
    -- what was recorded from zeros passes 9
    pub counted : T (counts_ok L recorded)
    -- "the planner refuses by 11 exactly when no layout is permitted"
    pub refuses : (out : List ℕ) → ((planned out).answer.refusal ≡ 11) ↔ ((ends : List ℕ) → T (permitted p l s ends) → ⊥)
    -- "given room for its output (15)": it refuses by 15 exactly when a layout is permitted and the slice is shorter than the output
    pub short : (out : List ℕ) → ((planned out).answer.refusal ≡ 15) ↔ (((ends : List ℕ) × T (permitted p l s ends)) × (length out < length output))
    -- "otherwise, given room for its output (15), its layout is permitted and no permitted layout has a smaller bill"
    pub answers : (out : List ℕ) → (planned out).answer.refusal ≢ 11 → length output ≤ length out → (planned out).answer.refusal ≡ 0
    pub best : (out : List ℕ) → (planned out).answer.refusal ≡ 0 → IsBest (planned out)
    -- the calls that bill and lay a layout accept each permitted one, so that its bill is its cost and its column is freshly laid
    pub bills : (ends : List ℕ) → T (permitted p l s ends) → cost_call L p s ends recorded ≡ record { refusal = 0; cost = cost ends }
    pub lays : (ends : List ℕ) → T (permitted p l s ends) → (apply_call L s ends).refusal ≡ 0
    -- "with a free slot, each permitted layout's bill is the sum, over the accepted calls, of the priced counts each reports
    -- when made alone on the column freshly laid by it"
    pub sums : s.used < length s.slices.growers → (ends : List ℕ) → T (permitted p l s ends) → cost ends ≡ pos (sum_of (map (reported L p s ends) (accepted_from_zeros L s calls)))

abbrev pub Demand3 : Type 0
Demand3 = (calls : List Call) (L : ℕ) (p : PriceCard) (l : Limits) (s : Set) → Admitted L p l s → PlanIsBest calls L p l s

-- 02, Slip 6: "a freshly laid column has no empty partition, so the cheapest-layout statement is unaffected": no partition of a column
-- that laying returns is empty, so that Slip 6 changes no report of a call made alone on it; proofs/LaidColumn.antt proves it.
abbrev pub NoneEmptyWhenLaid : Type 0
NoneEmptyWhenLaid = (L : ℕ) (s : Set) (ends : List ℕ) → (apply_call L s ends).refusal ≡ 0 → T (every (ltb 0) (lengths_of L (laid_column L s ends)))
