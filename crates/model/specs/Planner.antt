-- The calls that cost and plan a layout (01: the bill; permitted layouts).
use Rattle.std.specs.Prelude.{ℕ, cond, List, [], ◌++◌, length, drop, eqb, pos}
use Rattle.model.specs.declared.PriceCard.{PriceCard}
use Rattle.model.specs.declared.Limits.{Limits}
use Rattle.model.specs.declared.Costed.{Costed}
use Rattle.model.specs.declared.Planned.{Planned}
use Rattle.model.specs.Lists.{value_or}
use Rattle.model.specs.Checks.{first_failed}
use Rattle.model.specs.Blocks.{Set, blocks}
use Rattle.model.specs.Cost.{cost_of}
use Rattle.model.specs.Plan.{cheapest}
use Rattle.model.specs.Questions.{cost_checks, planner_checks}

-- the planner's answer, and the lent slice of ends afterwards
pub record PlanResult : Type 0 where
  pub answer : Planned
  pub ends : List ℕ

-- L is the block limit
module _ (L : ℕ) where
  -- the cost of a given layout; a refused cost is 0
  unfoldable pub cost_call : PriceCard → Set → List ℕ → List ℕ → Costed
  cost_call p s ends hs =
      let n : ℕ = first_failed (cost_checks L p s ends hs) in
      record { refusal = n; cost = cond (eqb n 0) (cost_of L p (blocks s) ends hs) (pos 0) }

  -- the ends of the cheapest permitted layout, none where nothing is permitted
  unfoldable pub planned_ends : PriceCard → Limits → Set → List ℕ → List ℕ
  planned_ends p l s hs = value_or [] (cheapest L p l s hs)

  unfoldable pub planner_refusal : PriceCard → Limits → Set → List ℕ → ℕ → ℕ
  planner_refusal p l s hs room = first_failed (planner_checks L p l s hs (length (planned_ends p l s hs)) room)

  -- the planner: count, cost and ends of the cheapest permitted layout; "planner's layout empty" where refused. What lies past the ends stays.
  unfoldable pub plan_call : PriceCard → Limits → Set → List ℕ → List ℕ → PlanResult
  plan_call p l s hs out =
      let n : ℕ = planner_refusal p l s hs (length out) in
      let ends : List ℕ = planned_ends p l s hs in
      cond (eqb n 0)
      (record { answer = record { refusal = 0; count = length ends; cost = cost_of L p (blocks s) ends hs }; ends = ends ++ drop (length ends) out })
      (record { answer = record { refusal = n; count = 0; cost = pos 0 }; ends = out })
