-- 02, Slip 13: every permitted layout of a small set is listed, and the planner's answer is the cheapest of the list; proofs/Listing.antt proves it.
use Rattle.std.specs.Prelude.{ℕ, ◌≤◌, ◌<◌, ◌≡◌, ◌↔◌, cond, length, drop, T}
use Rattle.std.proofs.Math.Option.{some}
use mathlib.Core.List.{List, [], ◌++◌, map, flatten}
use Rattle.model.specs.declared.PriceCard.{PriceCard}
use Rattle.model.specs.declared.Limits.{Limits}
use Rattle.model.specs.Bounds.{most_listed_blocks}
use Rattle.model.specs.Lists.{keep, same_list}
use Rattle.model.specs.Blocks.{Set, blocks}
use Rattle.model.specs.Histograms.{counts_ok}
use Rattle.model.specs.Layouts.{permitted}
use Rattle.model.specs.Cost.{cost_of}
use Rattle.model.specs.Plan.{least, permitted_layouts}
use Rattle.model.specs.Planner.{PlanResult, cost_call, plan_call}
use Rattle.model.specs.Listing.{layout_line, earlier_first}
use Rattle.model.specs.ListingCalls.{ListResult, listed, list_call}
use Rattle.theorems.specs.Plan.{Admitted, layout_of}

-- the block limit, the prices, the limits, the set and the histograms
module _ (L : ℕ) (p : PriceCard) (l : Limits) (s : Set) (hs : List ℕ) where
  -- the layouts that are listed, in the order of their lines
  abbrev pub layouts : List (List ℕ)
  layouts = permitted_layouts p l s

  -- their lines, each with the bill that the call which costs a layout answers
  abbrev pub lines : List ℕ
  lines = flatten (map (λ (ends : List ℕ). layout_line (cost_call L p s ends hs).cost ends) layouts)

  -- the listing in a lent text, and the planner's answer in a lent slice of ends
  abbrev pub listing : List ℕ → ListResult
  listing text = list_call L p l s hs text

  abbrev pub planning : List ℕ → PlanResult
  planning out = plan_call L p l s hs out

  pub record LayoutsListed : Type 0 where
    -- "list every permitted layout and no other .. each once": how often ends stand in the list
    pub once : (ends : List ℕ) → length (keep (same_list ends) layouts) ≡ cond (permitted p l s ends) 1 0
    -- "those with an earlier end at the first difference first"
    pub ordered : T (earlier_first layouts)
    -- "with its bill": an accepted call writes these lines and nothing else, and answers how many they are
    pub written : (text : List ℕ) → (listing text).answer.refusal ≡ 0 → listing text ≡ record { answer = listed 0 (length layouts) (length lines); text = lines ++ drop (length lines) text }
    -- "the cheapest of the list, by 01's tie rule, is the planner's answer", ends and bill
    pub cheapest : (out : List ℕ) → (planning out).answer.refusal ≡ 0 → least (λ (ends : List ℕ). cost_of L p (blocks s) ends hs) layouts ≡ some (layout_of (planning out))
    pub billed : (out : List ℕ) → (planning out).answer.refusal ≡ 0 → (planning out).answer.cost ≡ (cost_call L p s (layout_of (planning out)) hs).cost
    -- "where the list would be empty, 11": of the listing of a small set, and of the planner of any
    pub empty : (text : List ℕ) → blocks s ≤ most_listed_blocks → ((listing text).answer.refusal ≡ 11) ↔ (layouts ≡ [])
    pub none_planned : (out : List ℕ) → ((planning out).answer.refusal ≡ 11) ↔ (layouts ≡ [])
    -- "(23: more than 12 blocks; placed just before 11)"
    pub too_many : (text : List ℕ) → ((listing text).answer.refusal ≡ 23) ↔ (most_listed_blocks < blocks s)

-- of every set, card, limits and histograms that pass the checks ahead of 23
abbrev pub EveryPermittedListed : Type 0
EveryPermittedListed = (L : ℕ) (p : PriceCard) (l : Limits) (s : Set) (hs : List ℕ) → Admitted L p l s → T (counts_ok L hs) → LayoutsListed L p l s hs
