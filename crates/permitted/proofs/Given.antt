-- What it says that the checks of a plan and of a cost are passed. Assumes nothing.
use Prim.Native.Nat.{ℕ, ◌+◌, ◌-◌, ◌/◌, ◌≤◌, ◌<◌}
use mathlib.Core.Path.{◌≡◌, refl, sym, ap₂, ◌∙◌, subst}
use mathlib.Core.Bool.{Bool, true, false, not, ◌&&◌, and-true}
use mathlib.Core.List.{List, [], ◌∷◌, ◌++◌}
use native.Mathlib.Omega.{arith}
use borrow.Author.Tests.{lt-leb, le-leb}
use lib.Dec.{T, leb, eqb}
use lib.ListN.{length, set, length-set}
use Rattle.model.specs.declared.PriceCard.{PriceCard}
use Rattle.model.specs.declared.Limits.{Limits}
use Rattle.model.specs.Checks.{Check, ask, first_failed}
use Rattle.model.specs.Prices.{prices_ok, limits_ok}
use Rattle.model.specs.Blocks.{Set, blocks, values_ok, days_ok}
use Rattle.model.specs.Histograms.{counts_ok}
use Rattle.model.specs.Layouts.{layout_ok, separates_none, longest_partition}
use Rattle.model.specs.Plan.{permitted_layouts}
use Rattle.model.specs.Questions.{set_checks, apply_checks, cost_checks, planner_checks}
use Rattle.model.specs.Lent.{set_of}
use Rattle.model.proofs.Tests.{and_fst, yes_first}
use Rattle.checks.proofs.Answers.{failed_first, numbered, passed_first}
use Rattle.sets.specs.Sized.{set_refusal_of, counted_checks}
use Rattle.sets.proofs.Sets.{sized, set_first, blocks-least, blocks_most}
use Rattle.layout_search.proofs.RowLaws.{stored_more}
use Rattle.block_costs.specs.Terms.{PricesPass, Counted}
use Rattle.block_costs.proofs.TermLaws.{prices_pass, counted}
use Rattle.permitted.specs.Given.{given_checks, Marked}

module _ (L : ℕ) (s : Set) where
  -- the set's checks of values and days, by their answers, and 9
  abbrev valued : List ℕ → Bool → Bool → List Check
  valued hs values days = set_checks L s ++ ask 8 values ∷ ask 19 days ∷ ask 9 (counts_ok L hs) ∷ []

  -- 7 asks nothing here, and no values and no days are offered
  pub counted_given : (hs : List ℕ) → first_failed (counted_checks L s hs true true true) ≡ first_failed (valued hs (values_ok s) (days_ok s))
  unfolding first_failed
  counted_given hs = ap₂ (λ (b d : Bool). first_failed (valued hs b d)) (and-true (values_ok s)) (and-true (days_ok s))

  -- what comes after the checks of a layout
  pub apply_passed : (ends : List ℕ) (cs : List Check) → first_failed (apply_checks L s ends) ≡ 0 → first_failed (apply_checks L s ends ++ cs) ≡ first_failed cs
  unfolding apply_checks numbered
  apply_passed ends cs = passed_first (apply_checks L s ends) cs tt

-- what the checks of a plan and of a cost have in common
pub record Given (L : ℕ) (p : PriceCard) (s : Set) (hs : List ℕ) : Type 0 where
  pub prices : PricesPass p
  pub counts : Counted L hs
  pub some : 1 ≤ blocks s
  pub few : blocks s ≤ L

module _ (L : ℕ) (p : PriceCard) (s : Set) (hs : List ℕ) where
  given : T (prices_ok p) → set_refusal_of L s ≡ 0 → T (counts_ok L hs) → Given L p s hs
  given a e c =
      let z = sized L s (sym e) in
      record { prices = prices_pass p a; counts = counted L hs c; some = blocks-least z; few = blocks_most z }

  pub cost_given : (ends : List ℕ) → first_failed (cost_checks L p s ends hs) ≡ 0 → Given L p s hs × T (layout_ok s ends)
  unfolding cost_checks
  cost_given ends h =
      let c1 = yes_first 0 (prices_ok p) _ h in
      let c5 = set_first L s _ c1.1 in
      let c6 = yes_first 5 (layout_ok s ends) _ c5.1 in
      let c8 = yes_first 7 (values_ok s) _ c6.1 in
      let c19 = yes_first 18 (days_ok s) _ c8.1 in
      let c9 = yes_first 8 (counts_ok L hs) _ c19.1 in
      (given c1.0 c5.0 c9.0, c6.0)

  module _ (l : Limits) where
    pub plan_given : first_failed (given_checks L p l s hs) ≡ 0 → Given L p s hs
    plan_given h =
        let c1 = yes_first 0 (prices_ok p && limits_ok l) _ h in
        let c5 = set_first L s _ c1.1 in
        let c8 = yes_first 7 (values_ok s) _ c5.1 in
        let c19 = yes_first 18 (days_ok s) _ c8.1 in
        let c9 = yes_first 8 (counts_ok L hs) _ c19.1 in
        given (and_fst (prices_ok p) (limits_ok l) c1.0) c5.0 c9.0

    -- 11 and 15 after the others
    module _ (needed room : ℕ) where
      pub plan_failed : (first_failed (given_checks L p l s hs) ≡ 0 → ⊥) → first_failed (given_checks L p l s hs) ≡ first_failed (planner_checks L p l s hs needed room)
      unfolding planner_checks
      plan_failed h = failed_first (given_checks L p l s hs) _ h

      pub plan_passed : first_failed (given_checks L p l s hs) ≡ 0
          → first_failed (planner_checks L p l s hs needed room) ≡ first_failed (ask 11 (not (eqb (length (permitted_layouts p l s)) 0)) ∷ ask 15 (leb needed room) ∷ [])
      unfolding planner_checks numbered
      plan_passed = passed_first (given_checks L p l s hs) _ tt

-- the limits
module _ (p : PriceCard) (l : Limits) where
  pub longest_some : p.rr ≤ l.read → (l.read - p.rr) / p.sr + 1 ≡ longest_partition p l
  unfolding longest_partition
  longest_some h = rw (le-leb p.rr l.read h)

  pub longest_none : l.read < p.rr → 0 ≡ longest_partition p l
  unfolding longest_partition
  longest_none h = rw (lt-leb p.rr l.read h)

-- the flags of all blocks by a set's growers, and one after the other
pub marked_all : {s t : Set} {n : ℕ} {old fits : List Bool} → s ≡ t → n ≡ blocks t → Marked (set_of s.block s.used s.slices.growers [] [] []) n old fits → Marked t (blocks t) old fits
marked_all {s} {t} {n} {old} {fits} e f m =
    let g = subst (λ (u : Set). Marked (set_of u.block u.used u.slices.growers [] [] []) n old fits) e m in
    record { long = g.long; here = λ x h. g.here x (omega (arith, f)) }

module _ (s : Set) where
  pub marked_start : (old : List Bool) → Marked s 0 old old
  marked_start old = record { long = refl; here = λ x g. absurd (omega arith) }

  pub marked_more : (i : ℕ) (v : Bool) (old fits : List Bool) → Marked s i old fits → i < length old → v ≡ separates_none s i → Marked s (i + 1) old (set fits i v)
  marked_more i v old fits l g e = record { long = length-set fits i v ∙ l.long; here = stored_more _ false v i fits (omega (arith, l.long)) e l.here }
