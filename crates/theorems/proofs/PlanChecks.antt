-- The checks that the set passes, ahead of those that a call adds. Assumes nothing.
use Prim.Native.Nat.{ℕ}
use mathlib.Core.Path.{◌≡◌, ◌∙◌}
use mathlib.Core.Bool.{◌&&◌}
use mathlib.Core.List.{List, ◌∷◌, ◌++◌}
use lib.Dec.{T}
use Rattle.model.specs.declared.Delivery.{Delivery}
use Rattle.model.specs.declared.PriceCard.{PriceCard}
use Rattle.model.specs.declared.Limits.{Limits}
use Rattle.model.specs.Checks.{Check, ask, first_failed}
use Rattle.model.specs.Deliveries.{in_range, day_ok}
use Rattle.model.specs.Calls.{Call, offered_ok, offered_days_ok}
use Rattle.model.specs.Blocks.{Set, block_length_ok, slices_ok, used_ok, growers_ok, values_ok, days_ok}
use Rattle.model.specs.Prices.{prices_ok, limits_ok}
use Rattle.model.specs.Questions.{set_checks}
use Rattle.model.specs.Laws.{SetPasses}
use Rattle.model.proofs.Tests.{yes_first, first_passed}
use Rattle.theorems.specs.Plan.{Admitted}

-- 8 and 19 of a delivery, and of what a call offers
abbrev pub InBounds : Delivery → Type 0
InBounds d = T (in_range d) × T (day_ok d)

abbrev pub Offered : Call → Type 0
Offered c = T (offered_ok c) × T (offered_days_ok c)

module _ (L : ℕ) where
  pub prices_pass : (p : PriceCard) (l : Limits) (s : Set) → Admitted L p l s → T (prices_ok p && limits_ok l) × SetPasses L s
  prices_pass p l s h = yes_first 0 (prices_ok p && limits_ok l) _ h

  -- 2 3 4 5 are passed, and 8 and 19
  pub set_passes : (s : Set) → SetPasses L s
      → ((cs : List Check) → first_failed (set_checks L s ++ cs) ≡ first_failed cs) × ((cs : List Check) → first_failed (ask 8 (values_ok s) ∷ ask 19 (days_ok s) ∷ cs) ≡ first_failed cs)
  set_passes s h =
      let c2 = yes_first 1 (block_length_ok s.block) _ h in
      let c3 = yes_first 2 (slices_ok s.slices) _ c2.1 in
      let c4 = yes_first 3 (used_ok L s) _ c3.1 in
      let c5 = yes_first 4 (growers_ok s) _ c4.1 in
      let c8 = yes_first 7 (values_ok s) _ c5.1 in
      let c19 = yes_first 18 (days_ok s) _ c8.1 in (
        λ cs. first_passed 2 _ _ c2.0 ∙ first_passed 3 _ _ c3.0 ∙ first_passed 4 _ _ c4.0 ∙ first_passed 5 _ _ c5.0,
        λ cs. first_passed 8 _ _ c8.0 ∙ first_passed 19 _ _ c19.0,
      )
