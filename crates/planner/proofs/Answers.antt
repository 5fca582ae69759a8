-- What the search answers is the planner's answer, and a layout's number its cost. Assumes nothing.
use Prim.Native.Nat.{ℕ, suc, ◌+◌, ◌*◌, ◌^◌, ◌≤◌, ◌<◌}
use mathlib.Core.Path.{◌≡◌, refl, sym, ap, ◌∙◌, subst}
use mathlib.Core.Bool.{Bool, true, false, not, cond}
use mathlib.Core.Option.{Option, none, some}
use mathlib.Core.List.Memᴰ
use mathlib.Core.List.{List, [], ◌∷◌, ◌++◌, Memᴰ}
use native.Mathlib.Omega.{arith}
use borrow.Author.Tests.{lt-leb, le-leb, ne_eqb}
use lib.Dec.{T, leb, eqb}
use lib.ListN.{length, drop}
use lib.IntN.{ℤ, pos, sub_ℕ}
use Rattle.model.specs.declared.PriceCard.{PriceCard}
use Rattle.model.specs.declared.Limits.{Limits}
use Rattle.model.specs.declared.Costed.{Costed}
use Rattle.model.specs.declared.Planned.{Planned}
use Rattle.model.specs.declared.refusal.Refusal.{Refusal}
use Rattle.model.specs.Refusals.{refusal_number}
use Rattle.model.proofs.Refusals.{refusal_some}
use Rattle.model.specs.Lists.{value_or}
use Rattle.model.specs.Checks.{ask, first_failed}
use Rattle.model.specs.Blocks.{Set, blocks}
use Rattle.model.specs.Layouts.{layout_ok, most_partitions, longest_partition, permitted}
use Rattle.model.specs.Cost.{cost_of}
use Rattle.model.specs.Plan.{permitted_layouts, cheapest}
use Rattle.model.specs.Questions.{cost_checks}
use Rattle.model.specs.Planner.{PlanResult, cost_call, planned_ends, planner_refusal, plan_call}
use Rattle.model.proofs.Integers.{is_sub, eq_is}
use Rattle.model.proofs.LayoutLaws.{laid}
use Rattle.model.proofs.PlanLaws.{permitted-listed, listed-permitted, cheapest_chosen, chosen_cheapest, none_permitted}
use Rattle.layout_search.specs.Task.{Covers, Least}
use Rattle.layout_search.specs.RunningSums.{sums_per_place, task_of, Numbered}
use Rattle.layout_search.specs.Answer.{answer, Answered, nothing, tight, found}
use Rattle.block_costs.specs.Terms.{Summed}
use Rattle.block_costs.proofs.LayoutCost.{cut_covers, layout_cost}
use Rattle.permitted.specs.Given.{given_checks, Marked}
use Rattle.permitted.proofs.Given.{plan_failed, plan_passed}
use Rattle.permitted.proofs.Permitted.{flagged, Ready, task, permitted_allowed, allowed_permitted, cost_by_sums, least-cheapest, cheapest-least}

-- is any layout permitted?
module _ (p : PriceCard) (l : Limits) (s : Set) where
  any_not : ((es : List ℕ) → T (permitted p l s es) → ⊥) → not (eqb (length (permitted_layouts p l s)) 0) ≡ false
  any_not h = go (permitted_layouts p l s) (λ es m. h es (listed-permitted p l s es m))
    where
      go : (xs : List (List ℕ)) → ((es : List ℕ) → Memᴰ es xs → ⊥) → not (eqb (length xs) 0) ≡ false
      go [] f = refl
      go (x ∷ xs) f = absurd (f x (Memᴰ.head refl))

  any_so : (es : List ℕ) → T (permitted p l s es) → 1 ≤ blocks s → not (eqb (length (permitted_layouts p l s)) 0) ≡ true
  any_so es t h = go (permitted_layouts p l s) (permitted-listed p l s h es t)
    where
      go : (xs : List (List ℕ)) → Memᴰ es xs → not (eqb (length xs) 0) ≡ true
      go [] m = absurd (Memᴰ.not-nil m)
      go (x ∷ xs) m = ap (λ (b : Bool). not b) (ne_eqb (suc (length xs)) 0 (λ e. absurd (omega arith)))

-- the last two checks
last_two_lem : (a b : Bool) (n : ℕ) → cond a (cond b 0 15) 11 ≡ n → first_failed (ask 11 a ∷ ask 15 b ∷ []) ≡ n
unfolding first_failed
last_two_lem a b n e = e

module _ (L : ℕ) (p : PriceCard) (l : Limits) (s : Set) (hs out : List ℕ) where
  plan_refused : (n : ℕ) → planner_refusal L p l s hs (length out) ≡ n → (n ≡ 0 → ⊥) → ◌≡◌ {A = PlanResult} (record { answer = answer n 0 (pos 0); ends = out }) (plan_call L p l s hs out)
  unfolding plan_call
  plan_refused n e h = rw (e, ne_eqb n 0 h)

  plan_accepted : (es : List ℕ) → planner_refusal L p l s hs (length out) ≡ 0 → planned_ends L p l s hs ≡ es
      → ◌≡◌ {A = PlanResult} (record { answer = answer 0 (length es) (cost_of L p (blocks s) es hs); ends = es ++ drop (length es) out }) (plan_call L p l s hs out)
  unfolding plan_call
  plan_accepted es e f = rw (e, f)

  ends_planned : (es : List ℕ) → cheapest L p l s hs ≡ some es → planned_ends L p l s hs ≡ es
  unfolding planned_ends
  ends_planned es e = ap (value_or []) e

  -- a refusal by the checks of what was given
  pub plan_not_given : (r : Refusal) → refusal_number r ≡ first_failed (given_checks L p l s hs)
      → ◌≡◌ {A = PlanResult} (record { answer = answer (refusal_number r) 0 (pos 0); ends = out }) (plan_call L p l s hs out)
  unfolding planner_refusal
  plan_not_given r e =
      let f = plan_failed L p s hs l (length (planned_ends L p l s hs)) (length out) (λ z. refusal_some r (e ∙ z)) in
      plan_refused (refusal_number r) (sym (e ∙ f)) (refusal_some r)

  module _ (given : first_failed (given_checks L p l s hs) ≡ 0) where
    refusal_is : (n : ℕ) → cond (not (eqb (length (permitted_layouts p l s)) 0)) (cond (leb (length (planned_ends L p l s hs)) (length out)) 0 15) 11 ≡ n → planner_refusal L p l s hs (length out) ≡ n
    unfolding planner_refusal
    refusal_is n e = plan_passed L p s hs l (length (planned_ends L p l s hs)) (length out) given ∙ last_two_lem _ _ n e

    module _ {sums : List ℕ} {fits : List Bool} (w : Ready L p s hs sums fits) where
      abbrev goal : Planned → List ℕ → Type 0
      goal r new = ◌≡◌ {A = PlanResult} (record { answer = r; ends = new }) (plan_call L p l s hs out)

      -- room for fewer ends than the cheapest has
      too_tight : (o : Option (List ℕ)) → cheapest L p l s hs ≡ o → (es : List ℕ) → T (permitted p l s es)
          → ((ds : List ℕ) → Least (task l w) (most_partitions p l) ds → length out < length ds) → planner_refusal L p l s hs (length out) ≡ 15
      too_tight none e es t f = absurd (none_permitted p l s L hs w.flagged.some e es t)
      too_tight (some ds) e es t f =
          let g = f ds (cheapest-least l w ds (cheapest_chosen p l s L hs ds w.flagged.some e)) in
          refusal_is 15 (rw (any_so p l s es t w.flagged.some, ends_planned ds e, lt-leb (length ds) (length out) g) refl)

      answered_task : (new : List ℕ) (r : Planned) → Answered (task l w) (most_partitions p l) out new r → goal r new
      answered_task new r (nothing f e q) =
          subst (λ (v : List ℕ). goal r v) (sym q) (subst (λ (v : Planned). goal v out) (sym e)
          (plan_refused 11 (refusal_is 11 (rw (any_not p l s (λ es t. f es (permitted_allowed l w es t))) refl)) (λ z. omega arith)))
      answered_task new r (tight es a f e q) =
          subst (λ (v : List ℕ). goal r v) (sym q) (subst (λ (v : Planned). goal v out) (sym e)
          (plan_refused 15 (too_tight (cheapest L p l s hs) refl es (allowed_permitted l w es a) f) (λ z. omega arith)))
      answered_task new r (found es h room e q) =
          let c = least-cheapest l w es h in
          let f = ends_planned es (chosen_cheapest p l s L hs es w.flagged.some c) in
          let z = cost_by_sums l w es h.allowed.0 in
          subst (λ (v : List ℕ). goal r v) (sym q) (subst (λ (v : Planned). goal v (es ++ drop (length es) out)) (sym e)
          (subst (λ (v : ℤ). goal (answer 0 (length es) v) (es ++ drop (length es) out)) z
          (plan_accepted es (refusal_is 0 (rw (any_so p l s es c.allowed w.flagged.some, f, le-leb (length es) (length out) room) refl)) f)))

    -- the search's answer, where n, longest and most are what they must be
    pub answered_plan : (n longest most : ℕ) (sums : List ℕ) (were fits : List Bool) (new : List ℕ) (r : Planned)
        → n ≡ blocks s → longest ≡ longest_partition p l → most ≡ most_partitions p l → 1 ≤ blocks s
        → Summed L p hs ((n + 1) * sums_per_place) sums → Marked s (blocks s) were fits → Answered (task_of sums fits longest n) most out new r
        → ◌≡◌ {A = PlanResult} (record { answer = r; ends = new }) (plan_call L p l s hs out)
    answered_plan n longest most sums were fits new r a b c few added marks h =
        let w : Ready L p s hs sums fits = record { summed = rw a at added; flagged = flagged s were fits few marks } in
        answered_task w new r (rw (a, b, c) at h)

-- the cost of a layout
pub layout_covers_blocks : (s : Set) (ends : List ℕ) → T (layout_ok s ends) → Covers (blocks s) 0 ends
layout_covers_blocks s ends t = cut_covers 0 ends (blocks s) (laid s ends t).cut

module _ (L : ℕ) (p : PriceCard) (s : Set) (ends hs : List ℕ) where
  pub cost_refused : (r : Refusal) → refusal_number r ≡ first_failed (cost_checks L p s ends hs)
      → ◌≡◌ {A = Costed} (record { refusal = refusal_number r; cost = pos 0 }) (cost_call L p s ends hs)
  unfolding cost_call
  cost_refused r e = rw (sym e, ne_eqb (refusal_number r) 0 (refusal_some r))

  pub cost_answered : (n m : ℕ) (sums : List ℕ) (z : ℤ) → 0 ≡ first_failed (cost_checks L p s ends hs) → T (layout_ok s ends) → n ≡ blocks s
      → Summed L p hs ((n + 1) * sums_per_place) sums → Numbered sums ends m → z ≡ sub_ℕ m (2 ^ 60)
      → ◌≡◌ {A = Costed} (record { refusal = 0; cost = z }) (cost_call L p s ends hs)
  unfolding cost_call
  cost_answered n m sums z e t a added num f =
      let c = layout_cost L p hs (blocks s) sums (rw a at added) ends (laid s ends t).cut in
      let g : sub_ℕ m (2 ^ 60) ≡ cost_of L p (blocks s) ends hs = eq_is _ _ _ _ _ _ (is_sub m (2 ^ 60)) c (omega (arith, num.is)) in
      rw (sym e, f, g)
