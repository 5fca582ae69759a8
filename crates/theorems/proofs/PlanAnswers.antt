-- The planner's answer: 11 exactly where nothing is permitted, 15 exactly where something is and there is no room for it,
-- otherwise the least of what is permitted. Assumes nothing.
use Prim.Native.Nat.{ℕ, suc, ◌≤◌, ◌<◌}
use mathlib.Core.Path.{◌≡◌, refl, sym, ap, ◌∙◌}
use mathlib.Core.Logic.{◌≢◌, ◌↔◌, ⊎_elim}
use mathlib.Core.Bool.{Bool, true, false, not, cond}
use mathlib.Core.Option.{Option, none, some}
use mathlib.Core.List.Memᴰ
use mathlib.Core.List.{List, [], ◌∷◌, ◌++◌, Memᴰ}
use native.Mathlib.Omega.{arith}
use lib.Dec.{T, leb, eqb, le→leb, leb→le, nleb→lt, eqb→eq, not_T}
use lib.ListN.{length, drop}
use lib.Seq.{take_at}
use lib.IntN.{ℤ}
use lib.Signed.{◌≤ℤ◌}
use Rattle.model.specs.declared.PriceCard.{PriceCard}
use Rattle.model.specs.declared.Limits.{Limits}
use Rattle.model.specs.Lists.{value_or}
use Rattle.model.specs.Checks.{ask, first_failed}
use Rattle.model.specs.Blocks.{Set, blocks}
use Rattle.model.specs.Histograms.{counts_ok}
use Rattle.model.specs.Prices.{prices_ok, limits_ok}
use Rattle.model.specs.Layouts.{permitted}
use Rattle.model.specs.Cost.{cost_of}
use Rattle.model.specs.Plan.{comes_before, permitted_layouts, cheapest}
use Rattle.model.specs.Questions.{cost_checks, planner_checks}
use Rattle.model.specs.Planner.{PlanResult, cost_call, planned_ends, planner_refusal, plan_call}
use Rattle.model.specs.Laws.{IsCheapest}
use Rattle.model.proofs.Tests.{and_fst, is_true, first_passed, nothing_failed, refusal_kept}
use Rattle.model.proofs.Integers.{is_exists, le_is}
use Rattle.model.proofs.Order.{comes_before_elim}
use Rattle.model.proofs.SetLaws.{good, n-least}
use Rattle.model.proofs.PlanLaws.{permitted_ok, permitted-listed, listed-permitted, cheapest_chosen, chosen_cheapest, none_permitted}
use Rattle.theorems.specs.Plan.{Admitted, layout_of}
use Rattle.theorems.proofs.PlanChecks.{prices_pass, set_passes}

-- what comes before another costs no more
before_costs : (cost : List ℕ → ℤ) (x y : List ℕ) → T (comes_before cost x y) → cost x ≤ℤ cost y
before_costs cost x y h =
    let i = is_exists (cost x) in
    let j = is_exists (cost y) in
    ⊎_elim
    (λ u. le_is (cost x) (cost y) i.0 i.1 j.0 j.1 i.2 j.2 (omega arith))
    (λ u. le_is (cost x) (cost y) i.0 i.1 j.0 j.1 i.2 j.2 (omega (arith, u.0)))
    (comes_before_elim cost x y i.0 i.1 j.0 j.1 i.2 j.2 h)

-- a list that is not empty has an element, and one with an element is not empty
any_listed : (xs : List (List ℕ)) → T (not (eqb (length xs) 0)) → (x : List ℕ) × Memᴰ x xs
any_listed [] t = absurd t
any_listed (x ∷ xs) t = (x, Memᴰ.head refl)

pub listed_any : (x : List ℕ) (xs : List (List ℕ)) → Memᴰ x xs → T (not (eqb (length xs) 0))
listed_any x [] m = absurd (Memᴰ.not-nil m)
listed_any x (y ∷ xs) m = not_T (eqb (suc (length xs)) 0) (λ t. let e = eqb→eq (suc (length xs)) 0 t in omega arith)

-- 11 and 15, and which of them is answered
abbrev pub last_two : Bool → Bool → ℕ
last_two b c = cond b (cond c 0 15) 11

pub last_two_lem : (b c : Bool) → first_failed (ask 11 b ∷ ask 15 c ∷ []) ≡ last_two b c
unfolding first_failed
last_two_lem true true = refl
last_two_lem true false = refl
last_two_lem false c = refl

pub not_eleven : (b c : Bool) → T b → last_two b c ≡ 11 → ⊥
not_eleven true true t e = omega arith
not_eleven true false t e = omega arith
not_eleven false c t e = t

eleven : (b c : Bool) → (T b → ⊥) → last_two b c ≡ 11
eleven true c f = absurd (f tt)
eleven false c f = refl

fifteen : (b c : Bool) → T b → T (not c) → last_two b c ≡ 15
fifteen true true t f = absurd f
fifteen true false t f = refl
fifteen false c t f = absurd t

fifteen_only : (b c : Bool) → last_two b c ≡ 15 → T b × T (not c)
fifteen_only true true e = absurd (omega arith)
fifteen_only true false e = (tt, tt)
fifteen_only false c e = absurd (omega arith)

zero_passed : (b c : Bool) → last_two b c ≡ 0 → T b
zero_passed true c e = tt
zero_passed false c e = absurd (omega arith)

module _ (L : ℕ) (p : PriceCard) (l : Limits) (s : Set) (h : Admitted L p l s) (hs : List ℕ) (c : T (counts_ok L hs)) where
  pub some_blocks : 1 ≤ blocks s
  some_blocks = n-least L s (good L s (prices_pass L p l s h).1)

  -- is any layout permitted?
  abbrev any : Bool
  any = not (eqb (length (permitted_layouts p l s)) 0)

  any_permitted : T any → (x : List ℕ) × T (permitted p l s x)
  any_permitted t = let r = any_listed (permitted_layouts p l s) t in (r.0, listed-permitted p l s r.0 r.1)

  permitted_any : (x : List ℕ) → T (permitted p l s x) → T any
  permitted_any x t = listed_any x (permitted_layouts p l s) (permitted-listed p l s some_blocks x t)

  -- The bill of a permitted layout.

  pub bill_answered : (x : List ℕ) → T (permitted p l s x) → cost_call L p s x hs ≡ record { refusal = 0; cost = cost_of L p (blocks s) x hs }
  unfolding cost_call cost_checks
  bill_answered x t =
      let q = prices_pass L p l s h in
      let set = set_passes L s q.1 in
      let e : first_failed (cost_checks L p s x hs) ≡ 0
      = first_passed 1 _ _ (and_fst (prices_ok p) (limits_ok l) q.0) ∙ set.0 _ ∙ first_passed 6 _ _ (permitted_ok p l s x t) ∙ set.1 _
      ∙ first_passed 9 _ _ c ∙ nothing_failed in
      rw (e, cost_call)

  -- The layout planned.

  abbrev ends : List ℕ
  ends = planned_ends L p l s hs

  ends_cheapest : T any → IsCheapest L p l s hs ends
  unfolding planned_ends
  ends_cheapest t = go (cheapest L p l s hs) refl
    where
      go : (o : Option (List ℕ)) → cheapest L p l s hs ≡ o → IsCheapest L p l s hs (value_or [] o)
      go none e = let r = any_permitted t in absurd (none_permitted p l s L hs some_blocks e r.0 r.1)
      go (some x) e = cheapest_chosen p l s L hs x some_blocks e

  -- The refusal number.

  abbrev fits : List ℕ → Bool
  fits out = leb (length ends) (length out)

  refusal_is : (out : List ℕ) → planner_refusal L p l s hs (length out) ≡ last_two any (fits out)
  unfolding planner_refusal planner_checks
  refusal_is out =
      let q = prices_pass L p l s h in
      first_passed 1 _ _ q.0 ∙ (set_passes L s q.1).0 _ ∙ (set_passes L s q.1).1 _ ∙ first_passed 9 _ _ c ∙ last_two_lem any (fits out)

  pub refusal-planned : (out : List ℕ) → (plan_call L p l s hs out).answer.refusal ≡ last_two any (fits out)
  unfolding plan_call
  refusal-planned out = refusal_kept (λ (r : PlanResult). r.answer.refusal) (planner_refusal L p l s hs (length out)) _ _ refl refl ∙ refusal_is out

  pub eleven_exactly : (out : List ℕ) → (plan_call L p l s hs out).answer.refusal ≡ 11 ↔ ((x : List ℕ) → T (permitted p l s x) → ⊥)
  eleven_exactly out = (
    λ e. λ x t. not_eleven any (fits out) (permitted_any x t) (sym (refusal-planned out) ∙ e),
    λ f. refusal-planned out ∙ eleven any (fits out) (λ t. let r = any_permitted t in f r.0 r.1),
  )

  pub fifteen_exactly : (out : List ℕ) → (plan_call L p l s hs out).answer.refusal ≡ 15 ↔ (((x : List ℕ) × T (permitted p l s x)) × (length out < length ends))
  fifteen_exactly out = (
    λ e. let r = fifteen_only any (fits out) (sym (refusal-planned out) ∙ e) in (any_permitted r.0, nleb→lt (length ends) (length out) r.1),
    λ h.
        let short : T (not (fits out)) = not_T (fits out) (λ t. let k = leb→le (length ends) (length out) t in omega (arith, h.1)) in
        refusal-planned out ∙ fifteen any (fits out) (permitted_any h.0.0 h.0.1) short,
  )

  pub room_answers : (out : List ℕ) → (plan_call L p l s hs out).answer.refusal ≢ 11 → length ends ≤ length out → (plan_call L p l s hs out).answer.refusal ≡ 0
  room_answers out f k = refusal-planned out ∙ go any refl
    where
      go : (b : Bool) → any ≡ b → last_two b (fits out) ≡ 0
      go true e = ap (λ (v : Bool). last_two true v) (is_true (fits out) (le→leb (length ends) (length out) k))
      go false e = absurd (f (refusal-planned out ∙ ap (λ (v : Bool). last_two v (fits out)) e))

  -- What an accepted planner answers.

  module _ (out : List ℕ) (e : (plan_call L p l s hs out).answer.refusal ≡ 0) where
    abbrev r : PlanResult
    r = plan_call L p l s hs out

    accepted : planner_refusal L p l s hs (length out) ≡ 0
    accepted = refusal_is out ∙ sym (refusal-planned out) ∙ e

    any_there : T any
    any_there = zero_passed any (fits out) (sym (refusal-planned out) ∙ e)

    result_is : r ≡ record { answer = record { refusal = 0; count = length ends; cost = cost_of L p (blocks s) ends hs }; ends = ends ++ drop (length ends) out }
    unfolding plan_call
    result_is = rw (accepted, plan_call)

    pub layout_is : layout_of r ≡ ends
    layout_is = ap layout_of result_is ∙ take_at ends _ (length ends) refl

    pub layout_permitted : T (permitted p l s (layout_of r))
    layout_permitted = rw layout_is (ends_cheapest any_there).allowed

    pub layout_billed : r.answer.cost ≡ cost_of L p (blocks s) (layout_of r) hs
    layout_billed = rw layout_is (ap (λ (v : PlanResult). v.answer.cost) result_is)

    pub layout_chosen : cheapest L p l s hs ≡ some (layout_of r)
    layout_chosen = rw layout_is (chosen_cheapest p l s L hs ends some_blocks (ends_cheapest any_there))

    pub layout_least : (x : List ℕ) → T (permitted p l s x) → cost_of L p (blocks s) (layout_of r) hs ≤ℤ cost_of L p (blocks s) x hs
    layout_least x t = rw layout_is (before_costs (λ (y : List ℕ). cost_of L p (blocks s) y hs) ends x ((ends_cheapest any_there).first x t))
