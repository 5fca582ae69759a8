-- The listing of every permitted layout: the theorem that specs/Listing.antt states. Assumes nothing.
use Prim.Native.Nat.{ℕ, ◌≤◌, ◌<◌}
use mathlib.Core.Path.{◌≡◌, refl, sym, ap, ◌∙◌}
use mathlib.Core.Logic.{◌↔◌}
use mathlib.Core.Bool.{Bool, true, false, not, cond}
use mathlib.Core.List.Memᴰ
use mathlib.Core.List.{List, [], ◌∷◌, ◌++◌, flatten}
use native.Mathlib.Omega.{arith}
use borrow.Author.Tests.{le-leb, lt-leb, leb-false}
use lib.Dec.{T, leb, eqb}
use lib.ListN.{length, drop}
use Rattle.model.specs.declared.PriceCard.{PriceCard}
use Rattle.model.specs.declared.Limits.{Limits}
use Rattle.model.specs.declared.Costed.{Costed}
use Rattle.model.specs.Bounds.{most_listed_blocks}
use Rattle.model.specs.Checks.{ask, first_failed}
use Rattle.model.specs.Blocks.{Set, blocks}
use Rattle.model.specs.Histograms.{counts_ok}
use Rattle.model.specs.Cost.{cost_of}
use Rattle.model.specs.Plan.{permitted_layouts, cheapest}
use Rattle.model.specs.Planner.{cost_call, planned_ends}
use Rattle.model.specs.Listing.{few_blocks, layout_line, listing_text}
use Rattle.model.specs.Questions.{listing_checks}
use Rattle.model.specs.ListingCalls.{ListResult, listed, list_call}
use Rattle.model.proofs.Tests.{first_passed, refusal_kept}
use Rattle.model.proofs.PlanLaws.{listed-permitted}
use Rattle.model.proofs.GrowerLaws.{all_members, map_agree}
use Rattle.model.proofs.ListingLaws.{permitted_once, permitted_in_order}
use Rattle.theorems.specs.Plan.{Admitted}
use Rattle.theorems.specs.Listing.{lines, listing, planning, EveryPermittedListed}
use Rattle.theorems.proofs.PlanChecks.{prices_pass, set_passes}
use Rattle.theorems.proofs.PlanAnswers.{listed_any, some_blocks, last_two, last_two_lem, not_eleven, bill_answered, refusal-planned, layout_permitted, layout_billed, layout_chosen}

-- 23, 11 and 15, and which of them is answered
abbrev last_three : Bool → Bool → Bool → ℕ
last_three a b c = cond a (last_two b c) 23

last_three_lem : (a b c : Bool) → first_failed (ask 23 a ∷ ask 11 b ∷ ask 15 c ∷ []) ≡ last_three a b c
unfolding first_failed
last_three_lem true b c = last_two_lem b c
last_three_lem false b c = refl

-- is a list empty?
empty_is : (ls : List (List ℕ)) (c : Bool) → last_two (not (eqb (length ls) 0)) c ≡ 11 ↔ (ls ≡ [])
empty_is [] c = (λ e. refl, λ e. refl)
empty_is (x ∷ ls) c = (λ e. absurd (not_eleven (not (eqb (length (x ∷ ls)) 0)) c (listed_any x (x ∷ ls) (Memᴰ.head refl)) e), λ e. absurd (let z = ap length e in omega arith))

module _ (L : ℕ) (p : PriceCard) (l : Limits) (s : Set) (hs : List ℕ) (h : Admitted L p l s) (c : T (counts_ok L hs)) where
  abbrev any : Bool
  any = not (eqb (length (permitted_layouts p l s)) 0)

  abbrev fits : List ℕ → Bool
  fits text = leb (length (listing_text L p l s hs)) (length text)

  refusal-of : (text : List ℕ) → first_failed (listing_checks L p l s hs (length text)) ≡ last_three (few_blocks s) any (fits text)
  unfolding listing_checks
  refusal-of text =
      let q = prices_pass L p l s h in
      first_passed 1 _ _ q.0 ∙ (set_passes L s q.1).0 _ ∙ (set_passes L s q.1).1 _ ∙ first_passed 9 _ _ c ∙ last_three_lem (few_blocks s) any (fits text)

  refusal-listed : (text : List ℕ) → (listing L p l s hs text).answer.refusal ≡ first_failed (listing_checks L p l s hs (length text))
  unfolding list_call
  refusal-listed text = refusal_kept (λ (r : ListResult). r.answer.refusal) (first_failed (listing_checks L p l s hs (length text))) _ _ refl refl

  -- the bills are what the call answers
  same_lines : listing_text L p l s hs ≡ lines L p l s hs
  unfolding listing_text
  same_lines =
      let f : List ℕ → List ℕ = λ ends. layout_line (cost_of L p (blocks s) ends hs) ends in
      let g : List ℕ → List ℕ = λ ends. layout_line (cost_call L p s ends hs).cost ends in
      ap flatten
      (map_agree f g (permitted_layouts p l s)
      (all_members (λ (ends : List ℕ). f ends ≡ g ends) (permitted_layouts p l s)
      (λ ends m. ap (λ (r : Costed). layout_line r.cost ends) (sym (bill_answered L p l s h hs c ends (listed-permitted p l s ends m))))))

  written : (text : List ℕ) → (listing L p l s hs text).answer.refusal ≡ 0
      → listing L p l s hs text
      ≡ record { answer = listed 0 (length (permitted_layouts p l s)) (length (lines L p l s hs)); text = lines L p l s hs ++ drop (length (lines L p l s hs)) text }
  unfolding list_call
  written text e =
      let n : first_failed (listing_checks L p l s hs (length text)) ≡ 0 = sym (refusal-listed text) ∙ e in
      rw (n, list_call)
      (ap {B = ListResult} (λ (t : List ℕ). record { answer = listed 0 (length (permitted_layouts p l s)) (length t); text = t ++ drop (length t) text }) same_lines)

  empty : (text : List ℕ) → blocks s ≤ most_listed_blocks → ((listing L p l s hs text).answer.refusal ≡ 11) ↔ (permitted_layouts p l s ≡ [])
  unfolding few_blocks
  empty text few =
      let n : (listing L p l s hs text).answer.refusal ≡ last_two any (fits text)
      = refusal-listed text ∙ refusal-of text ∙ ap (λ (b : Bool). last_three b any (fits text)) (le-leb (blocks s) most_listed_blocks few) in
      let t = empty_is (permitted_layouts p l s) (fits text) in
      (λ e. t.0 (sym n ∙ e), λ e. n ∙ t.1 e)

  none_planned : (out : List ℕ) → ((planning L p l s hs out).answer.refusal ≡ 11) ↔ (permitted_layouts p l s ≡ [])
  none_planned out =
      let n = refusal-planned L p l s h hs c out in
      let t = empty_is (permitted_layouts p l s) (leb (length (planned_ends L p l s hs)) (length out)) in
      (λ e. t.0 (sym n ∙ e), λ e. n ∙ t.1 e)

  not_few : (a b d : Bool) → last_three a b d ≡ 23 → a ≡ false
  not_few true true true e = absurd (omega arith)
  not_few true true false e = absurd (omega arith)
  not_few true false d e = absurd (omega arith)
  not_few false b d e = refl

  too_many : (text : List ℕ) → ((listing L p l s hs text).answer.refusal ≡ 23) ↔ (most_listed_blocks < blocks s)
  unfolding few_blocks
  too_many text =
      let n = refusal-listed text ∙ refusal-of text in (
        λ e. leb-false (blocks s) most_listed_blocks (not_few (few_blocks s) any (fits text) (sym n ∙ e)),
        λ g. n ∙ ap (λ (b : Bool). last_three b any (fits text)) (lt-leb (blocks s) most_listed_blocks g),
      )

pub every-permitted-listed : EveryPermittedListed
unfolding cheapest
every-permitted-listed L p l s hs h c = record {
  once = permitted_once p l s (some_blocks L p l s h hs c);
  ordered = permitted_in_order p l s;
  written = written L p l s hs h c;
  cheapest = layout_chosen L p l s h hs c;
  billed = λ out e. layout_billed L p l s h hs c out e ∙ sym (ap (λ (r : Costed). r.cost) (bill_answered L p l s h hs c _ (layout_permitted L p l s h hs c out e)));
  empty = empty L p l s hs h c;
  none_planned = none_planned L p l s hs h c;
  too_many = too_many L p l s hs h c;
}
