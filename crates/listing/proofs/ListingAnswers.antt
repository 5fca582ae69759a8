-- What checking a set for a listing and listing its layouts answer. Assumes nothing.
use Prim.Native.Nat.{ℕ, ◌+◌, ◌*◌, ◌^◌, ◌≤◌, ◌<◌}
use mathlib.Core.Path.{◌≡◌, refl, sym, ap, ap₂, ◌∙◌}
use mathlib.Core.Bool.{Bool, not, cond}
use mathlib.Core.List.{List, [], ◌∷◌, ◌++◌, map}
use native.Mathlib.Omega.{arith}
use borrow.Author.Tests.{le-leb, lt-leb, eq-eqb, ne_eqb}
use lib.Dec.{leb, eqb, leb→le}
use lib.ListN.{length, drop}
use Rattle.model.specs.declared.PriceCard.{PriceCard}
use Rattle.model.specs.declared.Limits.{Limits}
use Rattle.model.specs.declared.Listed.{Listed}
use Rattle.model.specs.declared.refusal.Refusal.{Refusal}
use Rattle.model.specs.Refusals.{refusal_number}
use Rattle.model.proofs.Refusals.{refusal_some}
use Rattle.model.specs.Bounds.{most_listed_blocks}
use Rattle.model.specs.Lists.{sum_of}
use Rattle.model.specs.Checks.{Check, ask, first_failed}
use Rattle.model.specs.Blocks.{Set, blocks}
use Rattle.model.specs.Plan.{permitted_layouts}
use Rattle.model.specs.Listing.{few_blocks, listing_text}
use Rattle.model.specs.Questions.{listing_checks}
use Rattle.model.specs.ListingCalls.{ListResult, listed, list_call}
use Rattle.model.proofs.Tests.{yes_first}
use Rattle.checks.proofs.Answers.{fails, passes, none_failed, failed_first, numbered, passed_first, passed_both}
use Rattle.fields.specs.Writing.{placed}
use Rattle.fields.proofs.Placing.{placed_first}
use Rattle.layout_search.specs.RunningSums.{sums_per_place, Holds}
use Rattle.block_costs.specs.Terms.{Summed}
use Rattle.permitted.specs.Given.{given_checks}
use Rattle.permitted.proofs.Permitted.{Flagged}
use Rattle.layout_lines.specs.declared.Rules.{Rules}
use Rattle.layout_lines.specs.Rests.{ok_by, rests, line_bytes, lines_after, LinesSize}
use Rattle.listing.specs.Answers.{rules_of}
use Rattle.listing.proofs.Rests.{listed-permitted_ones, length-listing, lines-listing}

-- what the recursion lists, by rules that are what they must be
the_ones : (p : PriceCard) (l : Limits) {s : Set} {rules : Rules} {flags : List Bool} → rules ≡ rules_of p l (blocks s) → Flagged s flags
    → rests (ok_by flags rules.longest) rules.most rules.blocks 0 0 0 ≡ permitted_layouts p l s
the_ones p l {s} {rules} {flags} e f = ap (λ (r : Rules). rests (ok_by flags r.longest) r.most r.blocks 0 0 0) e ∙ listed-permitted_ones p l f

-- The checks.

module _ (L : ℕ) (p : PriceCard) (l : Limits) (s : Set) (hs : List ℕ) (room : ℕ) where
  abbrev checked : ℕ
  checked = first_failed (listing_checks L p l s hs room)

  -- the last three
  abbrev few : Check
  few = ask 23 (few_blocks s)

  abbrev some : Check
  some = ask 11 (not (eqb (length (permitted_layouts p l s)) 0))

  abbrev fits : Check
  fits = ask 15 (leb (length (listing_text L p l s hs)) room)

  -- a refusal by a check of what is given
  pub not_given : (r : Refusal) → refusal_number r ≡ first_failed (given_checks L p l s hs) → refusal_number r ≡ checked
  unfolding listing_checks
  not_given r e = e ∙ failed_first (given_checks L p l s hs) (few ∷ some ∷ fits ∷ []) (λ z. refusal_some r (e ∙ z))

  module _ (given : first_failed (given_checks L p l s hs) ≡ 0) where
    past_given : first_failed (few ∷ some ∷ fits ∷ []) ≡ checked
    unfolding listing_checks numbered
    past_given = sym (passed_first (given_checks L p l s hs) (few ∷ some ∷ fits ∷ []) tt given)

    pub too_many : most_listed_blocks < blocks s → 23 ≡ checked
    unfolding few_blocks
    too_many h = fails 23 _ _ (lt-leb (blocks s) most_listed_blocks h) ∙ past_given

    past_few : blocks s ≤ most_listed_blocks → first_failed (some ∷ fits ∷ []) ≡ checked
    unfolding few_blocks
    past_few h = passes 23 _ _ _ (le-leb (blocks s) most_listed_blocks h) refl ∙ past_given

  -- what is known once every check has passed
  pub record CanList : Type 0 where
    pub given : first_failed (given_checks L p l s hs) ≡ 0
    pub small : blocks s ≤ most_listed_blocks
    pub size : length (listing_text L p l s hs) ≤ room

  pub can_list : checked ≡ 0 → CanList
  unfolding listing_checks numbered few_blocks
  can_list e =
      let b = passed_both (given_checks L p l s hs) _ tt e in
      let c = yes_first 22 (few_blocks s) _ b.1 in
      let d = yes_first 10 (not (eqb (length (permitted_layouts p l s)) 0)) _ c.1 in
      let f = yes_first 14 (leb (length (listing_text L p l s hs)) room) _ d.1 in
      record { given = b.0; small = leb→le _ _ c.0; size = leb→le _ _ f.0 }

-- a small set's layouts and the bytes of their lines, counted
pub record Counted (L : ℕ) (p : PriceCard) (l : Limits) (s : Set) (hs : List ℕ) (layouts bytes : ℕ) : Type 0 where
  pub given : first_failed (given_checks L p l s hs) ≡ 0
  pub small : blocks s ≤ most_listed_blocks
  pub count : layouts ≡ length (permitted_layouts p l s)
  pub size : bytes ≡ length (listing_text L p l s hs)

pub counted : (L : ℕ) (p : PriceCard) (l : Limits) (s : Set) (hs : List ℕ) {layouts bytes : ℕ} {rules : Rules} {flags : List Bool} → first_failed (given_checks L p l s hs) ≡ 0
    → blocks s ≤ most_listed_blocks → rules ≡ rules_of p l (blocks s) → Flagged s flags
    → LinesSize layouts bytes 0 (rests (ok_by flags rules.longest) rules.most rules.blocks 0 0 0) → Counted L p l s hs layouts bytes
counted L p l s hs given small er f z =
    let e = the_ones p l er f in
    record {
      given = given;
      small = small;
      count = z.count ∙ ap length e;
      size = z.size ∙ ap (λ (ls : List (List ℕ)). sum_of (map (line_bytes 0) ls)) e ∙ sym (length-listing L p l s hs);
    }

module _ {L : ℕ} {p : PriceCard} {l : Limits} {s : Set} {hs : List ℕ} {layouts bytes : ℕ} (k : Counted L p l s hs layouts bytes) (room : ℕ) where
  pub none_there : layouts ≡ 0 → 11 ≡ checked L p l s hs room
  none_there h =
      fails 11 _ _ (ap (λ (b : Bool). not b) (eq-eqb (length (permitted_layouts p l s)) 0 (sym k.count ∙ h))) ∙ past_few L p l s hs room k.given k.small

  module _ (h : layouts ≡ 0 → ⊥) where
    past_some : first_failed (fits L p l s hs room ∷ []) ≡ checked L p l s hs room
    past_some =
        passes 11 _ _ _ (ap (λ (b : Bool). not b) (ne_eqb (length (permitted_layouts p l s)) 0 (λ e. h (k.count ∙ e)))) refl ∙ past_few L p l s hs room k.given k.small

    pub too_short : room < bytes → 15 ≡ checked L p l s hs room
    too_short g = fails 15 _ _ (lt-leb _ room (omega (arith, k.size))) ∙ past_some

    pub all_passed : bytes ≤ room → 0 ≡ checked L p l s hs room
    all_passed g = passes 15 0 _ _ (le-leb _ room (omega (arith, k.size))) none_failed ∙ past_some

-- The call.

module _ (L : ℕ) (p : PriceCard) (l : Limits) (s : Set) (hs out : List ℕ) where
  abbrev lines : List ℕ
  lines = listing_text L p l s hs

  -- by the number that the checks give
  called_by : (n : ℕ) → n ≡ checked L p l s hs (length out)
      → cond (eqb n 0) (record { answer = listed 0 (length (permitted_layouts p l s)) (length lines); text = lines ++ drop (length lines) out }) (record { answer = listed n 0 0; text = out })
      ≡ list_call L p l s hs out
  unfolding list_call
  called_by n q =
      ap {B = ListResult} (λ (k : ℕ).
      cond (eqb k 0) (record { answer = listed 0 (length (permitted_layouts p l s)) (length lines); text = lines ++ drop (length lines) out }) (record { answer = listed k 0 0; text = out }))
      q

  -- a refused call leaves the text as it was
  pub list_refused : (r : Refusal) → refusal_number r ≡ checked L p l s hs (length out)
      → ◌≡◌ {A = ListResult} (record { answer = listed (refusal_number r) 0 0; text = out }) (list_call L p l s hs out)
  list_refused r e = rw (ne_eqb (refusal_number r) 0 (refusal_some r)) at (called_by (refusal_number r) e)

  pub list_done : {layouts bytes : ℕ} (t : List ℕ) → 0 ≡ checked L p l s hs (length out) → layouts ≡ length (permitted_layouts p l s) → bytes ≡ length lines → t ≡ placed 0 lines out
      → ◌≡◌ {A = ListResult} (record { answer = listed 0 layouts bytes; text = t }) (list_call L p l s hs out)
  list_done t e c b q =
      ap₂ {C = ListResult} (λ (y : Listed) (u : List ℕ). record { answer = y; text = u }) (ap₂ (λ (x y : ℕ). listed 0 x y) c b) (q ∙ placed_first lines out) ∙ called_by 0 e

-- what the recursion is to write
pub lines_are : (L : ℕ) (p : PriceCard) (l : Limits) (s : Set) (hs sums : List ℕ) {rules : Rules} {flags : List Bool} → rules ≡ rules_of p l (blocks s) → Flagged s flags
    → Summed L p hs ((rules.blocks + 1) * sums_per_place) sums → Holds sums rules.blocks
    → lines_after sums 0 0 (2 ^ 60) [] (rests (ok_by flags rules.longest) rules.most rules.blocks 0 0 0) ≡ listing_text L p l s hs
lines_are L p l s hs sums e f added holds =
    let b = ap (λ (r : Rules). r.blocks) e in
    lines-listing l (record { summed = rw b at added; flagged = f }) (rw b at holds) _ (the_ones p l e f)
