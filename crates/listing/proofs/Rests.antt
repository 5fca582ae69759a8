-- What follows no chosen end is the permitted layouts, its lines are the listing, and its size the listing's. Assumes nothing.
use Prim.Native.Nat.{ℕ, ◌+◌, ◌-◌, ◌^◌, ◌≤◌}
use mathlib.Core.Path.{◌≡◌, sym, ap, ap₂, ◌∙◌}
use mathlib.Core.Bool.{Bool}
use mathlib.Core.List.{List, [], ◌∷◌, ◌++◌, map, flatten, Memᴰ}
use native.Mathlib.Omega.{arith}
use lib.Dec.{T, leb→le, le→leb}
use lib.ListN.{length}
use lib.IntN.{ℤ, sub_ℕ}
use Rattle.model.specs.declared.PriceCard.{PriceCard}
use Rattle.model.specs.declared.Limits.{Limits}
use Rattle.model.specs.Lists.{sum_of, keep}
use Rattle.model.specs.Blocks.{Set, blocks}
use Rattle.model.specs.Layouts.{most_partitions, longest_partition, permitted, layouts_from, every_layout}
use Rattle.model.specs.Cost.{cost_of}
use Rattle.model.specs.Plan.{permitted_layouts}
use Rattle.model.specs.Fields.{number_field, signed_field, line}
use Rattle.model.specs.Listing.{layout_line, listing_text}
use Rattle.model.proofs.Tests.{and_fst, and_snd, and_mk, is_true, of_true, same_test}
use Rattle.model.proofs.Integers.{is_sub, eq_is}
use Rattle.model.proofs.LayoutLaws.{Cut, every_layout_lem, layout_cut}
use Rattle.model.proofs.PlanLaws.{listed-permitted}
use Rattle.model.proofs.GrowerLaws.{all_members, map_agree, keep_agree}
use Rattle.model.proofs.ListingLaws.{length-parts, length-joined}
use Rattle.layout_search.specs.Task.{Task, Layout}
use Rattle.layout_search.specs.RunningSums.{task_of, Holds, up_by, down_by}
use Rattle.layout_search.proofs.EndLaws.{up_by_ends, down_by_ends}
use Rattle.block_costs.proofs.LayoutCost.{cut_covers}
use Rattle.permitted.proofs.Permitted.{Flagged, layout_cuts, permitted-laid, laid-permitted, Ready, permitted_allowed, cost_by_sums}
use Rattle.layout_lines.specs.Rests.{rest_ok, ok_by, rests, line_bytes, cost_after, line_after, lines_after}

-- ends that may follow are a layout of the search's, and the other way round
module _ (sums : List ℕ) (fits : List Bool) (longest most n : ℕ) where
  abbrev task : Task
  task = task_of sums fits longest n

  rest_laid : (k a : ℕ) (es : List ℕ) → Cut a es n → T (rest_ok (ok_by fits longest) most k a es) → Layout task a es × (k + length es ≤ most)
  unfolding Cut rest_ok
  rest_laid k a [] c t = (c, omega (arith, leb→le k most t))
  rest_laid k a (e ∷ es) c t =
      let b = ok_by fits longest a e in
      let d = rest_ok (ok_by fits longest) most (k + 1) (e + 1) es in
      let r = rest_laid (k + 1) (e + 1) es c.2 (and_snd b d t) in
      ((c.0, c.1, is_true b (and_fst b d t), r.0), omega (arith, r.1))

  laid_rest : (k a : ℕ) (es : List ℕ) → Layout task a es → k + length es ≤ most → T (rest_ok (ok_by fits longest) most k a es)
  unfolding rest_ok
  laid_rest k a [] l h = le→leb k most (omega arith)
  laid_rest k a (e ∷ es) l h =
      and_mk (ok_by fits longest a e) (rest_ok (ok_by fits longest) most (k + 1) (e + 1) es) (of_true _ l.2) (laid_rest (k + 1) (e + 1) es l.3 (omega arith))

module _ (p : PriceCard) (l : Limits) {s : Set} {fits : List Bool} (w : Flagged s fits) where
  abbrev listed_by : ℕ → List (List ℕ)
  listed_by n = rests (ok_by fits (longest_partition p l)) (most_partitions p l) n 0 0 0

  -- a layout may follow no end just if it is permitted
  same-permitted : (es : List ℕ) → Memᴰ es (every_layout (blocks s)) → rest_ok (ok_by fits (longest_partition p l)) (most_partitions p l) 0 0 es ≡ permitted p l s es
  same-permitted es m =
      let c = (layout_cut (blocks s) es ((every_layout_lem (blocks s) es w.some).0 m)).1 in
      same_test (rest_ok (ok_by fits (longest_partition p l)) (most_partitions p l) 0 0 es) (permitted p l s es)
      (λ t. let r = rest_laid [] fits (longest_partition p l) (most_partitions p l) (blocks s) 0 0 es c t in laid-permitted p l [] w es (r.0, omega (arith, r.1)))
      (λ t. let r = permitted-laid p l [] w es t in laid_rest [] fits (longest_partition p l) (most_partitions p l) (blocks s) 0 0 es r.0 (omega (arith, r.1)))

  pub listed-permitted_ones : listed_by (blocks s) ≡ permitted_layouts p l s
  unfolding rests permitted_layouts
  listed-permitted_ones =
      let q : List ℕ → Bool = rest_ok (ok_by fits (longest_partition p l)) (most_partitions p l) 0 0 in
      let z : blocks s - 1 - 0 ≡ blocks s - 1 = omega arith in
      ap (λ (c : ℕ). keep q (layouts_from 0 c)) z
      ∙ keep_agree q (permitted p l s) (every_layout (blocks s)) (all_members (λ (es : List ℕ). q es ≡ permitted p l s es) (every_layout (blocks s)) same-permitted)

-- how long the listing is, whatever the bills
pub length-listing : (L : ℕ) (p : PriceCard) (l : Limits) (s : Set) (hs : List ℕ) → length (listing_text L p l s hs) ≡ sum_of (map (line_bytes 0) (permitted_layouts p l s))
unfolding listing_text layout_line
length-listing L p l s hs =
    length-joined (λ (ends : List ℕ). layout_line (cost_of L p (blocks s) ends hs) ends) (line_bytes 0)
    (λ es. omega (arith, length-parts (length es) (cost_of L p (blocks s) es hs) [] es)) (permitted_layouts p l s)

-- the lines, with the terms of all blocks added up
module _ (l : Limits) {L : ℕ} {p : PriceCard} {s : Set} {hs sums : List ℕ} {fits : List Bool} (w : Ready L p s hs sums fits) (h : Holds sums (blocks s)) where
  same-cost : (es : List ℕ) → T (permitted p l s es) → cost_after sums (2 ^ 60) 0 es ≡ cost_of L p (blocks s) es hs
  same-cost es t =
      let a = (permitted_allowed l w es t).0 in
      let c = cut_covers 0 es (blocks s) (layout_cuts p l sums w.flagged es a) in
      let u = up_by_ends sums (blocks s) h es c in
      let d = down_by_ends sums (blocks s) h es c in
      eq_is _ _ _ _ _ _ (is_sub (2 ^ 60 + up_by sums 0 es) (2 ^ 60 + down_by sums es)) (is_sub (up_by sums 0 es) (down_by sums es)) (omega arith)
      ∙ sym (cost_by_sums l w es a ∙ ap₂ (λ (x y : ℕ). sub_ℕ x y) u d)

  same_line : (es : List ℕ) → Memᴰ es (permitted_layouts p l s) → line_after sums 0 0 (2 ^ 60) [] es ≡ layout_line (cost_of L p (blocks s) es hs) es
  unfolding line_after layout_line
  same_line es m =
      let z : 0 + length es ≡ length es = omega arith in
      ap₂ (λ (k : ℕ) (c : ℤ). number_field k ++ (signed_field c ++ line es)) z (same-cost es (listed-permitted p l s es m))

  pub lines-listing : (ls : List (List ℕ)) → ls ≡ permitted_layouts p l s → lines_after sums 0 0 (2 ^ 60) [] ls ≡ listing_text L p l s hs
  unfolding lines_after listing_text
  lines-listing ls e =
      ap (λ (x : List (List ℕ)). flatten (map (line_after sums 0 0 (2 ^ 60) []) x)) e
      ∙ ap flatten
      (map_agree (line_after sums 0 0 (2 ^ 60) []) (λ (es : List ℕ). layout_line (cost_of L p (blocks s) es hs) es) (permitted_layouts p l s)
      (all_members (λ (es : List ℕ). line_after sums 0 0 (2 ^ 60) [] es ≡ layout_line (cost_of L p (blocks s) es hs) es) (permitted_layouts p l s) same_line))
