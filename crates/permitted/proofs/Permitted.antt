-- The layouts that the search allows are the permitted ones, and its least is the cheapest. Assumes nothing.
use Prim.Native.Nat.{ℕ, ◌+◌, ◌-◌, ◌*◌, ◌≤◌, ◌<◌}
use mathlib.Core.Path.{◌≡◌, refl, sym, ◌∙◌, subst}
use mathlib.Core.Bool.{Bool, false, ◌&&◌}
use mathlib.Core.List.{List, [], ◌∷◌}
use native.Mathlib.Omega.{arith}
use lib.Dec.{T, leb, leb→le, le→leb}
use lib.ListN.{length, get_or}
use lib.IntN.{sub_ℕ}
use Rattle.model.specs.declared.PriceCard.{PriceCard}
use Rattle.model.specs.declared.Limits.{Limits}
use Rattle.model.specs.Lists.{every}
use Rattle.model.specs.Blocks.{Set, blocks}
use Rattle.model.specs.Layouts.{is_layout, separates_none, layout_ok, block_counts, most_partitions, longest_partition, permitted}
use Rattle.model.specs.Cost.{cost_of}
use Rattle.model.specs.Laws.{IsCheapest}
use Rattle.model.proofs.Tests.{and_fst, and_snd, and_mk, is_true, of_true}
use Rattle.model.proofs.Integers.{Is, is_sub, eq_is}
use Rattle.model.proofs.Order.{comes_before_intro, comes_before_elim}
use Rattle.model.proofs.LayoutLaws.{Cut, layout_cut, cut_is_layout}
use Rattle.layout_search.specs.Task.{Task, Layout, Covers, adds, takes, Allowed, Least}
use Rattle.layout_search.specs.RunningSums.{sums_per_place, task_of}
use Rattle.layout_search.proofs.PriceLaws.{ok_yes}
use Rattle.layout_search.proofs.TailLaws.{fits_of}
use Rattle.block_costs.specs.Terms.{Summed}
use Rattle.block_costs.proofs.LayoutCost.{covers_cut, layout_cost}
use Rattle.permitted.specs.Given.{Marked}

-- where an end may stand is marked
pub record Flagged (s : Set) (fits : List Bool) : Type 0 where
  pub marks : (i : ℕ) → i < blocks s → get_or fits i false ≡ separates_none s i
  pub some : 1 ≤ blocks s

-- `mark` leaves them so
pub flagged : (s : Set) (old fits : List Bool) → 1 ≤ blocks s → Marked s (blocks s) old fits → Flagged s fits
flagged s old fits h m = record { marks = m.here; some = h }

-- what is added up has no part in which layouts are allowed
module _ (p : PriceCard) (l : Limits) (sums : List ℕ) {s : Set} {fits : List Bool} (w : Flagged s fits) where
  abbrev flagged_task : Task
  flagged_task = task_of sums fits (longest_partition p l) (blocks s)

  abbrev short : ℕ → Bool
  short n = leb n (longest_partition p l)

  layout_of : (a : ℕ) (es : List ℕ) → Cut a es (blocks s) → T (every (separates_none s) es) → T (every short (block_counts a es)) → Layout flagged_task a es
  unfolding Cut every block_counts
  layout_of a [] c h k = c
  layout_of a (e ∷ es) c h k =
      let u = leb→le (e + 1 - a) (longest_partition p l) (and_fst (short (e + 1 - a)) (every short (block_counts (e + 1) es)) k) in
      let v = sym (ok_yes (longest_partition p l) a e (λ i. get_or fits i false) u) ∙ w.marks e c.1 ∙ is_true _ (and_fst (separates_none s e) (every (separates_none s) es) h) in
      (c.0, c.1, v, layout_of (e + 1) es c.2 (and_snd (separates_none s e) (every (separates_none s) es) h) (and_snd (short (e + 1 - a)) (every short (block_counts (e + 1) es)) k))

  layout_covers : (a : ℕ) (es : List ℕ) → Layout flagged_task a es → Covers (blocks s) a es
  layout_covers a [] l = l
  layout_covers a (e ∷ es) l = (l.0, l.1, layout_covers (e + 1) es l.3)

  layout_ends : (a : ℕ) (es : List ℕ) → Layout flagged_task a es → T (every (separates_none s) es) × T (every short (block_counts a es))
  unfolding every block_counts
  layout_ends a [] l = (tt, tt)
  layout_ends a (e ∷ es) l =
      let r = layout_ends (e + 1) es l.3 in
      let b = fits_of (short (e + 1 - a)) (get_or fits e false) l.2 in
      let t = subst T (w.marks e l.1) (of_true _ b.1) in
      (and_mk (separates_none s e) (every (separates_none s) es) t r.0, and_mk (short (e + 1 - a)) (every short (block_counts (e + 1) es)) b.0 r.1)

  not_empty : (es : List ℕ) → Layout flagged_task 0 es → 1 ≤ length es
  not_empty [] l = absurd (omega (arith, l, w.some))
  not_empty (e ∷ es) l = omega arith

  pub layout_cuts : (es : List ℕ) → Layout flagged_task 0 es → Cut 0 es (blocks s)
  layout_cuts es l = covers_cut 0 es (blocks s) (layout_covers 0 es l)

  pub permitted-laid : (es : List ℕ) → T (permitted p l s es) → Allowed flagged_task (most_partitions p l) es
  unfolding permitted layout_ok
  permitted-laid es t =
      let a = is_layout (blocks s) es in
      let b = every (separates_none s) es in
      let c = leb (length es) (most_partitions p l) in
      let d = every short (block_counts 0 es) in
      let u = and_fst (a && b && c) d t in
      let v = and_fst (a && b) c u in
      (layout_of 0 es (layout_cut (blocks s) es (and_fst a b v)).1 (and_snd a b v) (and_snd (a && b && c) d t), leb→le (length es) (most_partitions p l) (and_snd (a && b) c u))

  pub laid-permitted : (es : List ℕ) → Allowed flagged_task (most_partitions p l) es → T (permitted p l s es)
  unfolding permitted layout_ok
  laid-permitted es h =
      let a = is_layout (blocks s) es in
      let b = every (separates_none s) es in
      let c = leb (length es) (most_partitions p l) in
      let d = every short (block_counts 0 es) in
      let r = layout_ends 0 es h.0 in
      let u = cut_is_layout (blocks s) es (not_empty es h.0) (layout_cuts es h.0) in
      and_mk (a && b && c) d (and_mk (a && b) c (and_mk a b u r.0) (le→leb (length es) (most_partitions p l) h.1)) r.1

-- the terms of all blocks are added up, and where an end may stand is marked
pub record Ready (L : ℕ) (p : PriceCard) (s : Set) (hs sums : List ℕ) (fits : List Bool) : Type 0 where
  pub summed : Summed L p hs ((blocks s + 1) * sums_per_place) sums
  pub flagged : Flagged s fits

module _ (l : Limits) {L : ℕ} {p : PriceCard} {s : Set} {hs sums : List ℕ} {fits : List Bool} (w : Ready L p s hs sums fits) where
  abbrev pub task : Task
  task = task_of sums fits (longest_partition p l) (blocks s)

  pub permitted_allowed : (es : List ℕ) → T (permitted p l s es) → Allowed task (most_partitions p l) es
  permitted_allowed = permitted-laid p l sums w.flagged

  pub allowed_permitted : (es : List ℕ) → Allowed task (most_partitions p l) es → T (permitted p l s es)
  allowed_permitted = laid-permitted p l sums w.flagged

  -- the cost of an allowed layout
  cost_is : (es : List ℕ) → Layout task 0 es → Is (cost_of L p (blocks s) es hs) (adds task 0 es) (takes task 0 es)
  cost_is es a = layout_cost L p hs (blocks s) sums w.summed es (layout_cuts p l sums w.flagged es a)

  pub cost_by_sums : (es : List ℕ) → Layout task 0 es → cost_of L p (blocks s) es hs ≡ sub_ℕ (adds task 0 es) (takes task 0 es)
  cost_by_sums es l = eq_is _ _ _ _ _ _ (cost_is es l) (is_sub (adds task 0 es) (takes task 0 es)) refl

  pub least-cheapest : (es : List ℕ) → Least task (most_partitions p l) es → IsCheapest L p l s hs es
  least-cheapest es h = record {
    allowed = allowed_permitted es h.allowed;
    first = λ other t.
        let a = permitted_allowed other t in
        comes_before_intro (λ (e : List ℕ). cost_of L p (blocks s) e hs) es other _ _ _ _ (cost_is es h.allowed.0) (cost_is other a.0) (h.ahead other a);
  }

  pub cheapest-least : (es : List ℕ) → IsCheapest L p l s hs es → Least task (most_partitions p l) es
  cheapest-least es h =
      let o = permitted_allowed es h.allowed in
      record {
        allowed = o;
        ahead = λ other a. comes_before_elim (λ (e : List ℕ). cost_of L p (blocks s) e hs) es other _ _ _ _ (cost_is es o.0) (cost_is other a.0) (h.first other (allowed_permitted other a));
      }
