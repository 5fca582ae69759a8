-- The checks of an unpartitioned set, and of a layout of its blocks, test by test. Assumes nothing.
use Prim.Native.Nat.{ℕ, ◌+◌, ◌-◌, ◌*◌, ◌≤◌, ◌<◌}
use mathlib.Core.Path.{◌≡◌, sym, ap, ◌∙◌}
use mathlib.Core.Bool.{true, false, ◌&&◌}
use mathlib.Core.List.{List, ◌++◌}
use borrow.Author.Tests.{lt-leb, le-leb, eq-eqb, ne_eqb}
use lib.Dec.{leb, leb→le}
use lib.ListN.{length, take}
use Rattle.model.specs.declared.refusal.Refusal.{Refusal}
use Rattle.model.specs.Refusals.{refusal_number}
use Rattle.model.specs.Bounds.{most_block_length}
use Rattle.model.specs.Lists.{every, rising, never_falls, ceil_div}
use Rattle.model.specs.Checks.{Check, first_failed}
use Rattle.model.specs.Deliveries.{Slices, Even, each_slice, in_range, day_ok}
use Rattle.model.specs.Blocks.{Set, blocks, block_length_ok, slots_ok, slices_ok, used_ok, growers_ok, values_ok, days_ok}
use Rattle.model.specs.Layouts.{end_of, separates_none, is_layout, layout_ok}
use Rattle.model.specs.Questions.{set_checks}
use Rattle.model.proofs.Tests.{and_fst, and_snd, of_true, yes_first}
use Rattle.model.proofs.Refusals.{refusal_some}
use Rattle.model.proofs.ListLaws.{ceil_some, ceil_within}
use Rattle.model.proofs.Deliveries.{rows-part}
use Rattle.model.proofs.SetLaws.{sliced}
use Rattle.slices.proofs.Sums.{even_part}
use Rattle.sets.specs.Sized.{Sized, set_refusal_of}
use Rattle.checks.specs.Values.{all_values_ok, all_days_ok}
use Rattle.checks.proofs.Answers.{passes, none_failed, failed_first, numbered, passed_first, passed_both, every-rows, every_day_rows}

-- Checks 2 to 5 together.

pub block_most : (b : ℕ) → block_length_ok b ≡ true → b ≤ most_block_length
unfolding block_length_ok
block_most b e = leb→le b most_block_length (and_snd (leb 1 b) (leb b most_block_length) (of_true _ e))

module _ (L : ℕ) (s : Set) where
  -- check 4, of as many slots as there are growers
  pub used_law : (n : ℕ) → n ≡ length s.slices.growers → leb 1 s.used && leb s.used n && leb s.used (L * s.block) ≡ used_ok L s
  unfolding used_ok
  used_law n e = rw e

  -- and 5
  pub growers_law : (gs : List ℕ) → gs ≡ s.slices.growers → never_falls (take s.used gs) ≡ growers_ok s
  unfolding growers_ok
  growers_law gs e = ap (λ (l : List ℕ). never_falls (take s.used l)) e

  pub set_ok : block_length_ok s.block ≡ true → slices_ok s.slices ≡ true → used_ok L s ≡ true → growers_ok s ≡ true → 0 ≡ set_refusal_of L s
  set_ok e f g h = passes 2 0 _ _ e (passes 3 0 _ _ f (passes 4 0 _ _ g (passes 5 0 _ _ h none_failed)))

  -- what they say of the sizes
  pub sized : 0 ≡ set_refusal_of L s → Sized L s.block s.used (length s.slices.growers)
  unfolding block_length_ok slots_ok slices_ok used_ok
  sized h =
      let b : ℕ = s.block in
      let m : ℕ = s.used in
      let c : ℕ = length s.slices.growers in
      let c2 = yes_first 1 (block_length_ok b) _ (sym h) in
      let c3 = yes_first 2 (slices_ok s.slices) _ c2.1 in
      let c4 = yes_first 3 (used_ok L s) _ c3.1 in
      let u = and_fst (leb 1 m && leb m c) (leb m (L * b)) c4.0 in
      record {
        block_least = leb→le 1 b (and_fst (leb 1 b) (leb b most_block_length) c2.0);
        block_most = leb→le b most_block_length (and_snd (leb 1 b) (leb b most_block_length) c2.0);
        used_least = leb→le 1 m (and_fst (leb 1 m) (leb m c) u);
        used_fits = leb→le m c (and_snd (leb 1 m) (leb m c) u);
        used_most = leb→le m (L * b) (and_snd (leb 1 m && leb m c) (leb m (L * b)) c4.0);
        slots_most = (sliced s.slices c3.0).most;
      }

  -- a list of checks that begins with them, of which one failed or none did
  pub set_failed : (r : Refusal) (cs : List Check) → refusal_number r ≡ set_refusal_of L s → refusal_number r ≡ first_failed (set_checks L s ++ cs)
  set_failed r cs e = e ∙ failed_first (set_checks L s) cs (λ z. refusal_some r (e ∙ z))

  pub set_passed : (n : ℕ) (cs : List Check) → 0 ≡ set_refusal_of L s → n ≡ first_failed cs → n ≡ first_failed (set_checks L s ++ cs)
  unfolding numbered
  set_passed n cs e f = f ∙ sym (passed_first (set_checks L s) cs tt (sym e))

  -- and one that passed
  pub set_first : (cs : List Check) → first_failed (set_checks L s ++ cs) ≡ 0 → (set_refusal_of L s ≡ 0) × (first_failed cs ≡ 0)
  unfolding numbered
  set_first cs = passed_both (set_checks L s) cs tt

-- no more blocks than the block limit, and at least one
module _ {L b m c : ℕ} (z : Sized L b m c) where
  pub blocks-least : 1 ≤ ceil_div m b
  blocks-least = ceil_some m b z.block_least z.used_least

  pub blocks_most : ceil_div m b ≤ L
  blocks_most = ceil_within L m b z.block_least z.used_most

-- Checks 8 and 19: the rows are tested by their weights and their yields, and by their days.

module _ (s : Set) (v : Even s.slices) (u : Slices) (e : u ≡ each_slice (take s.used) s.slices) where
  abbrev used_slots : Slices
  used_slots = each_slice (take s.used) s.slices

  pub values_law : all_values_ok u.weights u.yields ≡ values_ok s
  unfolding values_ok
  values_law =
      ap (λ (t : Slices). all_values_ok t.weights t.yields) e
      ∙ every-rows used_slots (even_part s.slices s.used 0 v)
      ∙ ap (every in_range) (rows-part s.used 0 s.slices)

  pub days_law : all_days_ok u.days ≡ days_ok s
  unfolding days_ok
  days_law = ap (λ (t : Slices). all_days_ok t.days) e ∙ every_day_rows used_slots (even_part s.slices s.used 0 v) ∙ ap (every day_ok) (rows-part s.used 0 s.slices)

-- Check 6 of a layout.

module _ (s : Set) (ends : List ℕ) where
  pub layout_empty : length ends < 1 → false ≡ layout_ok s ends
  unfolding layout_ok is_layout
  layout_empty h = rw (lt-leb 1 (length ends) h)

  pub layout_falls : 1 ≤ length ends → rising ends ≡ false → false ≡ layout_ok s ends
  unfolding layout_ok is_layout
  layout_falls h r = rw (le-leb 1 (length ends) h, r)

  pub layout_short : 1 ≤ length ends → rising ends ≡ true → (end_of ends (length ends - 1) + 1 ≡ blocks s → ⊥) → false ≡ layout_ok s ends
  unfolding layout_ok is_layout
  layout_short h r l = rw (le-leb 1 (length ends) h, r, ne_eqb (end_of ends (length ends - 1) + 1) (blocks s) l)

  pub layout_parts : 1 ≤ length ends → rising ends ≡ true → end_of ends (length ends - 1) + 1 ≡ blocks s → every (separates_none s) ends ≡ layout_ok s ends
  unfolding layout_ok is_layout
  layout_parts h r l = rw (le-leb 1 (length ends) h, r, eq-eqb (end_of ends (length ends - 1) + 1) (blocks s) l)
