-- The column that laying returns is valid, and holds the set's own deliveries. Assumes nothing.
use Prim.Native.Nat.{ℕ, suc, ◌+◌, ◌-◌, ◌≤◌, ◌<◌, min}
use mathlib.Core.Path.{◌≡◌, refl, sym, ap, ◌∙◌, subst}
use mathlib.Core.Bool.{Bool, not}
use mathlib.Core.List.{List, [], ◌∷◌, map}
use native.Mathlib.Omega.{arith}
use native.Mathlib.Decide.{dec_lt}
use lib.Dec.{T, ltb, eqb}
use lib.ListN.{length, take, drop, get_or, length-map, length-take, length-drop}
use lib.Seq.{get_or-take, get_or-drop}
use Rattle.model.specs.Lists.{sum_of, every}
use Rattle.model.specs.Place.{place}
use Rattle.model.specs.Deliveries.{rows}
use Rattle.model.specs.Blocks.{Set, held, block_of, last_grower, block_length_ok, slices_ok, used_ok, growers_ok}
use Rattle.model.specs.Layouts.{layout_ok}
use Rattle.model.specs.Partitions.{parts, start_of, every_at}
use Rattle.model.specs.Directory.{Directory, directory_size, directory_of, directory_numbers, directory_block_ok}
use Rattle.model.specs.Column.{in_place, sound_growers, all_records, sound, lengths_from, directory_for}
use Rattle.model.specs.Questions.{apply_checks}
use Rattle.model.specs.ColumnCalls.{apply_call, laid_column}
use Rattle.model.specs.Laws.{SetPasses}
use Rattle.model.proofs.Parts.{flatten-parts, start_le, start_mono}
use Rattle.model.proofs.Tests.{and_mk, or_snd, yes_first, first_passed, eq→eqb}
use Rattle.model.proofs.Places.{Placed}
use Rattle.model.proofs.LayoutLaws.{Laid, laid}
use Rattle.model.proofs.SetLaws.{Good, good, few, part_placed, target}
use Rattle.model.proofs.DirectoryLaws.{Fits, Shaped, directory_again, numbers_shaped}
use Rattle.model.proofs.Fresh.{length_lengths, none_empty, fences_rise, total_used, start_next, lower, upper}
use Rattle.theorems.specs.Plan.{NoneEmptyWhenLaid}
use Rattle.theorems.proofs.ValidColumn.{both_pass, Valid}

-- Partitions by their slots.

every-slot : (f : ℕ → Bool) (l : List ℕ) → ((i : ℕ) → i < length l → T (f (get_or l i 0))) → T (every f l)
unfolding every
every-slot f [] h = tt
every-slot f (x ∷ l) h = and_mk (f x) (every f l) (h 0 (omega arith)) (every-slot f l (λ i k. h (suc i) (omega arith)))

every_partition : (f : ℕ → ℕ → Bool) (j : ℕ) (ns gs : List ℕ)
    → ((p i : ℕ) → p < length ns → start_of ns p ≤ i → i < start_of ns (suc p) → i < length gs → T (f (j + p) (get_or gs i 0)))
    → T (every_at f j (parts ns gs))
unfolding every_at parts start_of sum_of
every_partition f j [] gs h = tt
every_partition f j (n ∷ ns) gs h =
    and_mk (every (f j) (take n gs)) (every_at f (j + 1) (parts ns (drop n gs)))
    (every-slot (f j) (take n gs) here)
    (every_partition f (j + 1) ns (drop n gs) later)
  where
    here : (i : ℕ) → i < length (take n gs) → T (f j (get_or (take n gs) i 0))
    here i k =
        let w : i < min n (length gs) = rw length-take at k in
        let e : j + 0 ≡ j = omega arith in
        rw (get_or-take n gs i 0 (omega arith)) (rw e at (h 0 i (omega arith) (omega arith) (omega arith) (omega arith)))

    later : (p i : ℕ) → p < length ns → start_of ns p ≤ i → i < start_of ns (suc p) → i < length (drop n gs) → T (f (j + 1 + p) (get_or (drop n gs) i 0))
    later p i a b d k =
        let w : i < length gs - n = rw length-drop at k in
        let e : j + suc p ≡ j + 1 + p = omega arith in
        rw get_or-drop (rw e at (h (suc p) (n + i) (omega arith) (omega arith) (omega arith) (omega arith)))

-- a slot lies in one partition
start_only : (ns : List ℕ) (i p q : ℕ) → start_of ns p ≤ i → i < start_of ns (suc p) → start_of ns q ≤ i → i < start_of ns (suc q) → q ≡ p
start_only ns i p q a b x y = go (dec_lt p q) (dec_lt q p)
  where
    go : Dec (p < q) → Dec (q < p) → q ≡ p
    go (yes h) e = absurd (omega (arith, start_mono ns (suc p) q h))
    go (no h) (yes e) = absurd (omega (arith, start_mono ns (suc q) p e))
    go (no h) (no e) = omega arith

module _ (L : ℕ) (s : Set) (ends : List ℕ) (o : Good L s) (l : Laid s ends) where
  -- a slot of partition p holds a grower of partition p
  laid-sound : T (sound_growers (lengths_from s 0 ends) (map (last_grower s) ends) s.slices.growers)
  unfolding sound_growers
  laid-sound = every_partition (in_place (map (last_grower s) ends)) 0 (lengths_from s 0 ends) s.slices.growers own
    where
      own : (p i : ℕ) → p < length (lengths_from s 0 ends) → start_of (lengths_from s 0 ends) p ≤ i → i < start_of (lengths_from s 0 ends) (suc p) → i < length s.slices.growers
          → T (in_place (map (last_grower s) ends) (0 + p) (get_or s.slices.growers i 0))
      own p i a b d k =
          let ns : List ℕ = lengths_from s 0 ends in
          let g : ℕ = get_or s.slices.growers i 0 in
          let q : ℕ = place ends (block_of s g) in
          let w : Placed ends (block_of s g) q = part_placed L s o ends l (block_of s g) in
          let used : i < s.used = omega (arith, start_le ns (suc p), total_used L s o ends l) in
          let x : start_of ns q ≤ i = lower L s o ends l g i q used refl w in
          let y : i < start_of ns (suc q) = omega (arith, start_next L s o ends l q w.within, upper L s o ends l g i q used refl w) in
          eq→eqb (place (map (last_grower s) ends) g) (0 + p) (target L s o ends l g ∙ start_only ns i p q b d x y ∙ omega arith)

  -- the directory is read again as it was made
  fits : Fits L (directory_for s ends)
  unfolding directory_for
  fits = record { even = length-map ends (last_grower s) ∙ sym (length_lengths s 0 ends); few = rw (length_lengths s 0 ends) (few L s o ends l) }

  module _ (d : List ℕ) (e : d ≡ directory_numbers L (directory_for s ends)) where
    laid_directory : directory_of L d ≡ directory_for s ends
    laid_directory = ap (directory_of L) e ∙ directory_again L (directory_for s ends) fits

    laid_lengths : (directory_of L d).lengths ≡ lengths_from s 0 ends
    unfolding directory_for
    laid_lengths = ap (λ (r : Directory). r.lengths) laid_directory

    laid_total : sum_of (directory_of L d).lengths ≡ s.used
    laid_total = ap sum_of laid_lengths ∙ total_used L s o ends l

    laid_block : T (directory_block_ok L d)
    unfolding directory_block_ok directory_numbers directory_for
    laid_block = rw e (or_snd (not (eqb (length (directory_numbers L (directory_for s ends))) (directory_size L))) (block_length_ok s.block) o.block_ok)

    laid_shape : Shaped L (length s.slices.growers) d
    unfolding directory_for
    laid_shape =
        subst (Shaped L (length s.slices.growers)) (sym e)
        (numbers_shaped L (length s.slices.growers) (directory_for s ends) fits
        (rw (length_lengths s 0 ends) l.some) (fences_rise L s o 0 ends l.cut l.parted) (rw (total_used L s o ends l) o.m_fits))

    laid-sound_column : T (sound_growers (directory_of L d).lengths (directory_of L d).fences s.slices.growers)
    unfolding directory_for
    laid-sound_column = subst (λ (r : Directory). T (sound_growers r.lengths r.fences s.slices.growers)) (sym laid_directory) laid-sound

-- laying that was accepted
module _ (L : ℕ) (s : Set) (ends : List ℕ) (h : (apply_call L s ends).refusal ≡ 0) where
  -- its checks, taken apart
  checked : SetPasses L s × T (layout_ok s ends)
  unfolding apply_call apply_checks
  checked =
      let c2 = yes_first 1 (block_length_ok s.block) _ h in
      let c3 = yes_first 2 (slices_ok s.slices) _ c2.1 in
      let c4 = yes_first 3 (used_ok L s) _ c3.1 in
      let c5 = yes_first 4 (growers_ok s) _ c4.1 in
      let c6 = yes_first 5 (layout_ok s ends) _ c5.1 in (
        first_passed 2 (block_length_ok s.block) _ c2.0
            ∙ first_passed 3 (slices_ok s.slices) _ c3.0
            ∙ first_passed 4 (used_ok L s) _ c4.0
            ∙ first_passed 5 (growers_ok s) _ c5.0
            ∙ c6.1,
        c6.0,
      )

  set_good : Good L s
  set_good = good L s checked.0

  layout_laid : Laid s ends
  layout_laid = laid s ends checked.1

  directory_is : (laid_column L s ends).directory ≡ directory_numbers L (directory_for s ends)
  unfolding laid_column apply_call
  directory_is = rw h

  pub laid_records : all_records L (laid_column L s ends) ≡ held s
  unfolding laid_column
  laid_records = flatten-parts _ _ ∙ ap (λ (n : ℕ). take n (rows s.slices)) (laid_total L s ends set_good layout_laid _ directory_is)

  pub laid_valid : Valid L (laid_column L s ends)
  unfolding laid_column sound
  laid_valid = record {
    block_ok = laid_block L s ends set_good layout_laid _ directory_is;
    slices_ok_lem = set_good.slices_ok_lem;
    shape = laid_shape L s ends set_good layout_laid _ directory_is;
    sound = laid-sound_column L s ends set_good layout_laid _ directory_is;
    values = both_pass (all_records L (laid_column L s ends)) (rw laid_records set_good.values_ok_lem) (rw laid_records set_good.days_ok_lem);
  }

  pub laid_capacity : length (laid_column L s ends).slices.growers ≡ length s.slices.growers
  unfolding laid_column
  laid_capacity = refl

pub none_empty_when_laid : NoneEmptyWhenLaid
none_empty_when_laid L s ends h =
    let o = set_good L s ends h in
    let l = layout_laid L s ends h in
    subst (λ (ns : List ℕ). T (every (ltb 0) ns)) (sym (laid_lengths L s ends o l _ (directory_is L s ends h))) (none_empty L s o ends l.cut)
