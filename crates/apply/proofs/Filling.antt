-- The numbers of a directory, filled in partition by partition, and the answer. Assumes nothing.
use Prim.Native.Nat.{ℕ, suc, ◌+◌, ◌-◌, ◌≤◌, ◌<◌}
use mathlib.Core.Path.{◌≡◌, refl, sym, ap, ap₂, ◌∙◌}
use mathlib.Core.List.{List, [], ◌∷◌, ◌++◌, map}
use native.Mathlib.Omega.{arith}
use native.Mathlib.Numerals.{add-one}
use borrow.Author.Tests.{ne_eqb}
use lib.Dec.{T}
use lib.ListN.{length, get_or, take, drop, length-map}
use lib.Seq.{length-take-le, take-suc, take_all, drop-cons}
use Rattle.model.specs.declared.Applied.{Applied}
use Rattle.model.specs.declared.refusal.Refusal.{Refusal}
use Rattle.model.specs.Refusals.{refusal_number}
use Rattle.model.proofs.Refusals.{refusal_some}
use Rattle.model.specs.Checks.{first_failed}
use Rattle.model.specs.Deliveries.{Slices}
use Rattle.model.specs.Blocks.{Set, blocks, block_stop, last_grower}
use Rattle.model.specs.Layouts.{layout_ok}
use Rattle.model.specs.Directory.{directory_size, directory_numbers, no_directory}
use Rattle.model.specs.Column.{lengths_from, directory_for}
use Rattle.model.specs.Questions.{apply_checks}
use Rattle.model.specs.ColumnCalls.{apply_call}
use Rattle.model.proofs.Tests.{yes_first}
use Rattle.model.proofs.ListLaws.{at_map}
use Rattle.model.proofs.LayoutLaws.{laid, cut_first, cut_count}
use Rattle.model.proofs.SetLaws.{stop_mono}
use Rattle.model.proofs.Fresh.{length_lengths}
use Rattle.directory.specs.Numbers.{blank, with_partition}
use Rattle.directory.proofs.Putting.{parts_put, put_none, blank_size, put_size, put_next, put_all}
use Rattle.sets.specs.Sized.{Sized}
use Rattle.sets.proofs.Sets.{set_first, blocks_most}

-- the first numbers of a list, and the next one
take_more : (l : List ℕ) (i x : ℕ) → i < length l → x ≡ get_or l i 0 → take i l ++ x ∷ [] ≡ take (i + 1) l
take_more l i x h e = ap (λ (y : ℕ). take i l ++ y ∷ []) e ∙ sym (ap (λ (j : ℕ). take j l) (add-one i) ∙ take-suc l i 0 h)

-- L is the block limit
module _ (L : ℕ) where
  -- the directory with i partitions put
  abbrev filled : Set → List ℕ → ℕ → List ℕ
  filled s ends i = parts_put L s.block (length ends) (take i (lengths_from s 0 ends)) (take i (map (last_grower s) ends))

  pub record Filling (s : Set) (ends d : List ℕ) (a i : ℕ) : Type 0 where
    pub at : i ≤ length ends
    pub few : length ends ≤ L
    pub long : length d ≡ directory_size L
    pub so_far : d ≡ filled s ends i
    pub rest : drop i (lengths_from s 0 ends) ≡ lengths_from s a (drop i ends)
    pub reached : i < length ends → a ≤ block_stop s (get_or ends i 0)

  module _ (s : Set) (ends : List ℕ) where
    pub fill_start : length ends ≤ L → Filling s ends (blank L s.block (length ends)) 0 0
    fill_start h = record { at = omega arith; few = h; long = blank_size L s.block (length ends); so_far = put_none L s.block (length ends); rest = refl; reached = λ k. omega arith }

    next_rises : T (layout_ok s ends) → (i : ℕ) → i + 1 < length ends → get_or ends i 0 ≤ get_or ends (i + 1) 0
    next_rises t i h =
        let c = (laid s ends t).cut in
        let e : get_or (0 ∷ map (λ (e : ℕ). e + 1) ends) (suc i) 0 ≡ get_or ends i 0 + 1 = at_map (λ (e : ℕ). e + 1) ends i (omega arith) in
        let k = cut_first 0 ends (blocks s) (suc i) c (omega arith) in
        omega (arith, ap (λ (n : ℕ). get_or ends n 0) (add-one i))

    module _ (d : List ℕ) (a i : ℕ) (h : i < length ends) (t : T (layout_ok s ends)) (w : Filling s ends d a i) where
      rest_next : drop i (lengths_from s 0 ends) ≡ (block_stop s (get_or ends i 0) - a) ∷ lengths_from s (block_stop s (get_or ends i 0)) (drop (i + 1) ends)
      unfolding lengths_from
      rest_next = w.rest ∙ ap (lengths_from s a) (drop-cons ends i 0 h ∙ ap (λ (n : ℕ). get_or ends i 0 ∷ drop n ends) (sym (add-one i)))

      inside : i < length (lengths_from s 0 ends)
      inside = rw length_lengths h

      split : drop i (lengths_from s 0 ends) ≡ get_or (lengths_from s 0 ends) i 0 ∷ drop (i + 1) (lengths_from s 0 ends)
      split = drop-cons (lengths_from s 0 ends) i 0 inside ∙ ap (λ (n : ℕ). get_or (lengths_from s 0 ends) i 0 ∷ drop n (lengths_from s 0 ends)) (sym (add-one i))

      pub fill_next : (stop fence : ℕ) (new : List ℕ) → new ≡ with_partition L i (stop - a) fence d → stop ≡ block_stop s (get_or ends i 0) → fence ≡ last_grower s (get_or ends i 0)
          → Filling s ends new stop (i + 1)
      fill_next stop fence new z p q =
          let l : List ℕ = lengths_from s 0 ends in
          let f : List ℕ = map (last_grower s) ends in
          let nl : length l ≡ length ends = length_lengths s 0 ends in
          let nf : length f ≡ length ends = length-map ends (last_grower s) in
          let both : get_or l i 0 ∷ drop (i + 1) l ≡ (block_stop s (get_or ends i 0) - a) ∷ lengths_from s (block_stop s (get_or ends i 0)) (drop (i + 1) ends) = sym split ∙ rest_next in
          let x : stop - a ≡ get_or l i 0 = ap (λ (n : ℕ). n - a) p ∙ sym (ap (λ (r : List ℕ). get_or r 0 0) both) in
          let y : fence ≡ get_or f i 0 = q ∙ sym (at_map (last_grower s) ends i h) in
          let tl : length (take i l) ≡ i = length-take-le i l (omega arith) in
          let tf : length (take i f) ≡ i = length-take-le i f (omega arith) in
          record {
            at = omega arith;
            few = w.few;
            long = ap length z ∙ put_size L i (stop - a) fence d ∙ w.long;
            so_far =
                z
                ∙ ap (with_partition L i (stop - a) fence) w.so_far
                ∙ put_next L s.block (length ends) (take i l) (take i f) i (stop - a) fence tl tf (omega (arith, w.few))
                ∙ ap₂ (parts_put L s.block (length ends)) (take_more l i (stop - a) (omega arith) x) (take_more f i fence (omega arith) y);
            rest = ap (drop 1) both ∙ ap (λ (n : ℕ). lengths_from s n (drop (i + 1) ends)) (sym p);
            reached = λ k. omega (arith, stop_mono s (get_or ends i 0) (get_or ends (i + 1) 0) (next_rises t i k));
          }

    pub fill_end : (d : List ℕ) (a i : ℕ) → length ends ≤ i → Filling s ends d a i → d ≡ directory_numbers L (directory_for s ends)
    unfolding directory_for
    fill_end d a i h w =
        let nl : length (lengths_from s 0 ends) ≡ length ends = length_lengths s 0 ends in
        let nf : length (map (last_grower s) ends) ≡ length ends = length-map ends (last_grower s) in
        w.so_far
        ∙ ap₂ (parts_put L s.block (length ends)) (take_all i (lengths_from s 0 ends) (omega arith)) (take_all i (map (last_grower s) ends) (omega arith))
        ∙ put_all L s.block (length ends) (lengths_from s 0 ends) (map (last_grower s) ends) nl

  -- The answer.

  pub few_ends : (s : Set) (c : ℕ) (ends : List ℕ) → Sized L s.block s.used c → T (layout_ok s ends) → length ends ≤ L
  few_ends s c ends z t = omega (arith, cut_count 0 ends (blocks s) (laid s ends t).cut, blocks_most z)

  module _ (s : Set) (ends : List ℕ) where
    pub layout_accepted : 0 ≡ first_failed (apply_checks L s ends) → T (layout_ok s ends)
    unfolding apply_checks
    layout_accepted h =
        let r = set_first L s _ (sym h) in
        (yes_first 5 (layout_ok s ends) _ r.1).0

    pub apply_refused : (r : Refusal) → refusal_number r ≡ first_failed (apply_checks L s ends)
        → ◌≡◌ {A = Applied} (record { refusal = refusal_number r; directory = no_directory L }) (apply_call L s ends)
    unfolding apply_call
    apply_refused r e = rw (sym e, ne_eqb (refusal_number r) 0 (refusal_some r))

    pub apply_accepted : (d : List ℕ) → 0 ≡ first_failed (apply_checks L s ends) → d ≡ directory_numbers L (directory_for s ends)
        → ◌≡◌ {A = Applied} (record { refusal = 0; directory = d }) (apply_call L s ends)
    unfolding apply_call
    apply_accepted d e f = rw (sym e, f)
