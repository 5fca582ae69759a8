-- The lengths after a move are the lengths with one or two of them changed by one. Assumes nothing.
use Prim.Native.Nat.{ℕ, suc, zero, ◌+◌, ◌-◌, ◌≤◌, ◌<◌}
use mathlib.Core.Path.{◌≡◌, refl, sym, ap, ◌∙◌}
use mathlib.Core.Logic.{◌≢◌}
use mathlib.Core.List.{List, [], ◌∷◌, ◌++◌, map, map-append}
use native.Mathlib.Omega.{arith}
use native.Mathlib.Numerals.{add-one}
use lib.ListN.{length, take, get_or, length-set, length-append, length-take, length-drop, length-map, get_or-map}
use Rattle.model.specs.Lists.{sum_of}
use Rattle.model.specs.Partitions.{one_more, one_fewer}
use Rattle.model.specs.Moves.{rotate_left, rotate_right, fill_from_end, fill_from_front, insert_at, delete_at, move_forward, move_backward, move_within, move_at}
use Rattle.model.specs.Partitions.{part}
use lib.Seq.{get_or-set_other, get_or-set_same, set-set, set_comm, set-get_or, get_or-take, take-set-lt, drop-set-lt, length-take-le}
use Rattle.model.proofs.MoveCases.{by_cases}
use Rattle.model.proofs.Parts.{one}
use Rattle.model.proofs.ListLaws.{set_one, map-take, map-drop}

pub sum-one_more : (t : ℕ) (ns : List ℕ) → t < length ns → sum_of (one_more t ns) ≡ sum_of ns + 1
unfolding sum_of
sum-one_more t [] h = absurd (omega arith)
sum-one_more zero (n ∷ ns) h = omega arith
sum-one_more (suc t) (n ∷ ns) h = omega (arith, sum-one_more t ns (omega arith))

pub sum-one_fewer : (t : ℕ) (ns : List ℕ) → t < length ns → 1 ≤ get_or ns t 0 → sum_of (one_fewer t ns) + 1 ≡ sum_of ns
unfolding sum_of
sum-one_fewer t [] h k = absurd (omega arith)
sum-one_fewer zero (n ∷ ns) h k = omega arith
sum-one_fewer (suc t) (n ∷ ns) h k = omega (arith, sum-one_fewer t ns (omega arith) k)

swap : (t u : ℕ) (ns : List ℕ) → t ≢ u → one_fewer t (one_more u ns) ≡ one_more u (one_fewer t ns)
swap t u ns h =
    rw (get_or-set_other ns u t (get_or ns u 0 + 1) 0 h, get_or-set_other ns t u (get_or ns t 0 - 1) 0 (λ e. h (sym e)))
    (set_comm ns u t _ _ (λ e. h (sym e)))

same : (t : ℕ) (ns : List ℕ) → t < length ns → 1 ≤ get_or ns t 0 → one_more t (one_fewer t ns) ≡ ns
same t ns h k =
    let e : get_or ns t 0 - 1 + 1 ≡ get_or ns t 0 = omega arith in
    rw (get_or-set_same ns t (get_or ns t 0 - 1) 0 h, set-set, e, set-get_or)

module _ {A : Type 0} where
  length-rotate_left : (p : List A) → length (rotate_left p) ≡ length p
  unfolding rotate_left
  length-rotate_left p = simp (length-append, length-drop, length-take) (omega arith)

  length-rotate_right : (p : List A) → length (rotate_right p) ≡ length p
  unfolding rotate_right
  length-rotate_right p = simp (length-append, length-drop, length-take) (omega arith)

  length-fill_from_end : (i : ℕ) (p : List A) → i < length p → length (fill_from_end i p) ≡ length p - 1
  unfolding fill_from_end
  length-fill_from_end i p h = simp (length-append, length-rotate_right, length-drop, length-take) (omega arith)

  length-fill_from_front : (i : ℕ) (p : List A) → i < length p → length (fill_from_front i p) ≡ length p - 1
  unfolding fill_from_front
  length-fill_from_front i p h = simp (length-append, length-rotate_left, length-drop, length-take) (omega arith)

  rotate_lefts : (ps : List (List A)) → map length (map rotate_left ps) ≡ map length ps
  rotate_lefts [] = refl
  rotate_lefts (p ∷ ps) = rw (length-rotate_left, rotate_lefts ps)

  rotate_rights : (ps : List (List A)) → map length (map rotate_right ps) ≡ map length ps
  rotate_rights [] = refl
  rotate_rights (p ∷ ps) = rw (length-rotate_right, rotate_rights ps)

  len_part : (t : ℕ) (ps : List (List A)) → length (part t ps) ≡ get_or (map length ps) t 0
  len_part t ps = sym (get_or-map length ps t [])

  len_end : (x : A) (p : List A) → length (p ++ x ∷ []) ≡ length p + 1
  len_end x p = length-append p (x ∷ [])

  pub insert_at_lengths : (t : ℕ) (x : A) (ps : List (List A)) → t < length ps → map length (insert_at t x ps) ≡ one_more t (map length ps)
  unfolding insert_at
  insert_at_lengths t x ps h =
      simp (set_one t (get_or (map length ps) t 0 + 1) (map length ps) (rw length-map h), map-append, map-take, len_end, len_part, rotate_lefts, map-drop)

  pub delete_at_lengths : (t i : ℕ) (ps : List (List A)) → t < length ps → i < length (part t ps) → map length (delete_at t i ps) ≡ one_fewer t (map length ps)
  unfolding delete_at
  delete_at_lengths t i ps h k =
      simp (set_one t (get_or (map length ps) t 0 - 1) (map length ps) (rw length-map h), map-append, map-take, length-fill_from_end i (part t ps) k, len_part, rotate_rights, map-drop)

  move_within_lengths : (t i : ℕ) (x : A) (ps : List (List A)) → t < length ps → i < length (part t ps) → map length (move_within t i x ps) ≡ map length ps
  unfolding move_within
  move_within_lengths t i x ps h k =
      let e : length (fill_from_end i (part t ps) ++ x ∷ []) ≡ length (part t ps) = omega (arith, len_end x (fill_from_end i (part t ps)), length-fill_from_end i (part t ps) k) in
      map-append length (take t ps) _ ∙ rw e (sym (ap (map length) (one t ps h) ∙ map-append length (take t ps) _))

  -- the number of partitions stays
  pub length-insert_at : (t : ℕ) (x : A) (ps : List (List A)) → t < length ps → length (insert_at t x ps) ≡ length ps
  unfolding insert_at
  length-insert_at t x ps h = simp (length-append, length-take, length-map, length-drop) (omega arith)

  pub length-delete_at : (t i : ℕ) (ps : List (List A)) → t < length ps → length (delete_at t i ps) ≡ length ps
  unfolding delete_at
  length-delete_at t i ps h = simp (length-append, length-take, length-map, length-drop) (omega arith)

  move_forward_lengths : (t i u : ℕ) (x : A) (ps : List (List A)) → t < u → u < length ps → i < length (part t ps)
      → map length (move_forward t i u x ps) ≡ one_more u (one_fewer t (map length ps))
  unfolding move_forward
  move_forward_lengths t i u x ps h k l =
      let ns : List ℕ = map length ps in
      let g : get_or (one_fewer t ns) u 0 ≡ get_or ns u 0 = get_or-set_other ns t u _ 0 (omega arith) in
      let g' : part t (take u ps) ≡ part t ps = get_or-take u ps t [] h in
      let w : map length (delete_at t i (take u ps)) ≡ take u (one_fewer t ns)
      = delete_at_lengths t i (take u ps) (omega (arith, length-take-le u ps (omega arith))) (rw g' l)
      ∙ rw (map-take, get_or-take u ns t 0 h) (sym (take-set-lt u ns t _ h)) in
      rw (set_one u (get_or (one_fewer t ns) u 0 + 1) (one_fewer t ns) (rw (length-set, length-map) k), g, drop-set-lt (u + 1) ns t _ (omega arith))
      (simp (map-append, w, len_part, map-drop, add-one))

  move_backward_lengths : (t i u : ℕ) (x : A) (ps : List (List A)) → u < t → t < length ps → i < length (part t ps)
      → map length (move_backward t i u x ps) ≡ one_fewer t (one_more u (map length ps))
  unfolding move_backward
  move_backward_lengths t i u x ps h k l =
      let ns : List ℕ = map length ps in
      let g : get_or (one_more u ns) t 0 ≡ get_or ns t 0 = get_or-set_other ns u t _ 0 (omega arith) in
      let w : map length (insert_at u x (take t ps)) ≡ take t (one_more u ns)
      = insert_at_lengths u x (take t ps) (omega (arith, length-take-le t ps (omega arith)))
      ∙ rw (map-take, get_or-take t ns u 0 h) (sym (take-set-lt t ns u _ h)) in
      rw (set_one t (get_or (one_more u ns) t 0 - 1) (one_more u ns) (rw (length-set, length-map) k), g, drop-set-lt (t + 1) ns u _ (omega arith))
      (simp (map-append, w, length-fill_from_front i (part t ps) l, len_part, map-drop))

  -- one fewer at t, and then one more at u
  pub move_at_lengths : (t i u : ℕ) (x : A) (ps : List (List A)) → t < length ps → u < length ps → i < length (part t ps)
      → map length (move_at t i u x ps) ≡ one_more u (one_fewer t (map length ps))
  move_at_lengths t i u x ps h k l =
      let ns : List ℕ = map length ps in
      by_cases t i u x ps (λ (r : List (List A)). map length r ≡ one_more u (one_fewer t ns))
      (λ c. move_forward_lengths t i u x ps c k l)
      (λ c. move_backward_lengths t i u x ps c h l ∙ swap t u ns (omega arith))
      (λ c. move_within_lengths t i x ps h l ∙ sym (rw (sym c) (same t ns (rw length-map h) (omega (arith, len_part t ps)))))
