-- The columns of one set of rows move as one: each move commutes with map. Assumes nothing.
use Prim.Native.Nat.{ℕ}
use mathlib.Core.Path.{◌≡◌, refl, sym}
use mathlib.Core.Bool.{Bool, true, false, cond}
use mathlib.Core.List.{List, [], ◌∷◌, map, map-append, flatten}
use lib.ListN.{drop, length-map, get_or-map}
use Rattle.model.specs.Lists.{sum_of}
use Rattle.model.specs.Partitions.{parts, free}
use Rattle.model.specs.Moves.{rotate_left, rotate_right, fill_from_end, fill_from_front, insert_at, delete_at, move_forward, move_backward, move_within, move_at, inserted, deleted, moved}
use Rattle.model.specs.Partitions.{part}
use Rattle.model.proofs.ListLaws.{map-take, map-drop}

module _ {A B : Type 0} (f : A → B) where
  map-rotate_left : (p : List A) → map f (rotate_left p) ≡ rotate_left (map f p)
  unfolding rotate_left
  map-rotate_left p = simp (map-append, map-drop, map-take)

  map-rotate_right : (p : List A) → map f (rotate_right p) ≡ rotate_right (map f p)
  unfolding rotate_right
  map-rotate_right p = simp (map-append, map-drop, map-take, length-map)

  map-fill_from_end : (i : ℕ) (p : List A) → map f (fill_from_end i p) ≡ fill_from_end i (map f p)
  unfolding fill_from_end
  map-fill_from_end i p = simp (map-append, map-take, map-rotate_right, map-drop)

  map-fill_from_front : (i : ℕ) (p : List A) → map f (fill_from_front i p) ≡ fill_from_front i (map f p)
  unfolding fill_from_front
  map-fill_from_front i p = simp (map-append, map-rotate_left, map-take, map-drop)

  map-part : (t : ℕ) (ps : List (List A)) → map f (part t ps) ≡ part t (map (map f) ps)
  map-part t ps = sym (get_or-map (map f) ps t [])

  map_rotate_lefts : (ps : List (List A)) → map (map f) (map rotate_left ps) ≡ map rotate_left (map (map f) ps)
  map_rotate_lefts [] = refl
  map_rotate_lefts (p ∷ ps) = rw (map-rotate_left, map_rotate_lefts ps)

  map_rotate_rights : (ps : List (List A)) → map (map f) (map rotate_right ps) ≡ map rotate_right (map (map f) ps)
  map_rotate_rights [] = refl
  map_rotate_rights (p ∷ ps) = rw (map-rotate_right, map_rotate_rights ps)

  map-flatten : (ps : List (List A)) → map f (flatten ps) ≡ flatten (map (map f) ps)
  unfolding flatten
  map-flatten [] = refl
  map-flatten (p ∷ ps) = rw (map-append, map-flatten ps)

  pub map-parts : (ns : List ℕ) (s : List A) → map (map f) (parts ns s) ≡ parts ns (map f s)
  unfolding parts
  map-parts [] s = refl
  map-parts (n ∷ ns) s = rw (map-take, map-parts ns (drop n s), map-drop)

  map-free : (ns : List ℕ) (s : List A) → map f (free ns s) ≡ free ns (map f s)
  unfolding free
  map-free ns s = map-drop f (sum_of ns) s

  map-insert_at : (t : ℕ) (x : A) (ps : List (List A)) → map (map f) (insert_at t x ps) ≡ insert_at t (f x) (map (map f) ps)
  unfolding insert_at
  map-insert_at t x ps = simp (map-append, map-take, map-part, map_rotate_lefts, map-drop)

  map-delete_at : (t i : ℕ) (ps : List (List A)) → map (map f) (delete_at t i ps) ≡ delete_at t i (map (map f) ps)
  unfolding delete_at
  map-delete_at t i ps = simp (map-append, map-take, map-fill_from_end, map-part, map_rotate_rights, map-drop)

  map-move_forward : (t i u : ℕ) (x : A) (ps : List (List A)) → map (map f) (move_forward t i u x ps) ≡ move_forward t i u (f x) (map (map f) ps)
  unfolding move_forward
  map-move_forward t i u x ps = simp (map-append, map-delete_at, map-take, map-part, map-drop)

  map-move_backward : (t i u : ℕ) (x : A) (ps : List (List A)) → map (map f) (move_backward t i u x ps) ≡ move_backward t i u (f x) (map (map f) ps)
  unfolding move_backward
  map-move_backward t i u x ps = simp (map-append, map-insert_at, map-take, map-fill_from_front, map-part, map-drop)

  map-move_within : (t i : ℕ) (x : A) (ps : List (List A)) → map (map f) (move_within t i x ps) ≡ move_within t i (f x) (map (map f) ps)
  unfolding move_within
  map-move_within t i x ps = simp (map-append, map-take, map-fill_from_end, map-part, map-drop)

  pub map-inserted : (ns : List ℕ) (t : ℕ) (x : A) (s : List A) → map f (inserted ns t x s) ≡ inserted ns t (f x) (map f s)
  unfolding inserted
  map-inserted ns t x s = simp (map-append, map-flatten, map-insert_at, map-parts, map-drop, map-free)

  pub map-deleted : (ns : List ℕ) (t i : ℕ) (z : A) (s : List A) → map f (deleted ns t i z s) ≡ deleted ns t i (f z) (map f s)
  unfolding deleted
  map-deleted ns t i z s = simp (map-append, map-flatten, map-delete_at, map-parts, map-free)

  map-cond : (b : Bool) (p q : List (List A)) → map (map f) (cond b p q) ≡ cond b (map (map f) p) (map (map f) q)
  map-cond true p q = refl
  map-cond false p q = refl

  map_move_at : (t i u : ℕ) (x : A) (ps : List (List A)) → map (map f) (move_at t i u x ps) ≡ move_at t i u (f x) (map (map f) ps)
  unfolding move_at
  map_move_at t i u x ps = simp (map-cond, map-move_forward, map-move_backward, map-move_within)

  pub map-moved : (ns : List ℕ) (t i u : ℕ) (x : A) (s : List A) → map f (moved ns t i u x s) ≡ moved ns t i u (f x) (map f s)
  unfolding moved
  map-moved ns t i u x s = simp (map-append, map-flatten, map_move_at, map-parts, map-free)
