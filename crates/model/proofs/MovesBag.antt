-- No move loses or makes a record: the rows afterwards are the rows before, with the record added, taken away or changed. Assumes nothing.
use Prim.Native.Nat.{ℕ, ◌+◌, ◌-◌, ◌<◌}
use mathlib.Core.Path.{◌≡◌, refl, sym, ap, ◌∙◌}
use mathlib.Core.List.Permᴰ
use mathlib.Core.List.{List, [], ◌∷◌, ◌++◌, map, flatten, append_assoc, Permᴰ}
use native.Mathlib.Omega.{arith}
use native.Mathlib.Numerals.{add-one}
use lib.ListN.{length, take, drop, get_or, take-append-drop}
use lib.Seq.{split_at, get_or-take, length-take-le}
use Rattle.model.specs.Moves.{rotate_left, rotate_right, fill_from_end, fill_from_front, insert_at, delete_at, move_forward, move_backward, move_within, move_at}
use Rattle.model.specs.Partitions.{part}
use Rattle.model.proofs.MoveCases.{by_cases}
use Rattle.model.proofs.Parts.{one}
use Rattle.model.proofs.ListLaws.{flatten-at}

module _ {A : Type 0} where
  swap : (a b : List A) → Permᴰ (a ++ b) (b ++ a)
  swap [] b = Permᴰ.symm (Permᴰ.append-nil b)
  swap (x ∷ a) b = Permᴰ.trans (Permᴰ.cons refl (swap a b)) (Permᴰ.symm (Permᴰ.middle x b a))

  both : {a b c d : List A} → Permᴰ a b → Permᴰ c d → Permᴰ (a ++ c) (b ++ d)
  both {b = b} {c = c} p q = Permᴰ.trans (Permᴰ.append_right c p) (Permᴰ.append_left b q)

  -- r and what follows b
  past : {r : A} {c d : List A} (b : List A) → Permᴰ (r ∷ c) d → Permᴰ (r ∷ (b ++ c)) (b ++ d)
  past {r} {c} b p = Permᴰ.trans (Permᴰ.symm (Permᴰ.middle r b c)) (Permᴰ.append_left b p)

  turn : (k : ℕ) (p : List A) → Permᴰ (drop k p ++ take k p) p
  turn k p = rw take-append-drop at (swap (drop k p) (take k p))

  rotate_left-bag : (p : List A) → Permᴰ (rotate_left p) p
  unfolding rotate_left
  rotate_left-bag p = turn 1 p

  rotate_right-bag : (p : List A) → Permᴰ (rotate_right p) p
  unfolding rotate_right
  rotate_right-bag p = turn (length p - 1) p

  rotate_lefts_bag : (ps : List (List A)) → Permᴰ (flatten (map rotate_left ps)) (flatten ps)
  unfolding flatten
  rotate_lefts_bag [] = Permᴰ.nil
  rotate_lefts_bag (p ∷ ps) = both (rotate_left-bag p) (rotate_lefts_bag ps)

  rotate_rights_bag : (ps : List (List A)) → Permᴰ (flatten (map rotate_right ps)) (flatten ps)
  unfolding flatten
  rotate_rights_bag [] = Permᴰ.nil
  rotate_rights_bag (p ∷ ps) = both (rotate_right-bag p) (rotate_rights_bag ps)

  end_bag : (x : A) (p : List A) → Permᴰ (x ∷ p) (p ++ x ∷ [])
  end_bag x p = swap (x ∷ []) p

  fill_from_end-bag : (d : A) (i : ℕ) (p : List A) → i < length p → Permᴰ (get_or p i d ∷ fill_from_end i p) p
  unfolding fill_from_end
  fill_from_end-bag d i p h =
      let e : take i p ++ get_or p i d ∷ drop (i + 1) p ≡ p = rw add-one (sym (split_at p i d h)) in
      rw e at (past {r = get_or p i d} (take i p) (Permᴰ.cons refl (rotate_right-bag (drop (i + 1) p))))

  fill_from_front-bag : (d : A) (i : ℕ) (p : List A) → i < length p → Permᴰ (get_or p i d ∷ fill_from_front i p) p
  unfolding fill_from_front
  fill_from_front-bag d i p h =
      let e : take i p ++ get_or p i d ∷ drop (i + 1) p ≡ p = rw add-one (sym (split_at p i d h)) in
      rw e at (Permᴰ.trans (Permᴰ.symm (Permᴰ.middle (get_or p i d) (rotate_left (take i p)) (drop (i + 1) p))) (Permᴰ.append_right _ (rotate_left-bag (take i p))))

  pub insert_at-bag : (t : ℕ) (x : A) (ps : List (List A)) → t < length ps → Permᴰ (flatten (insert_at t x ps)) (x ∷ flatten ps)
  unfolding insert_at
  insert_at-bag t x ps h =
      let e : flatten ps ≡ flatten (take t ps) ++ (part t ps ++ flatten (drop (t + 1) ps)) = ap flatten (one t ps h) ∙ flatten-at _ _ _ in
      rw (flatten-at, e) (Permᴰ.symm (past (flatten (take t ps)) (both (end_bag x (part t ps)) (Permᴰ.symm (rotate_lefts_bag (drop (t + 1) ps))))))

  pub delete_at-bag : (d : A) (t i : ℕ) (ps : List (List A)) → t < length ps → i < length (part t ps)
      → Permᴰ (get_or (part t ps) i d ∷ flatten (delete_at t i ps)) (flatten ps)
  unfolding delete_at
  delete_at-bag d t i ps h k =
      let e : flatten ps ≡ flatten (take t ps) ++ (part t ps ++ flatten (drop (t + 1) ps)) = ap flatten (one t ps h) ∙ flatten-at _ _ _ in
      rw (flatten-at, e) (past (flatten (take t ps)) (both (fill_from_end-bag d i (part t ps) k) (rotate_rights_bag (drop (t + 1) ps))))

  -- x takes the place of the record of slot i
  move_forward-bag : (d : A) (t i u : ℕ) (x : A) (ps : List (List A)) → t < u → u < length ps → i < length (part t ps)
      → Permᴰ (get_or (part t ps) i d ∷ flatten (move_forward t i u x ps)) (x ∷ flatten ps)
  unfolding move_forward
  move_forward-bag d t i u x ps h k l =
      let r : List A = part u ps ++ flatten (drop (u + 1) ps) in
      let e : flatten ps ≡ flatten (take u ps) ++ r = ap flatten (one u ps k) ∙ flatten-at _ _ _ in
      let g : part t (take u ps) ≡ part t ps = get_or-take u ps t [] h in
      let w : Permᴰ (get_or (part t ps) i d ∷ flatten (delete_at t i (take u ps))) (flatten (take u ps))
      = rw g at (delete_at-bag d t i (take u ps) (omega (arith, length-take-le u ps (omega arith))) (rw g l)) in
      rw (flatten-at, e) (Permᴰ.trans (Permᴰ.append_right (x ∷ r) w) (Permᴰ.middle x (flatten (take u ps)) r))

  move_backward-bag : (d : A) (t i u : ℕ) (x : A) (ps : List (List A)) → u < t → t < length ps → i < length (part t ps)
      → Permᴰ (get_or (part t ps) i d ∷ flatten (move_backward t i u x ps)) (x ∷ flatten ps)
  unfolding move_backward
  move_backward-bag d t i u x ps h k l =
      let r : List A = flatten (drop (t + 1) ps) in
      let e : flatten ps ≡ flatten (take t ps) ++ (part t ps ++ r) = ap flatten (one t ps k) ∙ flatten-at _ _ _ in
      rw (flatten-at, e) (Permᴰ.trans
      (past (flatten (insert_at u x (take t ps))) (Permᴰ.append_right r (fill_from_front-bag d i (part t ps) l)))
      (Permᴰ.append_right (part t ps ++ r) (insert_at-bag u x (take t ps) (omega (arith, length-take-le t ps (omega arith))))))

  move_within-bag : (d : A) (t i : ℕ) (x : A) (ps : List (List A)) → t < length ps → i < length (part t ps)
      → Permᴰ (get_or (part t ps) i d ∷ flatten (move_within t i x ps)) (x ∷ flatten ps)
  unfolding move_within
  move_within-bag d t i x ps h l =
      let b : List A = flatten (take t ps) in
      let a : List A = flatten (drop (t + 1) ps) in
      let e : flatten ps ≡ b ++ (part t ps ++ a) = ap flatten (one t ps h) ∙ flatten-at _ _ _ in
      rw (flatten-at, e, append_assoc) (Permᴰ.trans
      (past b (both (fill_from_end-bag d i (part t ps) l) (Permᴰ.refl (x ∷ a))))
      (Permᴰ.symm (past b (past (part t ps) (Permᴰ.refl (x ∷ a))))))

  pub move_at_bag : (d : A) (t i u : ℕ) (x : A) (ps : List (List A)) → t < length ps → u < length ps → i < length (part t ps)
      → Permᴰ (get_or (part t ps) i d ∷ flatten (move_at t i u x ps)) (x ∷ flatten ps)
  move_at_bag d t i u x ps h k l =
      by_cases t i u x ps (λ (r : List (List A)). Permᴰ (get_or (part t ps) i d ∷ flatten r) (x ∷ flatten ps))
      (λ c. move_forward-bag d t i u x ps c k l) (λ c. move_backward-bag d t i u x ps c h l) (λ c. move_within-bag d t i x ps h l)
