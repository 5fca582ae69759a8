-- Every move keeps each record in its partition. Assumes nothing.
use Prim.Native.Nat.{ℕ, suc, zero, ◌+◌, ◌-◌, ◌<◌}
use mathlib.Core.Path.{◌≡◌, sym, ◌∙◌, subst}
use mathlib.Core.List.{List, [], ◌∷◌, ◌++◌, map}
use native.Mathlib.Omega.{arith}
use lib.ListN.{length, take, drop}
use lib.Seq.{length-take-le}
use Rattle.model.specs.Moves.{rotate_left, rotate_right, fill_from_end, fill_from_front, insert_at, delete_at, move_forward, move_backward, move_within, move_at}
use Rattle.model.specs.Partitions.{part}
use Rattle.model.proofs.MoveCases.{by_cases}
use Rattle.model.proofs.Parts.{one}
use Rattle.model.proofs.MovesLengths.{length-insert_at, length-delete_at}

-- every record of a list has the property
unfoldable pub All : {A : Type 0} → (A → Type 0) → List A → Type 0
All P [] = Unit {0}
All P (a ∷ l) = P a × All P l

-- every record of partition i, i + 1, .. has the property of its partition
unfoldable pub Sound : {A : Type 0} → (ℕ → A → Type 0) → ℕ → List (List A) → Type 0
Sound P i [] = Unit {0}
Sound P i (p ∷ ps) = All (P i) p × Sound P (i + 1) ps

module _ {A : Type 0} (P : A → Type 0) where
  pub all_append : (a b : List A) → All P a → All P b → All P (a ++ b)
  unfolding All
  all_append [] b p q = q
  all_append (x ∷ a) b p q = (p.0, all_append a b p.1 q)

  pub all_take : (n : ℕ) (l : List A) → All P l → All P (take n l)
  unfolding All
  all_take zero l p = tt
  all_take (suc n) [] p = tt
  all_take (suc n) (x ∷ l) p = (p.0, all_take n l p.1)

  all_drop : (n : ℕ) (l : List A) → All P l → All P (drop n l)
  unfolding All
  all_drop zero l p = p
  all_drop (suc n) [] p = tt
  all_drop (suc n) (x ∷ l) p = all_drop n l p.1

  all_turn : (k : ℕ) (p : List A) → All P p → All P (drop k p ++ take k p)
  all_turn k p h = all_append (drop k p) (take k p) (all_drop k p h) (all_take k p h)

  all_rotate_left : (p : List A) → All P p → All P (rotate_left p)
  unfolding rotate_left
  all_rotate_left p h = all_turn 1 p h

  all_rotate_right : (p : List A) → All P p → All P (rotate_right p)
  unfolding rotate_right
  all_rotate_right p h = all_turn (length p - 1) p h

  all_fill_from_end : (i : ℕ) (p : List A) → All P p → All P (fill_from_end i p)
  unfolding fill_from_end
  all_fill_from_end i p h = all_append (take i p) _ (all_take i p h) (all_rotate_right _ (all_drop (i + 1) p h))

  all_fill_from_front : (i : ℕ) (p : List A) → All P p → All P (fill_from_front i p)
  unfolding fill_from_front
  all_fill_from_front i p h = all_append (rotate_left (take i p)) _ (all_rotate_left _ (all_take i p h)) (all_drop (i + 1) p h)

  all_end : (x : A) (p : List A) → P x → All P p → All P (p ++ x ∷ [])
  unfolding All
  all_end x p hx h = all_append p (x ∷ []) h (hx, tt)

  all_front : (x : A) (p : List A) → P x → All P p → All P (x ∷ p)
  unfolding All
  all_front x p hx h = (hx, h)

module _ {A : Type 0} (P : ℕ → A → Type 0) where
  sound_rotate_lefts : (i : ℕ) (ps : List (List A)) → Sound P i ps → Sound P i (map rotate_left ps)
  unfolding Sound
  sound_rotate_lefts i [] h = tt
  sound_rotate_lefts i (p ∷ ps) h = (all_rotate_left (P i) p h.0, sound_rotate_lefts (i + 1) ps h.1)

  sound_rotate_rights : (i : ℕ) (ps : List (List A)) → Sound P i ps → Sound P i (map rotate_right ps)
  unfolding Sound
  sound_rotate_rights i [] h = tt
  sound_rotate_rights i (p ∷ ps) h = (all_rotate_right (P i) p h.0, sound_rotate_rights (i + 1) ps h.1)

  -- partitions b from i on, then p, which is number n, then r
  pub record Cut (i n : ℕ) (b : List (List A)) (p : List A) (r : List (List A)) : Type 0 where
    pub before : Sound P i b
    pub here : All (P n) p
    pub after : Sound P (n + 1) r

  cut : {i n : ℕ} (b : List (List A)) (p : List A) (r : List (List A)) → i + length b ≡ n → Sound P i (b ++ p ∷ r) → Cut i n b p r
  unfolding Sound
  cut {i} {n} [] p r e h =
      let e' : i ≡ n = omega arith in
      record { before = tt; here = rw e' at h.0; after = rw e' at h.1 }
  cut {i} {n} (q ∷ b) p r e h =
      let c : Cut (i + 1) n b p r = cut {i = i + 1} b p r (omega arith) h.1 in
      record { before = (h.0, c.before); here = c.here; after = c.after }

  join : {i n : ℕ} (b : List (List A)) (p : List A) (r : List (List A)) → i + length b ≡ n → Cut i n b p r → Sound P i (b ++ p ∷ r)
  unfolding Sound
  join {i} {n} [] p r e c =
      let e' : n ≡ i = omega arith in
      (rw e' at c.here, rw e' at c.after)
  join {i} {n} (q ∷ b) p r e c = (c.before.0, join {i = i + 1} b p r (omega arith) (record { before = c.before.1; here = c.here; after = c.after }))

  cut₀ : {n : ℕ} (b : List (List A)) (p : List A) (r : List (List A)) → length b ≡ n → Sound P 0 (b ++ p ∷ r) → Cut 0 n b p r
  cut₀ b p r e h = cut {i = 0} b p r (omega arith) h

  join₀ : {n : ℕ} (b : List (List A)) (p : List A) (r : List (List A)) → length b ≡ n → Cut 0 n b p r → Sound P 0 (b ++ p ∷ r)
  join₀ b p r e c = join {i = 0} b p r (omega arith) c

  -- the partitions, taken apart at t
  at_one : (t : ℕ) (ps : List (List A)) → t < length ps → Sound P 0 ps → Cut 0 t (take t ps) (part t ps) (drop (t + 1) ps)
  at_one t ps h s = cut₀ _ _ _ (length-take-le t ps (omega arith)) (subst (λ (l : List (List A)). Sound P 0 l) (one t ps h) s)

  pub insert_at-sound : (t : ℕ) (x : A) (ps : List (List A)) → t < length ps → P t x → Sound P 0 ps → Sound P 0 (insert_at t x ps)
  unfolding insert_at
  insert_at-sound t x ps h hx s =
      let c = at_one t ps h s in
      join₀ (take t ps) _ _ (length-take-le t ps (omega arith))
      (record { before = c.before; here = all_end (P t) x (part t ps) hx c.here; after = sound_rotate_lefts (t + 1) _ c.after })

  pub delete_at-sound : (t i : ℕ) (ps : List (List A)) → t < length ps → Sound P 0 ps → Sound P 0 (delete_at t i ps)
  unfolding delete_at
  delete_at-sound t i ps h s =
      let c = at_one t ps h s in
      join₀ (take t ps) _ _ (length-take-le t ps (omega arith))
      (record { before = c.before; here = all_fill_from_end (P t) i (part t ps) c.here; after = sound_rotate_rights (t + 1) _ c.after })

  move_within-sound : (t i : ℕ) (x : A) (ps : List (List A)) → t < length ps → P t x → Sound P 0 ps → Sound P 0 (move_within t i x ps)
  unfolding move_within
  move_within-sound t i x ps h hx s =
      let c = at_one t ps h s in
      join₀ (take t ps) _ _ (length-take-le t ps (omega arith))
      (record { before = c.before; here = all_end (P t) x _ hx (all_fill_from_end (P t) i (part t ps) c.here); after = c.after })

  move_forward-sound : (t i u : ℕ) (x : A) (ps : List (List A)) → t < u → u < length ps → P u x → Sound P 0 ps → Sound P 0 (move_forward t i u x ps)
  unfolding move_forward
  move_forward-sound t i u x ps h k hx s =
      let c = at_one u ps k s in
      let e : length (take u ps) ≡ u = length-take-le u ps (omega arith) in
      join₀ (delete_at t i (take u ps)) _ _ (length-delete_at t i (take u ps) (omega arith) ∙ e)
      (record { before = delete_at-sound t i (take u ps) (omega arith) c.before; here = all_front (P u) x (part u ps) hx c.here; after = c.after })

  move_backward-sound : (t i u : ℕ) (x : A) (ps : List (List A)) → u < t → t < length ps → P u x → Sound P 0 ps → Sound P 0 (move_backward t i u x ps)
  unfolding move_backward
  move_backward-sound t i u x ps h k hx s =
      let c = at_one t ps k s in
      let e : length (take t ps) ≡ t = length-take-le t ps (omega arith) in
      join₀ (insert_at u x (take t ps)) _ _ (length-insert_at u x (take t ps) (omega arith) ∙ e)
      (record { before = insert_at-sound u x (take t ps) (omega arith) hx c.before; here = all_fill_from_front (P t) i (part t ps) c.here; after = c.after })

  pub move_at_sound : (t i u : ℕ) (x : A) (ps : List (List A)) → t < length ps → u < length ps → P u x → Sound P 0 ps → Sound P 0 (move_at t i u x ps)
  move_at_sound t i u x ps h k hx s =
      by_cases t i u x ps (Sound P 0)
      (λ c. move_forward-sound t i u x ps c k hx s) (λ c. move_backward-sound t i u x ps c h hx s) (λ c. move_within-sound t i x ps h (rw (sym c) at hx) s)
