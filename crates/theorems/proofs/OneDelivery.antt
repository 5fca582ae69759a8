-- One delivery of a list: where it is found, and the bag without it or with another in its place. Assumes nothing.
use Prim.Native.Nat.{ℕ, suc, ◌+◌, ◌<◌}
use mathlib.Core.Path.{◌≡◌, refl, sym, ap, ap₂, ◌∙◌, subst}
use mathlib.Core.Bool.{Bool, true, false, cond, ◌&&◌, ◌||◌}
use mathlib.Core.List.Permᴰ
use mathlib.Core.List.{List, [], ◌∷◌, Permᴰ}
use native.Mathlib.Omega.{arith}
use native.Mathlib.Numerals.{add-one}
use lib.Dec.{T, eqb, eqb_refl}
use lib.ListN.{length, get_or}
use Rattle.model.specs.declared.Delivery.{Delivery}
use Rattle.model.specs.Lists.{keep}
use Rattle.model.specs.Deliveries.{same, with_grower, among, first_match}
use Rattle.model.specs.Ledger.{remove_one, change_one}
use Rattle.model.proofs.Tests.{and_mk, is_true, of_true}
use Rattle.model.proofs.Deliveries.{same_equal}

pub same_self : (d : Delivery) → same d d ≡ true
same_self d =
    let g = eqb d.grower d.grower in
    let w = eqb d.weight d.weight in
    let y = eqb d.oil_yield d.oil_yield in
    let n = eqb d.day d.day in
    is_true (g && w && y && n)
    (and_mk (g && w && y) n (and_mk (g && w) y (and_mk g w (eqb_refl d.grower) (eqb_refl d.weight)) (eqb_refl d.oil_yield)) (eqb_refl d.day))

module _ (d : Delivery) where
  -- a delivery that is there is in its lowest matching slot
  pub record InSlot (l : List Delivery) (z : Delivery) : Type 0 where
    pub inside : first_match d l < length l
    pub equal : get_or l (first_match d l) z ≡ d

  pub in_slot : (l : List Delivery) (z : Delivery) → T (among d l) → InSlot l z
  unfolding among first_match
  in_slot [] z t = absurd t
  in_slot (r ∷ l) z t = let k = go (same d r) refl t (in_slot l z) in record { inside = k.0; equal = k.1 }
    where
      go : (b : Bool) → same d r ≡ b → T (b || among d l) → (T (among d l) → InSlot l z) → (cond b 0 (first_match d l + 1) < suc (length l)) × (get_or (r ∷ l) (cond b 0 (first_match d l + 1)) z ≡ d)
      go true e t ih = (omega arith, sym (same_equal d r (of_true _ e)))
      go false e t ih = let k = ih t in (omega arith, rw add-one k.equal)

  -- what else a test keeps does not matter, if it keeps every delivery equal to d
  pub among_kept : (f : Delivery → Bool) → ((r : Delivery) → T (same d r) → T (f r)) → (l : List Delivery) → among d (keep f l) ≡ among d l
  unfolding among keep
  among_kept f h [] = refl
  among_kept f h (r ∷ l) = go (f r) refl (same d r) refl (among_kept f h l)
    where
      go : (b : Bool) → f r ≡ b → (s : Bool) → same d r ≡ s → among d (keep f l) ≡ among d l → among d (cond b (r ∷ keep f l) (keep f l)) ≡ (s || among d l)
      go true e s q ih = rw (q, ih)
      go false e true q ih = absurd (subst T e (h r (of_true _ q)))
      go false e false q ih = ih

  -- one delivery taken out of a bag, in whatever order it is listed
  bag_remove : {a b : List Delivery} → Permᴰ a b → Permᴰ (remove_one d a) (remove_one d b)
  unfolding remove_one
  bag_remove Permᴰ.nil = Permᴰ.nil
  bag_remove (Permᴰ.cons {a} {b} {l₁} {l₂} e p) = rw (ap (same d) e) (go (same d b) (bag_remove p))
    where
      go : (t : Bool) → Permᴰ (remove_one d l₁) (remove_one d l₂) → Permᴰ (cond t l₁ (a ∷ remove_one d l₁)) (cond t l₂ (b ∷ remove_one d l₂))
      go true q = p
      go false q = Permᴰ.cons e q
  bag_remove (Permᴰ.swap {a} {b} {a'} {b'} {l} e g) = rw (ap (same d) e, ap (same d) g) (go (same d b') refl (same d a') refl)
    where
      go : (t : Bool) → same d b' ≡ t → (u : Bool) → same d a' ≡ u → Permᴰ (cond t (b ∷ l) (a ∷ cond u l (b ∷ remove_one d l))) (cond u (b' ∷ l) (a' ∷ cond t l (b' ∷ remove_one d l)))
      go true p true q = Permᴰ.cons (g ∙ sym (same_equal d a' (of_true _ q)) ∙ same_equal d b' (of_true _ p)) (Permᴰ.refl l)
      go true p false q = Permᴰ.cons g (Permᴰ.refl l)
      go false p true q = Permᴰ.cons e (Permᴰ.refl l)
      go false p false q = Permᴰ.swap e g
  bag_remove (Permᴰ.trans p q) = Permᴰ.trans (bag_remove p) (bag_remove q)

  remove_first : (l : List Delivery) → remove_one d (d ∷ l) ≡ l
  unfolding remove_one
  remove_first l = rw (same_self d)

  -- a bag that has d, without it
  pub bag_without : {a b : List Delivery} → Permᴰ (d ∷ a) b → Permᴰ a (remove_one d b)
  bag_without {a} {b} p = rw (remove_first a) at (bag_remove p)

  -- and with another delivery in its place
  changed_bag : (g : ℕ) (l : List Delivery) → T (among d l) → Permᴰ (d ∷ change_one d g l) (with_grower g d ∷ l)
  unfolding change_one among
  changed_bag g [] t = absurd t
  changed_bag g (r ∷ l) t = go (same d r) refl t (changed_bag g l)
    where
      go : (b : Bool) → same d r ≡ b → T (b || among d l) → (T (among d l) → Permᴰ (d ∷ change_one d g l) (with_grower g d ∷ l))
          → Permᴰ (d ∷ cond b (with_grower g d ∷ l) (r ∷ change_one d g l)) (with_grower g d ∷ r ∷ l)
      go true e t ih = Permᴰ.swap (same_equal d r (of_true _ e)) refl
      go false e t ih = Permᴰ.trans (Permᴰ.swap refl refl) (Permᴰ.trans (Permᴰ.cons refl (ih t)) (Permᴰ.swap refl refl))

  pub bag_changed : (g : ℕ) {a b : List Delivery} → T (among d b) → Permᴰ (d ∷ a) (with_grower g d ∷ b) → Permᴰ a (change_one d g b)
  bag_changed g {a} {b} t p = Permᴰ.trans (bag_without p) (Permᴰ.symm (bag_without (changed_bag g b t)))

  pub bag-among : {a b : List Delivery} → Permᴰ a b → among d a ≡ among d b
  unfolding among
  bag-among Permᴰ.nil = refl
  bag-among (Permᴰ.cons e p) = ap₂ ◌||◌ (ap (same d) e) (bag-among p)
  bag-among (Permᴰ.swap {a} {b} {l = l} e g) = rw (← e, ← g) (swap (same d a) (same d b) (among d l))
    where
      swap : (x y z : Bool) → (x || (y || z)) ≡ (y || (x || z))
      swap true true z = refl
      swap true false z = refl
      swap false true z = refl
      swap false false z = refl
  bag-among (Permᴰ.trans p q) = bag-among p ∙ bag-among q
