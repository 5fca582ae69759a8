-- The first record that is a given delivery, looked for by strides. Assumes nothing.
use Prim.Native.Nat.{ℕ, suc, ◌+◌, ◌≤◌, ◌<◌}
use mathlib.Core.Path.{◌≡◌, refl, sym, ap, ◌∙◌, subst}
use mathlib.Core.Bool.{Bool, true, false, cond, ◌&&◌}
use mathlib.Core.List.{List, [], ◌∷◌, ◌++◌}
use native.Mathlib.Omega.{arith}
use borrow.Author.Tests.{ltb-true, ltb-false, le-ltb}
use lib.Dec.{T, leb, ltb, eqb, eqb→eq, le→leb}
use lib.ListN.{length, take, drop, take-append-drop, length-take}
use lib.Seq.{length-take-le}
use Rattle.model.specs.declared.Delivery.{Delivery}
use Rattle.model.specs.Lists.{keep}
use Rattle.model.specs.Deliveries.{Slices, each_slice, zipped, rows, Even, same, first_match}
use Rattle.model.proofs.Tests.{and_mk, of_true}
use Rattle.model.proofs.Deliveries.{rows-part, length-rows}
use Rattle.slices.specs.Slices.{count_between}
use Rattle.slices.proofs.Strides.{Strides, strides_next, strides_end}

pub first_most : (d : Delivery) (l : List Delivery) → first_match d l ≤ length l
unfolding first_match
first_most d [] = omega arith
first_most d (r ∷ l) = go (same d r) (first_most d l)
  where
    go : (b : Bool) → first_match d l ≤ length l → cond b 0 (first_match d l + 1) ≤ length (r ∷ l)
    go true h = omega arith
    go false h = omega arith

-- in the first of two lists, or in the second
first_left : (d : Delivery) (a b : List Delivery) → first_match d a < length a → first_match d (a ++ b) ≡ first_match d a
unfolding first_match
first_left d [] b h = let z : ⊥ = omega arith in absurd z
first_left d (r ∷ a) b h = go (same d r) (first_left d a b) h
  where
    go : (t : Bool) → (first_match d a < length a → first_match d (a ++ b) ≡ first_match d a) → cond t 0 (first_match d a + 1) < length (r ∷ a)
        → cond t 0 (first_match d (a ++ b) + 1) ≡ cond t 0 (first_match d a + 1)
    go true e k = refl
    go false e k = ap (λ (n : ℕ). n + 1) (e (omega arith))

first_right : (d : Delivery) (a b : List Delivery) → length a ≤ first_match d a → first_match d (a ++ b) ≡ length a + first_match d b
unfolding first_match
first_right d [] b h = omega arith
first_right d (r ∷ a) b h = go (same d r) (first_right d a b) h
  where
    go : (t : Bool) → (length a ≤ first_match d a → first_match d (a ++ b) ≡ length a + first_match d b) → length (r ∷ a) ≤ cond t 0 (first_match d a + 1)
        → cond t 0 (first_match d (a ++ b) + 1) ≡ length (r ∷ a) + first_match d b
    go true e k = let z : ⊥ = omega arith in absurd z
    go false e k = omega (arith, e (omega arith))

-- a search that goes on to the records ds, which i records are before
abbrev pub first_more : Delivery → ℕ → ℕ → List Delivery → ℕ
first_more d s i ds = cond (ltb s i) s (i + first_match d ds)

pub first_joined : (d : Delivery) (a b : List Delivery) → first_match d (a ++ b) ≡ first_more d (first_match d a) (length a) b
first_joined d a b = go (ltb (first_match d a) (length a)) refl
  where
    go : (t : Bool) → ltb (first_match d a) (length a) ≡ t → first_match d (a ++ b) ≡ cond t (first_match d a) (length a + first_match d b)
    go true e = first_left d a b (ltb-true (first_match d a) (length a) e)
    go false e = first_right d a b (ltb-false (first_match d a) (length a) e)

-- without its grower there is no match
missing_in : (d : Delivery) (g w y n : List ℕ) → length w ≡ length g → length y ≡ length g → length n ≡ length g → count_between d.grower d.grower g < 1
    → length g ≡ first_match d (zipped g w y n)
unfolding first_match zipped keep
missing_in d [] w y n p q r h = refl
missing_in d (a ∷ g) [] y n p q r h = let z : ⊥ = omega arith in absurd z
missing_in d (a ∷ g) (b ∷ w) [] n p q r h = let z : ⊥ = omega arith in absurd z
missing_in d (a ∷ g) (b ∷ w) (c ∷ y) [] p q r h = let z : ⊥ = omega arith in absurd z
missing_in d (a ∷ g) (b ∷ w) (c ∷ y) (e ∷ n) p q r h =
    go (eqb d.grower a) refl (eqb d.weight b) (eqb d.oil_yield c) (eqb d.day e) (leb d.grower a && leb a d.grower) refl h
    (missing_in d g w y n (omega arith) (omega arith) (omega arith))
  where
    x : ℕ
    x = d.grower

    kept : List ℕ
    kept = keep (λ (m : ℕ). leb x m && leb m x) g

    go : (t : Bool) → eqb x a ≡ t → (u v z i : Bool) → (leb x a && leb a x) ≡ i → length (cond i (a ∷ kept) kept) < 1
        → (count_between x x g < 1 → length g ≡ first_match d (zipped g w y n)) → suc (length g) ≡ cond (t && u && v && z) 0 (first_match d (zipped g w y n) + 1)
    go t e u v z true f k s = let o : ⊥ = omega arith in absurd o
    go false e u v z false f k s = omega (arith, s k)
    go true e u v z false f k s =
        let o : x ≡ a = eqb→eq x a (of_true _ e) in
        absurd (subst T f (and_mk (leb x a) (leb a x) (le→leb x a (omega arith)) (le→leb a x (omega arith))))

pub grower_missing : (d : Delivery) (s : Slices) → Even s → count_between d.grower d.grower s.growers < 1 → length s.growers ≡ first_match d (rows s)
grower_missing d s e = missing_in d s.growers s.weights s.yields s.days e.weights e.yields e.days

-- The loop over strides: the first match among the records passed is past them.

pub passing_start : (d : Delivery) (s : Slices) → Strides (first_match d) s 0 0
unfolding first_match
passing_start d s = record { at = omega arith; so_far = refl }

module _ (d : Delivery) (s : Slices) (p : Even s) (i : ℕ) (t : Strides (first_match d) s i i) (n k : ℕ) (h : i + n ≤ length s.growers)
    (e : k ≡ first_match d (rows (each_slice (λ (l : List ℕ). take n (drop i l)) s))) where
  passed : Strides (first_match d) s (i + k) (i + n)
  passed = strides_next (first_match d) (first_more d) (first_joined d) s p i i t n (i + k) h (rw (le-ltb i i (omega arith), e))

  pub passing_found : k < n → i + k ≡ first_match d (rows s)
  passing_found l =
      let a : List Delivery = take (i + n) (rows s) in
      let b : List Delivery = drop (i + n) (rows s) in
      let z : length a ≡ i + n = length-take-le (i + n) (rows s) (omega (arith, length-rows s p)) in
      passed.so_far ∙ sym (first_left d a b (omega (arith, passed.so_far))) ∙ ap (first_match d) (take-append-drop (i + n) (rows s))

  pub passing_most : k ≤ n
  passing_most = omega (arith, e, ap (first_match d) (rows-part n i s), first_most d (take n (drop i (rows s))), length-take n (drop i (rows s)))

  pub passing_next : n ≤ k → Strides (first_match d) s (i + n) (i + n)
  passing_next l = let z : k ≡ n = omega (arith, passing_most) in record { at = h; so_far = ap (λ (x : ℕ). i + x) (sym z) ∙ passed.so_far }

  pub passing_end : length s.growers ≤ i + n → i + k ≡ first_match d (rows s)
  passing_end l = strides_end (first_match d) s p (i + k) (i + n) passed l
