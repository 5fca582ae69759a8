-- A grower belongs to a partition just if it is above the fence before it and up to its own. Assumes nothing.
use Prim.Native.Nat.{ℕ, zero, suc, ◌+◌, ◌-◌, ◌≤◌, ◌<◌}
use mathlib.Core.Path.{◌≡◌, refl, subst}
use mathlib.Core.Bool.{cond, ◌&&◌}
use mathlib.Core.List.{List, [], ◌∷◌}
use native.Mathlib.Omega.{arith}
use native.Mathlib.Decide.{dec_lt}
use borrow.Author.Tests.{ne_eqb, lt-ltb, le-ltb}
use lib.Dec.{T, leb, ltb, eqb, leb→le, le→leb, eqb→eq, ltb→lt}
use lib.ListN.{length, get_or}
use Rattle.model.specs.Bounds.{most_number}
use Rattle.model.specs.Lists.{rising}
use Rattle.model.specs.Place.{place}
use Rattle.model.specs.Column.{in_place}
use Rattle.model.proofs.Tests.{and_fst, and_snd, and_mk, same_test, eq→eqb}
use Rattle.model.proofs.Places.{Placed, placed, placed_only}
use Rattle.snapshot.specs.Texts.{low_of, high_of}

rises_next : (l : List ℕ) (i : ℕ) → T (rising l) → i + 1 < length l → get_or l i 0 < get_or l (i + 1) 0
unfolding rising
rises_next [] i t h = absurd (omega arith)
rises_next (a ∷ []) i t h = absurd (omega arith)
rises_next (a ∷ b ∷ l) zero t h = ltb→lt _ _ (and_fst (ltb a b) (rising (b ∷ l)) t)
rises_next (a ∷ b ∷ l) (suc i) t h =
    let e : suc i + 1 ≡ suc (i + 1) = omega arith in
    rw e (rises_next (b ∷ l) i (and_snd (ltb a b) (rising (b ∷ l)) t) (omega arith))

-- every fence before one is less
rises_before : (l : List ℕ) (j d : ℕ) → T (rising l) → j + d < length l → get_or l j 0 ≤ get_or l (j + d) 0
rises_before l j zero t h = let e : j + 0 ≡ j = omega arith in rw e (omega arith)
rises_before l j (suc d) t h =
    let e : j + suc d ≡ j + d + 1 = omega arith in
    rw e (omega (arith, rises_before l j d t (omega arith), rises_next l (j + d) t (omega arith)))

module _ (fences : List ℕ) (t : T (rising fences)) (p : ℕ) (h : p < length fences) (g : ℕ) (m : g ≤ most_number) where
  low_says : low_of fences p ≤ g → (j : ℕ) → j < p → get_or fences j 0 < g
  unfolding low_of
  low_says l j k =
      let q : get_or fences (p - 1) 0 + 1 ≤ g = rw (ne_eqb p 0 (λ e. omega (arith, e))) at l in
      let i : j + (p - 1 - j) ≡ p - 1 = omega arith in
      let r = rises_before fences j (p - 1 - j) t (omega arith) in
      omega (arith, rw i at r)

  says_low : ((j : ℕ) → j < p → get_or fences j 0 < g) → low_of fences p ≤ g
  unfolding low_of
  says_low f = go p refl
    where
      go : (q : ℕ) → p ≡ q → cond (eqb q 0) 0 (get_or fences (q - 1) 0 + 1) ≤ g
      go zero e = omega arith
      go (suc q) e = rw (ne_eqb (suc q) 0 (λ z. omega (arith, z))) (omega (arith, f (suc q - 1) (omega arith)))

  high_says : g ≤ high_of fences p → p + 1 < length fences → g ≤ get_or fences p 0
  unfolding high_of
  high_says l k = rw (lt-ltb (p + 1) (length fences) k) at l

  says_high : (p + 1 < length fences → g ≤ get_or fences p 0) → g ≤ high_of fences p
  unfolding high_of
  says_high f = go (dec_lt (p + 1) (length fences))
    where
      go : Dec (p + 1 < length fences) → g ≤ cond (ltb (p + 1) (length fences)) (get_or fences p 0) most_number
      go (yes k) = rw (lt-ltb (p + 1) (length fences) k) (f k)
      go (no k) = rw (le-ltb (p + 1) (length fences) (omega arith)) m

  -- so the place of a grower is decided by two numbers
  pub place_bounds : in_place fences p g ≡ leb (low_of fences p) g && leb g (high_of fences p)
  place_bounds = same_test (in_place fences p g) (leb (low_of fences p) g && leb g (high_of fences p)) out back
    where
      there : Placed fences g (place fences g)
      there = placed fences g (omega arith)

      out : T (in_place fences p g) → T (leb (low_of fences p) g && leb g (high_of fences p))
      out e =
          let w : Placed fences g p = subst (λ (q : ℕ). Placed fences g q) (eqb→eq (place fences g) p e) there in
          and_mk (leb (low_of fences p) g) (leb g (high_of fences p)) (le→leb (low_of fences p) g (says_low w.before)) (le→leb g (high_of fences p) (says_high w.here))

      back : T (leb (low_of fences p) g && leb g (high_of fences p)) → T (in_place fences p g)
      back e =
          let l = leb→le (low_of fences p) g (and_fst (leb (low_of fences p) g) (leb g (high_of fences p)) e) in
          let u = leb→le g (high_of fences p) (and_snd (leb (low_of fences p) g) (leb g (high_of fences p)) e) in
          eq→eqb (place fences g) p (placed_only fences g (place fences g) p there (record { within = h; before = low_says l; here = high_says u }))

pub rises_to : (l : List ℕ) (p : ℕ) → T (rising l) → (p ≡ 0 → ⊥) → p < length l → get_or l (p - 1) 0 < get_or l p 0
rises_to l zero t z h = absurd (z refl)
rises_to l (suc q) t z h =
    let e : q + 1 ≡ suc q = omega arith in
    let f : suc q - 1 ≡ q = omega arith in
    rw f (rw e at (rises_next l q t (omega arith)))

-- the greatest grower of a partition with another behind it, and of the last
pub high_inner : (l : List ℕ) (p : ℕ) → p + 1 < length l → get_or l p 0 ≡ high_of l p
unfolding high_of
high_inner l p h = rw (lt-ltb (p + 1) (length l) h)

pub high_last : (l : List ℕ) (p : ℕ) → length l ≤ p + 1 → most_number ≡ high_of l p
unfolding high_of
high_last l p h = rw (le-ltb (p + 1) (length l) h)
