-- Places: where a key stands among keys, and that there is one such place. Assumes nothing.
use Prim.Native.Nat.{ℕ, zero, suc, ◌+◌, ◌≤◌, ◌<◌}
use mathlib.Core.Path.{◌≡◌, refl}
use mathlib.Core.Bool.{Bool, true, false, cond}
use mathlib.Core.List.{List, [], ◌∷◌}
use native.Mathlib.Omega.{arith}
use native.Mathlib.Numerals.{add-one}
use native.Mathlib.Decide.{dec_lt}
use lib.Dec.{leb, leb→le}
use lib.ListN.{length, get_or}
use Rattle.model.specs.Place.{place}
use Rattle.model.proofs.Tests.{of_true, leb_no}

pub record Placed (keys : List ℕ) (g i : ℕ) : Type 0 where
  pub within : i < length keys
  pub before : (j : ℕ) → j < i → get_or keys j 0 < g
  pub here : i + 1 < length keys → g ≤ get_or keys i 0

placed_next : (k l : ℕ) (ks : List ℕ) (g i : ℕ) → k < g → Placed (l ∷ ks) g i → Placed (k ∷ l ∷ ks) g (i + 1)
placed_next k l ks g i h r = record { within = omega (arith, r.within); before = go; here = λ w. rw (add-one i) (r.here (omega arith)) }
  where
    go : (j : ℕ) → j < i + 1 → get_or (k ∷ l ∷ ks) j 0 < g
    go zero w = h
    go (suc j) w = r.before j (omega arith)

pub placed : (keys : List ℕ) (g : ℕ) → 0 < length keys → Placed keys g (place keys g)
unfolding place
placed [] g h = absurd (omega arith)
placed (k ∷ []) g h = record { within = omega arith; before = λ j w. absurd (omega arith); here = λ w. absurd (omega arith) }
placed (k ∷ l ∷ ks) g h = go (leb g k) refl (placed (l ∷ ks) g (omega arith))
  where
    go : (b : Bool) → leb g k ≡ b → Placed (l ∷ ks) g (place (l ∷ ks) g) → Placed (k ∷ l ∷ ks) g (cond b 0 (place (l ∷ ks) g + 1))
    go true e r = record { within = omega arith; before = λ j w. absurd (omega arith); here = λ w. leb→le g k (of_true (leb g k) e) }
    go false e r = placed_next k l ks g (place (l ∷ ks) g) (leb_no g k e) r

-- nothing is ahead of a place
not-ahead : (keys : List ℕ) (g i j : ℕ) → Placed keys g i → Placed keys g j → i < j → ⊥
not-ahead keys g i j p q h =
    let a : g ≤ get_or keys i 0 = p.here (omega (arith, q.within)) in
    let b : get_or keys i 0 < g = q.before i h in
    omega arith

pub placed_only : (keys : List ℕ) (g i j : ℕ) → Placed keys g i → Placed keys g j → i ≡ j
placed_only keys g i j p q = go (dec_lt i j) (dec_lt j i)
  where
    go : Dec (i < j) → Dec (j < i) → i ≡ j
    go (yes h) d = absurd (not-ahead keys g i j p q h)
    go (no h) (yes k) = absurd (not-ahead keys g j i q p k)
    go (no h) (no k) = omega arith

-- a greater key has no earlier place
pub placed_mono : (keys : List ℕ) (g h i j : ℕ) → g ≤ h → Placed keys g i → Placed keys h j → i ≤ j
placed_mono keys g h i j l p q = go (dec_lt j i)
  where
    go : Dec (j < i) → i ≤ j
    go (no n) = omega arith
    go (yes n) = let a : h ≤ get_or keys j 0 = q.here (omega (arith, p.within)) in absurd (omega (arith, p.before j n))
