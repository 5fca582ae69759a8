-- What a call raises stands at blocks that there are, and no count is raised twice. Assumes nothing.
use Prim.Native.Nat.{ℕ, zero, suc, ◌+◌, ◌-◌, ◌*◌, ◌≤◌, ◌<◌}
use mathlib.Core.Logic.{◌≢◌}
use mathlib.Core.Bool.{Bool, true, false, cond}
use mathlib.Core.List.{List, [], ◌∷◌, map}
use native.Mathlib.Omega.{arith}
use lib.Dec.{leb, eqb}
use Rattle.model.specs.Lists.{up_from}
use Rattle.model.specs.Deliveries.{among}
use Rattle.model.specs.Blocks.{Set, held, blocks, block_of}
use Rattle.model.specs.Calls.{Call, find, range, range_days, insert, delete, move}
use Rattle.model.specs.Histograms.{Histogram, pq, rs, re, sc, de, ins, udf, utf, udb, utb, position, Entry, at, slot, raises, range_raises, move_raises}
use Rattle.model.proofs.SetLaws.{Good, spot, n_most}
use Rattle.theorems.proofs.RecordingSums.{Below, slot_apart}

-- the counts that a range raises, its ends in two blocks
abbrev spread_over : ℕ → ℕ → List Entry
spread_over a b = at rs a ∷ at re b ∷ map (at sc) (up_from (a + 1) (b - (a + 1)))

-- a property of two things is one of whichever is chosen
pub either : {A : Type 0} (P : A → Type 0) (t : Bool) (x y : A) → P x → P y → P (cond t x y)
either P true x y a b = a
either P false x y a b = b

-- a property of one count, of two of different histograms and of a range's is one of whatever a call raises
module _ (s : Set) (P : List Entry → Type 0)
    (one : (h : Histogram) (g : ℕ) → P (at h (block_of s g) ∷ []))
    (two : (h k : Histogram) (f g : ℕ) → position h < position k → P (at h (block_of s f) ∷ at k (block_of s g) ∷ []))
    (spread : (lo hi : ℕ) → P (spread_over (block_of s lo) (block_of s hi))) where
  raised : (c : Call) → P (raises s c)
  unfolding raises range_raises move_raises position
  raised (find g) = one pq g
  raised (range lo hi) = either P (eqb (block_of s lo) (block_of s hi)) _ _ (one pq lo) (spread lo hi)
  raised (range_days lo hi days) = either P (eqb (block_of s lo) (block_of s hi)) _ _ (one pq lo) (spread lo hi)
  raised (insert d) = one ins d.grower
  raised (delete d) = either P (among d (held s)) _ _ (one de d.grower) (one pq d.grower)
  raised (move d g) = either P (among d (held s)) _ _ (either P (leb d.grower g) _ _ (two udf utf d.grower g (omega arith)) (two udb utb d.grower g (omega arith))) (one pq d.grower)

-- Blocks that there are.

sc_below : (a n m : ℕ) → a + n ≤ m → Below m (map (at sc) (up_from a n))
unfolding up_from Below
sc_below a zero m h = tt
sc_below a (suc n) m h = (omega arith, sc_below (a + 1) n m (omega arith))

module _ (L : ℕ) (s : Set) (o : Good L s) where
  pub raised_below : (c : Call) → Below (blocks s) (raises s c)
  unfolding Below
  raised_below = raised s (Below (blocks s)) one (λ h k f g l. two h k f g) spread
    where
      one : (h : Histogram) (g : ℕ) → Below (blocks s) (at h (block_of s g) ∷ [])
      one h g = ((spot L s o g).within, tt)

      two : (h k : Histogram) (f g : ℕ) → Below (blocks s) (at h (block_of s f) ∷ at k (block_of s g) ∷ [])
      two h k f g = ((spot L s o f).within, one k g)

      spread : (lo hi : ℕ) → Below (blocks s) (spread_over (block_of s lo) (block_of s hi))
      spread lo hi =
          let a = (spot L s o lo).within in
          let b = (spot L s o hi).within in
          (a, (b, sc_below (block_of s lo + 1) (block_of s hi - (block_of s lo + 1)) (blocks s) (omega arith)))

-- No count twice.

module _ (L : ℕ) where
  -- no entry stands at slot x; no two at one slot
  unfoldable pub Off : ℕ → List Entry → Type 0
  Off x [] = Unit
  Off x (e ∷ es) = (slot L e ≢ x) × Off x es

  unfoldable pub Distinct : List Entry → Type 0
  Distinct [] = Unit
  Distinct (e ∷ es) = Off (slot L e) es × Distinct es

  sc_off : (x a n : ℕ) → x < 3 * L + a → Off x (map (at sc) (up_from a n))
  unfolding Off up_from slot position
  sc_off x a zero h = tt
  sc_off x a (suc n) h = (omega arith, sc_off x (a + 1) n (omega arith))

  sc_distinct : (a n : ℕ) → Distinct (map (at sc) (up_from a n))
  unfolding Distinct up_from slot position
  sc_distinct a zero = tt
  sc_distinct a (suc n) = (sc_off (3 * L + a) (a + 1) n (omega arith), sc_distinct (a + 1) n)

  module _ (s : Set) (o : Good L s) where
    low : (g : ℕ) → block_of s g < L
    low g = omega (arith, (spot L s o g).within, n_most L s o)

    one : (h : Histogram) (g : ℕ) → Distinct (at h (block_of s g) ∷ [])
    unfolding Distinct Off
    one h g = (tt, tt)

    two : (h k : Histogram) (f g : ℕ) → position h < position k → Distinct (at h (block_of s f) ∷ at k (block_of s g) ∷ [])
    unfolding Distinct Off slot
    two h k f g l = ((λ q. let e = slot_apart (position k) (position h) (block_of s g) (block_of s f) L (low g) (low f) q in omega (arith, e.0), tt), one k g)

    spread : (lo hi : ℕ) → Distinct (spread_over (block_of s lo) (block_of s hi))
    unfolding Distinct Off slot position
    spread lo hi =
        let a : ℕ = block_of s lo in
        let b : ℕ = block_of s hi in
        ((omega (arith, low lo, low hi), sc_off (1 * L + a) (a + 1) (b - (a + 1)) (omega (arith, low lo))), (sc_off (2 * L + b) (a + 1) (b - (a + 1)) (omega (arith, low hi)), sc_distinct _ _))

    pub raised_distinct : (c : Call) → Distinct (raises s c)
    raised_distinct = raised s Distinct one two spread
