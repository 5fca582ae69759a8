-- What an accepted call adds to the cost of a layout: the prices of the counts that it raises, added up. Assumes nothing.
use Prim.Native.Nat.{ℕ, zero, suc, ◌+◌, ◌-◌, ◌*◌, ◌≤◌, ◌<◌}
use mathlib.Core.Path.{◌≡◌, refl}
use mathlib.Core.Bool.{Bool, true, false, cond}
use mathlib.Core.List.{List, [], ◌∷◌, map}
use native.Mathlib.Omega.{arith}
use lib.Dec.{T, leb, eqb, leb→le, eqb→eq}
use Rattle.model.specs.declared.PriceCard.{PriceCard}
use Rattle.model.specs.Lists.{sum_of, up_from}
use Rattle.model.specs.Place.{place}
use Rattle.model.specs.Deliveries.{among}
use Rattle.model.specs.Blocks.{Set, held, block_of}
use Rattle.model.specs.Calls.{Call, find, range, range_days, insert, delete, move, ordered}
use Rattle.model.specs.Histograms.{pq, sc, de, udf, utf, udb, utb, Entry, at, span_raises, raises, range_raises, move_raises}
use Rattle.model.specs.Layouts.{layout_ok, before, after, trailing}
use Rattle.model.specs.Cost.{point_price, ripple_price}
use Rattle.model.specs.Accesses.{apart}
use Rattle.model.specs.Laws.{SetPasses}
use Rattle.model.proofs.Tests.{of_true, leb_no, eqb_no}
use Rattle.model.proofs.SetLaws.{good, block_mono}
use Rattle.theorems.proofs.RecordingSums.{load}
use Rattle.theorems.proofs.RecordingCosts.{plus, minus}
use Rattle.theorems.proofs.PlanFresh.{part_in, part_mono}

module _ (s : Set) (ends : List ℕ) where
  -- the blocks beside the first that a range scans
  abbrev pub spanned : ℕ → ℕ → ℕ
  spanned lo hi = before ends (block_of s lo) + after ends (block_of s hi) + (block_of s hi - block_of s lo)

  -- the partitions from that of g to the last, and those that a move from f to g passes
  abbrev pub onward_at : ℕ → ℕ
  onward_at g = trailing ends (block_of s g)

  abbrev pub passed : ℕ → ℕ → ℕ
  passed f g = apart (place ends (block_of s f)) (place ends (block_of s g))

  module _ (p : PriceCard) where
    -- a scan of g's partition, a delete and a move of a delivery that the set has
    abbrev pub scan_price : ℕ → ℕ
    scan_price g = point_price p ends (block_of s g)

    abbrev pub delete_price : ℕ → ℕ
    delete_price g = scan_price g + p.rr * onward_at g + p.«rw» * (1 + onward_at g)

    abbrev pub move_price : ℕ → ℕ → ℕ
    move_price f g = scan_price f + p.rr * (1 + passed f g) + p.«rw» * (2 + passed f g)

    unfoldable pub call_price : Call → ℕ
    call_price (find g) = scan_price g
    call_price (range lo hi) = p.rr + p.sr * spanned lo hi
    call_price (range_days lo hi days) = p.rr + p.sr * spanned lo hi
    call_price (insert d) = (p.rr + p.«rw») * (1 + onward_at d.grower)
    call_price (delete d) = cond (among d (held s)) (delete_price d.grower) (scan_price d.grower)
    call_price (move d g) = cond (among d (held s)) (move_price d.grower g) (scan_price d.grower)

-- the blocks between the two ends of a range
sc_plus : (p : PriceCard) (ends : List ℕ) (a n : ℕ) → load (plus p ends) (map (at sc) (up_from a n)) ≡ n * p.sr
unfolding up_from sum_of plus
sc_plus p ends a zero = omega arith
sc_plus p ends a (suc n) = omega (arith, sc_plus p ends (a + 1) n)

sc_minus : (p : PriceCard) (ends : List ℕ) (a n : ℕ) → load (minus p ends) (map (at sc) (up_from a n)) ≡ 0
unfolding up_from sum_of minus
sc_minus p ends a zero = omega arith
sc_minus p ends a (suc n) = omega (arith, sc_minus p ends (a + 1) n)

-- sums of prices
moved_sum : (x r w t a u : ℕ) → t ≡ a + u → x + r + 2 * w + (r + w) * t ≡ x + r * (1 + a) + w * (2 + a) + (r + w) * u
moved_sum x r w t a u e = rw e (omega arith)

module _ (L : ℕ) (s : Set) (h : SetPasses L s) (ends : List ℕ) (t : T (layout_ok s ends)) (p : PriceCard) where
  -- what some entries add to the cost, less what they take away
  abbrev Adding : List Entry → ℕ → Type 0
  Adding es n = load (plus p ends) es ≡ n + load (minus p ends) es

  span-sum : (a b n : ℕ) → n + 1 ≡ b - a
      → p.rr + p.sr * before ends a + (p.sr * (1 + after ends b) + n * p.sr) ≡ p.rr + p.sr * (before ends a + after ends b + (b - a)) + 0
  span-sum a b n k = rw (← k) (omega arith)

  span_balanced : (lo hi : ℕ) → lo ≤ hi → Adding (range_raises (block_of s lo) (block_of s hi)) (p.rr + p.sr * spanned s ends lo hi)
  unfolding range_raises plus minus sum_of point_price
  span_balanced lo hi k = go (eqb (block_of s lo) (block_of s hi)) refl
    where
      a : ℕ
      a = block_of s lo

      b : ℕ
      b = block_of s hi

      x : ℕ
      x = before ends a + after ends b + (b - a)

      go : (v : Bool) → eqb a b ≡ v → Adding (cond v (at pq a ∷ []) (span_raises a b)) (p.rr + p.sr * x)
      go true e =
          let q : a ≡ b = eqb→eq _ _ (of_true _ e) in
          let w : x ≡ before ends a + after ends a = rw (← q) (omega arith) in
          rw w (omega arith)
      go false e =
          let w : a < b = omega (arith, block_mono L s (good L s h) lo hi k, eqb_no a b e) in
          rw (sc_plus p ends (a + 1) (b - (a + 1)), sc_minus p ends (a + 1) (b - (a + 1)))
          (span-sum a b (b - (a + 1)) (omega arith))

  -- the partitions from the block of f to that of g
  forward_parts : (f g : ℕ) → f ≤ g → onward_at s ends f ≡ passed s ends f g + onward_at s ends g
  unfolding trailing
  forward_parts f g k = omega (arith, part_mono L s h ends t f g k, part_in L s h ends t g)

  moved_balanced : (f g : ℕ) → Adding (move_raises s f g) (move_price s ends p f g)
  unfolding move_raises plus minus sum_of ripple_price
  moved_balanced f g = go (leb f g) refl
    where
      past : ℕ → ℕ
      past x = onward_at s ends x

      go : (v : Bool) → leb f g ≡ v → Adding (cond v (at udf (block_of s f) ∷ at utf (block_of s g) ∷ []) (at udb (block_of s f) ∷ at utb (block_of s g) ∷ [])) (move_price s ends p f g)
      go true e = omega (arith, moved_sum (scan_price s ends p f) p.rr p.«rw» (past f) (passed s ends f g) (past g) (forward_parts f g (leb→le f g (of_true _ e))))
      go false e = omega (arith, moved_sum (scan_price s ends p f) p.rr p.«rw» (past g) (passed s ends f g) (past f) (omega (arith, forward_parts g f (omega (arith, leb_no f g e)))))

  deleted_balanced : (g : ℕ) → Adding (at de (block_of s g) ∷ []) (delete_price s ends p g)
  unfolding plus minus sum_of ripple_price
  deleted_balanced g = omega arith

  -- a delivery that the set has, and one that it has not
  taken_balanced : (g : ℕ) (es : List Entry) (n : ℕ) → Adding es n → (v : Bool) → Adding (cond v es (at pq (block_of s g) ∷ [])) (cond v n (scan_price s ends p g))
  unfolding plus minus sum_of
  taken_balanced g es n e true = e
  taken_balanced g es n e false = omega arith

  -- one call: what it adds to the cost, less what it takes away, is its price
  pub price_balanced : (c : Call) → T (ordered c) → load (plus p ends) (raises s c) ≡ call_price s ends p c + load (minus p ends) (raises s c)
  unfolding raises plus minus sum_of call_price ordered
  price_balanced (find g) k = omega arith
  price_balanced (range lo hi) k = span_balanced lo hi (leb→le lo hi k)
  price_balanced (range_days lo hi days) k = span_balanced lo hi (leb→le lo hi k)
  price_balanced (insert d) k = omega arith
  price_balanced (delete d) k = taken_balanced d.grower _ _ (deleted_balanced d.grower) (among d (held s))
  price_balanced (move d g) k = taken_balanced d.grower _ _ (moved_balanced d.grower g) (among d (held s))
