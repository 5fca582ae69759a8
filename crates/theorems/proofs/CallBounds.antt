-- The price of one call is RR at least and Slip 11's bound at most: on K partitions a call on one grower scans at most N - K blocks beside
-- the first, since each other partition has one, and passes at most K partitions. Assumes nothing.
use Prim.Native.Nat.{ℕ, zero, suc, ◌+◌, ◌-◌, ◌*◌, ◌≤◌, ◌<◌}
use mathlib.Core.Path.{◌≡◌, ap}
use mathlib.Core.List.{List, [], ◌∷◌, map}
use native.Mathlib.Omega.{arith}
use native.Mathlib.Nat.{mul-le-mul_left}
use lib.Dec.{T, leb, leb→le}
use lib.ListN.{length, get_or}
use Rattle.model.specs.declared.PriceCard.{PriceCard}
use Rattle.model.specs.Place.{place}
use Rattle.model.specs.Deliveries.{among}
use Rattle.model.specs.Blocks.{Set, held, blocks, block_of}
use Rattle.model.specs.Calls.{Call, find, range, range_days, insert, delete, move, ordered}
use Rattle.model.specs.Layouts.{layout_ok, before, after, trailing}
use Rattle.model.specs.Cost.{point_price}
use Rattle.model.specs.Laws.{SetPasses}
use Rattle.model.proofs.LayoutLaws.{Cut, cut_count, cut_less, Laid, laid}
use Rattle.model.proofs.SetLaws.{Good, good, spot, block_mono, part_first, part_end}
use Rattle.theorems.specs.MoreCalls.{lower_price, sharp_bound}
use Rattle.theorems.proofs.RecordingEntries.{either}
use Rattle.theorems.proofs.PlanFresh.{part_in}
use Rattle.theorems.proofs.CallPrices.{spanned, onward_at, passed, scan_price, delete_price, move_price, call_price}

-- the partitions beside partition q have a block each
cut_room : (f : ℕ) (ends : List ℕ) (n q : ℕ) → Cut f ends n → q < length ends → get_or ends q 0 + length ends + f ≤ n + get_or (f ∷ map (λ (e : ℕ). e + 1) ends) q 0
unfolding Cut
cut_room f [] n q c h = absurd (omega arith)
cut_room f (e ∷ es) n zero c h = omega (arith, cut_count (e + 1) es n c.2)
cut_room f (e ∷ es) n (suc q) c h = omega (arith, c.0, cut_room (e + 1) es n q c.2 (omega arith))

-- Bounds of products, with 1 + i partitions of 1 + i + j blocks: r, k and w are the prices, m the least of k and r + w.

-- a scan of x blocks beside the first, and t partitions passed
scan_ripple : (r k w m i j x t : ℕ) → x ≤ j → t ≤ i + 1 → m ≤ k → m ≤ r + w → (r + k * x) + w + (r + w) * t + m * (i + j) ≤ k * (i + j) + (r + w) * (i + j + 2)
scan_ripple r k w m i j x t hx ht hk hq =
    let a : k * x ≤ k * j = mul-le-mul_left k hx in
    let b : (r + w) * t ≤ (r + w) * (i + 1) = mul-le-mul_left (r + w) ht in
    let c : i * m ≤ i * k = mul-le-mul_left i hk in
    let d : j * m ≤ j * (r + w) = mul-le-mul_left j hq in
    omega arith

-- a scan of x blocks beside the first, of whatever partitions
scan_alone : (r k w m i j x : ℕ) → x ≤ i + j → m ≤ r + w → (r + k * x) + m * (i + j) ≤ k * (i + j) + (r + w) * (i + j + 2)
scan_alone r k w m i j x hx hq =
    let a : k * x ≤ k * (i + j) = mul-le-mul_left k hx in
    let d : (i + j) * m ≤ (i + j) * (r + w) = mul-le-mul_left (i + j) hq in
    omega arith

module _ (L : ℕ) (s : Set) (h : SetPasses L s) (ends : List ℕ) (t : T (layout_ok s ends)) (p : PriceCard) where
  o : Good L s
  o = good L s h

  l : Laid s ends
  l = laid s ends t

  -- the partitions beside one, and the blocks beside a block for each partition
  abbrev i : ℕ
  i = length ends - 1

  abbrev j : ℕ
  j = blocks s - length ends

  abbrev m : ℕ
  m = lower_price p

  ends_few : length ends ≤ blocks s
  ends_few = omega (arith, cut_count 0 ends (blocks s) l.cut)

  -- the blocks of a grower's partition beside one, those of a range, the partitions from his to the last, those that a move passes
  near_most : (g : ℕ) → before ends (block_of s g) + after ends (block_of s g) ≤ j
  unfolding before after
  near_most g =
      let b = block_of s g in
      omega (arith, cut_room 0 ends (blocks s) (place ends b) l.cut (part_in L s h ends t g), part_first L s o ends l b, part_end L s o ends l b (spot L s o g).within)

  spanned_most : (lo hi : ℕ) → lo ≤ hi → spanned s ends lo hi ≤ i + j
  unfolding before after
  spanned_most lo hi k =
      omega (
        arith,
        cut_less 0 ends (blocks s) (place ends (block_of s hi)) l.cut (part_in L s h ends t hi),
        part_end L s o ends l (block_of s hi) (spot L s o hi).within,
        block_mono L s o lo hi k,
        l.some,
        ends_few,
      )

  onward_most : (g : ℕ) → onward_at s ends g ≤ i + 1
  unfolding trailing
  onward_most g = omega (arith, l.some)

  passed_most : (f g : ℕ) → passed s ends f g ≤ i
  passed_most f g = omega (arith, part_in L s h ends t f, part_in L s h ends t g)

  -- the bound in i and j
  within : (n : ℕ) → n + m * (i + j) ≤ p.sr * (i + j) + (p.rr + p.«rw») * (i + j + 2) → n ≤ sharp_bound p (blocks s)
  within n k =
      let e : blocks s - 1 ≡ i + j = omega (arith, l.some, ends_few) in
      let f : blocks s + 1 ≡ i + j + 2 = omega (arith, l.some, ends_few) in
      let a : m * (blocks s - 1) ≡ m * (i + j) = ap (λ (x : ℕ). m * x) e in
      let b : p.sr * (blocks s - 1) ≡ p.sr * (i + j) = ap (λ (x : ℕ). p.sr * x) e in
      let c : (p.rr + p.«rw») * (blocks s + 1) ≡ (p.rr + p.«rw») * (i + j + 2) = ap (λ (x : ℕ). (p.rr + p.«rw») * x) f in
      omega arith

  -- a call on one grower: a scan of x blocks beside the first, a write, and u partitions passed
  pass_most : (x u n : ℕ) → x ≤ j → u ≤ i + 1 → n ≤ (p.rr + p.sr * x) + p.«rw» + (p.rr + p.«rw») * u → n ≤ sharp_bound p (blocks s)
  pass_most x u n hx hu k =
      within n (omega (arith, scan_ripple p.rr p.sr p.«rw» m i j x u hx hu (omega arith) (omega arith)))

  scan_most : (g : ℕ) → scan_price s ends p g ≤ sharp_bound p (blocks s)
  unfolding point_price
  scan_most g = pass_most _ 0 _ (near_most g) (omega arith) (omega arith)

  delete_most : (g : ℕ) → delete_price s ends p g ≤ sharp_bound p (blocks s)
  unfolding point_price
  delete_most g = pass_most _ (onward_at s ends g) _ (near_most g) (onward_most g) (omega arith)

  move_most : (f g : ℕ) → move_price s ends p f g ≤ sharp_bound p (blocks s)
  unfolding point_price
  move_most f g = pass_most _ (1 + passed s ends f g) _ (near_most f) (omega (arith, passed_most f g)) (omega arith)

  span_most : (lo hi : ℕ) → T (leb lo hi) → p.rr + p.sr * spanned s ends lo hi ≤ sharp_bound p (blocks s)
  span_most lo hi k = within _ (scan_alone p.rr p.sr p.«rw» m i j (spanned s ends lo hi) (spanned_most lo hi (leb→le lo hi k)) (omega arith))

  pub price_most : (c : Call) → T (ordered c) → call_price s ends p c ≤ sharp_bound p (blocks s)
  unfolding call_price ordered
  price_most (find g) k = scan_most g
  price_most (range lo hi) k = span_most lo hi k
  price_most (range_days lo hi days) k = span_most lo hi k
  price_most (insert d) k = pass_most 0 (onward_at s ends d.grower) _ (omega arith) (onward_most d.grower) (omega arith)
  price_most (delete d) k = either (λ (n : ℕ). n ≤ sharp_bound p (blocks s)) (among d (held s)) _ _ (delete_most d.grower) (scan_most d.grower)
  price_most (move d g) k = either (λ (n : ℕ). n ≤ sharp_bound p (blocks s)) (among d (held s)) _ _ (move_most d.grower g) (scan_most d.grower)

-- every call reads a block at random
pub price-least : (s : Set) (ends : List ℕ) (p : PriceCard) (c : Call) → p.rr ≤ call_price s ends p c
unfolding call_price point_price
price-least s ends p (find g) = omega arith
price-least s ends p (range lo hi) = omega arith
price-least s ends p (range_days lo hi days) = omega arith
price-least s ends p (insert d) = omega arith
price-least s ends p (delete d) = either (λ (n : ℕ). p.rr ≤ n) (among d (held s)) _ _ (omega arith) (omega arith)
price-least s ends p (move d g) = either (λ (n : ℕ). p.rr ≤ n) (among d (held s)) _ _ (omega arith) (omega arith)
