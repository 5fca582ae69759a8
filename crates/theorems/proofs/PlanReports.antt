-- One call: what it adds to the cost of a layout is what its report on the freshly laid column is priced at. Assumes nothing.
use Prim.Native.Nat.{ℕ, suc, ◌+◌, ◌-◌, ◌*◌, ◌≤◌, ◌<◌}
use mathlib.Core.Path.{◌≡◌, ◌∙◌}
use mathlib.Core.Bool.{Bool, true, false, cond}
use mathlib.Core.List.{List}
use native.Mathlib.Omega.{arith}
use lib.Dec.{T, leb→le}
use lib.ListN.{length, length-map}
use Rattle.model.specs.declared.Delivery.{Delivery}
use Rattle.model.specs.declared.PriceCard.{PriceCard}
use Rattle.model.specs.Place.{place}
use Rattle.model.specs.Deliveries.{among}
use Rattle.model.specs.Blocks.{Set, held, block_of}
use Rattle.model.specs.Calendar.{Span}
use Rattle.model.specs.Calls.{Call, find, range, range_days, insert, delete, move, ordered, offered_ok, span_ok, offered_days_ok}
use Rattle.model.specs.Histograms.{raises}
use Rattle.model.specs.Prices.{priced}
use Rattle.model.specs.Layouts.{layout_ok, before, after, trailing}
use Rattle.model.specs.Cost.{point_price}
use Rattle.model.specs.Directory.{Directory}
use Rattle.model.specs.Column.{directory_for}
use Rattle.model.specs.Accesses.{blocks_scanned, reads_of, scan_counts, and_also, onward, scan_near, call_counts, miss_counts}
use Rattle.model.specs.ColumnCalls.{report_alone}
use Rattle.model.specs.Laws.{SetPasses}
use Rattle.model.proofs.LayoutLaws.{Laid, laid}
use Rattle.model.proofs.SetLaws.{Good, good, spot, block_mono, part_first, part_end, target}
use Rattle.model.proofs.Fresh.{scanned_is}
use Rattle.theorems.proofs.RecordingSums.{load}
use Rattle.theorems.proofs.RecordingCosts.{plus, minus}
use Rattle.theorems.proofs.PlanChecks.{InBounds, Offered}
use Rattle.theorems.proofs.PlanFresh.{part_in, part_mono, find_report, range_report, range_days_report, insert_report, delete_report, move_report}
use Rattle.theorems.proofs.CallPrices.{scan_price, delete_price, move_price, call_price, price_balanced}

module _ (L : ℕ) (s : Set) (h : SetPasses L s) (ends : List ℕ) (t : T (layout_ok s ends)) where
  o : Good L s
  o = good L s h

  l : Laid s ends
  l = laid s ends t

  abbrev fresh : Directory
  fresh = directory_for s ends

  -- the partition that the directory gives a grower
  abbrev home : ℕ → ℕ
  home g = place fresh.fences g

  home_is : (g : ℕ) → home g ≡ place ends (block_of s g)
  unfolding directory_for
  home_is g = target L s o ends l g

  within : (g : ℕ) → place ends (block_of s g) < length ends
  within g = part_in L s h ends t g

  -- the blocks that a scan from lo's partition to hi's reads: the first, and each other
  scan_two : (lo hi : ℕ) → lo ≤ hi → blocks_scanned fresh (home lo) (home hi) ≡ suc (before ends (block_of s lo) + after ends (block_of s hi) + (block_of s hi - block_of s lo))
  unfolding before after
  scan_two lo hi k =
      rw (home_is lo, home_is hi)
      (omega (
        arith,
        scanned_is L s o ends l (place ends (block_of s lo)) (place ends (block_of s hi)) (part_mono L s h ends t lo hi k) (within hi),
        part_first L s o ends l (block_of s lo),
        part_end L s o ends l (block_of s hi) (spot L s o hi).within,
        block_mono L s o lo hi k,
      ))

  scan_one : (g : ℕ) → blocks_scanned fresh (home g) (home g) ≡ suc (before ends (block_of s g) + after ends (block_of s g))
  scan_one g = scan_two g g (omega arith) ∙ omega arith

  -- a scan of one partition, and with x random reads and y random writes more
  scan_price_lem : (p : PriceCard) (g : ℕ) → priced p (scan_near fresh g) ≡ point_price p ends (block_of s g)
  unfolding scan_near scan_counts reads_of priced point_price
  scan_price_lem p g = rw (scan_one g) (omega arith)

  near_price : (p : PriceCard) (g x y : ℕ) → priced p (and_also (scan_near fresh g) x y) ≡ point_price p ends (block_of s g) + p.rr * x + p.«rw» * y
  unfolding scan_near scan_counts reads_of priced point_price
  near_price p g x y = rw (scan_one g) (omega arith)

  onward_is : (g : ℕ) → onward fresh (home g) ≡ trailing ends (block_of s g)
  unfolding trailing directory_for
  onward_is g = rw (target L s o ends l g, length-map)

  module _ (p : PriceCard) where
    abbrev Priced : Call → Type 0
    Priced c = priced p (report_alone L s ends c) ≡ call_price s ends p c

    find_priced : (g : ℕ) → Priced (find g)
    unfolding call_price call_counts
    find_priced g = rw (find_report L s h ends t g) (scan_price_lem p g)

    range_priced : (lo hi : ℕ) → lo ≤ hi → Priced (range lo hi)
    unfolding call_price call_counts scan_counts reads_of priced
    range_priced lo hi k = rw (range_report L s h ends t lo hi k, scan_two lo hi k) (omega arith)

    range_days_priced : (lo hi : ℕ) (days : Span) → lo ≤ hi → T (span_ok days) → Priced (range_days lo hi days)
    unfolding call_price call_counts scan_counts reads_of priced
    range_days_priced lo hi days k n = rw (range_days_report L s h ends t lo hi days k n, scan_two lo hi k) (omega arith)

    insert_priced : (d : Delivery) → InBounds d → s.used < length s.slices.growers → Priced (insert d)
    unfolding call_price call_counts priced
    insert_priced d f k = rw (insert_report L s h ends t d f k, onward_is d.grower) (omega arith)

    -- a delivery that the set has, and one that it has not
    delete_priced : (d : Delivery) → InBounds d → Priced (delete d)
    unfolding call_price call_counts miss_counts
    delete_priced d f = rw (delete_report L s h ends t d f) (go (among d (held s)))
      where
        go : (v : Bool) → priced p (cond v (call_counts fresh (delete d)) (miss_counts fresh (delete d))) ≡ cond v (delete_price s ends p d.grower) (scan_price s ends p d.grower)
        go true = rw (near_price p d.grower _ _, onward_is d.grower)
        go false = scan_price_lem p d.grower

    move_priced : (d : Delivery) (g : ℕ) → InBounds d → Priced (move d g)
    unfolding call_price call_counts miss_counts
    move_priced d g f = rw (move_report L s h ends t d g f) (go (among d (held s)))
      where
        go : (v : Bool) → priced p (cond v (call_counts fresh (move d g)) (miss_counts fresh (move d g))) ≡ cond v (move_price s ends p d.grower g) (scan_price s ends p d.grower)
        go true = rw (near_price p d.grower _ _, home_is d.grower, home_is g)
        go false = scan_price_lem p d.grower

    report_priced : s.used < length s.slices.growers → (c : Call) → T (ordered c) → Offered c → Priced c
    unfolding ordered offered_ok offered_days_ok
    report_priced k (find g) a b = find_priced g
    report_priced k (range lo hi) a b = range_priced lo hi (leb→le lo hi a)
    report_priced k (range_days lo hi days) a b = range_days_priced lo hi days (leb→le lo hi a) b.1
    report_priced k (insert d) a b = insert_priced d b k
    report_priced k (delete d) a b = delete_priced d b
    report_priced k (move d g) a b = move_priced d g b

    -- one call: what it adds to the cost, less what it takes away, is what its report is priced at
    pub balanced : s.used < length s.slices.growers → (c : Call) → T (ordered c) → Offered c
        → load (plus p ends) (raises s c) ≡ priced p (report_alone L s ends c) + load (minus p ends) (raises s c)
    balanced k c a b = rw (report_priced k c a b) (price_balanced L s h ends t p c a)
