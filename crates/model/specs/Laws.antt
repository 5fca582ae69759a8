-- Laws of the definitions, as statements. Each is proved in proofs/Laws.antt, once for every crate above.
use Rattle.std.specs.Prelude.{ℕ, ◌+◌, ◌-◌, ◌*◌, ◌≤◌, ◌<◌, ◌≡◌, ◌⊎◌, ◌↔◌, Bool, cond, length, get_or, drop, T, ltb, eqb, ℤ, ◌+ℤ◌}
use mathlib.Core.List.{List, [], ◌∷◌, ◌++◌, map, flatten, Memᴰ, Permᴰ}
use Rattle.model.specs.declared.Delivery.{Delivery}
use Rattle.model.specs.declared.PriceCard.{PriceCard}
use Rattle.model.specs.declared.Limits.{Limits}
use Rattle.model.specs.Lists.{sum_of, keep, rising}
use Rattle.model.specs.Bounds.{most_day}
use Rattle.model.specs.Checks.{ask, first_failed}
use Rattle.model.specs.Place.{place}
use Rattle.model.specs.Calendar.{Span, span}
use Rattle.model.specs.Deliveries.{Even, no_totals, totals_of, totals_during}
use Rattle.model.specs.Blocks.{Set, blocks, last_grower, block_of, values_ok, days_ok}
use Rattle.model.specs.Calls.{range, range_days}
use Rattle.model.specs.Histograms.{raises}
use Rattle.model.specs.Prices.{prices_ok}
use Rattle.model.specs.Layouts.{end_of, first_of, partition_of, is_layout, layout_ok, block_counts, most_partitions, longest_partition, permitted, every_layout}
use Rattle.model.specs.Cost.{cost_of}
use Rattle.model.specs.Plan.{comes_before}
use Rattle.model.specs.Partitions.{part, parts, free, every_at, one_more, one_fewer}
use Rattle.model.specs.Moves.{insert_at, delete_at, move_at, inserted, deleted, moved}
use Rattle.model.specs.Directory.{Directory, directory_of}
use Rattle.model.specs.Column.{Column, slots, target, lengths_from}
use Rattle.model.specs.Accesses.{blocks_of, scan_counts, call_counts}
use Rattle.model.specs.Growers.{Direction, up, down, at_or_past, GrowerCount, nearest_of, counts_scanned, scanned_for, growers_of}
use Rattle.model.specs.Sheet.{line_grower, sheet_lines, lines_totals}
use Rattle.model.specs.Questions.{set_checks, lent_checks}
use Rattle.model.specs.ColumnCalls.{move_slices, column_call}

-- checks 2 to 5, 8 and 19 of the set are answered by yes
abbrev pub SetPasses : ℕ → Set → Type 0
SetPasses L s = first_failed (set_checks L s ++ ask 8 (values_ok s) ∷ ask 19 (days_ok s) ∷ []) ≡ 0

-- A grower's block lies in its partition, for every layout that parts no equal growers.
pub record BlockInPartition (s : Set) (ends : List ℕ) (g : ℕ) : Type 0 where
  -- the partition that the fences give is the one of the grower's block
  pub same : place (map (last_grower s) ends) g ≡ partition_of ends (block_of s g)
  pub first : first_of ends (partition_of ends (block_of s g)) ≤ block_of s g
  pub last : block_of s g ≤ end_of ends (partition_of ends (block_of s g))

abbrev pub BlocksInPartitions : Type 0
BlocksInPartitions = (L : ℕ) (s : Set) (ends : List ℕ) (g : ℕ) → SetPasses L s → T (layout_ok s ends) → BlockInPartition s ends g

-- A freshly laid partition has as many blocks as its layout says.
abbrev pub FreshBlocks : Type 0
FreshBlocks = (L : ℕ) (s : Set) (ends : List ℕ) → SetPasses L s → T (layout_ok s ends) → map (blocks_of s.block) (lengths_from s 0 ends) ≡ block_counts 0 ends

-- Each move loses and makes no record: the records afterwards are those before, with x added, slot i taken away, or both.
pub record KeepsRecords (A : Type 0) : Type 0 where
  pub insert : (t : ℕ) (x : A) (ps : List (List A)) → t < length ps → Permᴰ (flatten (insert_at t x ps)) (x ∷ flatten ps)
  pub delete : (d : A) (t i : ℕ) (ps : List (List A)) → t < length ps → i < length (part t ps) → Permᴰ (get_or (part t ps) i d ∷ flatten (delete_at t i ps)) (flatten ps)
  pub move : (d : A) (t i u : ℕ) (x : A) (ps : List (List A)) → t < length ps → u < length ps → i < length (part t ps)
      → Permᴰ (get_or (part t ps) i d ∷ flatten (move_at t i u x ps)) (x ∷ flatten ps)

-- Each move keeps every record in its partition: what passes its partition's test still does.
pub record KeepsPartitions (A : Type 0) : Type 0 where
  pub insert : (test : ℕ → A → Bool) (t : ℕ) (x : A) (ps : List (List A)) → t < length ps → T (test t x) → T (every_at test 0 ps) → T (every_at test 0 (insert_at t x ps))
  pub delete : (test : ℕ → A → Bool) (t i : ℕ) (ps : List (List A)) → t < length ps → T (every_at test 0 ps) → T (every_at test 0 (delete_at t i ps))
  pub move : (test : ℕ → A → Bool) (t i u : ℕ) (x : A) (ps : List (List A)) → t < length ps → u < length ps → T (test u x) → T (every_at test 0 ps) → T (every_at test 0 (move_at t i u x ps))

-- A slice after a move is cut into the partitions that the move made, and past them: an insert takes the first free slot,
-- a delete frees one that becomes z, a move leaves them alone.
pub record CutAgain {A : Type 0} (ns : List ℕ) (s : List A) (ps : List (List A)) (f : List A) : Type 0 where
  pub partitions : parts ns s ≡ ps
  pub past : free ns s ≡ f

pub record LeavesSlots (A : Type 0) : Type 0 where
  pub insert : (ns : List ℕ) (s : List A) (t : ℕ) (x : A) → sum_of ns ≤ length s → t < length ns → CutAgain (one_more t ns) (inserted ns t x s) (insert_at t x (parts ns s)) (drop 1 (free ns s))
  pub delete : (ns : List ℕ) (s : List A) (t i : ℕ) (z : A) → sum_of ns ≤ length s → t < length ns → i < get_or ns t 0
      → CutAgain (one_fewer t ns) (deleted ns t i z s) (delete_at t i (parts ns s)) (z ∷ free ns s)
  pub move : (ns : List ℕ) (s : List A) (t i u : ℕ) (x : A) → sum_of ns ≤ length s → t < length ns → u < length ns → i < get_or ns t 0
      → CutAgain (one_more u (one_fewer t ns)) (moved ns t i u x s) (move_at t i u x (parts ns s)) (free ns s)

-- Each move commutes with map, so that the slices move as one: the deliveries afterwards are the move of the deliveries.
pub record CommutesWithMap {A B : Type 0} (f : A → B) : Type 0 where
  pub insert : (ns : List ℕ) (t : ℕ) (x : A) (s : List A) → map f (inserted ns t x s) ≡ inserted ns t (f x) (map f s)
  pub delete : (ns : List ℕ) (t i : ℕ) (x : A) (s : List A) → map f (deleted ns t i x s) ≡ deleted ns t i (f x) (map f s)
  pub move : (ns : List ℕ) (t i u : ℕ) (x : A) (s : List A) → map f (moved ns t i u x s) ≡ moved ns t i u (f x) (map f s)

pub record SlicesMoveAsOne : Type 0 where
  pub insert : (c : Column) → Even c.slices → (ns : List ℕ) (t : ℕ) (d : Delivery) (ms : List ℕ) → slots (move_slices (inserted ns t) d ms c) ≡ inserted ns t d (slots c)
  pub delete : (c : Column) → Even c.slices → (ns : List ℕ) (t i : ℕ) (d : Delivery) (ms : List ℕ)
      → slots (move_slices (deleted ns t i) d ms c) ≡ deleted ns t i d (slots c)
  pub move : (c : Column) → Even c.slices → (ns : List ℕ) (t i u : ℕ) (d : Delivery) (ms : List ℕ)
      → slots (move_slices (moved ns t i u) d ms c) ≡ moved ns t i u d (slots c)

-- A range over days (02: Slip 7): "if the last is earlier, it matches nothing"; a range is the one over all days, since 19 is put of what it scans;
-- "either way it scans and is recorded as any range".
pub record DaysOfARange : Type 0 where
  pub nothing : (lo hi : ℕ) (s : Span) (ds : List Delivery) → s.last < s.first → totals_during lo hi s ds ≡ no_totals
  pub all_days : (L : ℕ) (c : Column) (lo hi : ℕ) → column_call L c (range_days lo hi (span 0 most_day)) ≡ column_call L c (range lo hi)
  pub scanned : (d : Directory) (lo hi : ℕ) (s : Span) → call_counts d (range_days lo hi s) ≡ call_counts d (range lo hi)
  pub recorded : (s : Set) (lo hi : ℕ) (days : Span) → raises s (range_days lo hi days) ≡ raises s (range lo hi)

-- two slices of counts, added count by count
unfoldable pub add_counts : List ℕ → List ℕ → List ℕ
add_counts [] hs = []
add_counts (n ∷ ns) [] = []
add_counts (n ∷ ns) (h ∷ hs) = (n + h) ∷ add_counts ns hs

-- The cost of added histograms is the sum of the costs.
abbrev pub CostAdds : Type 0
CostAdds = (L : ℕ) (c : PriceCard) (n : ℕ) (ends a b : List ℕ) → length a ≡ length b → cost_of L c n ends (add_counts a b) ≡ cost_of L c n ends a +ℤ cost_of L c n ends b

-- The limits as prices. A partition of x blocks beside its first is short enough exactly when a scan of it, 1 rr and x sr, costs at
-- most R; k partitions are few enough exactly when an insert that passes them all, 1 + k rr and 1 + k rw, costs at most U.
pub record LimitPrices (p : PriceCard) (l : Limits) : Type 0 where
  pub reads : (x : ℕ) → (x + 1 ≤ longest_partition p l) ↔ (p.rr + p.sr * x ≤ l.read)
  pub inserts : (k : ℕ) → 1 ≤ k → (k ≤ most_partitions p l) ↔ ((p.rr + p.«rw») * (1 + k) ≤ l.insert)

abbrev pub LimitsArePrices : Type 0
LimitsArePrices = (p : PriceCard) (l : Limits) → T (prices_ok p) → LimitPrices p l

-- The nearest grower: he is one of the growers at or past g, all of these are at or past him, and his records are all of his.
-- He has a record just where there is such a grower, and is 0 where there is none.
pub record IsNearest (w : Direction) (g : ℕ) (gs : List ℕ) (n : GrowerCount) : Type 0 where
  pub there : 1 ≤ n.records → Memᴰ n.grower gs × T (at_or_past w g n.grower)
  pub first : (m : ℕ) → Memᴰ m gs → T (at_or_past w g m) → (1 ≤ n.records) × T (at_or_past w n.grower m)
  pub counted : 1 ≤ n.records → n.records ≡ length (keep (eqb n.grower) gs)
  pub none : n.records ≡ 0 → n.grower ≡ 0

abbrev pub NearestIsFirst : Type 0
NearestIsFirst = (w : Direction) (g : ℕ) (gs : List ℕ) → IsNearest w g gs (nearest_of w g gs)

-- 02, Slip 3: "its counts are those of a range over the partitions it scanned": k of them from g's on, or k of them down from it.
pub record RangeCounts (L : ℕ) (c : Column) (g : ℕ) : Type 0 where
  pub upward : let d : Directory = directory_of L c.directory in
      counts_scanned d (scanned_for L c up g) ≡ scan_counts d (target L c g) (target L c g + length (scanned_for L c up g) - 1)
  pub downward : let d : Directory = directory_of L c.directory in
      counts_scanned d (scanned_for L c down g) ≡ scan_counts d (target L c g + 1 - length (scanned_for L c down g)) (target L c g)

abbrev pub CountsOfARange : Type 0
CountsOfARange = (L : ℕ) (c : Column) (g : ℕ) → first_failed (lent_checks L c) ≡ 0 → RangeCounts L c g

-- The settlement sheet (02: Slip 4): "a line per grower in rising order", each grower who has a record once and no other;
-- "the totals equal the sums over the records", which is their definition, "and the sums of the lines above".
pub record SheetAddsUp (bag : List Delivery) : Type 0 where
  pub rise : T (rising (map line_grower (sheet_lines bag)))
  pub once : (g : ℕ) → length (keep (eqb g) (map line_grower (sheet_lines bag))) ≡ cond (ltb 0 (length (keep (eqb g) (growers_of bag)))) 1 0
  pub add_up : lines_totals (sheet_lines bag) ≡ totals_of bag

abbrev pub SheetsAddUp : Type 0
SheetsAddUp = (bag : List Delivery) → SheetAddsUp bag

-- The list of every layout holds each layout, and nothing else.
abbrev pub EveryLayoutListed : Type 0
EveryLayoutListed = (n : ℕ) (ends : List ℕ) → 1 ≤ n → (Memᴰ ends (every_layout n) → T (is_layout n ends)) × (T (is_layout n ends) → Memᴰ ends (every_layout n))

-- The order (cost, count, ends) is total.
pub record TotalOrder : Type 0 where
  pub either : (cost : List ℕ → ℤ) (x y : List ℕ) → T (comes_before cost x y) ⊎ T (comes_before cost y x)
  pub transitive : (cost : List ℕ → ℤ) (x y z : List ℕ) → T (comes_before cost x y) → T (comes_before cost y z) → T (comes_before cost x z)
  pub antisymmetric : (cost : List ℕ → ℤ) (x y : List ℕ) → T (comes_before cost x y) → T (comes_before cost y x) → x ≡ y

-- a cheapest layout: permitted, and ahead of each permitted one by cost, count and ends
pub record IsCheapest (L : ℕ) (p : PriceCard) (l : Limits) (s : Set) (hs ends : List ℕ) : Type 0 where
  pub allowed : T (permitted p l s ends)
  pub first : (other : List ℕ) → T (permitted p l s other) → T (comes_before (λ (e : List ℕ). cost_of L p (blocks s) e hs) ends other)

-- So the planner's answer is unique.
abbrev pub AnswerUnique : Type 0
AnswerUnique = (L : ℕ) (p : PriceCard) (l : Limits) (s : Set) (hs x y : List ℕ) → IsCheapest L p l s hs x → IsCheapest L p l s hs y → x ≡ y
