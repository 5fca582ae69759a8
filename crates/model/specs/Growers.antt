-- The next grower with deliveries (02: Slip 3): who he is, which partitions are scanned for him, and what that counts. One definition for both directions.
use Rattle.std.specs.Prelude.{ℕ, zero, suc, ◌-◌, Bool, cond, length, get_or, leb, ltb, eqb}
use mathlib.Core.List.{List, [], ◌∷◌, map, flatten}
use Rattle.model.specs.declared.Delivery.{Delivery}
use Rattle.model.specs.declared.Counts.{Counts}
use Rattle.model.specs.Lists.{sum_of, up_from, every, keep}
use Rattle.model.specs.Deliveries.{grower_of, in_range, day_ok}
use Rattle.model.specs.Partitions.{parts, part}
use Rattle.model.specs.Directory.{Directory}
use Rattle.model.specs.Column.{Column, slots, lengths_of, fences_of, target}
use Rattle.model.specs.Accesses.{blocks_of, reads_of}

-- "the smallest grower at or above g"; "a second call does the same downward"
pub data Direction : Type 0 where
  up : Direction
  down : Direction

-- is n at or above g; downward, at or below?
abbrev pub at_or_past : Direction → ℕ → ℕ → Bool
at_or_past up g n = leb g n
at_or_past down g n = leb n g

-- of two growers the first: upward the smaller, downward the larger
abbrev pub nearer : Direction → ℕ → ℕ → ℕ
nearer w a b = cond (at_or_past w a b) a b

-- of n and these the first
unfoldable pub nearest_from : Direction → ℕ → List ℕ → ℕ
nearest_from w n [] = n
nearest_from w n (m ∷ ns) = nearest_from w (nearer w n m) ns

-- of these the first; "if none exists .. grower 0"
unfoldable pub nearest : Direction → List ℕ → ℕ
nearest w [] = 0
nearest w (n ∷ ns) = nearest_from w n ns

-- a grower, and how many records he has
pub record GrowerCount : Type 0 where
  pub grower : ℕ
  pub records : ℕ

-- among these growers of records: "the smallest grower at or above g .. and his record count", "if none exists .. grower 0 and count 0"
unfoldable pub nearest_of : Direction → ℕ → List ℕ → GrowerCount
nearest_of w g gs =
    let past : List ℕ = keep (at_or_past w g) gs in
    record { grower = nearest w past; records = length (keep (eqb (nearest w past)) past) }

abbrev pub growers_of : List Delivery → List ℕ
growers_of ds = map grower_of ds

-- is a grower at or past g among these records?
unfoldable pub holds_one : Direction → ℕ → List Delivery → Bool
holds_one w g ds = ltb 0 (length (keep (at_or_past w g) (growers_of ds)))

-- t, t - 1, .. 0
unfoldable pub down_from : ℕ → List ℕ
down_from zero = 0 ∷ []
down_from (suc t) = suc t ∷ down_from t

-- of k partitions those from t "to the column's end or beginning", in the order in which they are scanned
unfoldable pub path : Direction → ℕ → ℕ → List ℕ
path up k t = up_from t (k - t)
path down k t = down_from t

-- "stops at the first that holds such a grower"
unfoldable pub up_to_first : (ℕ → Bool) → List ℕ → List ℕ
up_to_first f [] = []
up_to_first f (i ∷ is) = i ∷ cond (f i) [] (up_to_first f is)

-- the counts of these partitions, scanned as a range scans them
unfoldable pub counts_scanned : Directory → List ℕ → Counts
counts_scanned d is = reads_of (sum_of (map (λ (i : ℕ). blocks_of d.block (get_or d.lengths i 0)) is))

-- L is the block limit
module _ (L : ℕ) where
  -- the records of partition i
  abbrev pub records_at : Column → ℕ → List Delivery
  records_at c i = part i (parts (lengths_of L c) (slots c))

  -- "each scans from g's partition and stops at the first that holds such a grower": the partitions scanned
  unfoldable pub scanned_for : Column → Direction → ℕ → List ℕ
  scanned_for c w g = up_to_first (λ (i : ℕ). holds_one w g (records_at c i)) (path w (length (fences_of L c)) (target L c g))

  -- the records of these partitions
  abbrev pub records_scanned : Column → List ℕ → List Delivery
  records_scanned c is = flatten (map (records_at c) is)

  -- check 8: "in each partition scanned"
  unfoldable pub scanned_for_ok : Column → Direction → ℕ → Bool
  scanned_for_ok c w g = every in_range (records_scanned c (scanned_for c w g))

  -- check 19, likewise
  unfoldable pub scanned_for_days_ok : Column → Direction → ℕ → Bool
  scanned_for_days_ok c w g = every day_ok (records_scanned c (scanned_for c w g))
