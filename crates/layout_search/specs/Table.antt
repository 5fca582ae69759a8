-- The table of the search: for each first block a and each count k, the least number of the layouts of the blocks a to n - 1 in k partitions.
-- A number is 2 ^ 60 and a cost; 2 ^ 62 stands for no layout.
use Rattle.std.specs.Prelude.{ℕ, ◌+◌, ◌-◌, ◌*◌, ◌^◌, ◌≤◌, ◌<◌, ◌≡◌, Bool, true, cond, List, [], ◌∷◌, eqb, length, get_or, take, drop, Option, unwrap_or, MatchOption}
use Rattle.layout_search.specs.Sums.{span}
use Rattle.layout_search.specs.Task.{search_limit, Task, Layout, adds, takes}
use Rattle.layout_search.specs.RunningSums.{per_partition_added, per_partition_saved, sum_at, LocalPrice}

-- what is stored for a number, and for no layout
abbrev pub stored : Option ℕ → ℕ
stored r = unwrap_or r (2 ^ 62)

-- r is what is read where v is stored
abbrev pub Read : ℕ → Option ℕ → Type 0
Read v r = MatchOption r (2 ^ 62 ≤ v) (λ m. (m < 2 ^ 62) × (m ≡ v))

-- m is not above the number of es
abbrev pub Low : Task → ℕ → ℕ → List ℕ → Type 0
Low t a m es = (m < 2 ^ 62) × (m + takes t a es ≤ 2 ^ 60 + adds t a es)

-- m is the number of a layout in k partitions
abbrev pub Hit : Task → ℕ → ℕ → ℕ → Type 0
Hit t a k m = (es : List ℕ) × Layout t a es × (length es ≡ k) × (m + takes t a es ≡ 2 ^ 60 + adds t a es)

abbrev pub Near : Task → ℕ → ℕ → Type 0
Near t a m = (m ≤ 2 ^ 60 + (t.n - a) * 2 ^ 43) × (2 ^ 60 ≤ m + (t.n - a) * 2 ^ 43)

-- m is the table's number for the blocks a to n - 1 in k partitions
pub record Best (t : Task) (a k m : ℕ) : Type 0 where
  pub low : (es : List ℕ) → Layout t a es → length es ≡ k → Low t a m es
  pub hit : m < 2 ^ 62 → Hit t a k m
  pub near : m < 2 ^ 62 → Near t a m

-- m is the least number of the layouts in k + 1 partitions whose first ends before e
pub record Scan (t : Task) (a k e m : ℕ) : Type 0 where
  pub low : (d : ℕ) (es : List ℕ) → d < e → Layout t a (d ∷ es) → length es ≡ k → Low t a m (d ∷ es)
  pub hit : m < 2 ^ 62 → Hit t a (k + 1) m
  pub near : m < 2 ^ 62 → Near t a m

-- a candidate's number x: y, the best after it, and the price of a to e
pub record Cand (t : Task) (a k e y x : ℕ) : Type 0 where
  pub start : a ≤ e
  pub inside : e < t.n
  pub okay : t.ok a e ≡ true
  pub rest : Best t (e + 1) k y
  pub some : y < 2 ^ 62
  pub is : x + span t.down a e (k + 1) ≡ y + span t.up a e (k + 1)
  pub up : span t.up a e (k + 1) ≤ (e + 1 - a) * 2 ^ 43
  pub down : span t.down a e (k + 1) ≤ (e + 1 - a) * 2 ^ 43
  pub blocks : t.n ≤ search_limit

-- x is a candidate's number, or 2 ^ 62 where there is no layout with that first end
pub data Offer (t : Task) (a k e y x : ℕ) : Type 0 where
  nothing : x ≡ 2 ^ 62 → ((es : List ℕ) → Layout t a (e ∷ es) → length es ≡ k → ⊥) → Offer t a k e y x
  offered : Cand t a k e y x → Offer t a k e y x

-- each layout in k + 1 partitions whose first ends before e has a number above m
pub record Passed (t : Task) (a k m e : ℕ) : Type 0 where
  pub more : (d : ℕ) (ds : List ℕ) → d < e → Layout t a (d ∷ ds) → length ds ≡ k → m + takes t a (d ∷ ds) < 2 ^ 60 + adds t a (d ∷ ds)

-- e is the first end of the first least layout: m is the number for a to n - 1, and y that for what comes after e
pub record First (t : Task) (a k e y m : ℕ) : Type 0 where
  pub cand : Cand t a k e y m
  pub passed : Passed t a k m e

-- m is the number for a to n - 1 in k + 1 partitions, and, where there is a layout, e the first end of the first that has it
pub record Chose (t : Task) (val : ℕ → ℕ → ℕ) (a k m e : ℕ) : Type 0 where
  pub best : Best t a (k + 1) m
  pub first : m < 2 ^ 62 → First t a k e (val k (e + 1)) m

-- ends that were chosen so, by the table's numbers
abbrev pub Chosen : Task → (ℕ → ℕ → ℕ) → ℕ → List ℕ → Type 0
Chosen t val a [] = (a ≡ t.n) × (val 0 a ≡ 2 ^ 60)
Chosen t val a (e ∷ es) = First t a (length es) e (val (length es) (e + 1)) (val (length es + 1) a) × Chosen t val (e + 1) es

-- the table has n numbers to a row, and no row for no partition: its number for the blocks a to n - 1 in k partitions
unfoldable pub val_of : ℕ → List ℕ → ℕ → ℕ → ℕ
val_of n table k a = cond (eqb a n) (cond (eqb k 0) (2 ^ 60) (2 ^ 62)) (cond (eqb k 0) (2 ^ 62) (get_or table ((k - 1) * n + a) 0))

-- row k is right; rows 0 to k are
abbrev pub Row : Task → ℕ → List ℕ → Type 0
Row t k table = (a : ℕ) → a ≤ t.n → Best t a k (val_of t.n table k a)

abbrev pub Rows : Task → ℕ → List ℕ → Type 0
Rows t k table = (j : ℕ) → j ≤ k → Row t j table

-- the rows up to k are as they were, and what stands past the n rows
pub record Kept (n k : ℕ) (old new : List ℕ) : Type 0 where
  pub long : length new ≡ length old
  pub same : (i : ℕ) → i < k * n → get_or new i 0 ≡ get_or old i 0
  pub past : (i : ℕ) → n * n ≤ i → get_or new i 0 ≡ get_or old i 0

-- past the n rows stand the local prices, n to a first block: those of the first blocks before a
abbrev pub LocalPrices : List ℕ → ℕ → ℕ → List ℕ → Type 0
LocalPrices sums n a table = (b e : ℕ) → b < a → b ≤ e → e < n → LocalPrice sums b e (get_or table (n * n + b * n + e) 0)

-- those of first block a that end before block e; what stood before them stays
pub record LocalRow (sums : List ℕ) (n a e : ℕ) (old new : List ℕ) : Type 0 where
  pub long : length new ≡ length old
  pub before : (i : ℕ) → i < n * n + a * n → get_or new i 0 ≡ get_or old i 0
  pub here : (d : ℕ) → a ≤ d → d < e → LocalPrice sums a d (get_or new (n * n + a * n + d) 0)

-- x is the number for what comes after block e in k partitions, with k + 1 times the sums of partitions at e + 1: the same for each first block.
-- 2 ^ 62 where no partition that ends at e has k behind it
pub data Tail (sums : List ℕ) (t : Task) (fits : ℕ → Bool) (k e x : ℕ) : Type 0 where
  no_tail : x ≡ 2 ^ 62 → ((a : ℕ) (es : List ℕ) → Layout t a (e ∷ es) → length es ≡ k → ⊥) → Tail sums t fits k e x
  some_tail : (y : ℕ) → fits e ≡ true → Best t (e + 1) k y → y < 2 ^ 62
      → x + sum_at sums per_partition_saved (e + 1) * (k + 1) ≡ y + sum_at sums per_partition_added (e + 1) * (k + 1) → Tail sums t fits k e x

-- those of the ends before e
pub record Tails (sums : List ℕ) (t : Task) (fits : ℕ → Bool) (k e : ℕ) (row : List ℕ) : Type 0 where
  pub room : t.n ≤ length row
  pub here : (d : ℕ) → d < e → Tail sums t fits k d (get_or row d 0)

-- tails and local prices that can be added, end by end
pub record Small (tails prices : List ℕ) : Type 0 where
  pub even : length prices ≡ length tails
  pub few : length tails ≤ search_limit
  pub tail : (d : ℕ) → d < length tails → get_or tails d 0 ≤ 2 ^ 62
  pub price : (d : ℕ) → d < length tails → get_or prices d 0 ≤ 2 ^ 61

abbrev pub offered_at : List ℕ → List ℕ → ℕ → ℕ
offered_at tails prices d = get_or tails d 0 + get_or prices d 0

-- m is the least of 2 ^ 62 and f 0 to f (e - 1)
pub record LeastOf (f : ℕ → ℕ) (e m : ℕ) : Type 0 where
  pub top : m ≤ 2 ^ 62
  pub low : (d : ℕ) → d < e → m ≤ f d
  pub hit : m < 2 ^ 62 → (d : ℕ) × (d < e) × (m ≡ f d)

-- m is the least number of the counts before j, and b the first count that has it
pub record Lowest (val : ℕ → ℕ) (j b m : ℕ) : Type 0 where
  pub is : val b ≡ m
  pub inside : b ≤ j - 1
  pub low : (i : ℕ) → i < j → m ≤ val i
  pub early : (i : ℕ) → i < b → m < val i

-- k ends were chosen and written, and what lies past them is as it was
pub record Written (t : Task) (table : List ℕ) (k : ℕ) (old new : List ℕ) : Type 0 where
  pub count : length (take k new) ≡ k
  pub chosen : Chosen t (val_of t.n table) 0 (take k new)
  pub kept : drop k new ≡ drop k old
