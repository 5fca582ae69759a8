-- What is to be searched: the layouts of some blocks, and the least of them.
use Rattle.std.specs.Prelude.{ℕ, ◌+◌, ◌≤◌, ◌<◌, ◌≡◌, ◌⊎◌, Bool, true, List, [], ◌∷◌, T, length}
use Rattle.model.specs.Plan.{ends_before}
use Rattle.layout_search.specs.Sums.{spans}

-- the search is proved for so many blocks
abbrev pub search_limit : ℕ
search_limit = 256

-- how many blocks, whether a to e may be a partition, and what a block adds to the cost and takes off it,
-- by its number, the blocks before and after it in its partition, and the partitions from its own to the last
pub record Task : Type 0 where
  pub n : ℕ
  pub ok : ℕ → ℕ → Bool
  pub up : ℕ → ℕ → ℕ → ℕ → ℕ
  pub down : ℕ → ℕ → ℕ → ℕ → ℕ

-- the ends lay out the blocks a to n - 1 in partitions that may be
abbrev pub Layout : Task → ℕ → List ℕ → Type 0
Layout t a [] = a ≡ t.n
Layout t a (e ∷ es) = (a ≤ e) × (e < t.n) × (t.ok a e ≡ true) × Layout t (e + 1) es

-- the same without the test of the partitions
abbrev pub Covers : ℕ → ℕ → List ℕ → Type 0
Covers n a [] = a ≡ n
Covers n a (e ∷ es) = (a ≤ e) × (e < n) × Covers n (e + 1) es

-- the cost of a layout is `adds` less `takes`
abbrev pub adds : Task → ℕ → List ℕ → ℕ
adds t a es = spans t.up a es

abbrev pub takes : Task → ℕ → List ℕ → ℕ
takes t a es = spans t.down a es

-- a layout of all blocks in at most `most` partitions
abbrev pub Allowed : Task → ℕ → List ℕ → Type 0
Allowed t most es = Layout t 0 es × (length es ≤ most)

-- es comes before ds: by cost, then by the count of partitions, then by the ends
abbrev pub Ahead : Task → List ℕ → List ℕ → Type 0
Ahead t es ds =
    (adds t 0 es + takes t 0 ds < adds t 0 ds + takes t 0 es)
    ⊎ ((adds t 0 es + takes t 0 ds ≡ adds t 0 ds + takes t 0 es) × ((length es < length ds) ⊎ ((length es ≡ length ds) × T (ends_before es ds))))

-- es is allowed, and comes before each that is
pub record Least (t : Task) (most : ℕ) (es : List ℕ) : Type 0 where
  pub allowed : Allowed t most es
  pub ahead : (ds : List ℕ) → Allowed t most ds → Ahead t es ds
