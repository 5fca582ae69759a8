-- The ten histograms and what each call raises in them (01: the recorder).
use Rattle.std.specs.Prelude.{ℕ, ◌+◌, ◌-◌, ◌*◌, Bool, cond, ◌&&◌, List, [], ◌∷◌, map, length, get_or, set, replicate, leb, ltb, eqb}
use Rattle.model.specs.Bounds.{most_count}
use Rattle.model.specs.Lists.{up_from, every}
use Rattle.model.specs.Deliveries.{among}
use Rattle.model.specs.Blocks.{Set, held, block_of}
use Rattle.model.specs.Calls.{Call, find, range, range_days, insert, delete, move}

-- "in the order pq, rs, re, sc, de, in, udf, utf, udb, utb" (`in` is a reserved word, so that one is `ins`)
pub data Histogram : Type 0 where
  pq rs re sc de ins udf utf udb utb : Histogram

unfoldable pub position : Histogram → ℕ
position pq = 0
position rs = 1
position re = 2
position sc = 3
position de = 4
position ins = 5
position udf = 6
position utf = 7
position udb = 8
position utb = 9

abbrev pub histograms : List Histogram
histograms = pq ∷ rs ∷ re ∷ sc ∷ de ∷ ins ∷ udf ∷ utf ∷ udb ∷ utb ∷ []

-- the count of a histogram at a block
pub record Entry : Type 0 where
  pub histogram : Histogram
  pub block : ℕ

abbrev pub at : Histogram → ℕ → Entry
at h i = record { histogram = h; block = i }

-- "rs at lo's block, re at hi's, sc at each between; if both ends share a block, pq there only"
abbrev pub span_raises : ℕ → ℕ → List Entry
span_raises a b = at rs a ∷ at re b ∷ map (at sc) (up_from (a + 1) (b - (a + 1)))

unfoldable pub range_raises : ℕ → ℕ → List Entry
range_raises a b = cond (eqb a b) (at pq a ∷ []) (span_raises a b)

-- "udf at the old grower's block and utf at the block of g' if g' is not smaller, else udb and utb"
unfoldable pub move_raises : Set → ℕ → ℕ → List Entry
move_raises s g g' = cond (leb g g') (at udf (block_of s g) ∷ at utf (block_of s g') ∷ []) (at udb (block_of s g) ∷ at utb (block_of s g') ∷ [])

-- what a call raises; a range over days "is recorded as any range"; "if the set has no such delivery, pq at its grower's block instead"
unfoldable pub raises : Set → Call → List Entry
raises s (find g) = at pq (block_of s g) ∷ []
raises s (range lo hi) = range_raises (block_of s lo) (block_of s hi)
raises s (range_days lo hi days) = range_raises (block_of s lo) (block_of s hi)
raises s (insert d) = at ins (block_of s d.grower) ∷ []
raises s (delete d) = cond (among d (held s)) (at de (block_of s d.grower) ∷ []) (at pq (block_of s d.grower) ∷ [])
raises s (move d g) = cond (among d (held s)) (move_raises s d.grower g) (at pq (block_of s d.grower) ∷ [])

-- L is the block limit
module _ (L : ℕ) where
  -- "ten histograms of 64 counts each stand in one slice of 640 numbers"
  abbrev pub histograms_size : ℕ
  histograms_size = 10 * L

  unfoldable pub slot : Entry → ℕ
  slot e = position e.histogram * L + e.block

  abbrev pub count : List ℕ → Entry → ℕ
  count hs e = get_or hs (slot e) 0

  -- one count raised by one; several, one after the other
  unfoldable pub raise : List ℕ → Entry → List ℕ
  raise hs e = set hs (slot e) (count hs e + 1)

  unfoldable pub raise_all : List ℕ → List Entry → List ℕ
  raise_all hs [] = hs
  raise_all hs (e ∷ es) = raise_all (raise hs e) es

  -- "a list starts from all zeros"
  abbrev pub zeros : List ℕ
  zeros = replicate histograms_size 0

  -- check 9: "is the histogram slice 640 long, no count above 1,000,000?"
  unfoldable pub counts_ok : List ℕ → Bool
  counts_ok hs = eqb (length hs) histograms_size && every (λ (n : ℕ). leb n most_count) hs

  -- check 10: "does each count to be raised stay within 1,000,000?"
  unfoldable pub room_to_raise : List ℕ → List Entry → Bool
  room_to_raise hs es = every (λ (e : Entry). ltb (count hs e) most_count) es
