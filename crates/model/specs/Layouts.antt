-- Layouts (01: the bill; permitted layouts; the read limit by 02). A layout is the list of its partitions' end blocks.
use Rattle.std.specs.Prelude.{ℕ, zero, suc, ◌+◌, ◌-◌, ◌*◌, ◌/◌, Bool, not, cond, ◌&&◌, List, [], ◌∷◌, ◌++◌, map, length, get_or, leb, ltb, eqb}
use Rattle.model.specs.declared.PriceCard.{PriceCard}
use Rattle.model.specs.declared.Limits.{Limits}
use Rattle.model.specs.Lists.{rising, every}
use Rattle.model.specs.Place.{place}
use Rattle.model.specs.Blocks.{Set, blocks}

-- the end block of partition p, and its first block
abbrev pub end_of : List ℕ → ℕ → ℕ
end_of ends p = get_or ends p 0

abbrev pub first_of : List ℕ → ℕ → ℕ
first_of ends p = get_or (0 ∷ map (λ (e : ℕ). e + 1) ends) p 0

-- the partition of block i: the first whose end is at least i
abbrev pub partition_of : List ℕ → ℕ → ℕ
partition_of ends i = place ends i

-- "b and f are the blocks before and after it in its partition"
unfoldable pub before : List ℕ → ℕ → ℕ
before ends i = i - first_of ends (partition_of ends i)

unfoldable pub after : List ℕ → ℕ → ℕ
after ends i = end_of ends (partition_of ends i) - i

-- "t(i) is the count of partitions from its own to the last, its own included"
unfoldable pub trailing : List ℕ → ℕ → ℕ
trailing ends i = length ends - partition_of ends i

-- "a layout is a rising list of end blocks; the last is N - 1"
unfoldable pub is_layout : ℕ → List ℕ → Bool
is_layout n ends = leb 1 (length ends) && rising ends && eqb (end_of ends (length ends - 1) + 1) n

-- end block e does not separate equal growers: the last of block e differs from the first of the next block, if there is one
abbrev pub separates_none : Set → ℕ → Bool
separates_none s e = not (ltb ((e + 1) * s.block) s.used && eqb (get_or s.slices.growers ((e + 1) * s.block - 1) 0) (get_or s.slices.growers ((e + 1) * s.block) 0))

-- check 6, of a layout: "counts in range, ends .. strictly rising, last end N - 1, no equal growers parted".
-- A rising list whose last is N - 1 has at most N ends, and check 4 keeps N within the block limit.
unfoldable pub layout_ok : Set → List ℕ → Bool
layout_ok s ends = is_layout (blocks s) ends && every (separates_none s) ends

-- how many blocks each partition has, the first of which begins at block a
unfoldable pub block_counts : ℕ → List ℕ → List ℕ
block_counts a [] = []
block_counts a (e ∷ es) = (e + 1 - a) ∷ block_counts (e + 1) es

-- "at most U / (RR + RW), rounded down, less 1 partitions"
unfoldable pub most_partitions : PriceCard → Limits → ℕ
most_partitions p l = l.insert / (p.rr + p.«rw») - 1

-- 02, Slip 2: "the longest partition becomes (R - RR) / SR, rounded down, plus 1. With R below RR there is still none."
unfoldable pub longest_partition : PriceCard → Limits → ℕ
longest_partition p l = cond (leb p.rr l.read) ((l.read - p.rr) / p.sr + 1) 0

-- permitted under the limits (01: permitted layouts)
unfoldable pub permitted : PriceCard → Limits → Set → List ℕ → Bool
permitted p l s ends =
    layout_ok s ends
    && leb (length ends) (most_partitions p l)
    && every (λ (n : ℕ). leb n (longest_partition p l)) (block_counts 0 ends)

-- Every layout of the blocks a to a + c, by the choice of the first end and then the rest:
-- the first end is a, and a layout of the rest follows; or the first end is later.
unfoldable pub layouts_from : ℕ → ℕ → List (List ℕ)
layouts_from a zero = (a ∷ []) ∷ []
layouts_from a (suc c) = map (λ (es : List ℕ). a ∷ es) (layouts_from (a + 1) c) ++ layouts_from (a + 1) c

-- every layout of n blocks
abbrev pub every_layout : ℕ → List (List ℕ)
every_layout n = layouts_from 0 (n - 1)
