-- Layouts of which some ends are chosen: how they can go on, and the lines of those that do.
use Rattle.std.specs.Prelude.{ℕ, ◌+◌, ◌-◌, ◌*◌, ◌^◌, ◌≤◌, ◌<◌, ◌≡◌, Bool, false, ◌&&◌, length, get_or, take, leb, ℤ}
use mathlib.Core.List.{List, [], ◌∷◌, ◌++◌, map, flatten}
use Rattle.std.proofs.Math.IntN.{sub_ℕ}
use Rattle.model.specs.Bounds.{most_listed_blocks}
use Rattle.model.specs.Lists.{sum_of, keep}
use Rattle.model.specs.Layouts.{layouts_from}
use Rattle.model.specs.Fields.{number_field, signed_field, line}
use Rattle.layout_search.specs.RunningSums.{partition_ok, end_up, end_down, up_by, down_by}
use Rattle.fields.specs.Writing.{placed, Wrote}

-- May ends es follow k that are chosen, the next partition beginning at block a? Each partition may be one (`ok`), and in all there are at most `most`.
unfoldable pub rest_ok : (ℕ → ℕ → Bool) → ℕ → ℕ → ℕ → List ℕ → Bool
rest_ok ok most k a [] = leb k most
rest_ok ok most k a (e ∷ es) = ok a e && rest_ok ok most (k + 1) (e + 1) es

-- the flags say where an end may stand, and a partition has at most `longest` blocks
abbrev pub ok_by : List Bool → ℕ → ℕ → ℕ → Bool
ok_by fits longest = partition_ok longest (λ i. get_or fits i false)

-- all that may follow among the blocks i to n - 1, "those with an earlier end at the first difference first"
unfoldable pub rests : (ℕ → ℕ → Bool) → ℕ → ℕ → ℕ → ℕ → ℕ → List (List ℕ)
rests ok most n k a i = keep (rest_ok ok most k a) (layouts_from i (n - 1 - i))

-- the bytes of the line of a layout with k ends and those of es
abbrev pub line_bytes : ℕ → List ℕ → ℕ
line_bytes k es = 32 + 11 * (k + length es)

-- how many layouts there are, and the bytes of their lines
pub record LinesSize (layouts bytes k : ℕ) (ls : List (List ℕ)) : Type 0 where
  pub count : layouts ≡ length ls
  pub size : bytes ≡ sum_of (map (line_bytes k) ls)

-- the cost of a layout whose partitions before block a have the number m, 2 ^ 60 and what they add, and that goes on with es
abbrev pub cost_after : List ℕ → ℕ → ℕ → List ℕ → ℤ
cost_after sums m a es = sub_ℕ (m + up_by sums a es) (2 ^ 60 + down_by sums es)

-- its line, where `front` is the fields of the k ends that are chosen
unfoldable pub line_after : List ℕ → ℕ → ℕ → ℕ → List ℕ → List ℕ → List ℕ
line_after sums k a m front es = number_field (k + length es) ++ (signed_field (cost_after sums m a es) ++ (front ++ line es))

unfoldable pub lines_after : List ℕ → ℕ → ℕ → ℕ → List ℕ → List (List ℕ) → List ℕ
lines_after sums k a m front ls = flatten (map (line_after sums k a m front) ls)

-- k ends are chosen among the blocks before i of n, the last of them just before block a
pub record Choosing (n k a i : ℕ) : Type 0 where
  pub inside : i < n
  pub first : a ≤ i
  pub count : k ≤ a

-- and there is room for the fields of all ends, and a number m that stays near 2 ^ 60
pub record Carrying (k m : ℕ) (row : List ℕ) : Type 0 where
  pub room : 11 * most_listed_blocks ≤ length row
  pub high : m ≤ 2 ^ 60 + k * 2 ^ 52
  pub low : 2 ^ 60 ≤ m + k * 2 ^ 52

-- block i ends the partition that begins at block a: `next` is m and its part of the cost, and its field stands behind those of the k ends before it
pub record Chose (sums : List ℕ) (a i k m : ℕ) (row : List ℕ) (next : ℕ) (new : List ℕ) : Type 0 where
  pub is : next + end_down sums i ≡ m + end_up sums a i
  pub field : new ≡ placed (11 * k) (number_field i) row
  pub carrying : Carrying (k + 1) next new

-- the lines of layouts that go on with ls, written into t at a cursor: the text and the row afterwards, and where the text goes on; the chosen fields stay
pub record PutLines (sums : List ℕ) (k a m : ℕ) (ls : List (List ℕ)) (row t : List ℕ) (at : ℕ) (row' t' : List ℕ) (next : ℕ) : Type 0 where
  pub wrote : Wrote t at (lines_after sums k a m (take (11 * k) row) ls) t' next
  pub kept : take (11 * k) row' ≡ take (11 * k) row
