-- A text's line 1, its partition lines and its delivery lines, each number at the byte where it stands.
use Rattle.std.specs.Prelude.{ℕ, zero, suc, ◌+◌, ◌-◌, ◌*◌, Bool, true, cond, ◌&&◌, List, [], ◌∷◌, length, get_or, leb, ltb, eqb, Result, Ok, Err}
use Rattle.model.specs.declared.refusal.Refusal.{Refusal}
use Rattle.model.specs.declared.refusal.Refusal.TheVariants.{Text}
use Rattle.model.specs.Bounds.{most_number}
use Rattle.model.specs.Lists.{every}
use Rattle.model.specs.Deliveries.{in_range}
use Rattle.model.specs.Directory.{Directory, directory_numbers}
use Rattle.model.specs.Fields.{nth}
use Rattle.model.specs.Snapshot.{Header, header_ok, header_of, delivery_of}
use Rattle.lines.specs.Lines.{column_at, line_ok, lines_ok}
use Rattle.snapshot.specs.declared.Head.{Head}

-- line 1: "three such numbers in range"
abbrev pub header_at : List ℕ → Header
header_at t = header_of (column_at 11 0 3 t)

abbrev pub head_in : Header → Head
head_in h = record { block = h.block; used = h.used; count = h.count }

-- k partition lines behind it: "length, fence"
abbrev pub directory_at : ℕ → ℕ → List ℕ → Directory
directory_at b k t = record { block = b; lengths = column_at 23 34 k t; fences = column_at 23 45 k t }

-- L is the block limit
module _ (L : ℕ) where
  unfoldable pub head_ok : List ℕ → Bool
  head_ok t = line_ok 3 0 t && header_ok L (header_at t)

  abbrev pub head_found : List ℕ → Result Head Refusal
  head_found t = cond (head_ok t) (Ok (head_in (header_at t))) (Err Text)

  abbrev pub listed_in : ℕ → ℕ → List ℕ → Result (List ℕ) Refusal
  listed_in b k t = cond (lines_ok 2 k 34 t) (Ok (directory_numbers L (directory_at b k t))) (Err Text)

-- a partition's growers: above the fence before it; up to its own, the last partition open above
unfoldable pub low_of : List ℕ → ℕ → ℕ
low_of fences p = cond (eqb p 0) 0 (get_or fences (p - 1) 0 + 1)

unfoldable pub high_of : List ℕ → ℕ → ℕ
high_of fences p = cond (ltb (p + 1) (length fences)) (get_or fences p 0) most_number

-- none is below m
abbrev pub all_from : ℕ → List ℕ → Bool
all_from m s = every (λ (n : ℕ). leb m n) s

-- a delivery's numbers: the grower lo to hi, weight and yield in range
abbrev pub row_ok : ℕ → ℕ → List ℕ → Bool
row_ok lo hi l = leb lo (nth 0 l) && leb (nth 0 l) hi && in_range (delivery_of l)

-- such a line at a byte, and n of them
unfoldable pub delivery_ok : ℕ → ℕ → ℕ → List ℕ → Bool
delivery_ok lo hi at t = line_ok 3 at t && row_ok lo hi (column_at 11 at 3 t)

unfoldable pub deliveries_ok : ℕ → ℕ → ℕ → ℕ → List ℕ → Bool
deliveries_ok lo hi zero at t = true
deliveries_ok lo hi (suc n) at t = delivery_ok lo hi at t && deliveries_ok lo hi n (at + 34) t

-- the delivery lines of partitions p, p + 1, .. from a byte on
unfoldable pub parts_ok : List ℕ → ℕ → List ℕ → ℕ → List ℕ → Bool
parts_ok fences p [] at t = true
parts_ok fences p (n ∷ ns) at t = deliveries_ok (low_of fences p) (high_of fences p) n at t && parts_ok fences (p + 1) ns (at + 34 * n) t
