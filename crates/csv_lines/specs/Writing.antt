-- How many digits there are, and a line for each delivery.
use Rattle.std.specs.Prelude.{ℕ, ◌≤◌, ◌≡◌, cond, length, leb}
use mathlib.Core.List.{List, map, flatten}
use Rattle.model.specs.declared.Delivery.{Delivery}
use Rattle.model.specs.Lists.{sum_of}
use Rattle.model.specs.Weighbridge.{plain_number, row_line}

-- a count, and the most that it can be
pub record CountIs (r count most : ℕ) : Type 0 where
  pub is : r ≡ count
  pub few : r ≤ most

-- 1 for a number that is not below a bound
unfoldable pub reached : ℕ → ℕ → ℕ
reached bound n = cond (leb bound n) 1 0

-- how many digits numbers have together
unfoldable pub digit_count : List ℕ → ℕ
digit_count ns = sum_of (map (λ n. length (plain_number n)) ns)

-- a line for each delivery
abbrev pub row_lines : List Delivery → List ℕ
row_lines ds = flatten (map row_line ds)
