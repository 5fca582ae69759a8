-- A field read at a cursor.
use Rattle.std.specs.Prelude.{ℕ, ◌+◌, ◌≤◌, ◌<◌, ◌≡◌, ◌≢◌, Bool, List, take, drop, get_or, replicate, Option, Some, None}
use mathlib.Core.Option as maybe
use mathlib.Core.Option.{none, some}
use Rattle.model.specs.Lists.{and_then, value_or, is_some}
use Rattle.model.specs.Fields.{field_width, read_field, blank}

-- a number and where the text goes on
pub record Read : Type 0 where
  pub number : ℕ
  pub next : ℕ

-- the pair by the names of its parts
abbrev pub read_of : Option (ℕ × ℕ) → maybe.Option Read
read_of (Some x) = some (record { number = x.0; next = x.1 })
read_of None = none

-- the columns of the field at a cursor
abbrev pub field_at : ℕ → List ℕ → List ℕ
field_at at text = take field_width (drop at text)

-- "each number is taken whole": the number at a cursor
unfoldable pub read_at : List ℕ → ℕ → maybe.Option Read
read_at text at = and_then (read_field (field_at at text)) (λ n. some (record { number = n; next = at + field_width }))

-- is there one? And which, 0 where there is none
unfoldable pub field_ok : ℕ → List ℕ → Bool
field_ok at text = is_some (read_field (field_at at text))

unfoldable pub value_at : ℕ → List ℕ → ℕ
value_at at text = value_or 0 (read_field (field_at at text))

-- r columns from a cursor on are blank, and the next one is not, if it is not the last
pub record Blanks (text : List ℕ) (at r : ℕ) : Type 0 where
  pub few : r ≤ 10
  pub all : take r (drop at text) ≡ replicate r blank
  pub next : r < 10 → get_or text (at + r) 0 ≢ blank
