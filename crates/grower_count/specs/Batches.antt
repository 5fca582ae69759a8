-- A batch of slots: filled, cut down to one slot for each grower, and what it holds when slots have been in it.
use Rattle.std.specs.Prelude.{ℕ, ◌+◌, ◌≤◌, ◌≡◌, Bool, not, ◌&&◌, List, ◌++◌, length, get_or, take, T, leb, ltb, eqb}
use Rattle.model.specs.Lists.{up_from, keep}
use Rattle.model.specs.Calendar.{is_in}
use Rattle.model.specs.Lent.{span_given}
use Rattle.model.specs.Sheet.{each_once}
use Rattle.slot_order.specs.Passes.{slots_in, growers_at}
use Rattle.grower_count.specs.declared.Wanted.{Wanted}

-- how many growers are counted at a time
abbrev pub most_at_once : ℕ
most_at_once = 8192

-- is a slot's day one of those wanted?
abbrev pub during : Wanted → List ℕ → ℕ → Bool
during q ns i = is_in (span_given q.days) (get_or ns i 0)

-- the growers that are at least lo, of the slots before slot i that pass a test p
abbrev pub growers_before : List ℕ → (ℕ → Bool) → ℕ → ℕ → List ℕ
growers_before gs p lo i = keep (leb lo) (growers_at gs (keep p (up_from 0 i)))

-- does slot i pass, is its grower at least lo, and not that of slot j before it, which passes?
abbrev pub is_new : List ℕ → (ℕ → Bool) → ℕ → ℕ → ℕ → Bool
is_new gs p lo i j = p i && leb lo (get_or gs i 0) && not (ltb j i && eqb (get_or gs j 0) (get_or gs i 0) && p j)

-- a batch that held slots and was filled from a slot on: slots were added behind them, and with these it has each grower, of those at least
-- lo, that the slots before the next one that pass have
pub record FilledUp (gs : List ℕ) (p : ℕ → Bool) (lo from : ℕ) (old : List ℕ) (held : ℕ) (batch : List ℕ) (count next : ℕ) : Type 0 where
  pub added : List ℕ
  pub front : take count batch ≡ take held old ++ added
  pub many : count ≡ held + length added
  pub same_length : length batch ≡ length old
  pub room : count ≤ length old
  pub inside : next ≤ length gs
  pub there : T (slots_in gs added)
  pub covers : each_once (growers_before gs p lo from ++ growers_at gs added) ≡ each_once (growers_before gs p lo next)

-- a batch cut down to one slot for each grower
pub record Cut (gs old batch : List ℕ) (count : ℕ) : Type 0 where
  pub same_length : length batch ≡ length old
  pub room : count ≤ length old
  pub there : T (slots_in gs (take count batch))
  pub growers : growers_at gs (take count batch) ≡ each_once (growers_at gs old)

-- a batch cut down to one slot for each of the smallest growers, as many as are counted at a time
pub record Smallest (gs old batch : List ℕ) (count : ℕ) : Type 0 where
  pub same_length : length batch ≡ length old
  pub room : count ≤ length old
  pub few : count ≤ most_at_once
  pub there : T (slots_in gs (take count batch))
  pub growers : growers_at gs (take count batch) ≡ take most_at_once (each_once (growers_at gs old))

-- a slot for each of the smallest growers that are at least lo, as many as are counted at a time, of the slots before the next
-- one that pass
pub record Window (gs : List ℕ) (p : ℕ → Bool) (lo next : ℕ) (batch : List ℕ) (count : ℕ) : Type 0 where
  pub few : count ≤ most_at_once
  pub there : T (slots_in gs (take count batch))
  pub growers : growers_at gs (take count batch) ≡ take most_at_once (each_once (growers_before gs p lo next))
