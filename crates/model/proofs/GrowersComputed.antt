-- The next grower's edges, each proved by computing. Assumes nothing.
use Prim.Native.Nat.{ℕ}
use mathlib.Core.Path.{refl}
use Rattle.model.specs.GrowerExamples.{NextGrowers, PreviousGrowers, NoGrower, GrowersScanned, GrowerPieces, GrowerQuestions}
use Rattle.model.proofs.Computing.{computed}

pub next_growers : NextGrowers
unfolding computed
next_growers = record { from_0 = refl; from_1 = refl; over_empty = refl; over_scanned = refl; from_empty = refl; past_fences = refl; greatest = refl }

pub previous_growers : PreviousGrowers
unfolding computed
previous_growers = record { from_greatest = refl; past_fences = refl; over_empty = refl; over_scanned = refl; from_empty = refl; to_0 = refl; least = refl }

pub no_grower : NoGrower
unfolding computed
no_grower = record { none_above = refl; none_below = refl; none_read = refl; empty_up = refl; empty_down = refl }

pub growers_scanned : GrowersScanned
unfolding computed
growers_scanned = record { heavy_scanned = refl; heavy_not-reached = refl; heavy_behind = refl; heavy_scanned_down = refl; heavy_not-reached_down = refl }

pub grower_pieces : GrowerPieces
unfolding computed
grower_pieces = record {
  smallest = refl;
  largest = refl;
  nothing = refl;
  grower_0 = refl;
  path_up = refl;
  path_down = refl;
  stops_at_once = refl;
  never_stops = refl;
  holds_himself = refl;
  holds_nothing = refl;
  counts_empty = refl;
  counts_last = refl;
  ledger_up = refl;
  ledger_down = refl;
  ledger_empty = refl;
}

pub grower_questions : (L : ℕ) → GrowerQuestions L
unfolding computed
grower_questions L = record { asked = λ c w g. refl }
