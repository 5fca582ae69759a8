-- Demand 3 is not hollow: 01's main case meets its conditions, and a list with every kind of call comes to one sum on both sides.
use Rattle.std.specs.Prelude.{◌<◌, ◌≡◌, List, [], ◌∷◌, map, length, T, pos}
use Rattle.model.specs.declared.Limits.{Limits}
use Rattle.model.specs.Bounds.{block_limit}
use Rattle.model.specs.Calendar.{span}
use Rattle.model.specs.Deliveries.{delivery}
use Rattle.model.specs.Calls.{Call, find, range, range_days, insert, delete, move}
use Rattle.model.specs.Prices.{factory, limits}
use Rattle.model.specs.Layouts.{permitted}
use Rattle.model.specs.Recorder.{accepted_from_zeros}
use Rattle.model.specs.Examples.{week, of, halves}
use Rattle.theorems.specs.Plan.{Admitted, cost, reported}

abbrev pub main_limits : Limits
main_limits = limits 100 100

pub record MainCaseMeets : Type 0 where
  pub admitted : Admitted block_limit factory main_limits week
  pub free : week.used < length week.slices.growers
  pub allowed : T (permitted factory main_limits week halves)

-- deliveries that are held and that are not, a range over no day, and three calls that the recorder refuses
abbrev pub mixed : List Call
mixed =
    find 99 ∷ range 15 75 ∷ range 5 4 ∷ range_days 15 75 (span 1 0) ∷ range_days 15 75 (span 0 36525)
    ∷ insert (of 90) ∷ insert (delivery 1 100001 0 0) ∷ delete (of 30) ∷ delete (of 31) ∷ move (of 20) 70 ∷ move (of 70) 20 ∷ move (of 71) 20 ∷ move (of 20) 25 ∷ []

pub record MixedSum : Type 0 where
  pub accepted : accepted_from_zeros block_limit week mixed
      ≡ find 99 ∷ range 15 75 ∷ range_days 15 75 (span 1 0) ∷ insert (of 90) ∷ delete (of 30) ∷ delete (of 31) ∷ move (of 20) 70 ∷ move (of 70) 20 ∷ move (of 71) 20 ∷ move (of 20) 25 ∷ []
  pub costs : cost mixed block_limit factory main_limits week halves ≡ pos 93
  pub each : map (reported block_limit factory week halves) (accepted_from_zeros block_limit week mixed) ≡ 4 ∷ 6 ∷ 6 ∷ 10 ∷ 16 ∷ 4 ∷ 16 ∷ 16 ∷ 4 ∷ 11 ∷ []
