-- The examples of specs/PlanExample.antt, each proved by computing. Assumes nothing.
use mathlib.Core.Path.{refl}
use native.Mathlib.Omega.{arith}
use Rattle.model.proofs.Computing.{computed}
use Rattle.theorems.specs.PlanExample.{MainCaseMeets, MixedSum}

pub main_case_meets : MainCaseMeets
unfolding computed
main_case_meets = record { admitted = refl; free = omega arith; allowed = tt }

pub mixed-sum : MixedSum
unfolding computed
mixed-sum = record { accepted = refl; costs = refl; each = refl }
