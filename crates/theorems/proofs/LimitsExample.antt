-- The examples of specs/LimitsExample.antt, each proved by computing; what is said of all growers of a set is computed of each. Assumes nothing.
use Prim.Native.Nat.{ℕ, ◌<◌}
use mathlib.Core.Path.{refl, subst, ◌∙◌}
use mathlib.Core.Bool.{Bool}
use native.Mathlib.Omega.{arith}
use lib.Dec.{T, leb, leb→le}
use lib.ListN.{get_or}
use Rattle.model.specs.Bounds.{block_limit}
use Rattle.model.specs.Lists.{up_from, every}
use Rattle.model.specs.Deliveries.{delivery}
use Rattle.model.specs.Calls.{Call, find, insert}
use Rattle.model.specs.Prices.{factory}
use Rattle.model.specs.Examples.{halves}
use Rattle.model.proofs.ListLaws.{at_up_from, length_up_from, every-at}
use Rattle.model.proofs.Computing.{computed}
use Rattle.theorems.specs.Plan.{reported}
use Rattle.theorems.specs.LimitsExample.{MetExactly, full_week, FreeSlotNeeded}

pub met_exactly : MetExactly
unfolding computed
met_exactly = record { find_30 = refl; read_4 = refl; read_3 = refl; find_30_alone = refl; alone_3 = refl; alone_2 = refl; insert_15 = refl; limit_15 = refl; limit_14 = refl }

-- a test that is passed by all numbers below n
each_below : (f : ℕ → Bool) (n i : ℕ) → T (every f (up_from 0 n)) → i < n → T (f i)
each_below f n i t v = subst (λ (j : ℕ). T (f j)) (at_up_from 0 n i v ∙ omega arith) (every-at f (up_from 0 n) i t (rw (length_up_from 0 n) v))

-- the call of the grower in slot i costs at most u
abbrev costs_at_most : (ℕ → Call) → ℕ → ℕ → Bool
costs_at_most call u i = leb (reported block_limit factory full_week halves (call (get_or full_week.slices.growers i 0))) u

pub free-slot_needed : FreeSlotNeeded
unfolding computed
free-slot_needed = record {
  admitted = refl;
  shape = tt;
  refused = refl;
  within = record {
    finds = λ i v. leb→le _ 100 (each_below (costs_at_most find 100) 8 i tt v);
    inserts = λ i v. leb→le _ 14 (each_below (costs_at_most (λ g. insert (delivery g 0 0 0)) 14) 8 i tt v);
  };
  not_allowed = refl;
}
