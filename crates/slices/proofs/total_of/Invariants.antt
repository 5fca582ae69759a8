-- What the records passed so far add up to, and bounds of it; of those that pass the test, whatever test the closure computes (`Running`).
use Rattle.std.proofs.Common.{◌≡◌, Bool}
use Rattle.model.specs.declared.Delivery.{Delivery}
use Rattle.model.specs.Lent.{records_given}
use Rattle.slices.proofs.Scans.{Bounded, Running}
use Rattle.slices.proofs.total_of.Given as goal

abbrev pub invariant-loop-i : goal.invariant-loop-i
invariant-loop-i g l =
    Bounded l.records l.weight l.oil l.i
    × ((p : Delivery → Bool) → ((d : Delivery) (t : Bool) → goal.F-post g l.pass d t → t ≡ p d) → Running p (records_given l.r) l.records l.weight l.oil l.i)
