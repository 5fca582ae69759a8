-- `growers::near_all`: where i strides are passed, the search is that of their records.
use Rattle.std.proofs.Common.{◌*◌, Some}
use Rattle.model.specs.Lent.{records_given}
use Rattle.growers.proofs.Joining.{Onward}
use Rattle.growers.proofs.near_all.Given as goal

abbrev pub invariant-loop-i : goal.invariant-loop-i
invariant-loop-i g l = Onward g.W.Way.direction l.fn.grower (records_given l.fn.r) (Some l.so_far) (64 * l.i)
