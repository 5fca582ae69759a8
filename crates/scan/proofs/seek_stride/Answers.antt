-- The first match among the records lent is one of them, or past them.
use Rattle.std.proofs.Common.{arith}
use Rattle.model.specs.Lent.{records_given}
use Rattle.model.specs.Deliveries.{rows}
use Rattle.model.proofs.Deliveries.{length-rows}
use Rattle.slices.proofs.Matching.{first_most}
use Rattle.scan.proofs.seek_stride.Goals as goal

pub overflow_add-result : goal.overflow_add-result
overflow_add-result c =
    let s = records_given c.args.r in
    omega (arith, c.first_in_stride.ensures, first_most c.args.d (rows s), length-rows s c.args.r.even, c.args.r.few)
