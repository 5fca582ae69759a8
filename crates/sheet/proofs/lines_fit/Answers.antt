-- `sheet::lines_fit`: there are at most as many growers as slots, so that where a line for each slot fits, the sheet does; otherwise they are counted.
-- Assumes nothing.
use Rattle.std.proofs.Common.{◌*◌, ◌+◌, sym, arith}
use Rattle.model.specs.Lent.{records_given, span_given}
use borrow.Author.Tests.{le-leb}
use Rattle.sheet.proofs.SheetAnswers.{slots_few, growers_fewer}
use Rattle.sheet.proofs.lines_fit.Goals as goal

pub overflow_mul-k : goal.overflow_mul-k
overflow_mul-k c = omega (arith, slots_few (records_given c.args.r) (span_given c.args.days))

pub overflow_add-k : goal.overflow_add-k
overflow_add-k c = omega (arith, slots_few (records_given c.args.r) (span_given c.args.days))

pub overflow_mul-result : goal.overflow_mul-result
overflow_mul-result c = omega (arith, growers_fewer (records_given c.args.r) (span_given c.args.days), slots_few (records_given c.args.r) (span_given c.args.days))

pub overflow_add-result : goal.overflow_add-result
overflow_add-result c = omega (arith, growers_fewer (records_given c.args.r) (span_given c.args.days), slots_few (records_given c.args.r) (span_given c.args.days))

pub returns-then-k-room : goal.returns-then-k-room
returns-then-k-room c =
    let w = growers_fewer (records_given c.args.r) (span_given c.args.days) in
    rw (le-leb (81 * c.args.k + 61) c.args.room c.if-k-room.true) (sym (le-leb _ c.args.room (omega (arith, w, c.if-k-room.true))))
