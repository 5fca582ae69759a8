-- `open` puts every check. Where it accepts, the partition is there with room (`open_ready`), and what `put` leaves is the model's insert.
use Rattle.std.proofs.Common.{arith}
use Rattle.std.proofs.lemmas.Result.{err_from_is_err_and}
use Rattle.model.specs.Bounds.{block_limit}
use Rattle.directory.proofs.Numbers.{has_onward}
use Rattle.column.proofs.Answering.{refused_by}
use Rattle.column.proofs.Writing.{open_ready, insert_refused, insert_done}
use Rattle.column.proofs.insert.Goals as goal

pub returns-in_err-place : goal.returns-in_err-place
returns-in_err-place c =
    let p = err_from_is_err_and c.from_residual.result c.from_residual.ensures.1 in
    rw p.1 (refused_by block_limit _ _ _ (insert_refused block_limit _ _ _ _ p.2 c.in_err-place.ensures.refused))

pub onward-each-requires : goal.onward-each-requires
onward-each-requires c = (open_ready block_limit _ _ _ c.in_ok-place.ensures.accepted).here

pub overflow_add-each : goal.overflow_add-each
overflow_add-each c = omega (arith, c.onward-each.ensures, has_onward block_limit _ _ (open_ready block_limit _ _ _ c.in_ok-place.ensures.accepted).here)

pub put-requires : goal.put-requires
put-requires c = let o = c.in_ok-place.ensures.accepted in (open_ready block_limit _ _ _ o, o.used_is, o.free)

pub returns : goal.returns
returns c = insert_done block_limit _ _ _ c.in_ok-place.ensures.accepted _ _ _ c.put.ensures c.onward-each.ensures c.written.ensures
