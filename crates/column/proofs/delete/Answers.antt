-- `locate` puts every check and finds the slot. Where it accepts, partition and slot are there (`located_ready`), the counts are few, and what `take_out`
-- leaves is the model's delete.
use Rattle.std.proofs.Common.{arith, ◌≤◌}
use Rattle.std.proofs.lemmas.Result.{err_from_is_err_and}
use Rattle.model.specs.Bounds.{block_limit}
use Rattle.directory.proofs.Numbers.{has_onward}
use Rattle.column.proofs.Answering.{refused_by}
use Rattle.column.proofs.Writing.{located_ready, scan_small, delete_done}
use Rattle.column.proofs.delete.Goals as goal

pub returns-in_err-found : goal.returns-in_err-found
returns-in_err-found c =
    let p = err_from_is_err_and c.from_residual.result c.from_residual.ensures.1 in
    rw (p.1, p.2) (refused_by block_limit _ _ _ c.in_err-found.ensures)

pub onward-n-requires : goal.onward-n-requires
onward-n-requires c = (located_ready block_limit _ _ _ c.in_ok-found.ensures).0.here

pub overflow_add-n : goal.overflow_add-n
overflow_add-n c = omega (arith, c.onward-n.ensures, has_onward block_limit _ _ (located_ready block_limit _ _ _ c.in_ok-found.ensures).0.here)

pub with_more-counts-requires : goal.with_more-counts-requires
with_more-counts-requires c =
    let s = scan_small block_limit _ _ _ c.in_ok-found.ensures in
    let n : c.onward-n.result ≤ block_limit = omega (arith, c.onward-n.ensures, has_onward block_limit _ _ (located_ready block_limit _ _ _ c.in_ok-found.ensures).0.here) in
    (s.0, s.1, omega arith, omega arith)

pub take_out-requires : goal.take_out-requires
take_out-requires c = located_ready block_limit _ _ _ c.in_ok-found.ensures

pub returns : goal.returns
returns c =
    delete_done block_limit _ _ _ c.in_ok-found.ensures _ _ _ _ c.written.ensures c.take_out.ensures c.onward-n.ensures c.with_more-counts.ensures
