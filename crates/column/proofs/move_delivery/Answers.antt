-- `locate` puts every check and finds the slot. Where it accepts, both growers have a partition, so that the counts are few, and what `shift` leaves is the
-- model's move.
use Rattle.std.proofs.Common.{arith, ◌≤◌}
use Rattle.std.proofs.lemmas.Result.{err_from_is_err_and}
use Rattle.model.specs.Bounds.{block_limit}
use Rattle.directory.proofs.LentColumns.{lent_column, most_shaped}
use Rattle.column.proofs.Answering.{refused_by}
use Rattle.column.proofs.Writing.{located_lent, located_ready, scan_small, move_refused, move_few, move_done}
use Rattle.column.proofs.move_delivery.Goals as goal

pub returns-in_err-found : goal.returns-in_err-found
returns-in_err-found c =
    let p = err_from_is_err_and c.from_residual.result c.from_residual.ensures.1 in
    rw (p.1, p.2) (refused_by block_limit _ _ _ (move_refused block_limit _ _ _ _ c.in_err-found.ensures))

pub partition_of-to-requires : goal.partition_of-to-requires
partition_of-to-requires c = most_shaped block_limit _ (lent_column block_limit _ (located_lent block_limit _ _ _ c.in_ok-found.ensures))

pub overflow_add-n : goal.overflow_add-n
overflow_add-n c = omega (arith, (move_few block_limit _ _ _ c.in_ok-found.ensures _ _ _ c.partition_of-to.ensures c.abs_diff-n.ensures).1)

pub overflow_add-n-2 : goal.overflow_add-n-2
overflow_add-n-2 c = omega (arith, (move_few block_limit _ _ _ c.in_ok-found.ensures _ _ _ c.partition_of-to.ensures c.abs_diff-n.ensures).1)

pub with_more-counts-requires : goal.with_more-counts-requires
with_more-counts-requires c =
    let s = scan_small block_limit _ _ _ c.in_ok-found.ensures in
    let n : c.abs_diff-n.result ≤ block_limit = (move_few block_limit _ _ _ c.in_ok-found.ensures _ _ _ c.partition_of-to.ensures c.abs_diff-n.ensures).1 in
    (s.0, s.1, omega arith, omega arith)

pub shift-requires : goal.shift-requires
shift-requires c =
    let r = located_ready block_limit _ _ _ c.in_ok-found.ensures in
    (r.0, r.1, (move_few block_limit _ _ _ c.in_ok-found.ensures _ _ _ c.partition_of-to.ensures c.abs_diff-n.ensures).0)

pub returns : goal.returns
returns c =
    move_done block_limit _ _ _ c.in_ok-found.ensures _ _ _ _ c.written.ensures c.args.new_grower _ c.partition_of-to.ensures c.shift.ensures c.abs_diff-n.ensures
    c.with_more-counts.ensures
