-- A refused text leaves the slices; the lines of an accepted one are good, so that each slice takes its column.
use Rattle.std.proofs.Common.{Err, ap, ◌∙◌, arith}
use Rattle.model.specs.Bounds.{block_limit}
use Rattle.lines.proofs.Reading.{passed_on}
use Rattle.lines.proofs.Storing.{front_length, front_ok, front_stored}
use Rattle.snapshot.proofs.ReadAnswers.{stored, rooms, read_three, read_refused, read_done}
use Rattle.snapshot.proofs.read.Goals as goal

pub returns-in_err-records : goal.returns-in_err-records
returns-in_err-records c =
    let h = c.in_err-records.ensures.refused in
    let e = passed_on _ _ c.from_residual.ensures.1 ∙ ap Err h.0 in
    rw e (read_three _ _ h.1)

pub returns-in_err-j : goal.returns-in_err-j
returns-in_err-j c =
    rw (passed_on _ _ c.from_residual-in_err-j.ensures.1) (read_refused _ _ c.in_ok-records.ensures.accepted.0 _ c.in_err-j.ensures)

pub slice_bounds-store-end : goal.slice_bounds-store-end
slice_bounds-store-end c = (stored block_limit _ _ _ c.in_ok-j.ensures).room

pub slice_bounds-store-end-2 : goal.slice_bounds-store-end-2
slice_bounds-store-end-2 c = front_length c.args.text.now 0 _ _ (stored block_limit _ _ _ c.in_ok-j.ensures).room

pub store-requires : goal.store-requires
store-requires c =
    let w = stored block_limit _ _ _ c.in_ok-j.ensures in
    let m = front_length c.args.text.now 0 _ _ w.room in
    (omega (arith, w.begins), omega (arith, m, w.used), front_ok _ _ _ _ w.room w.growers)

pub overflow_add-j : goal.overflow_add-j
overflow_add-j c = omega (arith, (stored block_limit _ _ _ c.in_ok-j.ensures).begins)

pub slice_bounds-store-end-3 : goal.slice_bounds-store-end-3
slice_bounds-store-end-3 c = (rooms _ _ c.in_ok-records.ensures.accepted.0 (stored block_limit _ _ _ c.in_ok-j.ensures).room).weights

pub slice_bounds-store-end-4 : goal.slice_bounds-store-end-4
slice_bounds-store-end-4 c =
    front_length c.args.text.now 0 _ _ (rooms _ _ c.in_ok-records.ensures.accepted.0 (stored block_limit _ _ _ c.in_ok-j.ensures).room).weights

pub store-requires-2 : goal.store-requires-2
store-requires-2 c =
    let w = stored block_limit _ _ _ c.in_ok-j.ensures in
    let r = (rooms _ _ c.in_ok-records.ensures.accepted.0 w.room).weights in
    let m = front_length c.args.text.now 0 _ _ r in
    (omega (arith, w.begins), omega (arith, m, w.used), front_ok _ _ _ _ r w.weights)

pub overflow_add-j-2 : goal.overflow_add-j-2
overflow_add-j-2 c = omega (arith, (stored block_limit _ _ _ c.in_ok-j.ensures).begins)

pub slice_bounds-store-end-5 : goal.slice_bounds-store-end-5
slice_bounds-store-end-5 c = (rooms _ _ c.in_ok-records.ensures.accepted.0 (stored block_limit _ _ _ c.in_ok-j.ensures).room).yields

pub slice_bounds-store-end-6 : goal.slice_bounds-store-end-6
slice_bounds-store-end-6 c =
    front_length c.args.text.now 0 _ _ (rooms _ _ c.in_ok-records.ensures.accepted.0 (stored block_limit _ _ _ c.in_ok-j.ensures).room).yields

pub store-requires-3 : goal.store-requires-3
store-requires-3 c =
    let w = stored block_limit _ _ _ c.in_ok-j.ensures in
    let r = (rooms _ _ c.in_ok-records.ensures.accepted.0 w.room).yields in
    let m = front_length c.args.text.now 0 _ _ r in
    (omega (arith, w.begins), omega (arith, m, w.used), front_ok _ _ _ _ r w.yields)

pub slice_bounds-fill-end : goal.slice_bounds-fill-end
slice_bounds-fill-end c = (rooms _ _ c.in_ok-records.ensures.accepted.0 (stored block_limit _ _ _ c.in_ok-j.ensures).room).days

pub slice_bounds-fill-end-2 : goal.slice_bounds-fill-end-2
slice_bounds-fill-end-2 c =
    front_length c.args.text.now 0 _ _ (rooms _ _ c.in_ok-records.ensures.accepted.0 (stored block_limit _ _ _ c.in_ok-j.ensures).room).days

pub returns : goal.returns
returns c =
    let w = stored block_limit _ _ _ c.in_ok-j.ensures in
    let r = rooms _ _ c.in_ok-records.ensures.accepted.0 w.room in
    read_done _ _ c.in_ok-records.ensures.accepted.0 _ c.in_ok-j.ensures _ _ _ _
    (front_stored _ _ _ _ r.growers _ c.store.ensures) (front_stored _ _ _ _ r.weights _ c.store-2.ensures) (front_stored _ _ _ _ r.yields _ c.store-3.ensures)
    (c.fill.ensures.after (λ y e. e)) r.days
