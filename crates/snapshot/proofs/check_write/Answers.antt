-- Where the column's checks pass, 15 is put of the text's length.
use Rattle.std.proofs.Common.{sym, arith}
use Rattle.model.specs.Bounds.{block_limit}
use Rattle.model.proofs.Refusals.{refusal_some}
use Rattle.lines.proofs.Reading.{passed_on}
use Rattle.snapshot.proofs.WriteAnswers.{undated_of, records_many, column_refused, lent_there, days_refused, room_refused, write_passed}
use Rattle.snapshot.proofs.check_write.Goals as goal

pub returns-in_err-records-clause-refused : goal.returns-in_err-records-clause-refused
returns-in_err-records-clause-refused c =
    rw (passed_on _ _ c.from_residual.ensures.1) (column_refused block_limit _ _ _ c.in_err-records.ensures.refused (refusal_some _))

pub returns-then-not-undated-clause-refused : goal.returns-then-not-undated-clause-refused
returns-then-not-undated-clause-refused c =
    let p = sym c.in_ok-records.ensures.refused in
    let l = lent_there block_limit _ c.args.room p in
    days_refused block_limit _ _ p (undated_of block_limit _ l _ _ c.in_ok-records.ensures.accepted c.if-not-undated.ensures)

pub count-requires : goal.count-requires
count-requires c = (lent_there block_limit _ c.args.room (sym c.in_ok-records.ensures.refused)).shape.size

pub returns-then-room-count-clause-refused : goal.returns-then-room-count-clause-refused
returns-then-room-count-clause-refused c =
    let p = sym c.in_ok-records.ensures.refused in
    let l = lent_there block_limit _ c.args.room p in
    let m = records_many block_limit _ l _ c.in_ok-records.ensures.accepted in
    room_refused block_limit _ _ p (undated_of block_limit _ l _ _ c.in_ok-records.ensures.accepted c.if-not-undated.ensures) (omega (arith, m))

pub returns-clause-refused : goal.returns-clause-refused
returns-clause-refused c =
    let p = sym c.in_ok-records.ensures.refused in
    let l = lent_there block_limit _ c.args.room p in
    let m = records_many block_limit _ l _ c.in_ok-records.ensures.accepted in
    write_passed block_limit _ _ p (undated_of block_limit _ l _ _ c.in_ok-records.ensures.accepted c.if-not-undated.ensures) (omega (arith, m))
