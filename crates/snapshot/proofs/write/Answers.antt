-- A refused column leaves the text; there is room for the lines of another, put one group behind the other.
use Rattle.std.proofs.Common.{refl, sym, ◌∙◌, arith}
use Rattle.model.specs.Bounds.{block_limit}
use Rattle.lines.proofs.Reading.{passed_on}
use Rattle.directory.proofs.LentColumns.{numbered}
use Rattle.snapshot.proofs.WriteAnswers.{parts_lent, records_many, write_refused, can_write, write_done}
use Rattle.snapshot.proofs.write.Goals as goal

pub returns-in_err-records : goal.returns-in_err-records
returns-in_err-records c = rw (passed_on _ _ c.from_residual.ensures.1) (write_refused block_limit _ _ _ c.in_err-records.ensures.refused)

pub count-count-requires : goal.count-count-requires
count-count-requires c = (can_write block_limit _ _ (sym c.in_ok-records.ensures.refused)).lent.shape.size

pub block-requires : goal.block-requires
block-requires c = (can_write block_limit _ _ (sym c.in_ok-records.ensures.refused)).lent.shape.size

pub put_line-requires : goal.put_line-requires
put_line-requires c = omega (arith, (can_write block_limit _ _ (sym c.in_ok-records.ensures.refused)).room)

pub lengths-requires : goal.lengths-requires
lengths-requires c = numbered block_limit _ (can_write block_limit _ _ (sym c.in_ok-records.ensures.refused)).lent

pub fences-requires : goal.fences-requires
fences-requires c = numbered block_limit _ (can_write block_limit _ _ (sym c.in_ok-records.ensures.refused)).lent

pub put_parts-requires : goal.put_parts-requires
put_parts-requires c =
    let w = can_write block_limit _ _ (sym c.in_ok-records.ensures.refused) in
    let p = parts_lent block_limit _ w.lent c.lengths.ensures c.fences.ensures in
    (p.even, omega (arith, w.room, p.many))

pub put_rows-requires : goal.put_rows-requires
put_rows-requires c =
    let w = can_write block_limit _ _ (sym c.in_ok-records.ensures.refused) in
    omega (arith, w.room, records_many block_limit _ w.lent _ c.in_ok-records.ensures.accepted)

pub returns : goal.returns
returns c =
    let w = can_write block_limit _ _ (sym c.in_ok-records.ensures.refused) in
    let m = records_many block_limit _ w.lent _ c.in_ok-records.ensures.accepted in
    write_done block_limit _ _ w _ _ _ _ _ _ _ _ _ _ c.block.ensures (c.len-used.ensures ∙ m) c.count-count.ensures refl c.in_ok-records.ensures.accepted
    c.lengths.ensures c.fences.ensures c.put_line.ensures c.put_parts.ensures c.put_rows.ensures
