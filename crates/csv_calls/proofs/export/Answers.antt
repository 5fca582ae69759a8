-- Where every check passes, the header line and the lines behind it are the text.
use Rattle.std.proofs.lemmas.Result.{err_from_is_err_and}
use Rattle.csv_calls.proofs.ExportAnswers.{export_refused, header_room, rows_room, export_done}
use Rattle.csv_calls.proofs.export.Goals as goal

pub returns-in_err-records : goal.returns-in_err-records
returns-in_err-records c =
    let p = err_from_is_err_and c.from_residual.result c.from_residual.ensures.1 in rw (p.1, p.2) (export_refused _ _ _ _ c.in_err-records.ensures.refused)

pub put_header-start-requires : goal.put_header-start-requires
put_header-start-requires c = header_room _ _ _ c.in_ok-records.ensures.accepted c.in_ok-records.ensures.refused

pub put_rows-end-requires : goal.put_rows-end-requires
put_rows-end-requires c =
    let r = c.in_ok-records.ensures in rows_room _ _ _ r.accepted r.refused c.put_header-start.ensures

pub returns : goal.returns
returns c = let r = c.in_ok-records.ensures in export_done _ _ _ r.accepted r.refused c.put_header-start.ensures c.put_rows-end.ensures
