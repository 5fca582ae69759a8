use Rattle.csv_calls.proofs.NameLaws.{header_start, header_torn, header_broken, header_comma, header_end}
use Rattle.csv_calls.proofs.find_name.Goals as goal

pub loop-field-init : goal.loop-field-init
loop-field-init c = header_start _ _

pub returns-in_err-field : goal.returns-in_err-field
returns-in_err-field c = rw c.from_residual.ensures (header_torn c.loop-field.invariant c.in_err-field.ensures.is)

pub returns-in_err-next : goal.returns-in_err-next
returns-in_err-next c = rw c.from_residual-in_err-next.ensures (header_broken c.loop-field.invariant c.in_ok-field.ensures.is c.in_err-next.ensures)

pub loop-field-preserved : goal.loop-field-preserved
loop-field-preserved c =
    header_comma c.loop-field.invariant c.in_ok-field.ensures.is c.is_name-found.ensures c.with_column-s.ensures (rw c.in-Comma.is at c.in_ok-next.ensures)

pub returns-in-End : goal.returns-in-End
returns-in-End c =
    header_end c.loop-field.invariant c.in_ok-field.ensures.is c.is_name-found.ensures c.with_column.ensures (rw c.in-End.is at c.in_ok-next.ensures)
