-- `layplan_text::call_by`: each kind's call. Assumes nothing.
use Rattle.std.proofs.Common.{arith}
use Rattle.layplan_text.proofs.CallLaws.{by_find, by_range, by_insert, by_delete, by_move}
use Rattle.layplan_text.proofs.call_by.Goals as goal

pub returns-in-1 : goal.returns-in-1
returns-in-1 c = by_find c.args.numbers c.in-1.is

pub returns-in-2 : goal.returns-in-2
returns-in-2 c = by_range c.args.numbers c.in-2.is

pub returns-in-3 : goal.returns-in-3
returns-in-3 c = by_insert c.args.numbers c.in-3.is

pub returns-in-4 : goal.returns-in-4
returns-in-4 c = by_delete c.args.numbers c.in-4.is

pub returns-in_default : goal.returns-in_default
returns-in_default c = by_move c.args.numbers (λ e. omega arith) (λ e. omega arith) (λ e. omega arith) (λ e. omega arith)
