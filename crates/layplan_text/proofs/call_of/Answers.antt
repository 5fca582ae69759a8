-- `layplan_text::call_of`: each kind has its own unused numbers. Assumes nothing.
use Rattle.std.proofs.Common.{arith}
use Rattle.layplan_text.proofs.CallLaws.{said_find, said_range, said_insert, said_delete, said_move, said_none}
use Rattle.layplan_text.proofs.call_of.Goals as goal
use Rattle.layplan_text.proofs.call_of.Goals.{in-1, in-2, in-3, in-4, in-5}

pub returns : goal.returns
returns c =
    elim c.match-kind.branch [
      | in-1 w ↦ said_find c.args.numbers _ c.call_by.ensures c.then_some.ensures w.in-1.is w.unused-is
      | in-2 w ↦ said_range c.args.numbers _ c.call_by.ensures c.then_some.ensures w.in-2.is w.unused-is
      | in-3 w ↦ said_insert c.args.numbers _ c.call_by.ensures c.then_some.ensures w.in-3.is w.unused-is
      | in-4 w ↦ said_delete c.args.numbers _ c.call_by.ensures c.then_some.ensures w.in-4.is w.unused-is
      | in-5 w ↦ said_move c.args.numbers _ c.call_by.ensures c.then_some.ensures w.in-5.is w.unused-is
    ]

pub returns-in_default : goal.returns-in_default
returns-in_default c = said_none c.args.numbers (λ e. omega arith) (λ e. omega arith) (λ e. omega arith) (λ e. omega arith) (λ e. omega arith)
