-- `Task::entry`: the four cases of `val_of`.
use Rattle.std.proofs.Common.{arith}
use Rattle.layout_search.proofs.RowLaws.{val_whole, val_past, val_none, val_row}
use Rattle.layout_search.proofs.Task.entry.Goals as goal

pub returns-then-k-eq0 : goal.returns-then-k-eq0
returns-then-k-eq0 c = (omega arith, val_whole _ _ _ _ c.if-a-self.true c.if-k-eq0.true)

pub returns-else-k-eq0 : goal.returns-else-k-eq0
returns-else-k-eq0 c = let a = c.args in omega (arith, val_past _ a.table.now a.k a.a c.if-a-self.true (omega arith))

pub returns-then-k-eq0-2 : goal.returns-then-k-eq0-2
returns-then-k-eq0-2 c = omega (arith, val_none _ c.args.table.now _ _ c.if-a-self.false c.if-k-eq0-2.true)

pub returns-then-number-lt-NONE : goal.returns-then-number-lt-NONE
returns-then-number-lt-NONE c = let a = c.args in (c.if-number-lt-NONE.true, rw c.index.ensures (val_row _ a.table.now a.k a.a c.if-a-self.false (omega arith)))

pub returns-else-number-lt-NONE : goal.returns-else-number-lt-NONE
returns-else-number-lt-NONE c =
    let a = c.args in
    rw (← val_row _ a.table.now a.k a.a c.if-a-self.false (omega arith), ← c.index.ensures) c.if-number-lt-NONE.false
