-- `theorems::theorems` meets its contract: the proofs of the theorems, handed over. Assumes nothing.
use Rattle.theorems.proofs.Ledger.{ledger_agrees_from, ledger_agrees}
use Rattle.theorems.proofs.Demand3.{plan_is_best}
use Rattle.theorems.proofs.Snapshot.{written_is_read, read_is_written}
use Rattle.theorems.proofs.theorems.Goals as goal

pub returns : goal.returns
returns c = (ledger_agrees_from, ledger_agrees, plan_is_best, written_is_read, read_is_written)
