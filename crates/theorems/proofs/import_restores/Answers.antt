-- `theorems::import_restores` meets its contract: the proof of the theorem, handed over. Assumes nothing.
use Rattle.theorems.proofs.Weighbridge.{import_restores}
use Rattle.theorems.proofs.import_restores.Goals as goal

pub returns : goal.returns
returns c = import_restores
