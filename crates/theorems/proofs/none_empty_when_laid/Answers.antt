-- `theorems::none_empty_when_laid` meets its contract: the proof of the theorem, handed over. Assumes nothing.
use Rattle.theorems.proofs.LaidColumn.{none_empty_when_laid}
use Rattle.theorems.proofs.none_empty_when_laid.Goals as goal

pub returns : goal.returns
returns c = none_empty_when_laid
