-- `theorems::every_permitted_listed` meets its contract: the proof of the theorem, handed over. Assumes nothing.
use Rattle.theorems.proofs.Listing.{every-permitted-listed}
use Rattle.theorems.proofs.every_permitted_listed.Goals as goal

pub returns : goal.returns
returns c = every-permitted-listed
