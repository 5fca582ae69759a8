-- `dates::leap`: from 2000 to 2099 every fourth year, as computed at each. Assumes nothing.
use Rattle.dates.proofs.Years.{leap_fourth}
use Rattle.dates.proofs.leap.Goals as goal

pub returns : goal.returns
returns c = leap_fourth c.args.k c.requires
