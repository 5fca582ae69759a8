-- What a search is given in one value.
use Rattle.layout_search.specs.declared.Task as given
use Rattle.layout_search.specs.Task.{Task}
use Rattle.layout_search.specs.RunningSums.{task_of}

abbrev pub task_given : given.Task → Task
task_given t = task_of t.sums.places.now t.fits.now t.longest t.sums.blocks
