-- The set that a checked set is.
use Rattle.model.specs.Blocks.{Set}
use Rattle.model.specs.Lent.{records_given}
use Rattle.sets.specs.declared.checked.CheckedSet.{CheckedSet}

abbrev pub checked_set : CheckedSet → Set
checked_set s = record { block = s.block; used = s.used; slices = records_given s.records }
