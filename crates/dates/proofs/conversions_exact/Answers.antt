-- `dates::conversions_exact`: the proofs of the laws, handed over. Assumes nothing.
use Rattle.dates.proofs.DateLaws.{exact_each_way, numbers_rise, one_term, term_size, no_gap}
use Rattle.dates.proofs.conversions_exact.Goals as goal

pub returns : goal.returns
returns c = (exact_each_way, numbers_rise, one_term, term_size, no_gap)
