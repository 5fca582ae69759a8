-- The examples of chosen ends gone on with, each proved by computing. Assumes nothing.
use mathlib.Core.Path.{refl}
use Rattle.model.proofs.Computing.{computed}
use Rattle.layout_search.specs.Sums.{sum, upto, span}
use Rattle.layout_search.specs.RunningSums.{sum_at, adds_of, up_by, down_by}
use Rattle.layout_lines.specs.Rests.{rest_ok, rests, line_after, lines_after}
use Rattle.layout_lines.specs.RestExamples.{RestExamples}

pub rest_examples : RestExamples
unfolding computed sum upto span sum_at adds_of up_by down_by rest_ok rests line_after lines_after
rest_examples = record {
  two = refl;
  one_too_many = refl;
  too_long = refl;
  whole = refl;
  behind = refl;
  not-parted = refl;
  none_left = refl;
  one_line = refl;
  carried_on = refl;
  no_lines = refl;
}
