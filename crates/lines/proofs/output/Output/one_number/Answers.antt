-- `lines::output::Output::one_number`: one line at the front of zeros. Assumes nothing.
use Rattle.std.proofs.Common.{sym, [], ◌∷◌}
use Rattle.model.specs.Fields.{line}
use Rattle.model.proofs.LineLaws.{length-line}
use Rattle.lines.proofs.Outputs.{output_is}
use Rattle.lines.proofs.output.Output.one_number.Goals as goal

pub returns : goal.returns
returns g c = output_is (line (c.args.n ∷ [])) _ 12 c.put_line.ensures (sym (length-line (c.args.n ∷ [])))
