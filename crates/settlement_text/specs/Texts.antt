-- The output: a text at the front of a buffer.
use Rattle.std.specs.Prelude.{ℕ, ◌+◌, ◌*◌, List}
use Rattle.model.specs.Bounds.{sheet_slots}
use Rattle.lines.specs.declared.output.Output.{Output}
use Rattle.lines.specs.Outputs.{output_of as text_output}

-- the longest output: a line for each slot, and the last line
abbrev pub output_size : ℕ
output_size = 81 * sheet_slots + 61

abbrev pub output_of : List ℕ → Output output_size
output_of bs = text_output output_size bs
