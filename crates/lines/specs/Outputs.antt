-- A text at the front of a program's buffer.
use Rattle.std.specs.Prelude.{ℕ, List, ◌++◌, length, drop, replicate}
use Rattle.lines.specs.declared.output.Output.{Output}

-- these bytes, how many they are, and zeros past them, in a buffer of n bytes
unfoldable pub output_of : (n : ℕ) → List ℕ → Output n
output_of n bs = record { bytes = bs ++ drop (length bs) (replicate n 0); count = length bs }
