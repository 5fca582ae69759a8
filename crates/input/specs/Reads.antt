-- What was read, of a reader whose bytes are known.
use Rattle.std.specs.Prelude.{ℕ, ◌<◌, List, length, take, Option}
use Rattle.std.specs.Io.KnownBytes.{Consumes, IsAtEnd}

-- the first n bytes of the array are what the reader gave, and where there is room left the reader is at its end
abbrev pub Reads : Option (List ℕ) → Option (List ℕ) → List ℕ → ℕ → Type 0
Reads old new array n = Consumes old new (take n array) × (n < length array → IsAtEnd new)
