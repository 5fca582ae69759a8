-- The snapshot's round trips (01: the book), over the `write_call` and `read_call` that the contracts cite, for every block limit L.
-- Proved in proofs/Snapshot.antt.
use Rattle.std.specs.Prelude.{ℕ, ◌≤◌, ◌≡◌, List, ◌++◌, length, take, drop, T, leb}
use Rattle.model.specs.Bounds.{most_number}
use Rattle.model.specs.Lists.{every, sum_of}
use Rattle.model.specs.Deliveries.{Slices, each_slice, joined}
use Rattle.model.specs.Blocks.{slices_ok}
use Rattle.model.specs.Column.{Column, lengths_of}
use Rattle.model.specs.SnapshotCalls.{write_call, read_call}

-- numbers of 32 bits, as the lent slices hold them; the lists of the model hold any number
abbrev pub Numbers32 : List ℕ → Type 0
Numbers32 ns = T (every (λ (n : ℕ). leb n most_number) ns)

-- the bytes that writing wrote
abbrev pub written : ℕ → Column → List ℕ → List ℕ
written L c out = take (write_call L c out).answer.bytes (write_call L c out).text

-- the directory and the used slots of a column, and past these the slots as they were lent
abbrev pub read_into : ℕ → Column → Slices → Column
read_into L c s =
    let m : ℕ = sum_of (lengths_of L c) in
    record { directory = c.directory; slices = joined (each_slice (take m) c.slices) (each_slice (drop m) s) }

-- "A book written and read gives the same column", its days, which are all 0, included: for every column and room that writing accepts, and slices of any common
-- length that has the slots, its own among them
abbrev pub WrittenIsRead : Type 0
WrittenIsRead = (L : ℕ) → L ≤ most_number → (c : Column) (out : List ℕ) → Numbers32 c.directory → Numbers32 c.slices.growers
    → (write_call L c out).answer.refusal ≡ 0
    → (s : Slices) → T (slices_ok s) → sum_of (lengths_of L c) ≤ length s.growers
    → read_call L (written L c out) s ≡ record { refusal = 0; column = read_into L c s }

-- "a book read and written gives the same bytes": for every text and slices that reading accepts, where there is room for the text
abbrev pub ReadIsWritten : Type 0
ReadIsWritten = (L : ℕ) (text : List ℕ) (s : Slices) (out : List ℕ)
    → (read_call L text s).refusal ≡ 0
    → length text ≤ length out
    → write_call L (read_call L text s).column out ≡ record { answer = record { refusal = 0; bytes = length text }; text = text ++ drop (length text) out }
