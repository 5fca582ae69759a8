-- The weighbridge file's round trip (02: Slip 1), over the `export_call` and `import_call` that the contracts cite.
-- Proved in proofs/Weighbridge.antt.
use Rattle.std.specs.Prelude.{ℕ, ◌≤◌, ◌≡◌, List, length, take, drop, replicate, T}
use Rattle.model.specs.Deliveries.{Slices, slices_of, each_slice, joined}
use Rattle.model.specs.Blocks.{slices_ok}
use Rattle.model.specs.CsvCalls.{import_call, export_call}
use Rattle.theorems.specs.Snapshot.{Numbers32}

-- the bytes that exporting wrote
abbrev pub exported : ℕ → Slices → List ℕ → List ℕ
exported m s out = take (export_call m s out).answer.bytes (export_call m s out).text

-- the first m slots of slices, each on day 0
abbrev pub undated_front : ℕ → Slices → Slices
undated_front m s = slices_of (take m s.growers) (take m s.weights) (take m s.yields) (replicate m 0)

-- "importing an export restores the deliveries", and by 02, Slip 7 "all but the day": for every export that is accepted, and slices of
-- any common length that has the slots; what stood past them stays
abbrev pub ImportRestores : Type 0
ImportRestores = (m : ℕ) (s : Slices) (out : List ℕ) → Numbers32 s.growers
    → (export_call m s out).answer.refusal ≡ 0
    → (t : Slices) → T (slices_ok t) → m ≤ length t.growers
    → import_call (exported m s out) t ≡ record { answer = record { refusal = 0; rows = m }; slices = joined (undated_front m s) (each_slice (drop m) t) }
