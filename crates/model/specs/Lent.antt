-- What is lent to a call as one record: a column or a set, before the call and after it. Contracts cite these.
use Rattle.std.specs.Prelude.{ℕ, ◌-◌, List, take, drop}
use Rattle.std.specs.Borrow.{Bor, MutBor}
use denote.Triple.Both.{Both}
use Rattle.model.specs.declared.lent.LentSlices.{LentSlices}
use Rattle.model.specs.declared.lent.LentSet.{LentSet}
use Rattle.model.specs.declared.lent.Records.{Records}
use Rattle.model.specs.declared.lent.DaySpan.{DaySpan}
use Rattle.model.specs.Calendar.{Span, span}
use Rattle.model.specs.Deliveries.{Slices, slices_of, each_slice}
use Rattle.model.specs.Blocks.{Set}
use Rattle.model.specs.Column.{Column}

-- a column and a set of these slices
abbrev pub column_of : List ℕ → List ℕ → List ℕ → List ℕ → List ℕ → Column
column_of ns gs ws ys ds = record { directory = ns; slices = slices_of gs ws ys ds }

abbrev pub set_of : ℕ → ℕ → List ℕ → List ℕ → List ℕ → List ℕ → Set
set_of b m gs ws ys ds = record { block = b; used = m; slices = slices_of gs ws ys ds }

-- the slices that growers, weights, yields and days are at one moment
abbrev pub slices_at : Bor (List ℕ) → Bor (List ℕ) → Bor (List ℕ) → Bor (List ℕ) → Slices
slices_at g w y d = slices_of g.now w.now y.now d.now

-- the same where the call may write them
abbrev pub slices_at_mut : MutBor (List ℕ) → MutBor (List ℕ) → MutBor (List ℕ) → MutBor (List ℕ) → Slices
slices_at_mut g w y d = slices_of g.now w.now y.now d.now

-- a lent slice at a call's two moments
abbrev pub Lent : Type 0
Lent = Both (Bor (List ℕ)) (Bor (List ℕ))

-- the same of a slice that the call may write
abbrev pub LentMut : Type 0
LentMut = Both (MutBor (List ℕ)) (MutBor (List ℕ))

-- before the call, and after it
abbrev pub slices_in : Lent → Lent → Lent → Lent → Slices
slices_in g w y d = slices_at g.entry w.entry y.entry d.entry

abbrev pub slices_in_mut : LentMut → LentMut → LentMut → LentMut → Slices
slices_in_mut g w y d = slices_at_mut g.entry w.entry y.entry d.entry

abbrev pub slices_out : LentMut → LentMut → LentMut → LentMut → Slices
slices_out g w y d = slices_at_mut g.exit w.exit y.exit d.exit

-- the column that directory, growers, weights, yields and days are before the call, and after it
abbrev pub column_in : Lent → Lent → Lent → Lent → Lent → Column
column_in ns g w y d = record { directory = ns.entry.now; slices = slices_in g w y d }

abbrev pub column_in_mut : LentMut → LentMut → LentMut → LentMut → LentMut → Column
column_in_mut ns g w y d = record { directory = ns.entry.now; slices = slices_in_mut g w y d }

abbrev pub column_out : LentMut → LentMut → LentMut → LentMut → LentMut → Column
column_out ns g w y d = record { directory = ns.exit.now; slices = slices_out g w y d }

-- the set of block length b and m used slots that growers, weights, yields and days are before the call
abbrev pub set_in : ℕ → ℕ → Lent → Lent → Lent → Lent → Set
set_in b m g w y d = record { block = b; used = m; slices = slices_in g w y d }

-- the slices, the set, the records and the days that a call is given in one value
abbrev pub slices_given : LentSlices → Slices
slices_given s = slices_of s.growers.now s.weights.now s.yields.now s.days.now

abbrev pub set_given : LentSet → Set
set_given s = record { block = s.block; used = s.used; slices = slices_given s.slices }

abbrev pub records_given : Records → Slices
records_given r = slices_of r.growers.now r.weights.now r.yields.now r.days.now

abbrev pub span_given : DaySpan → Span
span_given d = span d.first d.last

-- the column of a directory and the slices given
abbrev pub column_given : List ℕ → LentSlices → Column
column_given ns s = record { directory = ns; slices = slices_given s }

-- slots from one to another, which is not among them
abbrev pub slices_part : ℕ → ℕ → Slices → Slices
slices_part from to = each_slice (λ (l : List ℕ). take (to - from) (drop from l))
