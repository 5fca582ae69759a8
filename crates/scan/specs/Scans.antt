-- What a scan says of partitions, in the model's terms.
use Rattle.std.specs.Prelude.{ℕ, ◌+◌, Bool, cond, ◌&&◌, ltb, Option, Some, None, take, drop}
use mathlib.Core.List.{List, map, flatten}
use Rattle.model.specs.declared.Delivery.{Delivery}
use Rattle.model.specs.Lists.{sum_of, every}
use Rattle.model.specs.Bounds.{most_day}
use Rattle.model.specs.Calendar.{Span, span}
use Rattle.model.specs.Deliveries.{in_range, day_ok, totals_during, first_match}
use Rattle.model.specs.Partitions.{parts}
use Rattle.model.specs.Accesses.{blocks_of}
use Rattle.scan.specs.declared.Scan.{Scan}

-- do all records pass checks 8 and 19?
abbrev pub all_fit : List Delivery → Bool
all_fit ds = every in_range ds && every day_ok ds

-- what is asked of records if all pass, and else nothing
abbrev pub if_fit : {A : Type 0} → List Delivery → A → Option A
if_fit ds a = cond (all_fit ds) (Some a) None

-- every day that passes check 19
abbrev pub every_day : Span
every_day = span 0 most_day

-- the first match among records that go on with ds, if s is that among the i records before
abbrev pub sought : Delivery → ℕ → ℕ → List Delivery → ℕ
sought d s i ds = cond (ltb s i) s (i + first_match d ds)

-- the records of n partitions from p on
abbrev pub records_in : List ℕ → ℕ → ℕ → List Delivery → List Delivery
records_in ns p n ds = flatten (take n (drop p (parts ns ds)))

-- the totals of n partitions from p on, of the lengths ns, and how many blocks they are
abbrev pub found_in : ℕ → List ℕ → ℕ → ℕ → ℕ → ℕ → Span → List Delivery → Scan
found_in b ns p n lo hi s ds = record { totals = totals_during lo hi s (records_in ns p n ds); blocks = sum_of (map (blocks_of b) (take n (drop p ns))) }

-- a scan of these partitions
abbrev pub scan_of : ℕ → List ℕ → ℕ → ℕ → ℕ → ℕ → Span → List Delivery → Option Scan
scan_of b ns p n lo hi s ds = if_fit (records_in ns p n ds) (found_in b ns p n lo hi s ds)
