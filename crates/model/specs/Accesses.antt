-- Access counts (01: the laid column; a scan's by 02, Slip 6): rr, sr and rw of a scan and of each call.
use Rattle.std.specs.Prelude.{ℕ, zero, suc, ◌+◌, ◌-◌, map, length, take, drop}
use Rattle.model.specs.declared.Counts.{Counts}
use Rattle.model.specs.Lists.{sum_of, ceil_div}
use Rattle.model.specs.Place.{place}
use Rattle.model.specs.Calls.{Call, find, range, range_days, insert, delete, move}
use Rattle.model.specs.Directory.{Directory}

abbrev pub counts : ℕ → ℕ → ℕ → Counts
counts a b c = record { rr = a; sr = b; «rw» = c }

abbrev pub no_counts : Counts
no_counts = counts 0 0 0

-- "a partition of n records counts as n / B blocks rounded up"; 02, Slip 6: "a scan of an empty partition now counts no block"
unfoldable pub blocks_of : ℕ → ℕ → ℕ
blocks_of b n = ceil_div n b

-- the blocks of partitions p to q
unfoldable pub blocks_scanned : Directory → ℕ → ℕ → ℕ
blocks_scanned d p q = sum_of (map (blocks_of d.block) (take (q + 1 - p) (drop p d.lengths)))

-- "of all blocks scanned the first is 1 rr, each other 1 sr"; 02, Slip 6: "the first block read in a call is the 1 rr, wherever it
-- is, and a call that scans only empty partitions reports no reads"
unfoldable pub reads_of : ℕ → Counts
reads_of zero = no_counts
reads_of (suc n) = counts 1 n 0

-- a scan of partitions p to q
unfoldable pub scan_counts : Directory → ℕ → ℕ → Counts
scan_counts d p q = reads_of (blocks_scanned d p q)

-- a scan's counts, and x random reads and y random writes more
abbrev pub and_also : Counts → ℕ → ℕ → Counts
and_also n x y = counts (n.rr + x) n.sr (n.«rw» + y)

-- the partitions from p to the last, p included
abbrev pub onward : Directory → ℕ → ℕ
onward d p = length d.fences - p

-- the partitions from one to another, the first not counted
abbrev pub apart : ℕ → ℕ → ℕ
apart p q = (p - q) + (q - p)

-- what a delete or a move scans: the grower's partition
unfoldable pub scan_near : Directory → ℕ → Counts
scan_near d g = scan_counts d (place d.fences g) (place d.fences g)

-- what an accepted call reports; a range over days "scans .. as any range"
unfoldable pub call_counts : Directory → Call → Counts
call_counts d (find g) = scan_near d g
call_counts d (range lo hi) = scan_counts d (place d.fences lo) (place d.fences hi)
call_counts d (range_days lo hi s) = scan_counts d (place d.fences lo) (place d.fences hi)
call_counts d (insert x) = let n : ℕ = onward d (place d.fences x.grower) in counts (1 + n) 0 (1 + n)
call_counts d (delete x) = let n : ℕ = onward d (place d.fences x.grower) in and_also (scan_near d x.grower) n (1 + n)
call_counts d (move x g) =
    let n : ℕ = apart (place d.fences x.grower) (place d.fences g) in
    and_also (scan_near d x.grower) (1 + n) (2 + n)

-- "13 reports its scan": what a delete or a move reports that finds no such delivery; no other call puts 13
unfoldable pub miss_counts : Directory → Call → Counts
miss_counts d (find g) = no_counts
miss_counts d (range lo hi) = no_counts
miss_counts d (range_days lo hi s) = no_counts
miss_counts d (insert x) = no_counts
miss_counts d (delete x) = scan_near d x.grower
miss_counts d (move x g) = scan_near d x.grower
