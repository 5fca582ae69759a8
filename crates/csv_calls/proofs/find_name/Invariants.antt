-- The header is the fields passed and the fields from here, and the name is counted among those passed.
use Rattle.std.proofs.Common.{◌+◌, ◌-◌, length}
use Rattle.csv_calls.proofs.NameLaws.{HeaderSo}
use Rattle.csv_calls.proofs.find_name.Given as goal

abbrev pub invariant-loop-field : goal.invariant-loop-field
invariant-loop-field l = HeaderSo l.text l.name l.s

abbrev pub decreases-loop-field : goal.decreases-loop-field
decreases-loop-field l = length l.text + 1 - l.s.next
