-- The number so far is the base and the prices of the partitions before `p`, and stays near the base (`Costing`).
use Rattle.layout_search.proofs.NumberLaws.{Costing}
use Rattle.layout_search.proofs.Sums.layout_number.Given as goal

abbrev pub invariant-loop-p : goal.invariant-loop-p
invariant-loop-p l = Costing l.self.places.now l.ends l.self.blocks l.number l.a l.p
