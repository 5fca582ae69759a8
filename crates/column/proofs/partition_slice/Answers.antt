-- The part is cut by the start and the count that `partition` answers, which lie in the growers (`handed_inside`); refused, both are 0.
use Rattle.std.proofs.Common.{◌∙◌, ap, arith}
use Rattle.model.specs.declared.PartitionSlice.{PartitionSlice}
use Rattle.model.specs.Bounds.{block_limit}
use Rattle.column.specs.Answers.{part_of}
use Rattle.column.proofs.Handing.{handed_inside, cut_out}
use Rattle.column.proofs.partition_slice.Goals as goal

pub slice_bounds-result-end : goal.slice_bounds-result-end
slice_bounds-result-end c =
    let g = c.args in
    omega (arith, handed_inside block_limit g.directory.now g.growers.now g.grower c.from-p.result (c.from-p.ensures ∙ c.partition.ensures))

pub returns : goal.returns
returns c =
    let g = c.args in
    cut_out c.from-p.result g.growers.ref_ptr g.growers.now
    ∙ ap (λ (x : PartitionSlice). part_of x g.growers.ref_ptr g.growers.now) (c.from-p.ensures ∙ c.partition.ensures)
