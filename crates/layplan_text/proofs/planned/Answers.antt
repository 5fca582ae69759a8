-- `layplan_text::planned`: K, the bill, LF and the partitions, placed one behind the other, are the text. Assumes nothing.
use Rattle.std.proofs.Common.{ℕ, sym}
use Rattle.std.proofs.lemmas.List.{length-replicate}
use lib.ListN.{replicate}
use Rattle.lines.proofs.Outputs.{output_is}
use Rattle.layplan_text.specs.Texts.{output_size}
use Rattle.layplan_text.proofs.Outputs.{bill_put, length_ends_text, ends_room, plan_put}
use Rattle.layplan_text.proofs.planned.Goals as goal

pub put_ends-requires : goal.put_ends-requires
put_ends-requires c =
    let z = length-replicate {A = ℕ} output_size 0 in
    let b = bill_put _ _ _ c.ranges.cost c.put_signed.ensures in
    (ends_room c.args.cost c.args.ends.now (replicate output_size 0) _ _ z c.requires.0 c.put_number.ensures b, c.requires.1)

pub returns : goal.returns
returns c =
    let z = length-replicate {A = ℕ} output_size 0 in
    let b = bill_put _ _ _ c.ranges.cost c.put_signed.ensures in
    output_is _ _ _ (plan_put _ _ _ _ _ z c.requires.0 c.put_number.ensures b _ c.put_ends.ensures) (sym (length_ends_text _ _))
