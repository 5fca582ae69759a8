-- Within its partition a move is a delete in the column that ends with it, forward one in the column that ends ahead of the new partition's records.
use Rattle.std.proofs.Common.{arith, ◌≡◌, ◌∙◌}
use Rattle.ripple.proofs.Compose.{ready}
use Rattle.ripple.proofs.EachSlice.{start_first, each_forward, each_within}
use Rattle.ripple.proofs.forward_ripple.Goals as goal

pub delete_ripple-requires : goal.delete_ripple-requires
delete_ripple-requires c =
    let p = c.requires in
    let r = ready c.args.lens.now 0 0 _ 1 _ (omega arith) (omega arith) (omega (arith, start_first c.args.lens.now)) p.1 p.2 in
    (omega (arith, r.0), r.2, r.3)

pub delete_ripple-requires-else-to-eq0 : goal.delete_ripple-requires-else-to-eq0
delete_ripple-requires-else-to-eq0 c =
    let p = c.requires in
    let r = ready c.args.lens.now 0 0 _ c.args.to _ (omega arith) (omega arith) (omega (arith, start_first c.args.lens.now)) p.1 p.2 in
    (omega (arith, r.0), r.2, r.3)

pub returns-then-to-eq0-clause-slots : goal.returns-then-to-eq0-clause-slots
returns-then-to-eq0-clause-slots c =
    let e : c.args.to ≡ 0 = omega arith in
    c.delete_ripple.ensures.slots ∙ rw e (each_within _ _ 0 _ _ (omega arith))

pub returns-else-to-eq0-clause-slots : goal.returns-else-to-eq0-clause-slots
returns-else-to-eq0-clause-slots c = c.delete_ripple-else-to-eq0.ensures.slots ∙ each_forward _ _ 0 _ _ _ (omega arith) c.requires.0
