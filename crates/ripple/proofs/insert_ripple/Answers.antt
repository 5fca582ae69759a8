-- A turn gives the first record of the partition before `j` to the slot behind it; at the end `d` goes into the slot past its own partition's end.
use Rattle.std.proofs.Common.{arith, rules, ◌≡◌, ◌<◌, ◌∙◌, refl}
use Rattle.ripple.proofs.Loops.{spot_last, spot_sum, spot_down}
use Rattle.ripple.proofs.EachSlice.{each_lifted_start, each_lifted_turn, each_insert_end}
use Rattle.ripple.proofs.insert_ripple.Goals as goal

pub loop-j-init : goal.loop-j-init
loop-j-init c = record {
  spot = spot_last _ _ (omega arith) (omega arith);
  past = omega arith;
  room = omega arith;
  keeps = record { growers = refl; weights = refl; yields = refl; days = refl };
  slots = each_lifted_start _ _ _;
}

pub overflow_sub-q : goal.overflow_sub-q
overflow_sub-q c = omega (arith, spot_sum _ _ _ c.loop-j.invariant.spot)

pub loop-j-preserved : goal.loop-j-preserved
loop-j-preserved c =
    let i = c.loop-j.invariant in
    let t : 1 < c.loop-j.j = omega arith in
    record {
      spot = spot_down _ _ _ t i.spot;
      past = omega arith;
      room = omega arith;
      keeps = search rules;
      slots = rw c.carry.ensures.slots (each_lifted_turn _ _ _ _ _ c.args.r.now.even t i.room i.spot i.slots);
    }

pub returns-clause-slots : goal.returns-clause-slots
returns-clause-slots c =
    let i = c.loop-j.invariant in
    let e : c.loop-j.j ≡ 1 = omega arith in
    c.store.ensures.slots ∙ each_insert_end _ _ _ _ _ _ c.args.r.now.even (omega arith) i.room (rw e at i.spot) (rw e at i.slots)
