-- The partition's last record goes to the slot; a turn gives the last record of partition `j` to the slot before its start.
use Rattle.std.proofs.Common.{arith, rules, ◌≡◌, ◌+◌, ◌∙◌, sym, refl}
use Rattle.model.proofs.Parts.{stop_le}
use Rattle.ripple.proofs.Loops.{spot_past, spot_up, spot_room}
use Rattle.ripple.proofs.EachSlice.{start_first, carried_length, each_lowered_start, each_lowered_turn, each_delete_end}
use Rattle.ripple.proofs.delete_ripple.Goals as goal

pub carry-requires : goal.carry-requires
carry-requires c = omega (arith, stop_le c.args.lens.now 0 c.requires.0)

pub loop-j-init : goal.loop-j-init
loop-j-init c = record {
  spot = spot_past _ _ _ c.requires.0 (omega (arith, start_first c.args.lens.now));
  keeps = record { growers = refl; weights = refl; yields = refl; days = refl };
  slots = each_lowered_start _ _ _ _ _;
}

pub overflow_add-q : goal.overflow_add-q
overflow_add-q c = omega (arith, spot_room _ _ _ (omega arith) c.loop-j.invariant.spot)

pub carry-requires-in-loop-j : goal.carry-requires-in-loop-j
carry-requires-in-loop-j c =
    omega (arith, spot_room _ _ _ (omega arith) c.loop-j.invariant.spot, c.loop-j.invariant.slots.growers.len, carried_length _ _ _ _ c.carry.ensures.slots)

pub loop-j-preserved : goal.loop-j-preserved
loop-j-preserved c =
    let i = c.loop-j.invariant in
    record {
      spot = spot_up _ _ _ (omega arith) i.spot;
      keeps = search rules;
      slots = rw c.carry-in-loop-j.ensures.slots
          (each_lowered_turn _ _ _ _ _ _ _ _ c.loop-j.r.even (omega arith) (omega (arith, i.slots.growers.len, carried_length _ _ _ _ c.carry.ensures.slots)) i.spot i.slots);
    }

pub returns-clause-slots : goal.returns-clause-slots
returns-clause-slots c =
    let i = c.loop-j.invariant in
    let p = c.requires in
    let e : 0 + c.args.slot ≡ c.args.slot = omega arith in
    c.store.ensures.slots
    ∙ each_delete_end _ _ 0 0 c.args.slot _ _ _ _ _ _ c.args.r.now.even p.0 (sym (start_first c.args.lens.now)) p.1 p.2 (omega arith) (rw e c.carry.ensures.slots) i.spot (omega arith) i.slots
