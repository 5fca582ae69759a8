-- `growers::nearest_in`: a turn offers the next grower, or the last number.
use Rattle.std.proofs.Common.{◌≡◌, true, false, ◌+◌, ℕ, arith, Bool, cond, get_or, sym, ◌∙◌}
use Rattle.model.specs.Growers.{Direction, at_or_past, nearer}
use Rattle.growers.specs.Searches.{last_number}
use Rattle.growers.proofs.nearest_in.Goals as goal
use Rattle.growers.proofs.nearest_in.Goals.{then-is_past, else-is_past}
use Rattle.growers.proofs.Nearing.{Nearing, nearing_start, nearing_next, nearing_end}

pub loop-x-init : goal.loop-x-init
loop-x-init g c = rw c.last_number-last.ensures (nearing_start _ _ _)

pub loop-x-preserved : goal.loop-x-preserved
loop-x-preserved g c =
    let w : Direction = g.W.Way.direction in
    let x : ℕ = get_or c.args.s.now c.loop-x.x-index 0 in
    let next : (t : Bool) → at_or_past w c.args.g x ≡ t → c.if-is_past.offered ≡ cond t x (last_number w)
    → Nearing w c.args.g c.args.s.now (nearer w c.loop-x.nearest c.if-is_past.offered) (c.loop-x.x-index + 1)
    = nearing_next w c.args.g c.args.s.now c.loop-x.nearest c.loop-x.x-index c.if-is_past.offered (omega arith) (omega (arith, c.type_inv.s c.loop-x.x-index)) c.loop-x.invariant in
    rw c.nearer-nearest.ensures
    (elim c.if-is_past.branch [
      | then-is_past b ↦ next true (sym c.is_past.ensures ∙ b.if-is_past.true) b.offered-is
      | else-is_past b ↦ next false (sym c.is_past.ensures ∙ b.if-is_past.false) (b.offered-is ∙ c.last_number-last.ensures)
    ])

pub returns : goal.returns
returns g c = nearing_end g.W.Way.direction _ _ _ _ (omega arith) c.loop-x.invariant
