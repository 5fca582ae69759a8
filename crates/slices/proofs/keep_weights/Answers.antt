-- A turn keeps a weight, and counts its day where it is in the span.
use mir.Val.{bool_byte}
use Rattle.std.proofs.Common.{◌≡◌, ◌+◌, sym, ap, ◌∙◌, arith}
use Rattle.slices.proofs.Keeping.{kept_start, kept_yes, kept_no, kept_end}
use Rattle.slices.proofs.keep_weights.Goals as goal
use Rattle.slices.proofs.keep_weights.Goals.{then-here, else-here}

pub loop-i-init : goal.loop-i-init
loop-i-init c = kept_start _ _ _ _ _

pub loop-i-preserved : goal.loop-i-preserved
loop-i-preserved c =
    let e = c.args.r.even in
    let even = e.days ∙ sym e.weights in
    let room = c.requires ∙ sym e.weights in
    elim c.if-here.branch [
      | then-here w ↦
          let one : c.from.result ≡ 1 = c.from.ensures ∙ ap bool_byte w.if-here.true in
          rw (w.kept-is, one) (kept_yes _ _ _ _ _ _ _ _ c.loop-i.invariant (omega (arith, e.days)) even room (sym c.is_in-here.ensures ∙ w.if-here.true))
      | else-here w ↦
          let none : c.from.result ≡ 0 = c.from.ensures ∙ ap bool_byte w.if-here.false in
          let same : c.loop-i.k + c.from.result ≡ c.loop-i.k = omega arith in
          rw (w.kept-is, same) (kept_no _ _ _ _ _ _ _ _ c.loop-i.invariant (omega (arith, e.days)) even room (sym c.is_in-here.ensures ∙ w.if-here.false))
    ]

pub returns : goal.returns
returns c =
    let e = c.args.r.even in
    kept_end _ _ _ _ _ _ _ _ c.loop-i.invariant (omega (arith, e.days)) (e.days ∙ sym e.weights) (c.requires ∙ sym e.weights)
