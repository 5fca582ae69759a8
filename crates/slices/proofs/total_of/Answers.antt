-- A turn adds its record where it passes; the closure's answer is that of the test.
use Rattle.std.proofs.Common.{sym, ap, ◌∙◌, arith}
use Rattle.model.specs.declared.Delivery.{Delivery}
use Rattle.slices.proofs.Scans.{bounded_by, running_by, running_end}
use Rattle.slices.proofs.total_of.Goals as goal

pub overflow_add-oil : goal.overflow_add-oil
overflow_add-oil g c =
    let m = c.requires.measured in
    let l = c.loop-i in
    let a = c.from-a.ensures ∙ ap (λ (d : Delivery). d.weight) c.record_at-d.ensures in
    let b = c.from.ensures ∙ ap (λ (d : Delivery). d.oil_yield) c.record_at-d.ensures in
    let next = bounded_by _ m _ _ _ l.i l.invariant.0 c.pass-taken.result _ _ _ c.if_taken-records.ensures (rw a at c.if_taken-weight.ensures) (rw (a, b) at c.if_taken-oil.ensures) in
    omega (arith, next.little, m.few)

pub loop-i-preserved : goal.loop-i-preserved
loop-i-preserved g c =
    let m = c.requires.measured in
    let l = c.loop-i in
    let a = c.from-a.ensures ∙ ap (λ (d : Delivery). d.weight) c.record_at-d.ensures in
    let b = c.from.ensures ∙ ap (λ (d : Delivery). d.oil_yield) c.record_at-d.ensures in
    let x = c.if_taken-records.ensures in
    let y = rw a at c.if_taken-weight.ensures in
    let z = rw (a, b) at c.if_taken-oil.ensures in
    let t = c.pass-taken.result in (
      bounded_by _ m _ _ _ l.i l.invariant.0 t _ _ _ x y z,
      λ p agree. running_by p _ m _ _ _ l.i (omega arith) (l.invariant.1 p agree) t (ap p (sym c.record_at-d.ensures) ∙ sym (agree _ _ c.pass-taken.ensures)) _ _ _ x y z,
    )

pub returns : goal.returns
returns g c = λ p agree. running_end p _ _ _ _ _ (omega arith) (c.loop-i.invariant.1 p agree)
