-- Three lengths are compared and then the number of slots is judged; the first that fails decides.
use Rattle.std.proofs.Common.{◌≡◌, Bool, true, false, ◌&&◌, eqb, length, sym, ap, ◌∙◌}
use borrow.Author.Tests.{eq-eqb, ne_eqb}
use Rattle.model.specs.Blocks.{slices_ok}
use Rattle.checks.proofs.slices_ok.Goals as goal
use Rattle.checks.proofs.slices_ok.Goals.{then-slices-c, else-slices-c, then-slices-c-2, else-slices-c-2}

then_both : (a b v : Bool) → a ≡ true → v ≡ b → v ≡ a && b
then_both a b v e h = rw e h

else_both : (a b v : Bool) → a ≡ false → v ≡ a → v ≡ a && b
else_both a b v e h = h ∙ e ∙ rw e

pub returns-then-slices-c-3 : goal.returns-then-slices-c-3
unfolding slices_ok
returns-then-slices-c-3 c =
    let s = c.args.slices in
    let n = length s.growers.now in
    let two : c.if-slices-c.value ≡ eqb (length s.weights.now) n && eqb (length s.yields.now) n = elim c.if-slices-c.branch [
      | then-slices-c w ↦ then_both _ _ _ (eq-eqb _ _ w.if-slices-c.true) w.value-is
      | else-slices-c w ↦ else_both _ _ _ (ne_eqb _ _ w.if-slices-c.false) w.value-is
    ] in
    let three : c.if-slices-c-2.value ≡ c.if-slices-c.value && eqb (length s.days.now) n = elim c.if-slices-c-2.branch [
      | then-slices-c-2 w ↦ then_both _ _ _ w.if-slices-c-2.true w.value-is
      | else-slices-c-2 w ↦ else_both _ _ _ w.if-slices-c-2.false w.value-is
    ] in
    rw (sym (three ∙ ap (λ (b : Bool). b && eqb (length s.days.now) n) two) ∙ c.if-slices-c-3.true) c.slots_ok.ensures

pub returns-else-slices-c-3 : goal.returns-else-slices-c-3
unfolding slices_ok
returns-else-slices-c-3 c =
    let s = c.args.slices in
    let n = length s.growers.now in
    let two : c.if-slices-c.value ≡ eqb (length s.weights.now) n && eqb (length s.yields.now) n = elim c.if-slices-c.branch [
      | then-slices-c w ↦ then_both _ _ _ (eq-eqb _ _ w.if-slices-c.true) w.value-is
      | else-slices-c w ↦ else_both _ _ _ (ne_eqb _ _ w.if-slices-c.false) w.value-is
    ] in
    let three : c.if-slices-c-2.value ≡ c.if-slices-c.value && eqb (length s.days.now) n = elim c.if-slices-c-2.branch [
      | then-slices-c-2 w ↦ then_both _ _ _ w.if-slices-c-2.true w.value-is
      | else-slices-c-2 w ↦ else_both _ _ _ w.if-slices-c-2.false w.value-is
    ] in
    rw (sym (three ∙ ap (λ (b : Bool). b && eqb (length s.days.now) n) two) ∙ c.if-slices-c-3.false) c.if-slices-c-3.false
