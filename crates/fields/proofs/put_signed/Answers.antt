-- The sign just before the magnitude, by the two laws of `signed_field`.
use Rattle.std.proofs.Common.{ap, ◌∙◌, List, ℕ}
use Rattle.fields.specs.Writing.{placed}
use Rattle.fields.proofs.Signs.{signed_minus, signed_plain}
use Rattle.fields.proofs.put_signed.Goals as goal
use Rattle.fields.proofs.put_signed.Goals.{then-z-lt0, else-z-lt0}

pub returns : goal.returns
returns c =
    let g = c.args in
    let m = c.unsigned_abs.ensures.value in
    c.put.ensures
    ∙ ap (λ (l : List ℕ). placed g.at l g.text.now)
    (elim c.if-z-lt0.branch [
      | then-z-lt0 w ↦ rw w.sign-is (signed_minus _ c.ranges.z _ m w.if-z-lt0.true)
      | else-z-lt0 w ↦ rw w.sign-is (signed_plain _ c.ranges.z _ m w.if-z-lt0.false)
    ])
