-- A turn counts its number where it passes; the closure's answer is that of the test.
use Rattle.std.proofs.Common.{sym, ◌∙◌, arith}
use Rattle.slices.proofs.Scans.{counting_yes, counting_no, counting_end}
use Rattle.slices.proofs.counted.Goals as goal
use Rattle.slices.proofs.counted.Goals.{then-pass, else-pass}

pub loop-x-preserved : goal.loop-x-preserved
loop-x-preserved g c =
    elim c.if-pass.branch [
      | then-pass w ↦ (
        omega arith,
        λ p agree. rw w.n-is (counting_yes p _ _ _ c.loop-x-test.true (c.loop-x.invariant.1 p agree) (sym (agree _ _ c.pass.ensures) ∙ w.if-pass.true)),
      )
      | else-pass w ↦ (
        omega arith,
        λ p agree. rw w.n-is (counting_no p _ _ _ c.loop-x-test.true (c.loop-x.invariant.1 p agree) (sym (agree _ _ c.pass.ensures) ∙ w.if-pass.false)),
      )
    ]

pub returns : goal.returns
returns g c = λ p agree. counting_end p _ _ _ c.loop-x-test.false (c.loop-x.invariant.1 p agree)
