-- A turn takes in the lengths and the fence at hand; at the last one the pass is whole.
use Rattle.std.proofs.Common.{◌≡◌, ◌-◌, sym, ◌∙◌, length, ltb, arith}
use Rattle.model.proofs.Tests.{of_true}
use Rattle.slices.proofs.Flags.{chain_next}
use Rattle.slices.proofs.Places.{survey_start, survey_less, survey_not, survey_end}
use Rattle.slices.proofs.surveyed.Goals as goal
use Rattle.slices.proofs.surveyed.Goals.{then-x-g, else-x-g}

pub loop-i-init : goal.loop-i-init
loop-i-init c = survey_start _ _ _ (omega arith)

pub loop-i-preserved : goal.loop-i-preserved
loop-i-preserved c =
    let l = c.loop-i in
    let chained = chain_next ltb c.args.fences.now l.rising l.i (omega arith) l.invariant.chained in
    elim c.if-x-g.branch [
      | then-x-g w ↦ rw (w.target-is, w.start-is) (survey_less _ _ _ _ _ _ _ _ (omega arith) c.requires.2 l.invariant _ chained (omega (arith, c.type_inv.lens l.i)) w.if-x-g.true)
      | else-x-g w ↦ rw (w.target-is, w.start-is) (survey_not _ _ _ _ _ _ _ _ (omega arith) c.requires.2 l.invariant _ chained (omega (arith, c.type_inv.lens l.i)) w.if-x-g.false)
    ]

pub returns-then-not-rising : goal.returns-then-not-rising
returns-then-not-rising c =
    let last : c.loop-i.i ≡ length c.args.lens.now - 1 = omega arith in
    let e = survey_end _ _ _ _ _ _ _ _ (omega arith) c.requires.2 c.loop-i.invariant in
    rw (← last) (sym e.0 ∙ c.if-not-rising.true, e.1)

pub returns : goal.returns
returns c =
    let last : c.loop-i.i ≡ length c.args.lens.now - 1 = omega arith in
    let e = survey_end _ _ _ _ _ _ _ _ (omega arith) c.requires.2 c.loop-i.invariant in
    let up = sym e.0 ∙ c.if-not-rising.false in
    let found = e.2 (of_true _ up) in
    rw (← last) (up, e.1, found.0, found.1)
