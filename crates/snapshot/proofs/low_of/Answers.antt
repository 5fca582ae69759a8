-- The fences rise, so that one more than a fence before the last fits.
use Rattle.std.proofs.Common.{arith}
use borrow.Author.Tests.{eq-eqb, ne_eqb}
use Rattle.snapshot.specs.Texts.{low_of}
use Rattle.snapshot.proofs.FenceLaws.{rises_to}
use Rattle.snapshot.proofs.low_of.Goals as goal

pub overflow_add-result : goal.overflow_add-result
overflow_add-result c =
    let a = c.args in
    let p = c.requires in
    omega (arith, rises_to a.fences.now a.p p.1 c.if-p-eq0.false p.0, c.type_inv.fences a.p)

pub returns-then-p-eq0 : goal.returns-then-p-eq0
unfolding low_of
returns-then-p-eq0 c = rw (eq-eqb _ 0 c.if-p-eq0.true)

pub returns-else-p-eq0 : goal.returns-else-p-eq0
unfolding low_of
returns-else-p-eq0 c = rw (ne_eqb _ 0 c.if-p-eq0.false)
