-- A stride goes on from those before it, and the rest from all.
use Rattle.std.proofs.Common.{◌≡◌, ◌+◌, ◌*◌, ◌-◌, ◌/◌, ap, ◌∙◌, arith}
use Rattle.model.specs.Deliveries.{Slices, rows, first_match}
use Rattle.slices.proofs.Matching.{passing_start, passing_found, passing_most, passing_next, passing_end}
use Rattle.slices.proofs.first_match.Goals as goal

pub loop-n-init : goal.loop-n-init
loop-n-init c = passing_start _ _

pub returns-then-k-lt-STRIDE : goal.returns-then-k-lt-STRIDE
returns-then-k-lt-STRIDE c =
    let i = c.loop-n.n * 64 in
    let e = c.first_in_stride-k.ensures ∙ ap (λ (s : Slices). first_match c.args.d (rows s)) c.part.ensures in
    passing_found c.args.d _ c.args.r.even i c.loop-n.invariant (i + 64 - i) _ (omega arith) e (omega arith)

pub loop-n-preserved : goal.loop-n-preserved
loop-n-preserved c =
    let i = c.loop-n.n * 64 in
    let e = c.first_in_stride-k.ensures ∙ ap (λ (s : Slices). first_match c.args.d (rows s)) c.part.ensures in
    let next : (c.loop-n.n + 1) * 64 ≡ i + (i + 64 - i) = omega arith in
    rw next (passing_next c.args.d _ c.args.r.even i c.loop-n.invariant (i + 64 - i) _ (omega arith) e (omega arith))

pub overflow_add-result-2 : goal.overflow_add-result-2
overflow_add-result-2 c =
    let i = c.len-strides.result / 64 * 64 in
    let last : c.loop-n.n ≡ c.len-strides.result / 64 = omega arith in
    let e = c.first_tested.ensures ∙ ap (λ (s : Slices). first_match c.args.d (rows s)) c.part-2.ensures in
    omega (arith, passing_most c.args.d _ c.args.r.even i (rw last at c.loop-n.invariant) (c.len.result - i) _ (omega arith) e, c.args.r.few)

pub returns : goal.returns
returns c =
    let i = c.len-strides.result / 64 * 64 in
    let last : c.loop-n.n ≡ c.len-strides.result / 64 = omega arith in
    let e = c.first_tested.ensures ∙ ap (λ (s : Slices). first_match c.args.d (rows s)) c.part-2.ensures in
    passing_end c.args.d _ c.args.r.even i (rw last at c.loop-n.invariant) (c.len.result - i) _ (omega arith) e (omega arith)
