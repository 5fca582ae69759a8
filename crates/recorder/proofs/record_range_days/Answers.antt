-- `recorder::record_range_days` meets its contract. `check_counted` puts the checks ahead of 10; past them the blocks of lo and hi rise as lo and hi do
-- and are below the limit, and 10 is put by `raise_one` at pq's slot where they are one block, otherwise by `raise_span`. Assumes nothing.
use Rattle.std.proofs.Common.{refl, ap, ◌∙◌, arith}
use Rattle.std.proofs.lemmas.Result.{err_from_is_err_and}
use lib.Dec.{leb→le}
use Rattle.model.specs.Bounds.{block_limit}
use Rattle.model.specs.Blocks.{Set, block_of}
use Rattle.model.specs.Calls.{range_days, ordered, offered_ok, offered_days_ok}
use Rattle.model.specs.Lent.{set_given, span_given}
use Rattle.recorder.proofs.Recording.{refused, passed, range_one, range_span}
use Rattle.recorder.proofs.record_range_days.Goals as goal

pub returns-in_err-checked : goal.returns-in_err-checked
unfolding ordered offered_ok offered_days_ok
returns-in_err-checked c =
    let p = err_from_is_err_and c.from_residual.result c.from_residual.ensures.1 in
    rw (p.1, p.2) (refused block_limit _ _ (range_days c.args.lo c.args.hi (span_given c.args.days)) _ _ _ refl refl c.span_ok-named.ensures _ c.in_err-checked.ensures.answer)

pub raise_one-requires : goal.raise_one-requires
unfolding ordered offered_ok offered_days_ok
raise_one-requires c =
    let s = c.in_ok-checked.ensures in
    let p = passed block_limit _ _ (range_days c.args.lo c.args.hi (span_given c.args.days)) _ _ _ refl refl c.span_ok-named.ensures s.answer in
    let a = c.block_of-a.ensures ∙ ap (λ (t : Set). block_of t c.args.lo) s.accepted in
    (p.below _ _ a, p.long)

pub returns-then-a-b : goal.returns-then-a-b
unfolding ordered offered_ok offered_days_ok
returns-then-a-b c =
    let s = c.in_ok-checked.ensures in
    let p = passed block_limit _ _ (range_days c.args.lo c.args.hi (span_given c.args.days)) _ _ _ refl refl c.span_ok-named.ensures s.answer in
    let a = c.block_of-a.ensures ∙ ap (λ (t : Set). block_of t c.args.lo) s.accepted in
    let b = c.block_of-b.ensures ∙ ap (λ (t : Set). block_of t c.args.hi) s.accepted in
    c.raise_one.ensures ∙ p.answers _ (range_one block_limit _ _ _ _ _ _ a b c.if-a-b.true)

pub raise_span-requires : goal.raise_span-requires
unfolding ordered offered_ok offered_days_ok
raise_span-requires c =
    let s = c.in_ok-checked.ensures in
    let p = passed block_limit _ _ (range_days c.args.lo c.args.hi (span_given c.args.days)) _ _ _ refl refl c.span_ok-named.ensures s.answer in
    let a = c.block_of-a.ensures ∙ ap (λ (t : Set). block_of t c.args.lo) s.accepted in
    let b = c.block_of-b.ensures ∙ ap (λ (t : Set). block_of t c.args.hi) s.accepted in
    let rise = p.rising _ _ (leb→le c.args.lo c.args.hi p.in_order) in
    (omega (arith, c.if-a-b.false, a, b, rise), p.below _ _ b, p.long)

pub returns : goal.returns
unfolding ordered offered_ok offered_days_ok
returns c =
    let s = c.in_ok-checked.ensures in
    let p = passed block_limit _ _ (range_days c.args.lo c.args.hi (span_given c.args.days)) _ _ _ refl refl c.span_ok-named.ensures s.answer in
    let a = c.block_of-a.ensures ∙ ap (λ (t : Set). block_of t c.args.lo) s.accepted in
    let b = c.block_of-b.ensures ∙ ap (λ (t : Set). block_of t c.args.hi) s.accepted in
    c.raise_span.ensures ∙ p.answers _ (range_span block_limit _ _ _ _ _ _ a b c.if-a-b.false)
