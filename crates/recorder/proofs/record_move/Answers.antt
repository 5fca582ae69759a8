-- `recorder::record_move` meets its contract. `check_delivery` puts the checks ahead of 10; past them both growers' blocks are below the limit, and
-- `raise_two` puts 10 at their slots of udf and utf or of udb and utb, as the growers compare; `raise_one` at the old block's of pq where the set has no
-- such delivery. Assumes nothing.
use Rattle.std.proofs.Common.{refl, ap, ◌∙◌, arith}
use Rattle.std.proofs.lemmas.Result.{err_from_is_err_and}
use Rattle.model.specs.Bounds.{block_limit}
use Rattle.model.specs.Blocks.{Set, held, block_of}
use Rattle.model.specs.Deliveries.{among}
use Rattle.model.specs.Calls.{move, ordered, offered_ok, offered_days_ok}
use Rattle.model.specs.Lent.{set_given}
use Rattle.recorder.proofs.Recording.{refused, passed, move_missing, move_forward, move_backward}
use Rattle.recorder.proofs.record_move.Goals as goal

pub returns-in_err-checked : goal.returns-in_err-checked
unfolding ordered offered_ok offered_days_ok
returns-in_err-checked c =
    let p = err_from_is_err_and c.from_residual.result c.from_residual.ensures.1 in
    rw (p.1, p.2) (refused block_limit _ _ (move c.args.d c.args.new_grower) _ _ _ refl refl refl _ c.in_err-checked.ensures.answer)

pub raise_one-requires : goal.raise_one-requires
unfolding ordered offered_ok offered_days_ok
raise_one-requires c =
    let s = c.in_ok-checked.ensures in
    let p = passed block_limit _ _ (move c.args.d c.args.new_grower) _ _ _ refl refl refl s.answer in
    let a = c.block_of-a.ensures ∙ ap (λ (t : Set). block_of t c.args.d.grower) s.accepted in
    (p.below _ _ a, p.long)

pub returns-then-not-has_delivery : goal.returns-then-not-has_delivery
unfolding ordered offered_ok offered_days_ok
returns-then-not-has_delivery c =
    let s = c.in_ok-checked.ensures in
    let p = passed block_limit _ _ (move c.args.d c.args.new_grower) _ _ _ refl refl refl s.answer in
    let a = c.block_of-a.ensures ∙ ap (λ (t : Set). block_of t c.args.d.grower) s.accepted in
    let h = c.has_delivery.ensures ∙ ap (λ (t : Set). among c.args.d (held t)) s.accepted in
    c.raise_one.ensures ∙ p.answers _ (move_missing block_limit _ _ _ a _ h _ c.if-not-has_delivery.true)

pub raise_two-requires : goal.raise_two-requires
unfolding ordered offered_ok offered_days_ok
raise_two-requires c =
    let s = c.in_ok-checked.ensures in
    let p = passed block_limit _ _ (move c.args.d c.args.new_grower) _ _ _ refl refl refl s.answer in
    let a = c.block_of-a.ensures ∙ ap (λ (t : Set). block_of t c.args.d.grower) s.accepted in
    let b = c.block_of-b.ensures ∙ ap (λ (t : Set). block_of t c.args.new_grower) s.accepted in
    (omega arith, p.below _ _ a, p.below _ _ b, p.long)

pub returns-then-d-new_grower : goal.returns-then-d-new_grower
unfolding ordered offered_ok offered_days_ok
returns-then-d-new_grower c =
    let s = c.in_ok-checked.ensures in
    let p = passed block_limit _ _ (move c.args.d c.args.new_grower) _ _ _ refl refl refl s.answer in
    let a = c.block_of-a.ensures ∙ ap (λ (t : Set). block_of t c.args.d.grower) s.accepted in
    let b = c.block_of-b.ensures ∙ ap (λ (t : Set). block_of t c.args.new_grower) s.accepted in
    let h = c.has_delivery.ensures ∙ ap (λ (t : Set). among c.args.d (held t)) s.accepted in
    c.raise_two.ensures ∙ p.answers _ (move_forward block_limit _ _ _ a _ h _ _ b c.if-not-has_delivery.false c.if-d-new_grower.true)

pub raise_two-requires-2 : goal.raise_two-requires-2
unfolding ordered offered_ok offered_days_ok
raise_two-requires-2 c =
    let s = c.in_ok-checked.ensures in
    let p = passed block_limit _ _ (move c.args.d c.args.new_grower) _ _ _ refl refl refl s.answer in
    let a = c.block_of-a.ensures ∙ ap (λ (t : Set). block_of t c.args.d.grower) s.accepted in
    let b = c.block_of-b.ensures ∙ ap (λ (t : Set). block_of t c.args.new_grower) s.accepted in
    (omega arith, p.below _ _ a, p.below _ _ b, p.long)

pub returns : goal.returns
unfolding ordered offered_ok offered_days_ok
returns c =
    let s = c.in_ok-checked.ensures in
    let p = passed block_limit _ _ (move c.args.d c.args.new_grower) _ _ _ refl refl refl s.answer in
    let a = c.block_of-a.ensures ∙ ap (λ (t : Set). block_of t c.args.d.grower) s.accepted in
    let b = c.block_of-b.ensures ∙ ap (λ (t : Set). block_of t c.args.new_grower) s.accepted in
    let h = c.has_delivery.ensures ∙ ap (λ (t : Set). among c.args.d (held t)) s.accepted in
    c.raise_two-2.ensures ∙ p.answers _ (move_backward block_limit _ _ _ a _ h _ _ b c.if-not-has_delivery.false c.if-d-new_grower.false)
