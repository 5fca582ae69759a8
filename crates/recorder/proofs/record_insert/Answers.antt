-- `recorder::record_insert` meets its contract. `check_delivery` puts the checks ahead of 10; past them the grower's block is below the limit, and
-- `raise_one` puts 10 at its slot of in. Assumes nothing.
use Rattle.std.proofs.Common.{refl, ap, ◌∙◌}
use Rattle.std.proofs.lemmas.Result.{err_from_is_err_and}
use Rattle.model.specs.Bounds.{block_limit}
use Rattle.model.specs.Blocks.{Set, block_of}
use Rattle.model.specs.Calls.{insert, ordered, offered_ok, offered_days_ok}
use Rattle.model.specs.Lent.{set_given}
use Rattle.recorder.proofs.Recording.{refused, passed, insert_slots}
use Rattle.recorder.proofs.record_insert.Goals as goal

pub returns-in_err-checked : goal.returns-in_err-checked
unfolding ordered offered_ok offered_days_ok
returns-in_err-checked c =
    let p = err_from_is_err_and c.from_residual.result c.from_residual.ensures.1 in
    rw (p.1, p.2) (refused block_limit _ _ (insert c.args.d) _ _ _ refl refl refl _ c.in_err-checked.ensures.answer)

pub raise_one-requires : goal.raise_one-requires
unfolding ordered offered_ok offered_days_ok
raise_one-requires c =
    let s = c.in_ok-checked.ensures in
    let p = passed block_limit _ _ (insert c.args.d) _ _ _ refl refl refl s.answer in
    let b = c.block_of-b.ensures ∙ ap (λ (t : Set). block_of t c.args.d.grower) s.accepted in
    (p.below _ _ b, p.long)

pub returns : goal.returns
unfolding ordered offered_ok offered_days_ok
returns c =
    let s = c.in_ok-checked.ensures in
    let p = passed block_limit _ _ (insert c.args.d) _ _ _ refl refl refl s.answer in
    let b = c.block_of-b.ensures ∙ ap (λ (t : Set). block_of t c.args.d.grower) s.accepted in
    c.raise_one.ensures ∙ p.answers _ (insert_slots block_limit _ _ _ b)
