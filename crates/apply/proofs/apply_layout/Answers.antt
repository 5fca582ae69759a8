-- `apply::apply_layout` meets its contract: `check_layout` puts the checks; past them the set and its layout are what `directory_of` asks for, whose answer
-- is the model's. Assumes nothing.
use Rattle.std.proofs.Common.{sym, ap, subst, T, ◌∙◌}
use Rattle.std.proofs.lemmas.Result.{err_from_is_err_and}
use Rattle.model.specs.Bounds.{block_limit}
use Rattle.model.specs.Blocks.{Set}
use Rattle.model.specs.Layouts.{layout_ok}
use Rattle.model.specs.Directory.{directory_numbers}
use Rattle.model.specs.Column.{directory_for}
use Rattle.apply.proofs.Filling.{layout_accepted, apply_refused, apply_accepted}
use Rattle.apply.proofs.apply_layout.Goals as goal

pub returns-in_err-checked : goal.returns-in_err-checked
returns-in_err-checked c =
    let p = err_from_is_err_and c.from_residual.result c.from_residual.ensures.1 in
    rw (p.1, p.2) (apply_refused block_limit _ _ _ c.in_err-checked.ensures.answer)

pub directory_of-requires : goal.directory_of-requires
directory_of-requires c =
    let s = c.in_ok-checked.ensures in
    subst (λ (t : Set). T (layout_ok t c.args.ends.now)) (sym s.accepted) (layout_accepted block_limit _ _ s.answer)

pub returns : goal.returns
returns c =
    let s = c.in_ok-checked.ensures in
    apply_accepted block_limit _ _ _ s.answer
    (c.directory_of.ensures ∙ ap (λ (t : Set). directory_numbers block_limit (directory_for t c.args.ends.now)) s.accepted)
