-- `Task::cheapest`: the table and the fewest partitions settle which layout is least (`settled`), and the three answers follow.
use Rattle.std.proofs.Common.{◌≡◌, ℕ, ◌^◌, refl, ap, ◌∙◌, arith}
use Rattle.std.proofs.lemmas.Result.{err_from_is_err_and}
use Rattle.std.proofs.Math.IntN.{sub_ℕ}
use Rattle.model.specs.declared.refusal.Refusal.TheVariants.{NoLayout}
use Rattle.layout_search.specs.Given.{task_given}
use Rattle.layout_search.proofs.LeastLaws.{settled, answered_nothing, answered_tight, answered_found}
use Rattle.layout_search.proofs.Bias.{held-cost}
use Rattle.layout_search.proofs.Task.cheapest.Goals as goal

pub returns-in_err-number : goal.returns-in_err-number
returns-in_err-number c =
    let p = err_from_is_err_and c.from_residual.result c.from_residual.ensures.1 in
    let v = rw c.in_err-number.ensures.ok_part at c.entry.ensures in
    let e = rw c.in_err-number.ensures.ok_part at c.in_err-number.ensures.value in
    let f : c.in_err-number.field-0.0 ≡ NoLayout = cc in
    rw (p.1, p.2, f) (answered_nothing _ _ _ _ _ _ (settled (task_given c.args.self) _ _ _ _ c.min-top.ensures c.fill.ensures c.fewest-k.ensures) _ v refl)

pub returns-then-out-k : goal.returns-then-out-k
returns-then-out-k c =
    let v = rw c.in_ok-number.ensures.ok_part at c.entry.ensures in
    answered_tight _ _ _ _ _ _ (settled (task_given c.args.self) _ _ _ _ c.min-top.ensures c.fill.ensures c.fewest-k.ensures) _ (omega (arith, v.0, v.1)) (omega arith) refl

pub returns : goal.returns
returns c =
    let v = rw c.in_ok-number.ensures.ok_part at c.entry.ensures in
    answered_found _ _ _ _ _ _ (settled (task_given c.args.self) _ _ _ _ c.min-top.ensures c.fill.ensures c.fewest-k.ensures) _ _ _ (omega arith) c.write_ends.ensures
    (held-cost c.in_ok-number.number v.0 _ c.unbiased.ensures ∙ ap (λ (n : ℕ). sub_ℕ n (2 ^ 60)) v.1) refl
