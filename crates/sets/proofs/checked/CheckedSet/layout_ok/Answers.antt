-- `sets::CheckedSet::layout_ok` meets its contract: each of the four tests of check 6 is decided by one law once those before it were passed. Assumes nothing.
use Rattle.std.proofs.Common.{◌≡◌, ◌+◌, ◌-◌, ◌<◌, sym, ap, ◌∙◌, length, arith}
use Rattle.model.specs.Layouts.{end_of}
use Rattle.sets.proofs.Sets.{layout_empty, layout_falls, layout_short, layout_parts}
use Rattle.sets.proofs.checked.CheckedSet.layout_ok.Goals as goal

pub returns-in_default : goal.returns-in_default
returns-in_default c = layout_empty _ _ (omega (arith, c.in_default.ensures.item.3))

pub returns-then-not-strictly_rising : goal.returns-then-not-strictly_rising
returns-then-not-strictly_rising c = layout_falls _ _ c.in-Some.ensures.item.3.0 (sym c.strictly_rising.ensures ∙ c.if-not-strictly_rising.true)

pub returns-then-from : goal.returns-then-from
returns-then-from c =
    let i = c.in-Some.ensures.item.3 in
    layout_short _ _ i.0 (sym c.strictly_rising.ensures ∙ c.if-not-strictly_rising.false)
    (λ z. c.if-from.true (omega (arith, z, i.1 0, c.from.ensures, c.from-2.ensures, c.block_count.ensures)))

pub returns : goal.returns
returns c =
    let i = c.in-Some.ensures.item.3 in
    c.all_separate_none.ensures
    ∙ layout_parts _ _ i.0 (sym c.strictly_rising.ensures ∙ c.if-not-strictly_rising.false)
    (omega (arith, i.1 0, c.from.ensures, c.if-from.false, c.from-2.ensures, c.block_count.ensures))
