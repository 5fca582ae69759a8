-- Each early refusal is the first check that fails. Past them the grower's partition lies in the slices (`near-at`), and the checks of its records are the
-- call's (`located_not`, `located_at`).
use Rattle.std.proofs.Common.{◌∙◌, sym, ap, arith, length}
use Rattle.std.proofs.lemmas.Result.{err_from_is_err_and}
use Rattle.model.specs.Bounds.{block_limit}
use Rattle.model.specs.Deliveries.{Slices}
use Rattle.model.specs.Lent.{column_given}
use Rattle.directory.proofs.LentColumns.{lent_column}
use Rattle.directory.proofs.Numbers.{block_is}
use Rattle.column.proofs.Answering.{refused_lent}
use Rattle.column.proofs.Reading.{near, near_partition}
use Rattle.column.proofs.Searching.{located_range, located_not, located_at, near_part}
use Rattle.column.proofs.locate.Goals as goal

pub returns-in_err-shape : goal.returns-in_err-shape
returns-in_err-shape c =
    let p = err_from_is_err_and c.from_residual.result c.from_residual.ensures.1 in
    rw p.1 (refused_lent block_limit _ _ _ _ p.2 c.in_err-shape.ensures.refused)

pub returns-then-not-in_range : goal.returns-then-not-in_range
returns-then-not-in_range c =
    located_range block_limit _ _ (sym c.in_ok-shape.ensures.refused) _ c.into.ensures (sym c.in_range.ensures ∙ c.if-not-in_range.true)

pub length_of-requires : goal.length_of-requires
length_of-requires c =
    let e = c.in_ok-shape.ensures in
    near_partition block_limit (column_given c.args.directory.now c.args.slices) _ (sym e.refused) _ _ e.accepted.1.target_is e.accepted.1.start_is

pub overflow_add-end : goal.overflow_add-end
overflow_add-end c =
    let e = c.in_ok-shape.ensures in
    let k = near block_limit (column_given c.args.directory.now c.args.slices) _ (sym e.refused) _ _ e.accepted.1.target_is e.accepted.1.start_is _ c.length_of.ensures in
    omega (arith, k.inside, k.most)

pub part-part-requires : goal.part-part-requires
part-part-requires c =
    let e = c.in_ok-shape.ensures in
    let k = near block_limit (column_given c.args.directory.now c.args.slices) _ (sym e.refused) _ _ e.accepted.1.target_is e.accepted.1.start_is _ c.length_of.ensures in
    omega (arith, k.inside, ap (λ (s : Slices). length s.growers) e.accepted.0)

pub block-requires : goal.block-requires
block-requires c = (lent_column block_limit (column_given c.args.directory.now c.args.slices) (sym c.in_ok-shape.ensures.refused)).shape.size

pub search_part-requires : goal.search_part-requires
search_part-requires c =
    rw (c.block.ensures ∙ block_is block_limit _)
    (lent_column block_limit (column_given c.args.directory.now c.args.slices) (sym c.in_ok-shape.ensures.refused)).block

pub returns-in_err-slot : goal.returns-in_err-slot
returns-in_err-slot c =
    let e = c.in_ok-shape.ensures in
    let col = column_given c.args.directory.now c.args.slices in
    let k = near block_limit col _ (sym e.refused) _ _ e.accepted.1.target_is e.accepted.1.start_is _ c.length_of.ensures in
    let p = err_from_is_err_and c.from_residual-in_err-slot.result c.from_residual-in_err-slot.ensures.1 in
    rw (p.1, p.2) (located_not block_limit col _ (sym e.refused) (sym c.in_range.ensures ∙ c.if-not-in_range.false) _ _ (c.block.ensures ∙ block_is block_limit _)
    (near_part block_limit col c.args.d (sym e.refused) _ _ k.start k.count _ e.accepted.0 _ c.part-part.ensures) _ c.in_err-slot.ensures)

pub returns : goal.returns
returns c =
    let e = c.in_ok-shape.ensures in
    let col = column_given c.args.directory.now c.args.slices in
    let k = near block_limit col _ (sym e.refused) _ _ e.accepted.1.target_is e.accepted.1.start_is _ c.length_of.ensures in
    located_at block_limit col _ (sym e.refused) (sym c.in_range.ensures ∙ c.if-not-in_range.false) _ _ (c.block.ensures ∙ block_is block_limit _)
    (near_part block_limit col c.args.d (sym e.refused) _ _ k.start k.count _ e.accepted.0 _ c.part-part.ensures) _ c.in_ok-slot.ensures _ _ e.accepted.1.target_is k.start
