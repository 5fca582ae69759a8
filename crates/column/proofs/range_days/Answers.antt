-- Each early refusal is the first check that fails. Past them one scan of the partitions from lo's to hi's answers the range (`scan_is`): where it is bad,
-- values out of range are 8 and else days 19.
use Rattle.std.proofs.Common.{Some, None, ◌∙◌, sym, ap, arith, length}
use Rattle.std.proofs.lemmas.Result.{err_from_is_err_and}
use Rattle.model.specs.Bounds.{block_limit}
use Rattle.model.specs.Deliveries.{Slices, rows}
use Rattle.model.specs.ColumnCalls.{Called}
use Rattle.model.specs.Lent.{column_given, span_given}
use Rattle.directory.proofs.LentColumns.{lent_column, count_lengths, numbered, most_shaped}
use Rattle.directory.proofs.Numbers.{block_is}
use Rattle.column.proofs.Answering.{refused_by, refused_lent}
use Rattle.column.proofs.Reading.{targets_ordered, target_there, scan_is, failed_is, range_backwards, range_bad, range_undated, range_good}
use Rattle.column.proofs.range_days.Goals as goal

pub returns-in_err-shape : goal.returns-in_err-shape
returns-in_err-shape c =
    let p = err_from_is_err_and c.from_residual.result c.from_residual.ensures.1 in
    rw p.1 (ap (λ (x : Called). x.answer) (refused_by block_limit _ _ _ (refused_lent block_limit _ _ _ _ p.2 c.in_err-shape.ensures.refused)))

pub returns-then-hi-lo : goal.returns-then-hi-lo
returns-then-hi-lo c =
    ap (λ (x : Called). x.answer) (refused_by block_limit _ _ _ (range_backwards block_limit _ (sym c.in_ok-shape.ensures.refused) _ _ _ _ c.into.ensures c.if-hi-lo.true))

pub last_scanned-to-requires : goal.last_scanned-to-requires
last_scanned-to-requires c =
    let e = c.in_ok-shape.ensures in
    (most_shaped block_limit _ (lent_column block_limit (column_given c.args.directory.now c.args.slices) (sym e.refused)), e.accepted.1.target_is)

pub lengths-lens-requires : goal.lengths-lens-requires
lengths-lens-requires c = numbered block_limit _ (lent_column block_limit (column_given c.args.directory.now c.args.slices) (sym c.in_ok-shape.ensures.refused))

pub block-block-requires : goal.block-block-requires
block-block-requires c = (lent_column block_limit (column_given c.args.directory.now c.args.slices) (sym c.in_ok-shape.ensures.refused)).shape.size

pub scan_parts-requires : goal.scan_parts-requires
scan_parts-requires c =
    let e = c.in_ok-shape.ensures in
    let h = sym e.refused in
    let col = column_given c.args.directory.now c.args.slices in
    let l = lent_column block_limit col h in
    rw (c.lengths-lens.ensures, c.last_scanned-to.ensures, c.block-block.ensures ∙ block_is block_limit _, e.accepted.1.target_is) (
      targets_ordered block_limit col h _ _ c.if-hi-lo.false,
      target_there block_limit col h _,
      omega (arith, l.shape.room, ap (λ (s : Slices). length s.growers) e.accepted.0),
      l.block,
      e.accepted.1.start_is,
    )

pub failed_check-requires : goal.failed_check-requires
failed_check-requires c =
    let e = c.in_ok-shape.ensures in
    let h = sym e.refused in
    let col = column_given c.args.directory.now c.args.slices in
    let l = lent_column block_limit col h in
    rw (c.lengths-lens.ensures, c.last_scanned-to.ensures, e.accepted.1.target_is) (
      targets_ordered block_limit col h _ _ c.if-hi-lo.false,
      target_there block_limit col h _,
      omega (arith, count_lengths block_limit col l, l.shape.few),
      omega (arith, l.shape.room, ap (λ (s : Slices). length s.growers) e.accepted.0),
      e.accepted.1.start_is,
    )

pub returns-in_default : goal.returns-in_default
returns-in_default c =
    let e = c.in_ok-shape.ensures in
    let h = sym e.refused in
    let col = column_given c.args.directory.now c.args.slices in
    let s = scan_is block_limit col h _ _ (span_given c.args.days) _ _ _ _ _ None c.lengths-lens.ensures e.accepted.1.target_is c.last_scanned-to.ensures
    (c.block-block.ensures ∙ block_is block_limit _) (ap rows e.accepted.0) c.in_default.ensures in
    let r = failed_is block_limit col h _ _ _ _ _ _ _ c.lengths-lens.ensures e.accepted.1.target_is c.last_scanned-to.ensures (ap rows e.accepted.0) c.failed_check.ensures in
    ap (λ (x : Called). x.answer) (refused_by block_limit col _ _ (range_bad block_limit col h _ _ (span_given c.args.days) c.if-hi-lo.false s _ r _ c.into-in_default.ensures))

pub returns-then-not-span_ok : goal.returns-then-not-span_ok
returns-then-not-span_ok c =
    let e = c.in_ok-shape.ensures in
    let h = sym e.refused in
    let col = column_given c.args.directory.now c.args.slices in
    let s = scan_is block_limit col h _ _ (span_given c.args.days) _ _ _ _ _ (Some c.in-Some.s) c.lengths-lens.ensures e.accepted.1.target_is c.last_scanned-to.ensures
    (c.block-block.ensures ∙ block_is block_limit _) (ap rows e.accepted.0) c.in-Some.ensures in
    ap (λ (x : Called). x.answer) (refused_by block_limit col _ _ (range_undated block_limit col h _ _ _ c.if-hi-lo.false _ s _ c.span_ok.ensures
    _ c.into-then-not-span_ok.ensures c.if-not-span_ok.true))

pub returns : goal.returns
returns c =
    let e = c.in_ok-shape.ensures in
    let h = sym e.refused in
    let col = column_given c.args.directory.now c.args.slices in
    let s = scan_is block_limit col h _ _ (span_given c.args.days) _ _ _ _ _ (Some c.in-Some.s) c.lengths-lens.ensures e.accepted.1.target_is c.last_scanned-to.ensures
    (c.block-block.ensures ∙ block_is block_limit _) (ap rows e.accepted.0) c.in-Some.ensures in
    range_good block_limit col h _ _ _ c.if-hi-lo.false _ s _ c.span_ok.ensures _ c.if-not-span_ok.false c.reads_of.ensures
