-- `column::neighbour`: a refusal is the first of checks 2, 3 and 6 that fails. Past them the search begins at the grower's partition, as the directory's
-- pass found it, and is the call (`grower_yes`).
use Rattle.std.proofs.Common.{true, ◌≡◌, sym, ap, ◌∙◌, arith}
use Rattle.std.proofs.lemmas.Result.{err_from_is_err_and}
use Rattle.model.specs.Bounds.{block_limit}
use Rattle.model.specs.Checks.{first_failed}
use Rattle.model.specs.Partitions.{start_of, parts}
use Rattle.model.specs.Column.{lengths_of}
use Rattle.model.specs.Lent.{column_given, records_given}
use Rattle.model.specs.Questions.{lent_checks}
use Rattle.model.proofs.Refusals.{refusal_some}
use Rattle.directory.proofs.LentColumns.{LentColumn, lent_column, numbered, count_lengths}
use Rattle.directory.proofs.Numbers.{block_is}
use Rattle.column.proofs.Reading.{target_there}
use Rattle.column.proofs.Neighbours.{grower_no, grower_yes}
use Rattle.std.proofs.Common.{List, ℕ, length}
use Rattle.model.specs.Deliveries.{Slices, rows}
use Rattle.model.specs.declared.GrowerAnswer.{GrowerAnswer}
use Rattle.model.specs.Growers.{Direction, path}
use Rattle.growers.specs.Searches.{searched}
use Rattle.model.specs.declared.lent.LentSlices.{LentSlices}
use Rattle.column.proofs.neighbour.Goals as goal

-- past checks 2, 3 and 6
passed : (ns : List ℕ) (s : LentSlices) → 0 ≡ first_failed (lent_checks block_limit (column_given ns s)) → LentColumn block_limit (column_given ns s)
passed ns s e = lent_column block_limit _ (sym e)

-- what the search says of the column
of_column : (w : Direction) (k t : ℕ) {x : GrowerAnswer} (b b' : ℕ) (ns ns' : List ℕ) (s s' : Slices) → x ≡ searched b w k (parts ns (rows s)) (path w (length ns) t) true 0
    → b ≡ b' → ns ≡ ns' → s ≡ s' → x ≡ searched b' w k (parts ns' (rows s')) (path w (length ns') t) true 0
of_column w k t b b' ns ns' s s' e p q r = rw (p, q, r) at e

pub returns-in_err-shape : goal.returns-in_err-shape
returns-in_err-shape g c =
    let p = err_from_is_err_and c.from_residual.result c.from_residual.ensures.1 in
    rw (p.1, p.2)
    (grower_no block_limit (column_given c.args.directory.now c.args.slices) g.W.Way.direction c.args.grower _ c.in_err-shape.ensures.refused (refusal_some _))

pub lengths-requires : goal.lengths-requires
lengths-requires g c = numbered block_limit _ (passed c.args.directory.now c.args.slices c.in_ok-shape.ensures.refused)

pub block-requires : goal.block-requires
block-requires g c = (passed c.args.directory.now c.args.slices c.in_ok-shape.ensures.refused).shape.size

pub search-requires : goal.search-requires
search-requires g c =
    let ok : 0 ≡ first_failed (lent_checks block_limit (column_given c.args.directory.now c.args.slices)) = c.in_ok-shape.ensures.refused in
    let at = c.in_ok-shape.ensures.accepted.1 in
    let l = passed c.args.directory.now c.args.slices ok in
    let many : length c.in_ok-shape.shape.records.growers.now ≡ length c.args.slices.growers.now = ap (λ (s : Slices). length s.growers) c.in_ok-shape.ensures.accepted.0 in
    rw (c.lengths.ensures, c.block.ensures ∙ block_is block_limit _) (
      rw at.target_is (target_there block_limit (column_given c.args.directory.now c.args.slices) (sym ok) c.args.grower),
      omega (arith, count_lengths block_limit _ l, l.shape.few),
      omega (arith, l.shape.room, many),
      l.block,
      at.start_is ∙ ap (start_of (lengths_of block_limit (column_given c.args.directory.now c.args.slices))) (sym at.target_is),
    )

pub returns : goal.returns
returns g c =
    let ok : 0 ≡ first_failed (lent_checks block_limit (column_given c.args.directory.now c.args.slices)) = c.in_ok-shape.ensures.refused in
    let at = c.in_ok-shape.ensures.accepted.1 in
    of_column g.W.Way.direction c.args.grower c.in_ok-shape.shape.target _ _ _ _ (records_given c.in_ok-shape.shape.records) _ c.search.ensures
    (c.block.ensures ∙ block_is block_limit _) c.lengths.ensures c.in_ok-shape.ensures.accepted.0
    ∙ grower_yes block_limit (column_given c.args.directory.now c.args.slices) g.W.Way.direction c.args.grower _ (sym ok) at.target_is
