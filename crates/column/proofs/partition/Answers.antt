-- Refused, the number is that of the first check that fails; past the checks start and count are those of the grower's partition, and fit 32 bits since the
-- lengths sum to at most 262,144.
use Rattle.std.proofs.Common.{ℕ, ◌∙◌, ap, arith, sym, get_or}
use Rattle.std.proofs.lemmas.Result.{err_from_is_err_and}
use Rattle.model.specs.Bounds.{block_limit}
use Rattle.model.specs.Place.{place}
use Rattle.model.specs.Directory.{directory_of}
use Rattle.model.proofs.Refusals.{refusal_some}
use Rattle.directory.proofs.Numbers.{dir_start, dir_fits}
use Rattle.column.proofs.Handing.{partition_refused, partition_done, partition_directory, partition_has}
use Rattle.column.proofs.partition.Goals as goal

pub returns-in_err-place : goal.returns-in_err-place
returns-in_err-place c =
    let p = err_from_is_err_and c.from_residual.result c.from_residual.ensures.1 in
    rw (p.1, p.2) (partition_refused block_limit _ _ _ _ c.in_err-place.ensures.refused (refusal_some _))

pub length_of-count-requires : goal.length_of-count-requires
length_of-count-requires c =
    let e = c.in_ok-place.ensures in
    rw e.accepted.target_is (partition_has block_limit _ _ _ (sym e.refused))

pub overflow_cast-result : goal.overflow_cast-result
overflow_cast-result c =
    let e = c.in_ok-place.ensures in
    let d = c.args.directory.now in
    omega (arith, e.accepted.start_is, dir_start block_limit d (partition_directory block_limit _ _ c.args.grower (sym e.refused)) (place (directory_of block_limit d).fences c.args.grower))

pub overflow_cast-result-2 : goal.overflow_cast-result-2
overflow_cast-result-2 c =
    let e = c.in_ok-place.ensures in
    omega (arith, c.length_of-count.ensures, dir_fits block_limit c.args.directory.now (partition_directory block_limit _ _ c.args.grower (sym e.refused)) c.in_ok-place.place.target)

pub returns : goal.returns
returns c =
    let e = c.in_ok-place.ensures in
    let ns = (directory_of block_limit c.args.directory.now).lengths in
    partition_done block_limit _ _ _ (sym e.refused) _ _ e.accepted.start_is (c.length_of-count.ensures ∙ ap (λ (t : ℕ). get_or ns t 0) e.accepted.target_is)
