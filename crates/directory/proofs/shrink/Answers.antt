-- `directory::shrink`: one number stored is one length changed.
use Rattle.std.proofs.Common.{ℕ, ◌-◌, arith, ap, ◌∙◌}
use Rattle.std.proofs.Math.ListN.{set}
use Rattle.model.specs.Directory.{directory_of, with_lengths}
use Rattle.directory.proofs.Numbers.{has_place, has_length, has_stored}
use Rattle.model.specs.Bounds.{block_limit}
use Rattle.directory.proofs.shrink.Goals as goal

pub bounds-directory-partition : goal.bounds-directory-partition
bounds-directory-partition c = omega (arith, has_place block_limit _ _ c.requires.0)

pub overflow_sub-directory : goal.overflow_sub-directory
overflow_sub-directory c = omega (arith, has_length block_limit _ _ c.requires.0, c.requires.1)

pub bounds-directory-partition-2 : goal.bounds-directory-partition-2
bounds-directory-partition-2 c = omega (arith, has_place block_limit _ _ c.requires.0)

pub returns : goal.returns
returns c =
    let ns = c.args.directory.now in
    has_stored block_limit _ _ c.requires.0 _
    ∙ ap (λ (n : ℕ). with_lengths (set (directory_of block_limit ns).lengths c.args.partition (n - 1)) ns) (has_length block_limit _ _ c.requires.0)
