-- `directory::judged`: each test that fails contradicts one part of a proper directory (`Shaped`), and all together make it; the survey's
-- sum and place are then those of the directory's lengths and fences.
use Rattle.std.proofs.Common.{◌≡◌, ◌≤◌, length, get_or, arith, ap, sym, ◌∙◌}
use Rattle.model.specs.Bounds.{block_limit}
use Rattle.model.specs.Directory.{directory_size}
use Rattle.model.specs.Lists.{sum_of, rising}
use Rattle.model.proofs.Tests.{of_true, no_such}
use Rattle.directory.proofs.Judging.{judged_not, judged_yes, lengths_part, fences_part, unused_both, unused_parts}
use Rattle.directory.proofs.judged.Goals as goal
use Rattle.directory.proofs.judged.Goals.{Else-c-place}

pub returns-then-directory-ne-DIRECTORY_SIZE-clause-refused : goal.returns-then-directory-ne-DIRECTORY_SIZE-clause-refused
returns-then-directory-ne-DIRECTORY_SIZE-clause-refused c = judged_not block_limit _ _ (λ s. c.if-directory-ne-DIRECTORY_SIZE.true s.size)

pub returns-then-k-lt1-clause-refused : goal.returns-then-k-lt1-clause-refused
returns-then-k-lt1-clause-refused c = judged_not block_limit _ _ (λ s. let some = s.some in let few = s.few in omega arith)

pub returns-then-not-zeros-clause-refused : goal.returns-then-not-zeros-clause-refused
returns-then-not-zeros-clause-refused c =
    let not-zero = sym c.zeros.ensures ∙ c.if-not-zeros.true in
    judged_not block_limit _ _ (λ s. no_such (unused_parts block_limit _ s.size s.few s.unused) not-zero)

pub returns-in_default-clause-refused : goal.returns-in_default-clause-refused
returns-in_default-clause-refused c =
    judged_not block_limit _ _ (λ s. no_such s.rises (ap rising (sym (fences_part block_limit _ s.size s.few)) ∙ c.in_default.ensures.0))

pub returns-then-c-place-clause-refused : goal.returns-then-c-place-clause-refused
returns-then-c-place-clause-refused c =
    judged_not block_limit _ _ (λ s. let h = s.room in omega (arith, c.in-Ok.ensures.1 ∙ ap sum_of (lengths_part block_limit c.args.directory.now s.size s.few)))

few : (c : Else-c-place) → get_or c.args.directory.now 1 0 ≤ block_limit
few c = omega arith

pub returns-clause-refused : goal.returns-clause-refused
returns-clause-refused c =
    let ns = c.args.directory.now in
    let size : length ns ≡ directory_size block_limit = c.if-directory-ne-DIRECTORY_SIZE.false in
    let s = c.in-Ok.ensures in
    let up = of_true _ s.0 in
    let sum = s.1 ∙ ap sum_of (lengths_part block_limit ns size (few c)) in
    judged_yes block_limit c.args.c ns (record {
      size = size;
      some = omega arith;
      few = few c;
      unused = unused_both block_limit ns size (few c) (of_true _ (sym c.zeros.ensures ∙ c.if-not-zeros.false));
      rises = rw (fences_part block_limit ns size (few c)) at up;
      room = omega arith;
    })

pub returns-clause-accepted : goal.returns-clause-accepted
returns-clause-accepted c =
    let ns = c.args.directory.now in
    let size : length ns ≡ directory_size block_limit = c.if-directory-ne-DIRECTORY_SIZE.false in
    let lens = lengths_part block_limit ns size (few c) in
    let fences = fences_part block_limit ns size (few c) in
    let s = c.in-Ok.ensures in
    record { used_is = s.1 ∙ ap sum_of lens; target_is = rw fences at s.2; start_is = rw (lens, fences) at s.3 }
