-- `directory::lent`: the first check that fails answers.
use Rattle.std.proofs.Common.{◌≡◌, length, ℕ, ap, sym, ◌∙◌}
use Rattle.checks.proofs.Answers.{fails, passes}
use Rattle.std.proofs.lemmas.Result.{err_from_is_err_and}
use Rattle.directory.proofs.lent.Goals as goal
use Rattle.model.specs.Deliveries.{Slices}

-- the records are as many as the growers lent
many : {n : ℕ} {s t : Slices} → n ≡ length s.growers → s ≡ t → n ≡ length t.growers
many h e = h ∙ ap (λ (s : Slices). length s.growers) e

pub returns-then-not-directory_block_ok-clause-refused : goal.returns-then-not-directory_block_ok-clause-refused
returns-then-not-directory_block_ok-clause-refused c = fails 2 _ _ (sym c.directory_block_ok.ensures ∙ c.if-not-directory_block_ok.true)

pub returns-in_err-records-clause-refused : goal.returns-in_err-records-clause-refused
returns-in_err-records-clause-refused c =
    let e = c.in_err-records.ensures.refused in
    let p = err_from_is_err_and c.from_residual.result c.from_residual.ensures.1 in
    rw (p.1, p.2, e.0) (passes 2 3 _ _ (sym c.directory_block_ok.ensures ∙ c.if-not-directory_block_ok.false) (fails 3 _ _ e.1))

pub returns-in_err-used-clause-refused : goal.returns-in_err-used-clause-refused
returns-in_err-used-clause-refused c =
    let p = err_from_is_err_and c.from_residual-in_err-used.result c.from_residual-in_err-used.ensures.1 in
    let n : c.len.result ≡ length c.args.slices.growers.now = many c.len.ensures c.in_ok-records.ensures.accepted.1 in
    rw (p.1, p.2)
    (passes 2 _ _ _ (sym c.directory_block_ok.ensures ∙ c.if-not-directory_block_ok.false) (passes 3 _ _ _ c.in_ok-records.ensures.accepted.0 (rw n at c.in_err-used.ensures.refused)))

pub returns-clause-refused : goal.returns-clause-refused
returns-clause-refused c =
    let n : c.len.result ≡ length c.args.slices.growers.now = many c.len.ensures c.in_ok-records.ensures.accepted.1 in
    passes 2 _ _ _ (sym c.directory_block_ok.ensures ∙ c.if-not-directory_block_ok.false) (passes 3 _ _ _ c.in_ok-records.ensures.accepted.0 (rw n at c.in_ok-used.ensures.refused))
