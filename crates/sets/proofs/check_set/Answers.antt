-- `sets::check_set` meets its contract: at each place the checks that were passed leave the rest of the list to answer, and the first that fails is the
-- answer; once all are passed they say the sizes. Assumes nothing.
use Rattle.std.proofs.Common.{ℕ, List, ◌≡◌, true, sym, ap, subst, ◌∙◌, length}
use Rattle.std.proofs.lemmas.Result.{err_from_is_err_and}
use Rattle.model.specs.Bounds.{block_limit}
use Rattle.model.specs.Deliveries.{Slices}
use Rattle.model.specs.Lent.{set_given}
use Rattle.checks.proofs.Answers.{fails, passes}
use Rattle.sets.specs.Sized.{Sized}
use Rattle.sets.proofs.Sets.{block_most, used_law, growers_law, set_ok, sized}
use Rattle.sets.proofs.check_set.Goals as goal

pub returns-then-not-block_length_ok-clause-answer : goal.returns-then-not-block_length_ok-clause-answer
returns-then-not-block_length_ok-clause-answer c = fails 2 _ _ (sym c.block_length_ok.ensures ∙ c.if-not-block_length_ok.true)

pub returns-in_err-records-clause-answer : goal.returns-in_err-records-clause-answer
returns-in_err-records-clause-answer c =
    let p = err_from_is_err_and c.from_residual.result c.from_residual.ensures.1 in
    let e = c.in_err-records.ensures.refused in
    rw (p.1, p.2, e.0) (passes 2 3 _ _ (sym c.block_length_ok.ensures ∙ c.if-not-block_length_ok.false) (fails 3 _ _ e.1))

pub used_ok-requires : goal.used_ok-requires
used_ok-requires c = block_most _ (sym c.block_length_ok.ensures ∙ c.if-not-block_length_ok.false)

pub returns-then-not-used_ok-clause-answer : goal.returns-then-not-used_ok-clause-answer
returns-then-not-used_ok-clause-answer c =
    let r = c.in_ok-records.ensures.accepted in
    let n = c.len.ensures ∙ ap (λ (t : Slices). length t.growers) r.1 in
    passes 2 4 _ _ (sym c.block_length_ok.ensures ∙ c.if-not-block_length_ok.false)
    (passes 3 4 _ _ r.0 (fails 4 _ _ (sym (c.used_ok.ensures ∙ used_law block_limit _ _ n) ∙ c.if-not-used_ok.true)))

pub returns-then-not-never_falling-clause-answer : goal.returns-then-not-never_falling-clause-answer
returns-then-not-never_falling-clause-answer c =
    let r = c.in_ok-records.ensures.accepted in
    let n = c.len.ensures ∙ ap (λ (t : Slices). length t.growers) r.1 in
    let g = ap (λ (t : Slices). t.growers) r.1 in
    passes 2 5 _ _ (sym c.block_length_ok.ensures ∙ c.if-not-block_length_ok.false)
    (passes 3 5 _ _ r.0
    (passes 4 5 _ _ (sym (c.used_ok.ensures ∙ used_law block_limit _ _ n) ∙ c.if-not-used_ok.false)
    (fails 5 _ _ (sym (c.never_falling.ensures ∙ growers_law block_limit _ _ g) ∙ c.if-not-never_falling.true))))

pub returns-clause-answer : goal.returns-clause-answer
returns-clause-answer c =
    let r = c.in_ok-records.ensures.accepted in
    let n = c.len.ensures ∙ ap (λ (t : Slices). length t.growers) r.1 in
    let g = ap (λ (t : Slices). t.growers) r.1 in
    set_ok block_limit _ (sym c.block_length_ok.ensures ∙ c.if-not-block_length_ok.false) r.0
    (sym (c.used_ok.ensures ∙ used_law block_limit _ _ n) ∙ c.if-not-used_ok.false)
    (sym (c.never_falling.ensures ∙ growers_law block_limit _ _ g) ∙ c.if-not-never_falling.false)

pub invariant_of-result : goal.invariant_of-result
invariant_of-result c =
    let r = c.in_ok-records.ensures.accepted in
    let n = c.len.ensures ∙ ap (λ (t : Slices). length t.growers) r.1 in
    let g = ap (λ (t : Slices). t.growers) r.1 in
    let s = c.args.set in
    record {
      sized = subst (λ (gs : List ℕ). Sized block_limit s.block s.used (length gs)) (sym g)
          (sized block_limit (set_given s)
          (set_ok block_limit _ (sym c.block_length_ok.ensures ∙ c.if-not-block_length_ok.false) r.0
          (sym (c.used_ok.ensures ∙ used_law block_limit _ _ n) ∙ c.if-not-used_ok.false)
          (sym (c.never_falling.ensures ∙ growers_law block_limit _ _ g) ∙ c.if-not-never_falling.false)));
    }
