-- `listing::list_layouts` meets its contract: past its checks, what `add_up` and `check_listing` leave makes `put_all` write the listing. Assumes nothing.
use Rattle.std.proofs.Common.{ℕ, List, sym, ap, ◌∙◌, length, arith}
use Rattle.std.proofs.lemmas.Result.{err_from_is_err_and}
use Rattle.model.specs.Bounds.{block_limit}
use Rattle.model.specs.Lent.{set_given}
use Rattle.fields.specs.Writing.{placed}
use Rattle.block_costs.proofs.TermLaws.{summed_holds}
use Rattle.permitted.proofs.Given.{plan_given}
use Rattle.permitted.proofs.Permitted.{Flagged}
use Rattle.layout_lines.specs.declared.Rules.{Rules}
use Rattle.listing.proofs.ListingAnswers.{list_refused, can_list, list_done, lines_are}
use Rattle.listing.proofs.list_layouts.Goals as goal

pub returns-in_err-sized : goal.returns-in_err-sized
returns-in_err-sized c =
    let p = err_from_is_err_and c.from_residual.result c.from_residual.ensures.1 in
    rw (p.1, p.2) (list_refused block_limit _ _ _ _ _ _ c.in_err-sized.ensures.refused)

pub invariant_of-counts : goal.invariant_of-counts
invariant_of-counts c =
    let g = plan_given block_limit _ _ _ _ (can_list block_limit _ _ _ _ _ (sym c.in_ok-sized.ensures.refused)).given in
    record { priced = g.prices; counted = g.counts }

pub add_up-requires : goal.add_up-requires
add_up-requires c =
    let a = c.in_ok-sized.ensures in
    omega (arith, ap (λ (x : Rules). x.blocks) a.accepted.rules, (can_list block_limit _ _ _ _ _ (sym a.refused)).small)

pub invariant_of-given : goal.invariant_of-given
invariant_of-given c =
    let a = c.in_ok-sized.ensures in
    let w = can_list block_limit _ _ _ _ _ (sym a.refused) in
    let g = plan_given block_limit _ _ _ _ w.given in
    let l = c.add_up.ensures in
    let b = ap (λ (x : Rules). x.blocks) a.accepted.rules in
    record { hold = summed_holds _ _ _ _ _ l.summed g.prices g.counts (omega (arith, b, w.small)) (omega (arith, b, w.small, l.long)) }

pub invariant_of-choices : goal.invariant_of-choices
invariant_of-choices c =
    let a = c.in_ok-sized.ensures in
    let w = can_list block_limit _ _ _ _ _ (sym a.refused) in
    let b = ap (λ (x : Rules). x.blocks) a.accepted.rules in
    record { few = omega (arith, b, w.small); marked = omega (arith, b, w.small, a.accepted.long) }

pub put_all-requires-clause-blocks : goal.put_all-requires-clause-blocks
put_all-requires-clause-blocks c =
    let a = c.in_ok-sized.ensures in
    let g = plan_given block_limit _ _ _ _ (can_list block_limit _ _ _ _ _ (sym a.refused)).given in
    omega (arith, ap (λ (x : Rules). x.blocks) a.accepted.rules, g.some)

pub put_all-requires-clause-room : goal.put_all-requires-clause-room
put_all-requires-clause-room c =
    let a = c.in_ok-sized.ensures in
    let w = can_list block_limit _ _ _ _ _ (sym a.refused) in
    let g = plan_given block_limit _ _ _ _ w.given in
    let f : Flagged (set_given c.args.set) c.in_ok-sized.sized.fits = record { marks = a.accepted.ends; some = g.some } in
    let b = ap (λ (x : Rules). x.blocks) a.accepted.rules in
    let l = c.add_up.ensures in
    let h = summed_holds _ _ _ _ _ l.summed g.prices g.counts (omega (arith, b, w.small)) (omega (arith, b, w.small, l.long)) in
    omega (arith, ap length (lines_are block_limit _ _ _ _ _ a.accepted.rules f l.summed h), w.size)

pub returns : goal.returns
returns c =
    let a = c.in_ok-sized.ensures in
    let w = can_list block_limit _ _ _ _ _ (sym a.refused) in
    let g = plan_given block_limit _ _ _ _ w.given in
    let f : Flagged (set_given c.args.set) c.in_ok-sized.sized.fits = record { marks = a.accepted.ends; some = g.some } in
    let b = ap (λ (x : Rules). x.blocks) a.accepted.rules in
    let l = c.add_up.ensures in
    let h = summed_holds _ _ _ _ _ l.summed g.prices g.counts (omega (arith, b, w.small)) (omega (arith, b, w.small, l.long)) in
    list_done block_limit _ _ _ _ _ _ a.refused a.accepted.layouts a.accepted.bytes
    (c.put_all.ensures ∙ ap (λ (x : List ℕ). placed 0 x c.args.text.now) (lines_are block_limit _ _ _ _ _ a.accepted.rules f l.summed h))
