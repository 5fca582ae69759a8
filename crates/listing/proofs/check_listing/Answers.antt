-- `listing::check_listing` meets its contract: past the checks of what is given and 23, what `size_rest` counts is the permitted layouts and their lines, which
-- 11 and 15 are put of. Assumes nothing.
use Rattle.std.proofs.Common.{sym, ap, ◌∙◌, arith}
use Rattle.std.proofs.lemmas.Result.{err_from_is_err_and}
use Rattle.model.specs.Bounds.{block_limit}
use Rattle.model.specs.Blocks.{blocks}
use Rattle.sets.proofs.Sets.{blocks-least}
use Rattle.permitted.proofs.Given.{plan_given, marked_all}
use Rattle.permitted.proofs.Permitted.{flagged}
use Rattle.layout_lines.specs.declared.Rules.{Rules}
use Rattle.listing.specs.Answers.{rules_of}
use Rattle.listing.proofs.ListingAnswers.{not_given, too_many, counted, none_there, too_short, all_passed}
use Rattle.listing.proofs.check_listing.Goals as goal

pub returns-in_err-checked-clause-refused : goal.returns-in_err-checked-clause-refused
returns-in_err-checked-clause-refused c =
    let p = err_from_is_err_and c.from_residual.result c.from_residual.ensures.1 in
    rw (p.1, p.2) (not_given block_limit _ _ _ _ _ _ c.in_err-checked.ensures.answer)

pub returns-then-n-gt-MOST_LISTED_BLOCKS-clause-refused : goal.returns-then-n-gt-MOST_LISTED_BLOCKS-clause-refused
returns-then-n-gt-MOST_LISTED_BLOCKS-clause-refused c =
    let s = c.in_ok-checked.ensures in
    too_many block_limit _ _ _ _ _ (sym s.answer) (omega (arith, c.block_count-n.ensures ∙ ap blocks s.accepted, c.if-n-gt-MOST_LISTED_BLOCKS.true))

pub rules_of-rules-requires : goal.rules_of-rules-requires
rules_of-rules-requires c = (plan_given block_limit _ _ _ _ (sym c.in_ok-checked.ensures.answer)).prices

pub mark-requires : goal.mark-requires
mark-requires c = record { sized = c.in_ok-checked.checked.sized; n_le_block_limit = (omega arith, omega arith) }

pub invariant_of-choices : goal.invariant_of-choices
invariant_of-choices c =
    let b = ap (λ (x : Rules). x.blocks) c.rules_of-rules.ensures in
    record { few = omega (arith, b); marked = omega (arith, b, c.mark.ensures.long) }

pub size_rest-s-requires : goal.size_rest-s-requires
size_rest-s-requires c =
    let b = ap (λ (x : Rules). x.blocks) c.rules_of-rules.ensures in
    record { inside = omega (arith, b, c.block_count-n.ensures, blocks-least c.in_ok-checked.checked.sized); first = omega arith; count = omega arith }

pub returns-then-s-eq0-clause-refused : goal.returns-then-s-eq0-clause-refused
returns-then-s-eq0-clause-refused c =
    let s = c.in_ok-checked.ensures in
    let n = c.block_count-n.ensures ∙ ap blocks s.accepted in
    let r = c.rules_of-rules.ensures ∙ ap (rules_of c.args.card c.args.limits) n in
    let f = flagged _ _ _ (plan_given block_limit _ _ _ _ (sym s.answer)).some (marked_all s.accepted n c.mark.ensures) in
    none_there (counted block_limit _ _ _ _ (sym s.answer) (omega (arith, n)) r f c.size_rest-s.ensures) _ c.if-s-eq0.true

pub returns-then-room-s-clause-refused : goal.returns-then-room-s-clause-refused
returns-then-room-s-clause-refused c =
    let s = c.in_ok-checked.ensures in
    let n = c.block_count-n.ensures ∙ ap blocks s.accepted in
    let r = c.rules_of-rules.ensures ∙ ap (rules_of c.args.card c.args.limits) n in
    let f = flagged _ _ _ (plan_given block_limit _ _ _ _ (sym s.answer)).some (marked_all s.accepted n c.mark.ensures) in
    too_short (counted block_limit _ _ _ _ (sym s.answer) (omega (arith, n)) r f c.size_rest-s.ensures) _ c.if-s-eq0.false c.if-room-s.true

pub returns : goal.returns
returns c =
    let s = c.in_ok-checked.ensures in
    let n = c.block_count-n.ensures ∙ ap blocks s.accepted in
    let r = c.rules_of-rules.ensures ∙ ap (rules_of c.args.card c.args.limits) n in
    let f = flagged _ _ _ (plan_given block_limit _ _ _ _ (sym s.answer)).some (marked_all s.accepted n c.mark.ensures) in
    let k = counted block_limit _ _ _ _ (sym s.answer) (omega (arith, n)) r f c.size_rest-s.ensures in
    record {
      refused = all_passed k _ c.if-s-eq0.false c.if-room-s.false;
      accepted = record {
        rules = r;
        long = c.mark.ensures.long;
        ends = f.marks;
        layouts = k.count;
        bytes = k.size;
      };
    }
