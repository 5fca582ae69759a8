-- An empty partition is refused by 13, and no block of it is read. Of any other what `seek_all` finds decides 8, 19 and 13, and the scan is counted by the
-- partition's blocks; where not all records pass both checks, their values tell which of the two fails.
use Rattle.std.proofs.Common.{List, ◌≡◌, ◌∙◌, sym, ap, arith, Bool, true, false, length}
use mathlib.Core.Bool.{◌&&◌}
use Rattle.model.specs.declared.Delivery.{Delivery}
use Rattle.model.specs.declared.lent.Records.{Records}
use Rattle.model.specs.Lists.{every}
use Rattle.model.specs.Deliveries.{rows, in_range, day_ok, first_match}
use Rattle.model.specs.Lent.{records_given}
use Rattle.model.specs.Accesses.{blocks_of, reads_of}
use Rattle.model.proofs.Deliveries.{length-rows, values_rows}
use Rattle.scan.specs.Scans.{all_fit}
use Rattle.scan.proofs.Fitting.{fit_some, fit_none, values_pass, days_pass}
use Rattle.column.proofs.Searching.{search_empty, empty_undated, search_bad, search_late, search_undated, search_found, search_missing}
use Rattle.column.proofs.search_part.Goals as goal

size : (r : Records) → length (rows (records_given r)) ≡ length r.growers.now
size r = length-rows (records_given r) r.even

pub returns-then-not-dated : goal.returns-then-not-dated
returns-then-not-dated c = empty_undated _ _ _ _ c.into.ensures (omega (arith, size c.args.r)) (sym c.day_ok-dated.ensures ∙ c.if-not-dated.true)

pub returns-then-len-eq0 : goal.returns-then-len-eq0
returns-then-len-eq0 c =
    search_empty _ _ _ _ c.into-then-len-eq0.ensures c.requires (omega (arith, size c.args.r)) (sym c.day_ok-dated.ensures ∙ c.if-not-dated.false)

pub returns-then-values_ok : goal.returns-then-values_ok
returns-then-values_ok c =
    let r = c.args.r in
    search_late _ _ _ _ c.into-then-values_ok.ensures (fit_none (rows (records_given r)) _ c.in_default.ensures)
    (values_rows (records_given r) r.even ∙ sym c.values_ok.ensures ∙ c.if-values_ok.true)

pub returns-in_default : goal.returns-in_default
returns-in_default c =
    let r = c.args.r in
    search_bad _ _ _ _ c.into-in_default.ensures (values_rows (records_given r) r.even ∙ sym c.values_ok.ensures ∙ c.if-values_ok.false)

-- all records pass both checks
fit : (d : Delivery) (ds : List Delivery) (dated : Bool) → all_fit ds ≡ true → dated ≡ day_ok d → (every in_range ds ≡ true) × (day_ok d && every day_ok ds ≡ dated)
fit d ds true e f = (values_pass ds e, rw (← f) (days_pass ds e))
fit d ds false e f = (values_pass ds e, rw (← f))

pub returns-then-not-dated-2 : goal.returns-then-not-dated-2
returns-then-not-dated-2 c =
    let ds = rows (records_given c.args.r) in
    let sought = fit_some ds c.in-Some.slot (first_match c.args.d ds) c.in-Some.ensures in
    let p = fit c.args.d ds c.day_ok-dated.result sought.0 c.day_ok-dated.ensures in
    search_undated _ _ _ _ c.into-then-not-dated-2.ensures p.0 (p.1 ∙ c.if-not-dated-2.true)

pub returns-then-found-len : goal.returns-then-found-len
returns-then-found-len c =
    let r = c.args.r in
    let ds = rows (records_given r) in
    let sought = fit_some ds c.in-Some.slot (first_match c.args.d ds) c.in-Some.ensures in
    let p = fit c.args.d ds c.day_ok-dated.result sought.0 c.day_ok-dated.ensures in
    search_found c.args.block c.args.d ds p.0 (p.1 ∙ c.if-not-dated-2.false) _ _ sought.1
    (c.reads_of.ensures ∙ ap reads_of (c.blocks_of.ensures ∙ ap (blocks_of c.args.block) (c.len-2.ensures ∙ sym (size r)))) (omega (arith, size r))

pub returns : goal.returns
returns c =
    let r = c.args.r in
    let ds = rows (records_given r) in
    let sought = fit_some ds c.in-Some.slot (first_match c.args.d ds) c.in-Some.ensures in
    let p = fit c.args.d ds c.day_ok-dated.result sought.0 c.day_ok-dated.ensures in
    search_missing c.args.block c.args.d ds p.0 (p.1 ∙ c.if-not-dated-2.false) _ _ sought.1
    (c.reads_of.ensures ∙ ap reads_of (c.blocks_of.ensures ∙ ap (blocks_of c.args.block) (c.len-2.ensures ∙ sym (size r)))) (omega (arith, size r))
