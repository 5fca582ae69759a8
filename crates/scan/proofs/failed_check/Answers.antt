-- The partitions are one part of each slice.
use Rattle.std.proofs.Common.{◌+◌, ◌-◌, sym, ap, ◌∙◌, arith}
use Rattle.model.specs.Lent.{records_given}
use Rattle.model.specs.Deliveries.{Slices}
use Rattle.checks.specs.Values.{all_values_ok}
use Rattle.scan.proofs.Scanning.{parts_end, parts_values}
use Rattle.scan.proofs.failed_check.Goals as goal

pub overflow_add-stop : goal.overflow_add-stop
overflow_add-stop c = let a = c.args in omega (arith, c.total.ensures, parts_end a.lens.now a.from (a.to + 1 - a.from) a.start c.requires.4, a.r.few)

pub part-scanned-requires : goal.part-scanned-requires
part-scanned-requires c = let a = c.args in let e = parts_end a.lens.now a.from (a.to + 1 - a.from) a.start c.requires.4 in (omega arith, omega (arith, c.total.ensures))

pub returns-then-values_ok : goal.returns-then-values_ok
returns-then-values_ok c =
    let a = c.args in
    let judged = ap (λ (s : Slices). all_values_ok s.weights s.yields) (sym c.part-scanned.ensures) ∙ sym c.values_ok.ensures in
    rw (parts_values a.lens.now a.from (a.to + 1 - a.from) a.start c.requires.4 (records_given a.r) a.r.even _ c.total.ensures ∙ judged ∙ c.if-values_ok.true)

pub returns : goal.returns
returns c =
    let a = c.args in
    let judged = ap (λ (s : Slices). all_values_ok s.weights s.yields) (sym c.part-scanned.ensures) ∙ sym c.values_ok.ensures in
    rw (parts_values a.lens.now a.from (a.to + 1 - a.from) a.start c.requires.4 (records_given a.r) a.r.even _ c.total.ensures ∙ judged ∙ c.if-values_ok.false)
