-- Two numbers with a comma and one with a line end are a record of three.
use Rattle.std.proofs.Common.{sym, ◌∙◌, arith}
use Rattle.csv_rows.proofs.ShortLaws.{short_three}
use Rattle.csv_rows.proofs.short_record.Goals as goal

pub returns : goal.returns
returns c =
    short_three _ c.requires c.in_ok-grower.ensures.is c.in_ok-weight.ensures.is c.in_ok-oil_yield.ensures.is (omega arith)
    (sym c.in_order.ensures ∙ c.if-not-in_order.false)
