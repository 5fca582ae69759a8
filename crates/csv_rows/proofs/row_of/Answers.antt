-- A record with the header's count of fields is a row just if the three numbers are there and in their ranges.
use Rattle.std.proofs.Common.{arith}
use Rattle.model.specs.Bounds.{most_weight, most_yield}
use Rattle.csv_rows.proofs.RowLaws.{none_there, too_large, in_range_lem, row_count, row_no_grower, row_no_weight, row_no_yield, row_good}
use Rattle.csv_rows.proofs.row_of.Goals as goal
use Rattle.csv_rows.proofs.row_of.Goals.{then-weight-gt-MOST_WEIGHT-via-then-weight-gt-MOST_WEIGHT, then-weight-gt-MOST_WEIGHT-via-else-weight-gt-MOST_WEIGHT+then-oil_yield-gt-MOST_YIELD}

pub returns-then-read-c : goal.returns-then-read-c
returns-then-read-c c = record { is = λ text at p. row_count p c.if-read-c.true }

pub returns-in_err-grower : goal.returns-in_err-grower
returns-in_err-grower c = rw c.from_residual.ensures (record { is = λ text at p. row_no_grower p (omega arith) c.in_err-grower.was })

pub returns-in_err-weight : goal.returns-in_err-weight
returns-in_err-weight c =
    rw c.from_residual-in_err-weight.ensures (record { is = λ text at p. row_no_weight p (omega arith) (none_there most_weight c.in_err-weight.was) })

pub returns-in_err-oil_yield : goal.returns-in_err-oil_yield
returns-in_err-oil_yield c =
    rw c.from_residual-in_err-oil_yield.ensures (record { is = λ text at p. row_no_yield p (omega arith) (none_there most_yield c.in_err-oil_yield.was) })

pub returns-then-weight-gt-MOST_WEIGHT : goal.returns-then-weight-gt-MOST_WEIGHT
returns-then-weight-gt-MOST_WEIGHT c =
    elim c.then-weight-gt-MOST_WEIGHT.branch [
      | then-weight-gt-MOST_WEIGHT-via-then-weight-gt-MOST_WEIGHT w ↦
          record { is = λ text at p. row_no_weight p (omega arith) (too_large most_weight c.in_ok-weight.was (omega arith)) }
      | then-weight-gt-MOST_WEIGHT-via-else-weight-gt-MOST_WEIGHT+then-oil_yield-gt-MOST_YIELD w ↦
          record { is = λ text at p. row_no_yield p (omega arith) (too_large most_yield c.in_ok-oil_yield.was (omega arith)) }
    ]

pub returns : goal.returns
returns c = record {
  is = λ text at p.
      row_good p (omega arith) c.in_ok-grower.was (in_range_lem most_weight c.in_ok-weight.was (omega arith))
      (in_range_lem most_yield c.in_ok-oil_yield.was (omega arith));
}
