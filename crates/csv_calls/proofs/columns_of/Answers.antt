-- Each return is an answer of `HeaderLaws`, over what was found of the three names.
use Rattle.std.proofs.Common.{◌≡◌, refl, arith}
use Rattle.std.proofs.lemmas.Result.{err_from_is_err_and}
use Rattle.model.specs.declared.refusal.Refusal.TheVariants.{NameAbsent}
use Rattle.csv_fields.specs.Reading.{holds_quote}
use Rattle.csv_calls.proofs.HeaderLaws.{header_torn, header_absent, header_twice, header_passed, header_good}
use Rattle.csv_calls.proofs.columns_of.Goals as goal

-- no name holds a quote
pub find_name-requires : goal.find_name-requires
unfolding holds_quote
find_name-requires c = refl

pub find_name-requires-2 : goal.find_name-requires-2
unfolding holds_quote
find_name-requires-2 c = refl

pub find_name-requires-3 : goal.find_name-requires-3
unfolding holds_quote
find_name-requires-3 c = refl

pub returns-in_err-grower-clause-refused : goal.returns-in_err-grower-clause-refused
returns-in_err-grower-clause-refused c =
    let none = c.in_err-grower.ensures.ok_part in
    let e = rw none at c.in_err-grower.ensures.value in
    let absent : c.in_err-grower.field-0.0 ≡ NameAbsent = cc in
    let p = err_from_is_err_and c.from_residual.result c.from_residual.ensures.1 in
    rw (p.1, p.2, absent) (header_torn _ (rw none at c.find_name.ensures).is)

pub returns-then-grower-lt1-clause-refused : goal.returns-then-grower-lt1-clause-refused
returns-then-grower-lt1-clause-refused c =
    header_absent (rw c.in_ok-grower.ensures.ok_part at c.find_name.ensures).is (rw c.in_ok-weight.ensures.ok_part at c.find_name-2.ensures).is
    (rw c.in_ok-oil_yield.ensures.ok_part at c.find_name-3.ensures).is (λ i j k. omega arith)

pub returns-then-grower-gt1-clause-refused : goal.returns-then-grower-gt1-clause-refused
returns-then-grower-gt1-clause-refused c =
    header_twice (rw c.in_ok-grower.ensures.ok_part at c.find_name.ensures).is (rw c.in_ok-weight.ensures.ok_part at c.find_name-2.ensures).is
    (rw c.in_ok-oil_yield.ensures.ok_part at c.find_name-3.ensures).is (omega arith) (omega arith) (omega arith) (λ i j k. omega arith)

pub returns-clause-refused : goal.returns-clause-refused
returns-clause-refused c =
    header_passed (rw c.in_ok-grower.ensures.ok_part at c.find_name.ensures).is (rw c.in_ok-weight.ensures.ok_part at c.find_name-2.ensures).is
    (rw c.in_ok-oil_yield.ensures.ok_part at c.find_name-3.ensures).is (omega arith) (omega arith) (omega arith) (omega arith) (omega arith) (omega arith)

pub returns-clause-accepted : goal.returns-clause-accepted
returns-clause-accepted c =
    header_good (rw c.in_ok-grower.ensures.ok_part at c.find_name.ensures).is (rw c.in_ok-weight.ensures.ok_part at c.find_name-2.ensures).is
    (rw c.in_ok-oil_yield.ensures.ok_part at c.find_name-3.ensures).is (omega arith) (omega arith) (omega arith)
