-- The ledger (01: the laid column): "a bag of at most C deliveries". 02, Slip 7: "the ledger's deliveries have [the day] too".
use Rattle.std.specs.Prelude.{ℕ, cond, List, [], ◌∷◌, eqb}
use Rattle.model.specs.declared.Delivery.{Delivery}
use Rattle.model.specs.declared.Totals.{Totals}
use Rattle.model.specs.Checks.{first_failed}
use Rattle.model.specs.Deliveries.{same, with_grower, no_totals, totals_between, totals_during}
use Rattle.model.specs.Calls.{Call, find, range, range_days, insert, delete, move}
use Rattle.model.specs.Questions.{ledger_checks}

-- what a call answers, and the bag it leaves: "compared are refusal number, totals and bag"
pub record Entered : Type 0 where
  pub refusal : ℕ
  pub totals : Totals
  pub bag : List Delivery

-- "delete removes one"
unfoldable pub remove_one : Delivery → List Delivery → List Delivery
remove_one d [] = []
remove_one d (r ∷ rs) = cond (same d r) rs (r ∷ remove_one d rs)

-- "move changes one grower"
unfoldable pub change_one : Delivery → ℕ → List Delivery → List Delivery
change_one d g [] = []
change_one d g (r ∷ rs) = cond (same d r) (with_grower g d ∷ rs) (r ∷ change_one d g rs)

-- "find and range read"; "a find on it is a range from g to g"
unfoldable pub ledger_totals : List Delivery → Call → Totals
ledger_totals bag (find g) = totals_between g g bag
ledger_totals bag (range lo hi) = totals_between lo hi bag
ledger_totals bag (range_days lo hi s) = totals_during lo hi s bag
ledger_totals bag (insert d) = no_totals
ledger_totals bag (delete d) = no_totals
ledger_totals bag (move d g) = no_totals

-- the bag after an accepted call
unfoldable pub bag_after : List Delivery → Call → List Delivery
bag_after bag (find g) = bag
bag_after bag (range lo hi) = bag
bag_after bag (range_days lo hi s) = bag
bag_after bag (insert d) = d ∷ bag
bag_after bag (delete d) = remove_one d bag
bag_after bag (move d g) = change_one d g bag

-- a call on a ledger of at most c deliveries: "a refusal changes nothing"
unfoldable pub ledger_call : ℕ → List Delivery → Call → Entered
ledger_call c bag k =
    let n : ℕ = first_failed (ledger_checks c bag k) in
    cond (eqb n 0)
    (record { refusal = 0; totals = ledger_totals bag k; bag = bag_after bag k })
    (record { refusal = n; totals = no_totals; bag = bag })

-- a list of calls, each on the bag that the one before it left: answers and bags in order
unfoldable pub ledger_calls : ℕ → List Delivery → List Call → List Entered
ledger_calls c bag [] = []
ledger_calls c bag (k ∷ ks) = ledger_call c bag k ∷ ledger_calls c (ledger_call c bag k).bag ks
