-- A call on a valid column is refused by the number that the ledger gives. Assumes nothing.
use Prim.Native.Nat.{ℕ}
use mathlib.Core.Path.{◌≡◌, ap, ◌∙◌}
use mathlib.Core.Bool.{and-true}
use mathlib.Core.List.{List, Permᴰ}
use lib.Dec.{ltb}
use lib.ListN.{length}
use Rattle.model.specs.declared.Delivery.{Delivery}
use Rattle.model.specs.Checks.{first_failed}
use Rattle.model.specs.Deliveries.{in_range, day_ok, among}
use Rattle.model.specs.Calls.{Call, find, range, range_days, insert, delete, move, span_ok}
use Rattle.model.specs.Column.{Column, all_records, has_free_slot, has_delivery}
use Rattle.model.specs.Questions.{call_checks, column_checks, ledger_checks}
use Rattle.model.specs.ColumnCalls.{column_refusal}
use Rattle.model.proofs.ListLaws.{bag-length}
use Rattle.theorems.proofs.OneDelivery.{bag-among}
use Rattle.theorems.proofs.ValidColumn.{Valid, has_is, scanned_passes, scanned_days_pass, free-slot_is, lent_pass}

module _ (L : ℕ) (c : Column) (v : Valid L c) (bag : List Delivery) (p : Permᴰ (all_records L c) bag) where
  pub delivery_in_bag : (d : Delivery) → has_delivery L c d ≡ among d bag
  delivery_in_bag d = has_is L c v d ∙ bag-among d p

  pub free_in_bag : has_free_slot L c ≡ ltb (length bag) (length c.slices.growers)
  free_in_bag = free-slot_is L c v ∙ ap (λ (n : ℕ). ltb n (length c.slices.growers)) (bag-length p)

  checks_agree : (k : Call) → first_failed (call_checks L c k) ≡ first_failed (ledger_checks (length c.slices.growers) bag k)
  unfolding call_checks ledger_checks first_failed
  checks_agree (find g) = rw (scanned_passes L c v g g, scanned_days_pass L c v g g)
  checks_agree (range lo hi) = rw (scanned_passes L c v lo hi, scanned_days_pass L c v lo hi)
  checks_agree (range_days lo hi s) = rw (scanned_passes L c v lo hi, scanned_days_pass L c v lo hi, and-true (span_ok s))
  checks_agree (insert d) = rw free_in_bag
  checks_agree (delete d) = rw (scanned_passes L c v d.grower d.grower, scanned_days_pass L c v d.grower d.grower, and-true (in_range d), and-true (day_ok d), delivery_in_bag)
  checks_agree (move d g) = rw (scanned_passes L c v d.grower d.grower, scanned_days_pass L c v d.grower d.grower, and-true (in_range d), and-true (day_ok d), delivery_in_bag)

  pub refusal_agrees : (k : Call) → column_refusal L c k ≡ first_failed (ledger_checks (length c.slices.growers) bag k)
  unfolding column_refusal column_checks
  refusal_agrees k = lent_pass L c v (call_checks L c k) ∙ checks_agree k
