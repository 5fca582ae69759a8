-- The ledger theorem: one call, and then a list of calls. Assumes nothing.
use Prim.Native.Nat.{ℕ}
use mathlib.Core.Path.{◌≡◌, refl, ap, ◌∙◌}
use mathlib.Core.Bool.{Bool, true, false, cond}
use mathlib.Core.List.Permᴰ
use mathlib.Core.List.{List, [], ◌∷◌, Permᴰ}
use lib.Dec.{ltb, eqb, eqb→eq}
use lib.ListN.{length}
use Rattle.model.specs.declared.Delivery.{Delivery}
use Rattle.model.specs.Checks.{first_failed}
use Rattle.model.specs.Deliveries.{in_range, day_ok, among, matches, on_days, no_totals, totals_of}
use Rattle.model.specs.Blocks.{held}
use Rattle.model.specs.Calls.{Call, find, range, range_days, insert, delete, move}
use Rattle.model.specs.Directory.{directory_of}
use Rattle.model.specs.Column.{Column, all_records}
use Rattle.model.specs.Accesses.{call_counts}
use Rattle.model.specs.Questions.{ledger_checks}
use Rattle.model.specs.ColumnCalls.{Called, call_totals, column_after, column_refusal, refused_counts, laid_column, column_call, column_calls}
use Rattle.model.specs.Ledger.{Entered, ledger_totals, bag_after, ledger_call, ledger_calls}
use Rattle.model.proofs.Tests.{and_mk, of_true, yes_first}
use Rattle.theorems.specs.Ledger.{Agrees, AllAgree, none, next, LedgerAgreesFrom, LedgerAgrees}
use Rattle.theorems.proofs.Bags.{bag-keep, bag-totals}
use Rattle.theorems.proofs.ValidColumn.{Valid, valid, in_range_lem, days_in_range, scan_finds, scan_finds-on}
use Rattle.theorems.proofs.Refusals.{refusal_agrees}
use Rattle.theorems.proofs.Changes.{Follows}
use Rattle.theorems.proofs.LaidColumn.{laid_records, laid_valid, laid_capacity}
use Rattle.theorems.proofs.AfterCalls.{after_insert, after_delete, after_move}

-- one call answers as the ledger does, and the next one can be put to what it leaves
pub record Steps (L : ℕ) (c : Column) (a : Called) (e : Entered) : Type 0 where
  pub agrees : Agrees L a e
  pub follows : Follows L c a.column e.bag

module _ (L : ℕ) (c : Column) (v : Valid L c) (bag : List Delivery) (p : Permᴰ (all_records L c) bag) where
  totals_agree : (k : Call) → call_totals L c k ≡ ledger_totals bag k
  unfolding call_totals ledger_totals
  totals_agree (find g) = ap totals_of (scan_finds L c v g g) ∙ bag-totals (bag-keep (matches g g) p)
  totals_agree (range lo hi) = ap totals_of (scan_finds L c v lo hi) ∙ bag-totals (bag-keep (matches lo hi) p)
  totals_agree (range_days lo hi s) = ap totals_of (scan_finds-on L c v lo hi s) ∙ bag-totals (bag-keep (matches lo hi) (bag-keep (on_days s) p))
  totals_agree (insert d) = refl
  totals_agree (delete d) = refl
  totals_agree (move d g) = refl

  unchanged : Follows L c c bag
  unchanged = record { valid = v; bag = p; capacity = refl }

  -- an accepted call
  accepted : (k : Call) → first_failed (ledger_checks (length c.slices.growers) bag k) ≡ 0 → Follows L c (column_after L c k) (bag_after bag k)
  unfolding ledger_checks column_after bag_after
  accepted (find g) h = unchanged
  accepted (range lo hi) h = unchanged
  accepted (range_days lo hi s) h = unchanged
  accepted (insert d) h =
      let c8 = yes_first 7 (in_range d) _ h in
      let c19 = yes_first 18 (day_ok d) _ c8.1 in
      let c12 = yes_first 11 (ltb (length bag) (length c.slices.growers)) _ c19.1 in
      after_insert L c v bag p d (and_mk (in_range d) (day_ok d) c8.0 c19.0) c12.0
  accepted (delete d) h =
      let c8 = yes_first 7 (in_range d) _ h in
      let c19 = yes_first 18 (day_ok d) _ c8.1 in
      let c13 = yes_first 12 (among d bag) _ c19.1 in
      after_delete L c v bag p d c13.0
  accepted (move d g) h =
      let c8 = yes_first 7 (in_range d) _ h in
      let c19 = yes_first 18 (day_ok d) _ c8.1 in
      let c13 = yes_first 12 (among d bag) _ c19.1 in
      after_move L c v bag p d c13.0 g (and_mk (in_range d) (day_ok d) c8.0 c19.0)

  steps : (a : Called) (e : Entered) → a.answer.refusal ≡ e.refusal → a.answer.totals ≡ e.totals → Follows L c a.column e.bag → Steps L c a e
  steps a e r t f = record { agrees = record { refusal = r; totals = t; bag = f.bag; sound = f.valid.sound; values = in_range_lem L _ f.valid; days = days_in_range L _ f.valid }; follows = f }

  pub step : (k : Call) → Steps L c (column_call L c k) (ledger_call (length c.slices.growers) bag k)
  unfolding column_call ledger_call
  step k = rw (ap (λ (m : ℕ). eqb m 0) (refusal_agrees L c v bag p k)) (go (eqb failed 0) refl)
    where
      failed : ℕ
      failed = first_failed (ledger_checks (length c.slices.growers) bag k)

      go : (b : Bool) → eqb failed 0 ≡ b
          → Steps L c
          (cond b
          (record { answer = record { refusal = 0; totals = call_totals L c k; counts = call_counts (directory_of L c.directory) k }; column = column_after L c k })
          (record { answer = record { refusal = column_refusal L c k; totals = no_totals; counts = refused_counts L c k }; column = c }))
          (cond b (record { refusal = 0; totals = ledger_totals bag k; bag = bag_after bag k }) (record { refusal = failed; totals = no_totals; bag = bag }))
      go true h = steps _ _ refl (totals_agree k) (accepted k (eqb→eq failed 0 (of_true _ h)))
      go false h = steps _ _ (refusal_agrees L c v bag p k) refl unchanged

-- a list of calls, from any bag of the column's records
from_bag : (calls : List Call) (L : ℕ) (c : Column) → Valid L c → (n : ℕ) → length c.slices.growers ≡ n → (bag : List Delivery) → Permᴰ (all_records L c) bag
    → AllAgree L (column_calls L c calls) (ledger_calls n bag calls)
unfolding column_calls ledger_calls
from_bag [] L c v n e bag p = none
from_bag (k ∷ calls) L c v n e bag p =
    let s : Steps L c (column_call L c k) (ledger_call n bag k) = rw e at (step L c v bag p k) in
    next s.agrees (from_bag calls L (column_call L c k).column s.follows.valid n (s.follows.capacity ∙ e) (ledger_call n bag k).bag s.follows.bag)

pub ledger_agrees_from : LedgerAgreesFrom
ledger_agrees_from calls L c h s v n = from_bag calls L c (valid L c h s v n) (length c.slices.growers) refl (all_records L c) (Permᴰ.refl (all_records L c))

pub ledger_agrees : LedgerAgrees
ledger_agrees calls L s ends h =
    from_bag calls L (laid_column L s ends) (laid_valid L s ends h) (length s.slices.growers) (laid_capacity L s ends h) (held s)
    (rw (laid_records L s ends h) (Permᴰ.refl (held s)))
