-- The settlement sheet is the ledger's: which growers have a line, and what their records add up to, does not depend on the order of the
-- records; and after each call the column's records are the ledger's bag in some order. Assumes nothing.
use Prim.Native.Nat.{ℕ}
use mathlib.Core.Path.{◌≡◌, refl, ap, ap₂, ◌∙◌}
use mathlib.Core.Bool.{◌||◌}
use mathlib.Core.List.Permᴰ
use mathlib.Core.List.{List, [], ◌∷◌, map, Permᴰ}
use lib.Dec.{eqb}
use lib.ListN.{length}
use Rattle.model.specs.declared.Delivery.{Delivery}
use Rattle.model.specs.declared.Totals.{Totals}
use Rattle.model.specs.Lists.{keep}
use Rattle.model.specs.Blocks.{Set, held}
use Rattle.model.specs.Calls.{Call}
use Rattle.model.specs.SettlementTerms.{term_of}
use Rattle.model.specs.Deliveries.{grower_of, matches, on_days}
use Rattle.model.specs.Column.{Column, all_records}
use Rattle.model.specs.ColumnCalls.{Called, apply_call, laid_column, column_call, column_calls}
use Rattle.model.specs.Growers.{growers_of}
use Rattle.model.specs.Ledger.{Entered, ledger_call, ledger_calls}
use Rattle.model.specs.Sheet.{each_once, SheetLine, line_of, sheet_lines, sheet_of}
use Rattle.model.proofs.OnceLaws.{or_swap, member, once_same}
use Rattle.theorems.specs.Sheet.{SheetAgrees, SheetAfterCalls, TermSheetAgrees, TermSheetAfterCalls}
use Rattle.theorems.proofs.Bags.{bag-keep, bag-totals}
use Rattle.theorems.proofs.ValidColumn.{Valid}
use Rattle.theorems.proofs.LaidColumn.{laid_records, laid_valid, laid_capacity}
use Rattle.theorems.proofs.Ledger.{Steps, step}

member_bag : (n : ℕ) {a b : List ℕ} → Permᴰ a b → member n a ≡ member n b
unfolding member
member_bag n Permᴰ.nil = refl
member_bag n (Permᴰ.cons e p) = ap₂ ◌||◌ (ap (eqb n) e) (member_bag n p)
member_bag n (Permᴰ.swap {a} {b} {l = l} e g) = rw (← e, ← g) (or_swap (eqb n a) (eqb n b) (member n l))
member_bag n (Permᴰ.trans p q) = member_bag n p ∙ member_bag n q

-- the lines of these growers
same_lines : {a b : List Delivery} → Permᴰ a b → (gs : List ℕ) → map (line_of a) gs ≡ map (line_of b) gs
same_lines p [] = refl
same_lines p (g ∷ gs) = ap₂ (λ (l : SheetLine) (ls : List SheetLine). l ∷ ls) (ap (λ (t : Totals). record { grower = g; totals = t }) (bag-totals (bag-keep (matches g g) p))) (same_lines p gs)

sheet_bag : {a b : List Delivery} → Permᴰ a b → sheet_of a ≡ sheet_of b
unfolding sheet_of sheet_lines
sheet_bag {a} {b} p =
    let e : each_once (growers_of a) ≡ each_once (growers_of b) = once_same (growers_of a) (growers_of b) (λ n. member_bag n (Permᴰ.map grower_of p)) in
    rw (same_lines p (each_once (growers_of a)), e, bag-totals p)

pub sheet_agrees : SheetAgrees
sheet_agrees L c bag p = sheet_bag p

pub term_sheet_agrees : TermSheetAgrees
term_sheet_agrees L c day bag p = sheet_bag (bag-keep (on_days (term_of day)) p)

-- a text that does not depend on the order of the records, after each of a list of calls, from any bag of the column's records
module _ (text : List Delivery → List ℕ) (same : (a b : List Delivery) → Permᴰ a b → text a ≡ text b) where
  after-calls : (calls : List Call) (L : ℕ) (c : Column) → Valid L c → (n : ℕ) → length c.slices.growers ≡ n → (bag : List Delivery) → Permᴰ (all_records L c) bag
      → map (λ (x : Called). text (all_records L x.column)) (column_calls L c calls) ≡ map (λ (e : Entered). text e.bag) (ledger_calls n bag calls)
  unfolding column_calls ledger_calls
  after-calls [] L c v n e bag p = refl
  after-calls (k ∷ calls) L c v n e bag p =
      let s : Steps L c (column_call L c k) (ledger_call n bag k) = rw e at (step L c v bag p k) in
      let f = s.follows in
      ap₂ (λ (t : List ℕ) (ts : List (List ℕ)). t ∷ ts) (same _ _ f.bag)
      (after-calls calls L (column_call L c k).column f.valid n (f.capacity ∙ e) (ledger_call n bag k).bag f.bag)

  after_laying : (calls : List Call) (L : ℕ) (s : Set) (ends : List ℕ) → (apply_call L s ends).refusal ≡ 0
      → map (λ (x : Called). text (all_records L x.column)) (column_calls L (laid_column L s ends) calls)
      ≡ map (λ (e : Entered). text e.bag) (ledger_calls (length s.slices.growers) (held s) calls)
  after_laying calls L s ends h =
      after-calls calls L (laid_column L s ends) (laid_valid L s ends h) (length s.slices.growers) (laid_capacity L s ends h) (held s)
      (rw (laid_records L s ends h) (Permᴰ.refl (held s)))

pub sheet_after-calls : SheetAfterCalls
sheet_after-calls = after_laying sheet_of (λ a b p. sheet_bag p)

pub term_sheet_after-calls : TermSheetAfterCalls
term_sheet_after-calls day = after_laying (λ (bag : List Delivery). sheet_of (keep (on_days (term_of day)) bag)) (λ a b p. sheet_bag (bag-keep (on_days (term_of day)) p))
