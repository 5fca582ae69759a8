-- The settlement sheet and the ledger (02: Slip 4): the sheet is the ledger's. proofs/Sheet.antt proves it.
use Rattle.std.specs.Prelude.{ℕ, ◌≡◌, length}
use mathlib.Core.List.{List, map, Permᴰ}
use Rattle.model.specs.declared.Delivery.{Delivery}
use Rattle.model.specs.Lists.{keep}
use Rattle.model.specs.SettlementTerms.{term_of}
use Rattle.model.specs.Deliveries.{on_days}
use Rattle.model.specs.Blocks.{Set, held}
use Rattle.model.specs.Calls.{Call}
use Rattle.model.specs.Column.{Column, all_records}
use Rattle.model.specs.ColumnCalls.{Called, apply_call, laid_column, column_calls}
use Rattle.model.specs.Ledger.{Entered, ledger_calls}
use Rattle.model.specs.Sheet.{sheet_of, sheet_text, term_sheet_text}

-- the sheet of every column is that of every bag that is its records in some order
abbrev pub SheetAgrees : Type 0
SheetAgrees = (L : ℕ) (c : Column) (bag : List Delivery) → Permᴰ (all_records L c) bag → sheet_text L c ≡ sheet_of bag

-- and so is the sheet "for the term that holds a given day" (02: Slip 7), that of those of the bag's deliveries that lie in the term
abbrev pub TermSheetAgrees : Type 0
TermSheetAgrees = (L : ℕ) (c : Column) (day : ℕ) (bag : List Delivery) → Permᴰ (all_records L c) bag → term_sheet_text L c day ≡ sheet_of (keep (on_days (term_of day)) bag)

-- every list of calls on every column that laying returned: the sheets after each call are those of the ledger's bags
abbrev pub SheetAfterCalls : Type 0
SheetAfterCalls = (calls : List Call) (L : ℕ) (s : Set) (ends : List ℕ)
    → (apply_call L s ends).refusal ≡ 0
    → map (λ (c : Called). sheet_text L c.column) (column_calls L (laid_column L s ends) calls)
    ≡ map (λ (e : Entered). sheet_of e.bag) (ledger_calls (length s.slices.growers) (held s) calls)

-- and those of the term of any day
abbrev pub TermSheetAfterCalls : Type 0
TermSheetAfterCalls = (day : ℕ) (calls : List Call) (L : ℕ) (s : Set) (ends : List ℕ)
    → (apply_call L s ends).refusal ≡ 0
    → map (λ (c : Called). term_sheet_text L c.column day) (column_calls L (laid_column L s ends) calls)
    ≡ map (λ (e : Entered). sheet_of (keep (on_days (term_of day)) e.bag)) (ledger_calls (length s.slices.growers) (held s) calls)
