-- The ledger theorem (01: the laid column): a list of calls on the column answers as the same list on the ledger does.
--
-- Calls: find, range, range over days, insert, delete, move, in any order and number, the refused ones included. `column_calls` is what the
-- column answers and leaves, call by call, and `ledger_calls` what the ledger does. Proved in proofs/Ledger.antt.
use Rattle.std.specs.Prelude.{ℕ, ◌≡◌, T, length}
use mathlib.Core.List.{List, [], ◌∷◌, Permᴰ}
use Rattle.model.specs.Lists.{every}
use Rattle.model.specs.Checks.{first_failed}
use Rattle.model.specs.Deliveries.{in_range, day_ok}
use Rattle.model.specs.Blocks.{Set, held}
use Rattle.model.specs.Calls.{Call}
use Rattle.model.specs.Column.{Column, all_records, sound}
use Rattle.model.specs.Questions.{lent_checks}
use Rattle.model.specs.ColumnCalls.{Called, apply_call, laid_column, column_calls}
use Rattle.model.specs.Ledger.{Entered, ledger_calls}

-- "Compared are refusal number, totals and bag": what one call answers on the column and on the ledger. L is the block limit.
pub record Agrees (L : ℕ) (c : Called) (e : Entered) : Type 0 where
  pub refusal : c.answer.refusal ≡ e.refusal
  pub totals : c.answer.totals ≡ e.totals
  -- the records that the call leaves, grower, weight, yield and day together, are the ledger's bag in some order
  pub bag : Permᴰ (all_records L c.column) e.bag
  -- "a column is sound if every record is in its grower's partition": each call leaves it so
  pub sound : T (sound L c.column)
  -- "are weight and yield in range?": each call leaves every record so
  pub values : T (every in_range (all_records L c.column))
  -- 02, Slip 7: and no day above 36,524
  pub days : T (every day_ok (all_records L c.column))

-- as many answers on the column as on the ledger, and each agrees
pub data AllAgree (L : ℕ) : List Called → List Entered → Type 0 where
  none : AllAgree L [] []
  next : {c : Called} {e : Entered} {cs : List Called} {es : List Entered} → Agrees L c e → AllAgree L cs es → AllAgree L (c ∷ cs) (e ∷ es)

-- "On an unsound column of proper shape .. only the ledger's agreement is not claimed": for every list of calls and every
-- column of proper shape, sound, all of whose records are in range. The ledger starts with the column's records.
abbrev pub LedgerAgreesFrom : Type 0
LedgerAgreesFrom = (calls : List Call) (L : ℕ) (c : Column)
    → first_failed (lent_checks L c) ≡ 0 → T (sound L c) → T (every in_range (all_records L c)) → T (every day_ok (all_records L c))
    → AllAgree L (column_calls L c calls) (ledger_calls (length c.slices.growers) (all_records L c) calls)

-- "Laying moves no record": for every list of calls and every column that laying returned. "The ledger: a bag of at most C
-- deliveries", which starts with the set's own.
abbrev pub LedgerAgrees : Type 0
LedgerAgrees = (calls : List Call) (L : ℕ) (s : Set) (ends : List ℕ)
    → (apply_call L s ends).refusal ≡ 0
    → AllAgree L (column_calls L (laid_column L s ends) calls) (ledger_calls (length s.slices.growers) (held s) calls)
