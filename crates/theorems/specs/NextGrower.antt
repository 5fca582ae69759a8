-- The next grower and the ledger (02: Slip 3): "both answers are those of the ledger on every sound column". proofs/NextGrower.antt proves it.
--
-- Of a column after a list of calls, the bag is the ledger's after the same calls.
use Rattle.std.specs.Prelude.{ℕ, ◌≡◌, T, length}
use mathlib.Core.List.{List, [], ◌∷◌, Permᴰ}
use Rattle.model.specs.declared.Delivery.{Delivery}
use Rattle.model.specs.declared.GrowerAnswer.{GrowerAnswer}
use Rattle.model.specs.Lists.{every}
use Rattle.model.specs.Checks.{first_failed}
use Rattle.model.specs.Deliveries.{in_range, day_ok}
use Rattle.model.specs.Blocks.{Set, held}
use Rattle.model.specs.Calls.{Call}
use Rattle.model.specs.Column.{Column, all_records, sound}
use Rattle.model.specs.Questions.{lent_checks}
use Rattle.model.specs.ColumnCalls.{Called, apply_call, laid_column, column_calls}
use Rattle.model.specs.Ledger.{Entered, ledger_calls}
use Rattle.model.specs.Growers.{Direction, GrowerCount}
use Rattle.model.specs.GrowerCalls.{grower_call, ledger_grower}

-- the call is accepted, and answers the ledger's grower and his count
pub record SameGrower (a : GrowerAnswer) (n : GrowerCount) : Type 0 where
  pub refusal : a.refusal ≡ 0
  pub grower : a.grower ≡ n.grower
  pub records : a.records ≡ n.records

-- for both directions and every g, a column answers as a bag does
abbrev pub SameGrowers : ℕ → Column → List Delivery → Type 0
SameGrowers L c bag = (w : Direction) (g : ℕ) → SameGrower (grower_call L c w g) (ledger_grower bag w g)

-- every column of proper shape, sound, all of whose records are in range, their days too, and every bag that is its records in some order
abbrev pub NextGrowerAgrees : Type 0
NextGrowerAgrees = (L : ℕ) (c : Column) (bag : List Delivery)
    → first_failed (lent_checks L c) ≡ 0 → T (sound L c) → T (every in_range (all_records L c)) → T (every day_ok (all_records L c)) → Permᴰ (all_records L c) bag
    → SameGrowers L c bag

-- as many columns as bags, and each answers as its bag does
pub data AllSameGrowers (L : ℕ) : List Called → List Entered → Type 0 where
  none : AllSameGrowers L [] []
  next : {c : Called} {e : Entered} {cs : List Called} {es : List Entered} → SameGrowers L c.column e.bag → AllSameGrowers L cs es
      → AllSameGrowers L (c ∷ cs) (e ∷ es)

-- every list of calls on every column that laying returned: after each call the column answers as the ledger then does
abbrev pub NextGrowerAfterCalls : Type 0
NextGrowerAfterCalls = (calls : List Call) (L : ℕ) (s : Set) (ends : List ℕ)
    → (apply_call L s ends).refusal ≡ 0
    → AllSameGrowers L (column_calls L (laid_column L s ends) calls) (ledger_calls (length s.slices.growers) (held s) calls)
