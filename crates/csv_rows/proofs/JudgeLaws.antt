-- The rows from a byte on: the first of them and those behind it. Assumes nothing.
use Prim.Native.Nat.{ℕ, suc, ◌-◌, ◌≤◌, ◌<◌}
use mathlib.Core.Path.{◌≡◌, refl, sym, ap, ◌∙◌}
use mathlib.Core.Option.{Option, none, some}
use mathlib.Core.List.{List, [], ◌∷◌, ◌++◌}
use native.Mathlib.Omega.{arith}
use lib.ListN.{length, drop, length-drop, drop_of_length-le}
use lib.Seq.{append_snoc}
use Rattle.model.specs.declared.Delivery.{Delivery}
use Rattle.model.specs.Lists.{and_then}
use Rattle.model.specs.Fields.{Taken}
use Rattle.model.specs.Csv.{Bytes, take_record, take_records}
use Rattle.model.specs.Weighbridge.{row_of, rows_of}
use Rattle.model.proofs.CsvLaws.{records_next, records_broken, records_none, rows_next, rows_bad, rows_broken, rows_none}
use Rattle.csv_rows.specs.declared.Row.{Row}
use Rattle.csv_rows.specs.Rows.{GoodRow, BadRow}

-- at most n rows of a text
abbrev pub rows_in : List Bytes → ℕ → List ℕ → Option (List Delivery)
rows_in h n t = rows_of h (take_records n t)

abbrev pub after : Delivery → Option (List Delivery) → Option (List Delivery)
after d o = and_then o (λ ds. some (d ∷ ds))

pub rows_end : (h : List Bytes) (n : ℕ) (text : List ℕ) (i : ℕ) → length text ≤ i → rows_in h n (drop i text) ≡ some []
rows_end h n text i l = ap (rows_in h n) (drop_of_length-le text l) ∙ ap (rows_of h) (records_none n) ∙ rows_none h

-- the row at a byte, and the rows behind it
module _ (h : List Bytes) (text : List ℕ) {i n : ℕ} (l : i < length text) (enough : length text - i ≤ n) where
  there : 1 ≤ length (drop i text)
  there = omega (arith, length-drop i text)

  one_more_lem : n ≡ suc (n - 1)
  one_more_lem = omega arith

  pub rows_good : {r : Row} → GoodRow h text i r → rows_in h n (drop i text) ≡ after r.delivery (rows_in h (n - 1) (drop r.next text))
  rows_good {r} d =
      ap (λ (m : ℕ). rows_in h m (drop i text)) one_more_lem
      ∙ ap (rows_of h) (records_next (n - 1) (drop i text) there d.fields (drop r.next text) d.is)
      ∙ rows_next h d.fields (take_records (n - 1) (drop r.next text)) r.delivery d.row

  pub rows_stop : BadRow h (drop i text) → rows_in h n (drop i text) ≡ none
  rows_stop z = ap (λ (m : ℕ). rows_in h m (drop i text)) one_more_lem ∙ go (take_record (drop i text)) refl z.is
    where
      go : (o : Option (Taken (List Bytes))) → take_record (drop i text) ≡ o → and_then o (λ r. row_of h r.value) ≡ none → rows_in h (suc (n - 1)) (drop i text) ≡ none
      go none e z = ap (rows_of h) (records_broken (n - 1) (drop i text) there e) ∙ rows_broken h []
      go (some r) e z = ap (rows_of h) (records_next (n - 1) (drop i text) there r.value r.rest e) ∙ rows_bad h r.value (take_records (n - 1) r.rest) z

-- Rows passed, and the rows from here.

abbrev pub behind_rows : List Delivery → Option (List Delivery) → Option (List Delivery)
behind_rows ds o = and_then o (λ es. some (ds ++ es))

pub one_row : (ds : List Delivery) (d : Delivery) (o : Option (List Delivery)) → behind_rows ds (after d o) ≡ behind_rows (ds ++ d ∷ []) o
one_row ds d none = refl
one_row ds d (some es) = ap some (sym (append_snoc ds d es))

pub no_rows : (o : Option (List Delivery)) → o ≡ behind_rows [] o
no_rows none = refl
no_rows (some ds) = refl
