-- What checking a text and importing it answer, check by check.
use Prim.Native.Nat.{ℕ, ◌≤◌, ◌<◌}
use mathlib.Core.Path.{◌≡◌, refl, sym, ap, ◌∙◌}
use mathlib.Core.Bool.{Bool, true, false}
use mathlib.Core.Option.{some}
use mathlib.Core.List.{List, [], ◌∷◌, ◌++◌, map}
use native.Mathlib.Omega.{arith}
use borrow.Author.Tests.{ne_eqb, le-leb, lt-leb}
use lib.Dec.{leb}
use lib.ListN.{length, take, drop, replicate}
use lib.Seq.{length-take-le}
use Rattle.model.specs.Deliveries.{day_of, Slices, slices_of}
use Rattle.std.specs.Prelude.{None, Some, Err}
use Rattle.model.specs.declared.refusal.Refusal.{Refusal}
use Rattle.model.specs.declared.refusal.Refusal.TheVariants as refusal
use Rattle.model.specs.Refusals.{refusal_number}
use Rattle.model.specs.Answers.{imported_of}
use Rattle.model.proofs.Refusals.{refusal_some}
use Rattle.model.specs.Lists.{is_some}
use Rattle.model.specs.Checks.{ask, first_failed}
use Rattle.model.specs.Blocks.{slices_ok}
use Rattle.model.specs.Csv.{records_of}
use Rattle.model.specs.Weighbridge.{header_named, header_once, read_rows, row_count}
use Rattle.model.specs.Questions.{import_checks}
use Rattle.model.specs.CsvCalls.{import_call}
use Rattle.model.proofs.Tests.{of_true, is_true, yes_first}
use Rattle.model.proofs.SetLaws.{sliced}
use Rattle.model.proofs.CsvLaws.{rows_counted}
use Rattle.checks.proofs.Answers.{fails, passes, none_failed, failed_first}
use Rattle.csv_rows.specs.Rows.{rows_from, GoodRows, JudgedIs, Storable, Stored}
use Rattle.csv_calls.specs.declared.Header.{Header}
use Rattle.csv_calls.specs.declared.Checked.{Checked}
use Rattle.csv_calls.proofs.RowDays.{rows-undated}
use Rattle.csv_calls.specs.Checking.{header_refusal, HeaderAt, text_refusal, GoodText}

-- Checking a text.

-- the header's refusal is the text's
pub text_header : (text : List ℕ) (slots : ℕ) (r : Refusal) → refusal_number r ≡ header_refusal text → refusal_number r ≡ text_refusal text slots
text_header text slots r e = e ∙ failed_first (ask 16 (header_named text) ∷ ask 17 (header_once text) ∷ []) _ (λ o. refusal_some r (e ∙ o))

module _ {text : List ℕ} {h : Header} (slots : ℕ) (none-refused : 0 ≡ header_refusal text) (found : HeaderAt text h) where
  past_header : (n : ℕ) → n ≡ first_failed (ask 18 (is_some (read_rows text)) ∷ ask 12 (leb (row_count text) slots) ∷ []) → n ≡ text_refusal text slots
  past_header n e =
      let a = yes_first 15 (header_named text) (ask 17 (header_once text) ∷ []) (sym none-refused) in
      let b = yes_first 16 (header_once text) [] a.1 in
      passes 16 n (header_named text) _ (is_true _ a.0) (passes 17 n (header_once text) _ (is_true _ b.0) e)

  rows_are : read_rows text ≡ rows_from found.header h.next text
  unfolding read_rows
  rows_are = rw found.is

  pub text_bad : JudgedIs text h.next h.columns None → 18 ≡ text_refusal text slots
  text_bad p = past_header 18 (fails 18 (is_some (read_rows text)) _ (ap is_some (rows_are ∙ p.is found.header found.columns)))

  module _ {m : ℕ} (p : JudgedIs text h.next h.columns (Some m)) where
    good : GoodRows found.header text h.next m
    good = p.is found.header found.columns

    -- the records are as many as the good rows
    counted : row_count text ≡ m
    unfolding row_count
    counted = rw found.is (sym (good.counted ∙ rows_counted found.header (records_of (drop h.next text)) good.rows good.is))

    past_rows : (n : ℕ) (b : Bool) → leb m slots ≡ b → n ≡ first_failed (ask 12 b ∷ []) → n ≡ text_refusal text slots
    past_rows n b t q =
        past_header n
        (passes 18 n (is_some (read_rows text)) _ (ap is_some (rows_are ∙ good.is))
        (q ∙ ap (λ (b : Bool). first_failed (ask 12 b ∷ [])) (sym (ap (λ (k : ℕ). leb k slots) counted ∙ t))))

    pub text_full : slots < m → 12 ≡ text_refusal text slots
    text_full l = past_rows 12 false (lt-leb m slots l) (fails 12 false [] refl)

    pub text_passed : m ≤ slots → 0 ≡ text_refusal text slots
    text_passed l = past_rows 0 true (le-leb m slots l) (passes 12 0 true [] refl none_failed)

    pub text_good : m ≤ slots → GoodText text slots (record { header = h; rows = m })
    text_good l = record { found = found; good = good; fits = l }

-- Importing.

module _ (text : List ℕ) (s : Slices) where
  abbrev slots : ℕ
  slots = length s.growers

  -- an import that is refused and stores nothing
  refused : (r : Refusal) → refusal_number r ≡ first_failed (import_checks text s) → record { answer = imported_of (Err r); slices = s } ≡ import_call text s
  unfolding import_call
  refused r e = rw (← e, ne_eqb (refusal_number r) 0 (refusal_some r))

  pub answer_slices : slices_ok s ≡ false → record { answer = imported_of (Err refusal.Slices); slices = s } ≡ import_call text s
  unfolding import_checks
  answer_slices e = refused refusal.Slices (fails 3 (slices_ok s) _ e)

  module _ (o : slices_ok s ≡ true) where
    past_slices : (n : ℕ) → n ≡ text_refusal text slots → n ≡ first_failed (import_checks text s)
    unfolding import_checks
    past_slices n e = passes 3 n (slices_ok s) _ o e

    pub answer_text : (r : Refusal) → refusal_number r ≡ text_refusal text slots → record { answer = imported_of (Err r); slices = s } ≡ import_call text s
    answer_text r e = refused r (past_slices (refusal_number r) e)

    module _ {t : Checked} (p : GoodText text slots t) where
      -- there is a day for each row
      pub days_room : t.rows ≤ length s.days
      days_room = omega (arith, p.fits, (sliced s (of_true _ o)).even.days)

      pub storable : Storable text t.header.next t.header.columns s.growers s.weights s.yields
      storable =
          let v = sliced s (of_true _ o) in
          record {
            start = p.found.within;
            header = p.found.header;
            columns = p.found.columns;
            rows = p.good.rows;
            is = p.good.is;
            fits_growers = omega (arith, p.good.counted, p.fits);
            fits_weights = omega (arith, p.good.counted, p.fits, v.even.weights);
            fits_yields = omega (arith, p.good.counted, p.fits, v.even.yields);
          }

      read : read_rows text ≡ some p.good.rows
      unfolding read_rows
      read = rw p.found.is p.good.is

      pub answer-rows : {gs' ws' ys' z : List ℕ} → 0 ≡ text_refusal text slots → Stored text t.header.next t.header.columns s.growers s.weights s.yields gs' ws' ys'
          → z ≡ replicate (length (take t.rows s.days)) 0
          → record { answer = record { refusal = 0; rows = t.rows }; slices = slices_of gs' ws' ys' (z ++ drop t.rows s.days) } ≡ import_call text s
      unfolding import_call
      answer-rows {gs'} {ws'} {ys'} {z} e d q =
          let f = d.is p.found.header p.found.columns p.good.rows p.good.is in
          let n : z ≡ map day_of p.good.rows
          = q ∙ ap (λ (k : ℕ). replicate k 0) (length-take-le t.rows s.days days_room ∙ p.good.counted) ∙ sym (rows-undated p.found.header _ p.good.rows p.good.is) in
          rw (← past_slices 0 e, read, f.growers, f.weights, f.yields, n, ← p.good.counted)
