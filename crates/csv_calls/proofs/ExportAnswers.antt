-- What an export checks, and what it answers.
use Prim.Native.Nat.{ℕ, ◌+◌, ◌-◌, ◌≤◌, ◌<◌}
use mathlib.Core.Path.{◌≡◌, sym, ap, ap₂, ◌∙◌}
use mathlib.Core.Bool.{Bool, true, false}
use mathlib.Core.List.{List, [], ◌∷◌, ◌++◌}
use native.Mathlib.Omega.{arith}
use borrow.Author.Tests.{ne_eqb, le-leb, lt-leb}
use lib.Dec.{leb, leb→le}
use lib.ListN.{length, take, drop}
use Rattle.model.specs.declared.Delivery.{Delivery}
use Rattle.model.specs.Lists.{every}
use Rattle.model.specs.Checks.{ask, first_failed}
use Rattle.model.specs.Deliveries.{Slices, rows, first_slots, Even, each_slice, in_range, day_ok}
use Rattle.model.specs.Blocks.{slices_ok}
use Rattle.model.specs.Weighbridge.{header_line, csv_text}
use Rattle.model.specs.Questions.{export_checks}
use Rattle.std.specs.Prelude.{Ok, Err}
use Rattle.model.specs.declared.refusal.Refusal.{Refusal}
use Rattle.model.specs.Refusals.{refusal_number}
use Rattle.model.specs.Answers.{written_of}
use Rattle.model.specs.Lent.{slices_part}
use Rattle.model.proofs.Refusals.{refusal_some}
use Rattle.model.specs.CsvCalls.{export_call}
use Rattle.model.proofs.Deliveries.{rows-part}
use Rattle.model.proofs.ExportLaws.{exportable}
use Rattle.checks.specs.Values.{all_values_ok, all_days_ok}
use Rattle.checks.proofs.Answers.{fails, passes, none_failed, every-rows, every_day_rows}
use Rattle.fields.specs.Writing.{placed}
use Rattle.fields.proofs.Placing.{placed_first}
use Rattle.fields.specs.Writing.{Wrote}
use Rattle.fields.proofs.WritingLaws.{front_room, wrote_room, wrote_joined}
use Rattle.csv_lines.specs.Writing.{row_lines}

-- The records of the first m slots are the deliveries there.
slots_are : (m : ℕ) (s : Slices) {p : Slices} → p ≡ slices_part 0 m s → rows p ≡ first_slots m s
slots_are m s e =
    let z : m - 0 ≡ m = omega arith in
    ap rows (e ∙ ap (λ (k : ℕ). each_slice (λ (l : List ℕ). take k (drop 0 l)) s) z) ∙ rows-part m 0 s

-- The checks.

module _ (m : ℕ) (s : Slices) (room : ℕ) where
  abbrev found : ℕ
  found = first_failed (export_checks m s room)

  pub check_slices : slices_ok s ≡ false → 3 ≡ found
  unfolding export_checks
  check_slices e = fails 3 (slices_ok s) _ e

  -- past check 3, with the records of the slices
  module _ (o : slices_ok s ≡ true) {w : Slices} (all : w ≡ s) where
    pub check_used : length w.growers < m → 4 ≡ found
    unfolding export_checks
    check_used h = passes 3 4 (slices_ok s) _ o (fails 4 (leb m (length s.growers)) _ (lt-leb m (length s.growers) (omega (arith, h, ap (λ (s : Slices). length s.growers) all))))

    -- past check 4, with the records of the first m slots
    module _ (few : m ≤ length w.growers) {p : Slices} (part : p ≡ slices_part 0 m w) (even : Even p) where
      h : m ≤ length s.growers
      h = omega (arith, few, ap (λ (s : Slices). length s.growers) all)

      e : p ≡ slices_part 0 m s
      e = part ∙ ap (slices_part 0 m) all

      abbrev inside : Bool
      inside = every in_range (first_slots m s)

      abbrev dated : Bool
      dated = every day_ok (first_slots m s)

      abbrev enough : Bool
      enough = leb (length (csv_text (first_slots m s))) room

      values_are : all_values_ok p.weights p.yields ≡ inside
      values_are = every-rows p even ∙ ap (every in_range) (slots_are m s e)

      days_are : all_days_ok p.days ≡ dated
      days_are = every_day_rows p even ∙ ap (every day_ok) (slots_are m s e)

      pub check_values : all_values_ok p.weights p.yields ≡ false → 8 ≡ found
      unfolding export_checks
      check_values v = passes 3 8 (slices_ok s) _ o (passes 4 8 (leb m (length s.growers)) _ (le-leb m (length s.growers) h) (fails 8 inside _ (sym values_are ∙ v)))

      module _ (v : all_values_ok p.weights p.yields ≡ true) where
        past_values : (k : ℕ) → k ≡ first_failed (ask 19 dated ∷ ask 15 enough ∷ []) → k ≡ found
        unfolding export_checks
        past_values k q = passes 3 k (slices_ok s) _ o (passes 4 k (leb m (length s.growers)) _ (le-leb m (length s.growers) h) (passes 8 k inside _ (sym values_are ∙ v) q))

        pub check_days : all_days_ok p.days ≡ false → 19 ≡ found
        check_days d = past_values 19 (fails 19 dated _ (sym days_are ∙ d))

        module _ (d : all_days_ok p.days ≡ true) {n : ℕ} (t : n ≡ length (csv_text (rows p))) where
          size_is : length (csv_text (first_slots m s)) ≡ n
          size_is = ap (λ (ds : List Delivery). length (csv_text ds)) (sym (slots_are m s e)) ∙ sym t

          pub check_room : room < n → 15 ≡ found
          check_room l = past_values 15 (passes 19 15 dated _ (sym days_are ∙ d) (fails 15 enough [] (lt-leb _ room (omega (arith, size_is)))))

          pub check_passed : n ≤ room → 0 ≡ found
          check_passed l = past_values 0 (passes 19 0 dated _ (sym days_are ∙ d) (passes 15 0 enough [] (le-leb _ room (omega (arith, size_is))) none_failed))

-- The answer.

module _ (m : ℕ) (s : Slices) (out : List ℕ) where
  pub export_refused : (r : Refusal) → refusal_number r ≡ first_failed (export_checks m s (length out))
      → record { answer = written_of (Err r); text = out } ≡ export_call m s out
  unfolding export_call
  export_refused r e = sym (rw (← e, ne_eqb (refusal_number r) 0 (refusal_some r)))

  module _ {p : Slices} (w : p ≡ slices_part 0 m s) (passed : 0 ≡ first_failed (export_checks m s (length out))) where
    text_is : csv_text (first_slots m s) ≡ header_line ++ row_lines (rows p)
    unfolding csv_text
    text_is = ap csv_text (sym (slots_are m s w))

    room : 0 + length (header_line ++ row_lines (rows p)) ≤ length out
    room = omega (arith, leb→le (length (csv_text (first_slots m s))) (length out) (exportable m s (length out) (sym passed)).fits, ap length text_is)

    pub header_room : 21 ≤ length out
    header_room = omega (arith, front_room 0 header_line (row_lines (rows p)) out room)

    module _ {t₁ : List ℕ} {a : ℕ} (q : Wrote out 0 header_line t₁ a) where
      pub rows_room : a + length (row_lines (rows p)) ≤ length t₁
      rows_room = wrote_room q (row_lines (rows p)) room

      module _ {t₂ : List ℕ} {e : ℕ} (q' : Wrote t₁ a (row_lines (rows p)) t₂ e) where
        whole : Wrote out 0 (header_line ++ row_lines (rows p)) t₂ e
        whole = wrote_joined q room q'

        pub export_done : record { answer = written_of (Ok e); text = t₂ } ≡ export_call m s out
        unfolding export_call
        export_done =
            let t : List ℕ = csv_text (first_slots m s) in
            let n : e ≡ length t = whole.on ∙ omega (arith, ap length text_is) in
            let s : t₂ ≡ t ++ drop (length t) out = whole.bytes ∙ ap (λ (l : List ℕ). placed 0 l out) (sym text_is) ∙ placed_first t out in
            ap₂ (λ (k : ℕ) (l : List ℕ). record { answer = record { refusal = 0; bytes = k }; text = l }) n s ∙ sym (rw (sym passed))
