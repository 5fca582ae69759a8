-- The sheet's text: the growers' lines, and the last line behind them; and that the order of the records does not matter to it. Assumes nothing.
use Prim.Native.Nat.{ℕ, ◌+◌, ◌*◌, ◌≤◌}
use mathlib.Core.Path.{◌≡◌, sym, ap, ap₂, ◌∙◌}
use mathlib.Core.List.{List, ◌++◌, map, flatten}
use native.Mathlib.Omega.{arith}
use lib.ListN.{length, length-map}
use Rattle.model.specs.declared.Delivery.{Delivery}
use Rattle.model.specs.declared.Totals.{Totals}
use Rattle.model.specs.Deliveries.{Slices, totals_of}
use Rattle.model.specs.Growers.{growers_of}
use Rattle.model.specs.Sheet.{SheetLine, each_once, line_of, sheet_lines, lines_totals, wide_line, totals_row, line_text, sheet_of, by_grower}
use Rattle.model.proofs.SheetLaws.{lines-add_up, length_wide, length-lines, sheet_length}
use Rattle.fields.specs.Writing.{placed}
use Rattle.fields.proofs.Placing.{placed-joined}
use Rattle.slot_order.proofs.Groups.{by_grower_keeps, by_grower_growers}
use Rattle.sheet_lines.specs.Runs.{records_at}
use Rattle.sheet_lines.proofs.GroupLines.{growers_once, growers_records, group_records}

abbrev lines : List Delivery → List ℕ
lines bag = flatten (map line_text (sheet_lines bag))

module _ (s : Slices) (order : List ℕ) where
  abbrev bag : List Delivery
  bag = records_at s order

  length_first : length (lines bag) ≡ 81 * length (growers_once s order)
  unfolding sheet_lines
  length_first =
      omega (arith, length-lines (sheet_lines bag), length-map (each_once (growers_of bag)) (line_of bag), ap (λ (l : List ℕ). length (each_once l)) (growers_records s order))

  pub length_sheet : length (sheet_of bag) ≡ 81 * length (growers_once s order) + 61
  length_sheet = sheet_length bag ∙ ap (λ (l : List ℕ). 81 * length (each_once l) + 61) (growers_records s order)

  module _ (t t₁ : List ℕ) (p : t₁ ≡ placed 0 (lines bag) t) (h : 81 * length (growers_once s order) + 61 ≤ length t) where
    pub sheet_put : (at : ℕ) (x : Totals) (t₂ : List ℕ) → t₂ ≡ placed at (wide_line (totals_row x)) t₁ → at ≡ 81 * length (growers_once s order) → x ≡ totals_of bag
        → t₂ ≡ placed 0 (sheet_of bag) t
    unfolding sheet_of
    sheet_put at x t₂ q a b =
        let last : List ℕ = wide_line (totals_row (totals_of bag)) in
        let n = length_first in
        let k : length last ≡ 61 = length_wide (totals_row (totals_of bag)) in
        q
        ∙ ap₂ (λ (v : Totals) (u : List ℕ). placed at (wide_line (totals_row v)) u) b p
        ∙ placed-joined 0 at (lines bag) last t (omega arith) (omega arith)

-- Slots sorted by grower have the sheet that they had before: of each grower the same slots in the same order, and so the same line.

module _ (s : Slices) (is : List ℕ) where
  abbrev sorted : List ℕ
  sorted = by_grower s.growers is

  same_line : (g : ℕ) → line_of (records_at s sorted) g ≡ line_of (records_at s is) g
  same_line g =
      ap (λ (ds : List Delivery). record { grower = g; totals = totals_of ds })
      (sym (group_records s sorted g) ∙ ap (records_at s) (by_grower_keeps s.growers is g) ∙ group_records s is g)

  same_lines : sheet_lines (records_at s sorted) ≡ sheet_lines (records_at s is)
  unfolding sheet_lines
  same_lines =
      let f : line_of (records_at s sorted) ≡ line_of (records_at s is) = λ j g. same_line g j in
      ap₂ (λ (h : ℕ → SheetLine) (l : List ℕ). map h l) f
      (ap each_once (growers_records s sorted) ∙ by_grower_growers s.growers is ∙ ap each_once (sym (growers_records s is)))

  pub same_sheet : sheet_of (records_at s sorted) ≡ sheet_of (records_at s is)
  unfolding sheet_of
  same_sheet =
      ap₂ (λ (ls : List SheetLine) (x : Totals). flatten (map line_text ls) ++ wide_line (totals_row x)) same_lines
      (sym (lines-add_up (records_at s sorted)) ∙ ap lines_totals same_lines ∙ lines-add_up (records_at s is))
