-- Lines of numbers in 20 columns, written number by number: a number and a shorter line behind it are the longer line. Assumes nothing.
use Prim.Native.Nat.{ℕ, ◌+◌, ◌*◌, ◌≤◌, ◌<◌}
use mathlib.Core.Path.{◌≡◌, sym, ap, ◌∙◌}
use mathlib.Core.List.{List, [], ◌∷◌, append_assoc, map, flatten}
use native.Mathlib.Omega.{arith}
use lib.ListN.{length, set, length-set}
use Rattle.model.specs.Fields.{blank, line_end}
use Rattle.model.specs.declared.Totals.{Totals}
use Rattle.model.specs.Sheet.{wide_field, wide_line, totals_row}
use Rattle.model.proofs.FieldLaws.{length-justified}
use Rattle.model.proofs.SheetLaws.{length_wide}
use Rattle.fields.specs.Writing.{placed}
use Rattle.fields.proofs.Placing.{length-placed, placed_one, placed-joined}

pub length_field : (n : ℕ) → length (wide_field n) ≡ 20
length_field n = length-justified blank 20 n (omega arith)

-- LF is a line of no numbers
pub none_put : (at : ℕ) (t : List ℕ) → at < length t → set t at line_end ≡ placed at (wide_line []) t
unfolding wide_line flatten
none_put at t h = placed_one at line_end t h

field_size : (at n : ℕ) (t u : List ℕ) → u ≡ placed at (wide_field n) t → at + 20 ≤ length t → length u ≡ length t
field_size at n t u e h = ap length e ∙ length-placed at (wide_field n) t (omega (arith, length_field n))

-- a number at a byte, and the line of the others 20 columns on
pub more_put : (at k n : ℕ) (ns t u v : List ℕ) → u ≡ placed at (wide_field n) t → v ≡ placed k (wide_line ns) u → k ≡ at + 20 → at + 20 + (20 * length ns + 1) ≤ length t
    → v ≡ placed at (wide_line (n ∷ ns)) t
unfolding wide_line flatten
more_put at k n ns t u v e q z h =
    q
    ∙ ap (placed k (wide_line ns)) e
    ∙ placed-joined at k (wide_field n) (wide_line ns) t (omega (arith, length_field n)) (omega (arith, length_field n, length_wide ns))
    ∙ ap (λ (l : List ℕ). placed at l t) (sym (append_assoc (wide_field n) (flatten (map wide_field ns)) (line_end ∷ [])))

-- three numbers one behind the other, and LF
module _ (at : ℕ) (s : Totals) (t t₁ t₂ t₃ : List ℕ) (e₁ : t₁ ≡ placed at (wide_field s.records) t) (e₂ : t₂ ≡ placed (at + 20) (wide_field s.weight) t₁)
    (e₃ : t₃ ≡ placed (at + 40) (wide_field s.oil) t₂) (h : at + 61 ≤ length t) where
  size₁ : length t₁ ≡ length t
  size₁ = field_size at s.records t t₁ e₁ (omega arith)

  size₂ : length t₂ ≡ length t
  size₂ = field_size (at + 20) s.weight t₁ t₂ e₂ (omega (arith, size₁)) ∙ size₁

  size₃ : length t₃ ≡ length t
  size₃ = field_size (at + 40) s.oil t₂ t₃ e₃ (omega (arith, size₂)) ∙ size₂

  pub totals_put : set t₃ (at + 60) line_end ≡ placed at (wide_line (totals_row s)) t
  totals_put =
      let u : List ℕ = set t₃ (at + 60) line_end in
      let a : u ≡ placed (at + 60) (wide_line []) t₃ = none_put (at + 60) t₃ (omega (arith, size₃)) in
      let b : u ≡ placed (at + 40) (wide_line (s.oil ∷ [])) t₂ = more_put (at + 40) (at + 60) s.oil [] t₂ t₃ u e₃ a (omega arith) (omega (arith, size₂)) in
      let c : u ≡ placed (at + 20) (wide_line (s.weight ∷ s.oil ∷ [])) t₁ = more_put (at + 20) (at + 40) s.weight (s.oil ∷ []) t₁ t₂ u e₂ b (omega arith) (omega (arith, size₁)) in
      more_put at (at + 20) s.records (s.weight ∷ s.oil ∷ []) t t₁ u e₁ c (omega arith) (omega arith)
