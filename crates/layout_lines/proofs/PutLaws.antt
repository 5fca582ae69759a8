-- The lines written at a place: none, those past block i, the one of the last block, or those behind an end at i and then those past i. Assumes nothing.
use Prim.Native.Nat.{ℕ, ◌+◌, ◌*◌, ◌^◌, ◌≤◌}
use mathlib.Core.Path.{◌≡◌, refl, sym, ap, ◌∙◌, subst}
use mathlib.Core.List.{List, [], ◌∷◌, ◌++◌, map}
use native.Mathlib.Omega.{arith}
use lib.ListN.{length, take}
use lib.IntN.{sub_ℕ}
use Rattle.model.specs.Fields.{number_field, signed_field, line_end}
use Rattle.fields.specs.Writing.{Wrote}
use Rattle.fields.proofs.WritingLaws.{front_room, wrote_room, wrote_joined}
use Rattle.layout_lines.specs.Rests.{lines_after, Chose, PutLines}
use Rattle.layout_lines.proofs.RestLaws.{Place, later, behind, followed}
use Rattle.layout_lines.proofs.SizeLaws.{total_one}
use Rattle.layout_lines.proofs.LineLaws.{row_more, row_kept, same_lines, last_line_lem, lines-append, length-lines, wrote_none}

module _ (x : Place) (sums : List ℕ) (m at : ℕ) (row text : List ℕ) where
  -- the fields of the chosen ends
  abbrev front : List ℕ
  front = take (11 * x.k) row

  abbrev lines_of : List (List ℕ) → List ℕ
  lines_of = lines_after sums x.k x.a m front

  -- the lines at the place are written
  abbrev Done : List ℕ → List ℕ → ℕ → Type 0
  Done row' text' r = PutLines sums x.k x.a m (followed x) row text at row' text' r

  pub none_put : followed x ≡ [] → Done row text at
  none_put e = record { wrote = wrote_none sums x.k x.a m front text at (followed x) e; kept = refl }

  module _ (e : followed x ≡ followed (later x)) where
    pub passed_room : at + length (lines_of (followed x)) ≤ length text → at + length (lines_of (followed (later x))) ≤ length text
    passed_room h = subst (λ (ls : List (List ℕ)). at + length (lines_of ls) ≤ length text) e h

    pub passed_put : {row' text' : List ℕ} {r : ℕ} → PutLines sums x.k x.a m (followed (later x)) row text at row' text' r → Done row' text' r
    passed_put {row'} {text'} {r} w = subst (λ (ls : List (List ℕ)). PutLines sums x.k x.a m ls row text at row' text' r) (sym e) w

  -- block i is an end
  module _ {next : ℕ} {row₁ : List ℕ} (c : Chose sums x.a x.i x.k m row next row₁) (h : 11 * x.k + 11 ≤ length row) where
    one_more_lem : take (11 * (x.k + 1)) row₁ ≡ front ++ number_field x.i
    one_more_lem = ap (take (11 * (x.k + 1))) c.field ∙ row_more x.k x.i row h

    kept_by : (new : List ℕ) → take (11 * (x.k + 1)) new ≡ take (11 * (x.k + 1)) row₁ → take (11 * x.k) new ≡ front
    kept_by new q = row_kept x.k x.i row h new (q ∙ ap (take (11 * (x.k + 1))) c.field)

    module _ (e : followed x ≡ (x.i ∷ []) ∷ []) where
      abbrev last_line : List ℕ
      last_line = number_field (x.k + 1) ++ (signed_field (sub_ℕ next (2 ^ 60)) ++ (take (11 * (x.k + 1)) row₁ ++ line_end ∷ []))

      last_is : last_line ≡ lines_of (followed x)
      last_is =
          ap (λ (l : List ℕ). number_field (x.k + 1) ++ (signed_field (sub_ℕ next (2 ^ 60)) ++ (l ++ line_end ∷ []))) one_more_lem
          ∙ last_line_lem sums x.k x.a m x.i next front c.is
          ∙ ap lines_of (sym e)

      pub last_room : length front ≡ 11 * x.k → at + length (lines_of (followed x)) ≤ length text → at + (32 + 11 * (x.k + 1)) ≤ length text
      last_room z g = omega (arith, length-lines sums x.k x.a m front z (followed x), total_one x.k x.i (followed x) e)

      pub last_put : {text' : List ℕ} {r : ℕ} → Wrote text at last_line text' r → Done row₁ text' r
      last_put {text'} {r} w = record { wrote = subst (λ (l : List ℕ). Wrote text at l text' r) last_is w; kept = kept_by row₁ refl }

    module _ (e : followed x ≡ map (λ (es : List ℕ). x.i ∷ es) (followed (behind x)) ++ followed (later x)) (g : at + length (lines_of (followed x)) ≤ length text) where
      -- with an end at block i, and past it
      abbrev here : List ℕ
      here = lines_of (map (λ (es : List ℕ). x.i ∷ es) (followed (behind x)))

      abbrev past : List ℕ
      past = lines_of (followed (later x))

      both_are : lines_of (followed x) ≡ here ++ past
      both_are = ap lines_of e ∙ lines-append sums x.k x.a m front (map (λ (es : List ℕ). x.i ∷ es) (followed (behind x))) (followed (later x))

      here_is : lines_after sums (x.k + 1) (x.i + 1) next (take (11 * (x.k + 1)) row₁) (followed (behind x)) ≡ here
      here_is =
          ap (λ (l : List ℕ). lines_after sums (x.k + 1) (x.i + 1) next l (followed (behind x))) one_more_lem
          ∙ sym (same_lines sums x.k x.a m x.i next front c.is (followed (behind x)))

      both_room : at + length (here ++ past) ≤ length text
      both_room = subst (λ (l : List ℕ). at + length l ≤ length text) both_are g

      pub here_room : at + length (lines_after sums (x.k + 1) (x.i + 1) next (take (11 * (x.k + 1)) row₁) (followed (behind x))) ≤ length text
      here_room = subst (λ (l : List ℕ). at + length l ≤ length text) (sym here_is) (front_room at here past text both_room)

      module _ {row₂ text₁ : List ℕ} {p : ℕ} (w : PutLines sums (x.k + 1) (x.i + 1) next (followed (behind x)) row₁ text at row₂ text₁ p) where
        wrote_here : Wrote text at here text₁ p
        wrote_here = subst (λ (l : List ℕ). Wrote text at l text₁ p) here_is w.wrote

        past_is : lines_after sums x.k x.a m (take (11 * x.k) row₂) (followed (later x)) ≡ past
        past_is = ap (λ (l : List ℕ). lines_after sums x.k x.a m l (followed (later x))) (kept_by row₂ w.kept)

        pub past_room : p + length (lines_after sums x.k x.a m (take (11 * x.k) row₂) (followed (later x))) ≤ length text₁
        past_room = subst (λ (l : List ℕ). p + length l ≤ length text₁) (sym past_is) (wrote_room wrote_here past both_room)

        pub both_put : {row₃ text₂ : List ℕ} {r : ℕ} → PutLines sums x.k x.a m (followed (later x)) row₂ text₁ p row₃ text₂ r → Done row₃ text₂ r
        both_put {text₂ = text₂} {r} v = record {
          wrote = subst (λ (l : List ℕ). Wrote text at l text₂ r) (sym both_are) (wrote_joined wrote_here both_room (subst (λ (l : List ℕ). Wrote text₁ p l text₂ r) past_is v.wrote));
          kept = v.kept ∙ kept_by row₂ w.kept;
        }
