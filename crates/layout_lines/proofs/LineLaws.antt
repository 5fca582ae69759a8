-- The lines of the layouts that chosen ends go on to: with one end more chosen they are the same lines, and those of two lists are one behind the other.
-- Assumes nothing.
use Prim.Native.Nat.{ℕ, ◌+◌, ◌*◌, ◌^◌, ◌≤◌, ◌<◌}
use mathlib.Core.Path.{◌≡◌, refl, sym, ap, ap₂, ◌∙◌, subst}
use mathlib.Core.List.{List, [], ◌∷◌, ◌++◌, append_assoc, append-nil, map, map-append, flatten}
use native.Mathlib.Omega.{arith}
use lib.ListN.{length, take, set, length-append, length-set}
use lib.Seq.{length-take-le, take-take, take_at}
use lib.IntN.{ℤ, sub_ℕ}
use Rattle.model.specs.Lists.{sum_of}
use Rattle.model.specs.Fields.{number_field, signed_field, line, line_end}
use Rattle.model.proofs.Integers.{is_sub, eq_is}
use Rattle.model.proofs.ListLaws.{flatten-append}
use Rattle.model.proofs.FieldLaws.{length-number, length_signed}
use Rattle.model.proofs.ListingLaws.{length-parts, length-joined}
use Rattle.fields.specs.Writing.{placed, Wrote}
use Rattle.fields.proofs.Placing.{placed_none, placed_front}
use Rattle.fields.proofs.WritingLaws.{wrote_size, wrote_joined, byte_behind, wrote_byte}
use Rattle.layout_search.specs.RunningSums.{end_up, end_down, up_by, down_by}
use Rattle.layout_lines.specs.Rests.{line_bytes, cost_after, line_after, lines_after}

-- The fields in the row.

module _ (k i : ℕ) (row : List ℕ) (h : 11 * k + 11 ≤ length row) where
  -- one field more
  pub row_more : take (11 * (k + 1)) (placed (11 * k) (number_field i) row) ≡ take (11 * k) row ++ number_field i
  row_more =
      let n = length-number i in
      placed_front (11 * k) (11 * (k + 1)) (number_field i) [] row (omega arith) (omega arith)

  -- what is in front of it stays, whatever came behind
  pub row_kept : (new : List ℕ) → take (11 * (k + 1)) new ≡ take (11 * (k + 1)) (placed (11 * k) (number_field i) row) → take (11 * k) new ≡ take (11 * k) row
  row_kept new e =
      let f : take (11 * (k + 1)) new ≡ take (11 * k) row ++ number_field i = e ∙ row_more in
      let n : length (take (11 * k) row) ≡ 11 * k = length-take-le (11 * k) row (omega arith) in
      sym (take-take (11 * k) (11 * (k + 1)) new (omega arith))
      ∙ ap (take (11 * k)) f
      ∙ take_at (take (11 * k) row) (number_field i) (11 * k) n

-- One end more is chosen: the same line.

module _ (sums : List ℕ) (k a m i next : ℕ) (front : List ℕ) (p : next + end_down sums i ≡ m + end_up sums a i) where
  same-cost : (es : List ℕ) → cost_after sums m a (i ∷ es) ≡ cost_after sums next (i + 1) es
  unfolding up_by down_by
  same-cost es =
      eq_is _ _ _ _ _ _ (is_sub (m + up_by sums a (i ∷ es)) (2 ^ 60 + down_by sums (i ∷ es))) (is_sub (next + up_by sums (i + 1) es) (2 ^ 60 + down_by sums es)) (omega arith)

  same_ends : (es : List ℕ) → front ++ line (i ∷ es) ≡ (front ++ number_field i) ++ line es
  unfolding line flatten
  same_ends es =
      ap (λ (l : List ℕ). front ++ l) (append_assoc (number_field i) (flatten (map number_field es)) (line_end ∷ []))
      ∙ sym (append_assoc front (number_field i) (flatten (map number_field es) ++ line_end ∷ []))

  same_line : (es : List ℕ) → line_after sums k a m front (i ∷ es) ≡ line_after sums (k + 1) (i + 1) next (front ++ number_field i) es
  unfolding line_after
  same_line es =
      let z : k + length (i ∷ es) ≡ k + 1 + length es = omega arith in
      ap (λ (j : ℕ). number_field j ++ (signed_field (cost_after sums m a (i ∷ es)) ++ (front ++ line (i ∷ es)))) z
      ∙ ap₂ (λ (c : ℤ) (l : List ℕ). number_field (k + 1 + length es) ++ (signed_field c ++ l)) (same-cost es) (same_ends es)

  pub same_lines : (ls : List (List ℕ)) → lines_after sums k a m front (map (λ (es : List ℕ). i ∷ es) ls) ≡ lines_after sums (k + 1) (i + 1) next (front ++ number_field i) ls
  unfolding lines_after flatten
  same_lines [] = refl
  same_lines (es ∷ ls) = ap₂ (λ (x y : List ℕ). x ++ y) (same_line es) (same_lines ls)

  -- the line of a layout whose last end is i
  pub last_line_lem : number_field (k + 1) ++ (signed_field (sub_ℕ next (2 ^ 60)) ++ ((front ++ number_field i) ++ line_end ∷ [])) ≡ lines_after sums k a m front ((i ∷ []) ∷ [])
  unfolding lines_after line_after up_by down_by line flatten
  last_line_lem =
      let u : k + 1 ≡ k + 1 + 0 = omega arith in
      let v : next ≡ next + 0 = omega arith in
      ap₂ (λ (j c : ℕ). number_field j ++ (signed_field (sub_ℕ c (2 ^ 60)) ++ ((front ++ number_field i) ++ line_end ∷ []))) u v
      ∙ sym (same_line [])
      ∙ sym (append-nil (line_after sums k a m front (i ∷ [])))

-- Lines of two lists.

module _ (sums : List ℕ) (k a m : ℕ) (front : List ℕ) where
  pub lines-append : (x y : List (List ℕ)) → lines_after sums k a m front (x ++ y) ≡ lines_after sums k a m front x ++ lines_after sums k a m front y
  unfolding lines_after
  lines-append x y = ap flatten (map-append (line_after sums k a m front) x y) ∙ flatten-append (map (line_after sums k a m front) x) (map (line_after sums k a m front) y)

  -- how long they are
  pub length-lines : length front ≡ 11 * k → (ls : List (List ℕ)) → length (lines_after sums k a m front ls) ≡ sum_of (map (line_bytes k) ls)
  unfolding lines_after line_after
  length-lines h = length-joined (line_after sums k a m front) (line_bytes k) (λ es. omega (arith, length-parts (k + length es) (cost_after sums m a es) front es))

  -- none is written
  pub wrote_none : (t : List ℕ) (at : ℕ) (ls : List (List ℕ)) → ls ≡ [] → Wrote t at (lines_after sums k a m front ls) t at
  unfolding lines_after flatten
  wrote_none t at ls e =
      let z : lines_after sums k a m front ls ≡ [] = ap (lines_after sums k a m front) e in
      subst (λ (l : List ℕ). Wrote t at l t at) (sym z) (record { bytes = sym (placed_none at t); on = omega arith })

-- A line written part by part: K in t₁, the cost in t₂, the ends in t₃, and LF behind them.

module _ (at k : ℕ) (z : ℤ) (ends t t₁ t₂ t₃ : List ℕ) (e : ℕ) (p : t₁ ≡ placed at (number_field k) t) (q : t₂ ≡ placed (at + 11) (signed_field z) t₁) (room : at + (32 + length ends) ≤ length t) where
  count_wrote : Wrote t at (number_field k) t₁ (at + 11)
  count_wrote = record { bytes = p; on = omega (arith, length-number k) }

  cost_wrote : Wrote t₁ (at + 11) (signed_field z) t₂ (at + 31)
  cost_wrote = record { bytes = q; on = omega (arith, length_signed z) }

  size₁ : length t₁ ≡ length t
  size₁ = wrote_size count_wrote (omega (arith, length-number k))

  size₂ : length t₂ ≡ length t
  size₂ = wrote_size cost_wrote (omega (arith, length_signed z, size₁)) ∙ size₁

  pub ends_room : at + 31 + length ends ≤ length t₂
  ends_room = omega (arith, size₂)

  module _ (w : Wrote t₂ (at + 31) ends t₃ e) where
    end_room : at + 31 + length (ends ++ line_end ∷ []) ≤ length t₂
    end_room = omega (arith, size₂, length-append ends (line_end ∷ []))

    pub byte_room : e < length t₃
    byte_room = byte_behind w line_end end_room

    pub line_size : length (set t₃ e line_end) ≡ length t
    line_size = length-set t₃ e line_end ∙ wrote_size w ends_room ∙ size₂

    pub line_wrote : Wrote t at (number_field k ++ (signed_field z ++ (ends ++ line_end ∷ []))) (set t₃ e line_end) (e + 1)
    line_wrote =
        let b = ends ++ line_end ∷ [] in
        let n = length-append ends (line_end ∷ []) in
        let m = length-append (signed_field z) b in
        let v = wrote_joined cost_wrote (omega (arith, n, m, length_signed z, size₁)) (wrote_byte w line_end end_room) in
        wrote_joined count_wrote (omega (arith, n, m, length_signed z, length-append (number_field k) (signed_field z ++ b), length-number k)) v
