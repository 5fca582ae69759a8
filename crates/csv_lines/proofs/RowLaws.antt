-- A delivery's line written field by field, the lines one after the other, and how long they are. Assumes nothing.
use Prim.Native.Nat.{ℕ, ◌+◌, ◌*◌, ◌≤◌, ◌<◌}
use mathlib.Core.Path.{◌≡◌, refl, ap}
use mathlib.Core.List.{List, [], ◌∷◌, ◌++◌, append_assoc, flatten, map}
use native.Mathlib.Omega.{arith}
use lib.ListN.{length, drop, length-append, drop_of_length-le}
use Rattle.model.specs.declared.Delivery.{Delivery}
use Rattle.model.specs.Lists.{sum_of}
use Rattle.model.specs.Deliveries.{grower_of, weight_of, yield_of, Slices, zipped, rows, Even, each_slice}
use Rattle.model.specs.Fields.{line_end}
use Rattle.model.specs.Csv.{comma, carriage_return}
use Rattle.model.specs.Weighbridge.{plain_number, header_line, row_line, csv_text}
use Rattle.model.proofs.Deliveries.{row_at, rows_from, slices_for_lem, length-rows}
use Rattle.fields.specs.Writing.{Wrote}
use Rattle.fields.proofs.WritingLaws.{Left, left_start, next_room, left_next, left_end}
use Rattle.csv_lines.specs.Writing.{CountIs, digit_count, row_lines}

-- One line.

abbrev field_then : ℕ → ℕ → List ℕ
field_then n b = plain_number n ++ b ∷ []

abbrev line_ends : List ℕ
line_ends = carriage_return ∷ line_end ∷ []

-- behind the grower, and behind the weight
abbrev from_yield : Delivery → List ℕ
from_yield d = plain_number d.oil_yield ++ line_ends

abbrev from_weight : Delivery → List ℕ
from_weight d = field_then d.weight comma ++ from_yield d

module _ (d : Delivery) where
  row-parts : row_line d ≡ field_then d.grower comma ++ from_weight d
  row-parts = simp append_assoc

  pub grower_room : (t : List ℕ) (at : ℕ) → at + length (row_line d) ≤ length t → at + length (field_then d.grower comma) ≤ length t
  grower_room t at h = next_room (left_start t at (row_line d) h) (field_then d.grower comma) (from_weight d) row-parts

  module _ {t : List ℕ} {at : ℕ} (h : at + length (row_line d) ≤ length t) where
    module _ {t₁ : List ℕ} {a : ℕ} (p : Wrote t at (field_then d.grower comma) t₁ a) where
      weight_left : Left t at (row_line d) t₁ a (from_weight d)
      weight_left = left_next (left_start t at (row_line d) h) (field_then d.grower comma) (from_weight d) row-parts p

      pub weight_room : a + length (field_then d.weight comma) ≤ length t₁
      weight_room = next_room weight_left (field_then d.weight comma) (from_yield d) refl

      module _ {t₂ : List ℕ} {b : ℕ} (q : Wrote t₁ a (field_then d.weight comma) t₂ b) where
        yield_left : Left t at (row_line d) t₂ b (from_yield d)
        yield_left = left_next weight_left (field_then d.weight comma) (from_yield d) refl q

        pub yield_room : b + length (plain_number d.oil_yield) ≤ length t₂
        yield_room = next_room yield_left (plain_number d.oil_yield) line_ends refl

        module _ {t₃ : List ℕ} {c : ℕ} (r : Wrote t₂ b (plain_number d.oil_yield) t₃ c) where
          end_left : Left t at (row_line d) t₃ c line_ends
          end_left = left_next yield_left (plain_number d.oil_yield) line_ends refl r

          pub end_room : c + length line_ends ≤ length t₃
          end_room = next_room end_left line_ends [] refl

          pub row_done : {t₄ : List ℕ} {e : ℕ} → Wrote t₃ c line_ends t₄ e → Wrote t at (row_line d) t₄ e
          row_done s = left_end (left_next end_left line_ends [] refl s) refl

-- Lines one after the other.

pub record RowsLeft (t₀ : List ℕ) (at : ℕ) (s : Slices) (t : List ℕ) (i e : ℕ) : Type 0 where
  pub passed : i ≤ length s.growers
  pub even : Even s
  pub left : Left t₀ at (row_lines (rows s)) t e (row_lines (rows (each_slice (drop i) s)))

pub rows_start : (t : List ℕ) (at : ℕ) (s : Slices) → Even s → at + length (row_lines (rows s)) ≤ length t → RowsLeft t at s t 0 at
rows_start t at s e h = record { passed = omega arith; even = e; left = left_start t at (row_lines (rows s)) h }

module _ {t₀ : List ℕ} {at : ℕ} {s : Slices} {t : List ℕ} {i e : ℕ} (o : RowsLeft t₀ at s t i e) where
  module _ (h : i < length s.growers) where
    abbrev here : List ℕ
    here = row_line (row_at s i)

    abbrev more : List ℕ
    more = row_lines (rows (each_slice (drop (i + 1)) s))

    row_here : row_lines (rows (each_slice (drop i) s)) ≡ here ++ more
    unfolding flatten
    row_here = ap row_lines (rows_from s i h o.even)

    pub row_room : e + length here ≤ length t
    row_room = next_room o.left here more row_here

    pub rows_next : {t' : List ℕ} {f : ℕ} → Wrote t e here t' f → RowsLeft t₀ at s t' (i + 1) f
    rows_next v = record { passed = omega arith; even = o.even; left = left_next o.left here more row_here v }

  pub rows_end : length s.growers ≤ i → Wrote t₀ at (row_lines (rows s)) t e
  unfolding zipped flatten
  rows_end h = left_end o.left (ap (λ (l : List ℕ). row_lines (zipped l (drop i s.weights) (drop i s.yields) (drop i s.days))) (drop_of_length-le s.growers h))

-- How long the text is.

row-length : (d : Delivery) → length (row_line d) ≡ 4 + length (plain_number d.grower) + length (plain_number d.weight) + length (plain_number d.oil_yield)
row-length d =
    let g : List ℕ = plain_number d.grower in
    let w : List ℕ = plain_number d.weight in
    let y : List ℕ = plain_number d.oil_yield in
    omega (
      arith,
      length-append (g ++ comma ∷ w ++ comma ∷ y) (carriage_return ∷ line_end ∷ []),
      length-append (g ++ comma ∷ w) (comma ∷ y),
      length-append g (comma ∷ w),
    )

lines_for : (ds : List Delivery) → length (row_lines ds) ≡ 4 * length ds + digit_count (map grower_of ds) + digit_count (map weight_of ds) + digit_count (map yield_of ds)
unfolding flatten digit_count sum_of
lines_for [] = refl
lines_for (d ∷ ds) = omega (arith, length-append (row_line d) (row_lines ds), row-length d, lines_for ds)

length-row-lines : (s : Slices) → Even s → length (row_lines (rows s)) ≡ 4 * length s.growers + digit_count s.growers + digit_count s.weights + digit_count s.yields
length-row-lines s e =
    let z = slices_for_lem s e in
    omega (
      arith,
      lines_for (rows s),
      length-rows s e,
      ap (λ (x : Slices). digit_count x.growers) z,
      ap (λ (x : Slices). digit_count x.weights) z,
      ap (λ (x : Slices). digit_count x.yields) z,
    )

-- the header line, and then the lines
pub length_csv : (ds : List Delivery) → length (csv_text ds) ≡ 21 + length (row_lines ds)
unfolding csv_text
length_csv ds = length-append header_line (row_lines ds)

module _ {s : Slices} {a b c m n k : ℕ} where
  pub text_length : Even s → CountIs a (digit_count s.growers) m → CountIs b (digit_count s.weights) n → CountIs c (digit_count s.yields) k
      → 21 + 4 * length s.growers + a + b + c ≡ length (csv_text (rows s))
  text_length e p q r = omega (arith, length_csv (rows s), length-row-lines s e, p.is, q.is, r.is)
