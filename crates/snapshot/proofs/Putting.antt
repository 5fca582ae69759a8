-- Lines written one after the other: the lines that are left, placed from here on, make the whole. Assumes nothing.
use Prim.Native.Nat.{ℕ, ◌+◌, ◌*◌, ◌≤◌, ◌<◌}
use mathlib.Core.Path.{◌≡◌, refl, sym, ap, ◌∙◌}
use mathlib.Core.List.{List, [], ◌∷◌, ◌++◌, map, flatten}
use native.Mathlib.Omega.{arith}
use native.Mathlib.Numerals.{add-one}
use lib.ListN.{length, get_or, drop, length-append}
use lib.Seq.{drop-cons, drop-length}
use Rattle.model.specs.declared.Delivery.{Delivery}
use Rattle.model.specs.Deliveries.{Slices, zipped, rows, Even, each_slice}
use Rattle.model.specs.Fields.{line, lines}
use Rattle.model.specs.Snapshot.{partition_rows, delivery_row}
use Rattle.model.proofs.Deliveries.{length-rows, rows_from}
use Rattle.model.proofs.LineLaws.{length-line}
use Rattle.fields.specs.Writing.{placed}
use Rattle.fields.proofs.Placing.{length-placed, placed_none, placed-joined}

-- Lengths.

pub length_partitions : (ns fs : List ℕ) → length fs ≡ length ns → length (lines (partition_rows ns fs)) ≡ 23 * length ns
unfolding partition_rows flatten
length_partitions [] fs e = refl
length_partitions (n ∷ ns) [] e = absurd (omega arith)
length_partitions (n ∷ ns) (f ∷ fs) e = omega (arith, length-append (line (n ∷ f ∷ [])) (lines (partition_rows ns fs)), length-line (n ∷ f ∷ []), length_partitions ns fs (omega arith))

length_deliveries : (ds : List Delivery) → length (lines (map delivery_row ds)) ≡ 34 * length ds
unfolding flatten
length_deliveries [] = refl
length_deliveries (d ∷ ds) = omega (arith, length-append (line (delivery_row d)) (lines (map delivery_row ds)), length-line (delivery_row d), length_deliveries ds)

abbrev pub rows_of : Slices → List (List ℕ)
rows_of s = map delivery_row (rows s)

pub length-rows-of : (s : Slices) → Even s → length (lines (rows_of s)) ≡ 34 * length s.growers
length-rows-of s e = length_deliveries (rows s) ∙ ap (λ (n : ℕ). 34 * n) (length-rows s e)

-- Lines of any rows.

pub record PutLines (t₀ : List ℕ) (at : ℕ) (whole : List (List ℕ)) (t : List ℕ) (e : ℕ) (rest : List (List ℕ)) : Type 0 where
  pub size : length t ≡ length t₀
  pub room : e + length (lines rest) ≤ length t₀
  pub work : placed e (lines rest) t ≡ placed at (lines whole) t₀

lines_start : (t : List ℕ) (at : ℕ) (whole : List (List ℕ)) → at + length (lines whole) ≤ length t → PutLines t at whole t at whole
lines_start t at whole h = record { size = refl; room = h; work = refl }

module _ {t₀ : List ℕ} {at : ℕ} {whole : List (List ℕ)} {t : List ℕ} {e : ℕ} {rest : List (List ℕ)} (w : PutLines t₀ at whole t e rest) where
  module _ {row : List ℕ} {more : List (List ℕ)} (x : rest ≡ row ∷ more) where
    parted : lines rest ≡ line row ++ lines more
    unfolding flatten
    parted = ap lines x

    lines_room : e + (11 * length row + 1) + length (lines more) ≤ length t₀
    lines_room = omega (arith, w.room, ap length parted, length-append (line row) (lines more), length-line row)

    lines_next : (t' : List ℕ) → t' ≡ placed e (line row) t → PutLines t₀ at whole t' (e + (11 * length row + 1)) more
    lines_next t' q =
        let n = length-line row in
        record {
          size = ap length q ∙ length-placed e (line row) t (omega (arith, w.size, lines_room)) ∙ w.size;
          room = lines_room;
          work =
              ap (placed (e + (11 * length row + 1)) (lines more)) q
              ∙ placed-joined e (e + (11 * length row + 1)) (line row) (lines more) t (omega arith) (omega (arith, w.size, lines_room))
              ∙ ap (λ (l : List ℕ). placed e l t) (sym parted)
              ∙ w.work;
        }

  lines_end : rest ≡ [] → t ≡ placed at (lines whole) t₀
  unfolding flatten
  lines_end x = sym (placed_none e t) ∙ ap (λ (l : List (List ℕ)). placed e (lines l) t) (sym x) ∙ w.work

-- Partition lines.

pub record PutParts (t₀ : List ℕ) (at : ℕ) (lens fences t : List ℕ) (i e : ℕ) : Type 0 where
  pub left : i ≤ length lens
  pub even : length fences ≡ length lens
  pub put : PutLines t₀ at (partition_rows lens fences) t e (partition_rows (drop i lens) (drop i fences))

pub parts_start : (t : List ℕ) (at : ℕ) (lens fences : List ℕ) → length fences ≡ length lens → at + 23 * length lens ≤ length t → PutParts t at lens fences t 0 at
parts_start t at lens fences e h = record { left = omega arith; even = e; put = lines_start t at (partition_rows lens fences) (omega (arith, length_partitions lens fences e)) }

module _ {t₀ : List ℕ} {at : ℕ} {lens fences t : List ℕ} {i e : ℕ} (w : PutParts t₀ at lens fences t i e) where
  module _ (h : i < length lens) where
    part_here : partition_rows (drop i lens) (drop i fences) ≡ (get_or lens i 0 ∷ get_or fences i 0 ∷ []) ∷ partition_rows (drop (i + 1) lens) (drop (i + 1) fences)
    unfolding partition_rows
    part_here = rw (drop-cons lens i 0 h, drop-cons fences i 0 (omega (arith, w.even)), add-one)

    pub part_room : e + 23 ≤ length t
    part_room = omega (arith, lines_room w.put part_here, w.put.size)

    pub parts_next : (t' : List ℕ) → t' ≡ placed e (line (get_or lens i 0 ∷ get_or fences i 0 ∷ [])) t → PutParts t₀ at lens fences t' (i + 1) (e + 23)
    parts_next t' q = record { left = omega arith; even = w.even; put = lines_next w.put part_here t' q }

  pub parts_end : length lens ≤ i → t ≡ placed at (lines (partition_rows lens fences)) t₀
  unfolding partition_rows
  parts_end h =
      let z : i ≡ length lens = omega (arith, w.left) in
      let x : drop i lens ≡ [] = ap (λ (k : ℕ). drop k lens) z ∙ drop-length lens in
      lines_end w.put (ap (λ (l : List ℕ). partition_rows l (drop i fences)) x)

-- Delivery lines.

pub record PutRows (t₀ : List ℕ) (at : ℕ) (s : Slices) (t : List ℕ) (i e : ℕ) : Type 0 where
  pub left : i ≤ length s.growers
  pub even : Even s
  pub put : PutLines t₀ at (rows_of s) t e (rows_of (each_slice (drop i) s))

pub rows_start : (t : List ℕ) (at : ℕ) (s : Slices) → Even s → at + 34 * length s.growers ≤ length t → PutRows t at s t 0 at
rows_start t at s e h = record { left = omega arith; even = e; put = lines_start t at (rows_of s) (omega (arith, length-rows-of s e)) }

module _ {t₀ : List ℕ} {at : ℕ} {s : Slices} {t : List ℕ} {i e : ℕ} (o : PutRows t₀ at s t i e) where
  module _ (h : i < length s.growers) where
    row_here : rows_of (each_slice (drop i) s) ≡ (get_or s.growers i 0 ∷ get_or s.weights i 0 ∷ get_or s.yields i 0 ∷ []) ∷ rows_of (each_slice (drop (i + 1)) s)
    row_here = ap (map delivery_row) (rows_from s i h o.even)

    pub row_room : e + 34 ≤ length t
    row_room = omega (arith, lines_room o.put row_here, o.put.size)

    pub rows_next : (t' : List ℕ) → t' ≡ placed e (line (get_or s.growers i 0 ∷ get_or s.weights i 0 ∷ get_or s.yields i 0 ∷ [])) t → PutRows t₀ at s t' (i + 1) (e + 34)
    rows_next t' q = record { left = omega arith; even = o.even; put = lines_next o.put row_here t' q }

  pub rows_end : length s.growers ≤ i → t ≡ placed at (lines (rows_of s)) t₀
  unfolding zipped
  rows_end h =
      let z : i ≡ length s.growers = omega (arith, o.left) in
      let x : drop i s.growers ≡ [] = ap (λ (k : ℕ). drop k s.growers) z ∙ drop-length s.growers in
      lines_end o.put (ap (λ (l : List ℕ). map delivery_row (zipped l (drop i s.weights) (drop i s.yields) (drop i s.days))) x)
