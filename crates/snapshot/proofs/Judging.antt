-- What each line says of the text that is checked, and what a turn of each loop shows: line 1, partition lines listed, delivery
-- lines, partitions. Assumes nothing.
use Prim.Native.Nat.{ℕ, suc, ◌+◌, ◌-◌, ◌*◌, ◌≤◌, ◌<◌}
use mathlib.Core.Path.{◌≡◌, refl, sym, ap, ap₂, ◌∙◌}
use mathlib.Core.Bool.{Bool, true, false, cond, ◌&&◌}
use mathlib.Core.List.{List, [], ◌∷◌, ◌++◌}
use native.Mathlib.Omega.{arith}
use borrow.Author.Tests.{eq-eqb, ne_eqb, le-leb, lt-leb}
use lib.Dec.{T}
use lib.ListN.{length, get_or, drop, length-drop}
use lib.Seq.{drop-length, drop-drop, length-take-le}
use Rattle.std.specs.Prelude.{Result, Ok, Err}
use Rattle.model.specs.declared.refusal.Refusal.{Refusal}
use Rattle.model.specs.declared.refusal.Refusal.TheVariants.{Text}
use Rattle.model.specs.Lists.{sum_of, rising}
use Rattle.model.specs.Deliveries.{delivery, in_range}
use Rattle.model.specs.Directory.{directory_size, partition_count, directory_of, directory_numbers}
use Rattle.model.specs.Snapshot.{header_ok, header_of}
use Rattle.model.proofs.Tests.{of_true}
use Rattle.model.proofs.ListLaws.{drop_next}
use Rattle.directory.specs.Numbers.{Numbered, blank, with_partition}
use Rattle.directory.proofs.Putting.{parts_put, put_none, blank_size, put_size, put_next, put_all}
use Rattle.fields.specs.Reading.{value_at}
use Rattle.lines.specs.Lines.{text_checked, line_found, column_at, line_ok, lines_ok}
use Rattle.lines.proofs.Storing.{length_column, column_more}
use Rattle.lines.proofs.Forms.{lines_cut}
use Rattle.lines.proofs.Reading.{found_line, found_numbers, found_number, Judge}
use Rattle.snapshot.specs.declared.Head.{Head}
use Rattle.snapshot.specs.Texts.{header_at, head_ok, head_in, head_found, directory_at, listed_in, low_of, high_of, row_ok, delivery_ok, deliveries_ok, parts_ok}
use Rattle.snapshot.specs.Answers.{numbers_ok}

-- Line 1.

-- L is the block limit
module _ (L : ℕ) (t : List ℕ) where
  pub no_head : line_ok 3 0 t ≡ false → head_ok L t ≡ false
  unfolding head_ok
  no_head e = rw e

  module _ (ns : List ℕ) (f : Ok ns ≡ line_found 3 0 t) where
    header_is : header_of ns ≡ header_at t
    header_is = ap header_of (found_numbers 3 0 t ns f)

    -- the range decides
    pub head_said : (b : Bool) → b ≡ header_ok L (header_of ns) → cond b (Ok (head_in (header_of ns))) (Err Text) ≡ head_found L t
    unfolding head_ok
    head_said b e =
        let q : b ≡ head_ok L t = e ∙ rw (found_line 3 0 t ns f) (ap (header_ok L) header_is) in
        ap₂ (λ (b : Bool) (h : Head). cond b (Ok h) (Err Text)) q (ap head_in header_is)

-- One delivery line.

module _ (lo hi at : ℕ) (t : List ℕ) where
  pub no_delivery : line_ok 3 at t ≡ false → delivery_ok lo hi at t ≡ false
  unfolding delivery_ok
  no_delivery e = rw e

  module _ (ns : List ℕ) (f : Ok ns ≡ line_found 3 at t) where
    abbrev g : ℕ
    g = get_or ns 0 0

    row_is : (b : Bool) → row_ok lo hi ns ≡ b → text_checked b ≡ text_checked (delivery_ok lo hi at t)
    unfolding delivery_ok
    row_is b e =
        let d : delivery_ok lo hi at t ≡ b = rw (found_line 3 at t ns f, sym (found_numbers 3 at t ns f)) e in
        ap text_checked (sym d)

    pub below_low : g < lo → Err Text ≡ text_checked (delivery_ok lo hi at t)
    below_low h = row_is false (rw (lt-leb lo g h))

    pub above_high : lo ≤ g → hi < g → Err Text ≡ text_checked (delivery_ok lo hi at t)
    above_high l h = row_is false (rw (le-leb lo g l, lt-leb g hi h))

    pub range_decides : lo ≤ g → g ≤ hi → (b : Bool) → b ≡ in_range (delivery g (get_or ns 1 0) (get_or ns 2 0) 0) → text_checked b ≡ text_checked (delivery_ok lo hi at t)
    range_decides l u b e = row_is b (rw (le-leb lo g l, le-leb g hi u) (sym e))

-- Delivery lines one after the other.

pub deliveries_judge : (lo hi : ℕ) (t : List ℕ) → Judge (λ e. delivery_ok lo hi e t) (λ k e. deliveries_ok lo hi k e t) 34
unfolding deliveries_ok
deliveries_judge lo hi t = record { none = λ at. refl; more = λ k at. refl }

-- Partitions one after the other.

pub record PartsLeft (t : List ℕ) (at : ℕ) (lens fences : List ℕ) (p e : ℕ) : Type 0 where
  pub left : p ≤ length lens
  pub room : e + 34 * sum_of (drop p lens) ≡ at + 34 * sum_of lens
  pub work : parts_ok fences 0 lens at t ≡ parts_ok fences p (drop p lens) e t

pub parts_start : (t : List ℕ) (at : ℕ) (lens fences : List ℕ) → PartsLeft t at lens fences 0 at
parts_start t at lens fences = record { left = omega arith; room = refl; work = refl }

module _ {t : List ℕ} {at : ℕ} {lens fences : List ℕ} {p e : ℕ} (w : PartsLeft t at lens fences p e) where
  pub part_room : p < length lens → e + 34 * get_or lens p 0 + 34 * sum_of (drop (p + 1) lens) ≡ at + 34 * sum_of lens
  unfolding sum_of
  part_room h = let r = ap sum_of (drop_next lens p h) in omega (arith, w.room, r)

  module _ (h : p < length lens) {lo hi : ℕ} (low : lo ≡ low_of fences p) (high : hi ≡ high_of fences p) where
    one_part : parts_ok fences 0 lens at t ≡ deliveries_ok lo hi (get_or lens p 0) e t && parts_ok fences (p + 1) (drop (p + 1) lens) (e + 34 * get_or lens p 0) t
    unfolding parts_ok
    one_part =
        w.work
        ∙ ap (λ (l : List ℕ). parts_ok fences p l e t) (drop_next lens p h)
        ∙ ap₂ (λ (a b : ℕ). deliveries_ok a b (get_or lens p 0) e t && parts_ok fences (p + 1) (drop (p + 1) lens) (e + 34 * get_or lens p 0) t) (sym low) (sym high)

    pub parts_stop : deliveries_ok lo hi (get_or lens p 0) e t ≡ false → parts_ok fences 0 lens at t ≡ false
    parts_stop q = one_part ∙ rw q

    pub parts_next : deliveries_ok lo hi (get_or lens p 0) e t ≡ true → PartsLeft t at lens fences (p + 1) (e + 34 * get_or lens p 0)
    parts_next q = record { left = omega arith; room = part_room h; work = one_part ∙ rw q }

  pub parts_end : length lens ≤ p → true ≡ parts_ok fences 0 lens at t
  unfolding parts_ok
  parts_end h =
      let z : p ≡ length lens = omega (arith, w.left) in
      sym (w.work ∙ ap (λ (l : List ℕ). parts_ok fences p l e t) (ap (λ (k : ℕ). drop k lens) z ∙ drop-length lens))

-- Partition lines listed one after the other.

pub record Listing (L : ℕ) (t : List ℕ) (b k : ℕ) (d : List ℕ) (i e : ℕ) : Type 0 where
  pub left : i ≤ k
  pub few : k ≤ L
  pub at-line : e ≡ 34 + 23 * i
  pub long : length d ≡ directory_size L
  pub so_far : d ≡ parts_put L b k (column_at 23 34 i t) (column_at 23 45 i t)
  pub lines : lines_ok 2 i 34 t ≡ true

pub list_start : (L : ℕ) (t : List ℕ) (b k : ℕ) → k ≤ L → Listing L t b k (blank L b k) 0 34
unfolding lines_ok column_at
list_start L t b k h = record { left = omega arith; few = h; at-line = refl; long = blank_size L b k; so_far = put_none L b k; lines = refl }

module _ {L : ℕ} {t : List ℕ} {b k : ℕ} {d : List ℕ} {i e : ℕ} (w : Listing L t b k d i e) where
  -- the lines so far, and the next one
  lines_then : (j : ℕ) → lines_ok 2 (i + suc j) 34 t ≡ line_ok 2 e t && lines_ok 2 j (e + 23) t
  unfolding lines_ok
  lines_then j = lines_cut t 2 i (suc j) 34 ∙ rw w.lines (ap (λ (x : ℕ). line_ok 2 x t && lines_ok 2 j (x + 23) t) (sym w.at-line))

  module _ (h : i < k) where
    pub list_stop : line_ok 2 e t ≡ false → lines_ok 2 k 34 t ≡ false
    list_stop f =
        let z : k ≡ i + suc (k - i - 1) = omega arith in
        ap (λ (n : ℕ). lines_ok 2 n 34 t) z ∙ lines_then (k - i - 1) ∙ rw f

    pub list_next : (ns new : List ℕ) → Ok ns ≡ line_found 2 e t → new ≡ with_partition L i (get_or ns 0 0) (get_or ns 1 0) d → Listing L t b k new (i + 1) (e + 23)
    unfolding column_at lines_ok
    list_next ns new is r =
        let n : ℕ = get_or ns 0 0 in
        let f : ℕ = get_or ns 1 0 in
        let y : e + 11 ≡ 45 + 23 * i = omega (arith, w.at-line) in
        let x : e + 0 ≡ 34 + 23 * i = omega (arith, w.at-line) in
        let a : n ≡ value_at (34 + 23 * i) t = found_number 2 e t ns is 0 (omega arith) ∙ ap (λ (j : ℕ). value_at j t) x in
        let c : f ≡ value_at (45 + 23 * i) t = found_number 2 e t ns is 1 (omega arith) ∙ ap (λ (j : ℕ). value_at j t) y in
        record {
          left = omega arith;
          few = w.few;
          at-line = omega (arith, w.at-line);
          long = ap length r ∙ put_size L i n f d ∙ w.long;
          so_far =
              r
              ∙ ap (with_partition L i n f) w.so_far
              ∙ put_next L b k (column_at 23 34 i t) (column_at 23 45 i t) i n f (length_column 23 34 i t) (length_column 23 45 i t) (omega (arith, w.few))
              ∙ ap₂ (parts_put L b k) (ap (λ (v : ℕ). column_at 23 34 i t ++ v ∷ []) a ∙ sym (column_more 23 34 i t))
              (ap (λ (v : ℕ). column_at 23 45 i t ++ v ∷ []) c ∙ sym (column_more 23 45 i t));
          lines = lines_then 0 ∙ rw (found_line 2 e t ns is);
        }

  pub list_end : k ≤ i → Ok d ≡ listed_in L b k t
  list_end h =
      let z : i ≡ k = omega (arith, w.left) in
      let o : lines_ok 2 k 34 t ≡ true = ap (λ (n : ℕ). lines_ok 2 n 34 t) (sym z) ∙ w.lines in
      let n : d ≡ directory_numbers L (directory_at b k t)
      = w.so_far ∙ ap (λ (j : ℕ). parts_put L b k (column_at 23 34 j t) (column_at 23 45 j t)) z ∙ put_all L b k (column_at 23 34 k t) (column_at 23 45 k t) (length_column 23 34 k t) in
      ap Ok n ∙ sym (rw o)

-- The tests of a directory's numbers, one after the other.

module _ (L : ℕ) (ns : List ℕ) (o : Numbered L ns) where
  lengths_many : length (directory_of L ns).lengths ≡ partition_count L ns
  unfolding directory_of
  lengths_many = length-take-le (partition_count L ns) (drop 2 ns) (omega (arith, length-drop 2 ns, o.size, o.few))

  fences_many : length (directory_of L ns).fences ≡ partition_count L ns
  unfolding directory_of
  fences_many = rw drop-drop (length-take-le (partition_count L ns) (drop (2 + L) ns) (omega (arith, length-drop (2 + L) ns, o.size, o.few)))

  pub few_lengths : {ls : List ℕ} → ls ≡ (directory_of L ns).lengths → length ls ≤ L
  few_lengths e = rw e (omega (arith, lengths_many, o.few))

module _ (L : ℕ) (t : List ℕ) (at : ℕ) (ns : List ℕ) (m : ℕ) where
  abbrev lens : List ℕ
  lens = (directory_of L ns).lengths

  abbrev fences : List ℕ
  fences = (directory_of L ns).fences

  pub not-rising : rising fences ≡ false → Err Text ≡ text_checked (numbers_ok L t at ns m)
  unfolding numbers_ok
  not-rising e = rw e

  pub other_sum : rising fences ≡ true → (sum_of lens ≡ m → ⊥) → Err Text ≡ text_checked (numbers_ok L t at ns m)
  unfolding numbers_ok
  other_sum e n = rw (e, ne_eqb (sum_of lens) m n)

  -- the parts lent
  module _ {ls fs : List ℕ} (el : ls ≡ lens) (ef : fs ≡ fences) (e : rising fences ≡ true) (s : sum_of lens ≡ m) where
    pub parts_asked : Numbered L ns → at + 34 * m ≤ length t → (length fs ≡ length ls) × T (rising fs) × (at + 34 * sum_of ls ≤ length t)
    parts_asked o h = rw (el, ef) (fences_many L ns o ∙ sym (lengths_many L ns o), of_true _ e, omega (arith, s))

    pub same_sum : (r : Result (Unit {0}) Refusal) → r ≡ text_checked (parts_ok fs 0 ls at t) → r ≡ text_checked (numbers_ok L t at ns m)
    unfolding numbers_ok
    same_sum n g = g ∙ rw (e, eq-eqb (sum_of lens) m s, el, ef)
