-- A text read as a book, in one form: the book whose numbers stand in it, if its lines, its length and its numbers are right.
-- Assumes nothing.
use Prim.Native.Nat.{ℕ, zero, suc, ◌+◌, ◌*◌, ◌≤◌, ◌<◌}
use mathlib.Core.Path.{◌≡◌, refl, sym, ap, ap₂, ◌∙◌}
use mathlib.Core.Bool.{Bool, true, false, ◌&&◌, and-false, and_comm}
use mathlib.Core.Option.{Option}
use mathlib.Core.List.{List, [], ◌∷◌, ◌++◌, map}
use native.Mathlib.Omega.{arith}
use borrow.Author.Tests.{le-leb}
use lib.Dec.{T, leb, eqb, leb→le, eqb→eq}
use lib.ListN.{length, take, drop}
use lib.Seq.{take_at, drop_at}
use Rattle.model.specs.declared.Delivery.{Delivery}
use Rattle.model.specs.Bounds.{most_number}
use Rattle.model.specs.Lists.{sum_of, every, rising, only_if, and_then}
use Rattle.model.specs.Deliveries.{grower_of, in_range}
use Rattle.model.specs.Partitions.{parts, every_at}
use Rattle.model.specs.Directory.{Directory, directory_numbers}
use Rattle.model.specs.Column.{in_place, sound_growers}
use Rattle.model.specs.Fields.{Taken, taken, take_line, take_lines, nth}
use Rattle.model.specs.Snapshot.{Header, Book, header_ok, header_of, take_header, delivery_of, book_ok, book_of, read_book, slots_for_book}
use Rattle.model.proofs.Tests.{and_fst, and_snd, of_true, pairs_swap}
use Rattle.model.proofs.ListLaws.{map-take, map-drop, every_cut}
use Rattle.model.proofs.DirectoryLaws.{Fits, count_numbers, length_numbers, directory_again}
use Rattle.model.proofs.BookLaws.{HeaderGood, header_good, growers_again}
use Rattle.model.proofs.LineLaws.{Fit, fit_first}
use Rattle.lines.specs.Lines.{column_at, line_ok, lines_ok, rows_at}
use Rattle.lines.proofs.Storing.{length_column}
use Rattle.lines.proofs.Forms.{chain, line_at, lines_at, column_of_lem, lines_cut, rows_cut, length-rows-at, line_long, lines_long, nothing_left, column_fits}
use Rattle.snapshot.specs.Texts.{header_at, head_ok, directory_at, low_of, high_of, row_ok, delivery_ok, deliveries_ok, parts_ok}
use Rattle.directory.specs.Numbers.{Numbered}
use Rattle.snapshot.specs.Answers.{right_parts, numbers_ok}
use Rattle.snapshot.proofs.FenceLaws.{place_bounds}

module _ (t : List ℕ) where
  -- n delivery lines of one partition: the lines are good, and so is each one's numbers
  deliveries_are : (lo hi n at : ℕ) → deliveries_ok lo hi n at t ≡ lines_ok 3 n at t && every (row_ok lo hi) (rows_at 3 n at t)
  unfolding deliveries_ok delivery_ok lines_ok rows_at every
  deliveries_are lo hi zero at = refl
  deliveries_are lo hi (suc n) at =
      ap (λ (b : Bool). line_ok 3 at t && row_ok lo hi (column_at 11 at 3 t) && b) (deliveries_are lo hi n (at + 34))
      ∙ pairs_swap (line_ok 3 at t) (row_ok lo hi (column_at 11 at 3 t)) (lines_ok 3 n (at + 34) t) (every (row_ok lo hi) (rows_at 3 n (at + 34) t))

  abbrev fenced : List ℕ → ℕ → List ℕ → List (List ℕ) → Bool
  fenced fences p ns rs = every_at (λ (q : ℕ) (l : List ℕ). row_ok (low_of fences q) (high_of fences q) l) p (parts ns rs)

  -- of all partitions
  parts_are : (fences : List ℕ) (p : ℕ) (ns : List ℕ) (at : ℕ) → parts_ok fences p ns at t ≡ lines_ok 3 (sum_of ns) at t && fenced fences p ns (rows_at 3 (sum_of ns) at t)
  unfolding parts_ok sum_of parts every_at lines_ok
  parts_are fences p [] at = refl
  parts_are fences p (n ∷ ns) at =
      let m : ℕ = sum_of ns in
      let a : List (List ℕ) = rows_at 3 n at t in
      let b : List (List ℕ) = rows_at 3 m (at + 34 * n) t in
      let k : length a ≡ n = length-rows-at t 3 n at in
      ap₂ (λ (x y : Bool). x && y) (deliveries_are (low_of fences p) (high_of fences p) n at) (parts_are fences (p + 1) ns (at + 34 * n))
      ∙ pairs_swap (lines_ok 3 n at t) (every (row_ok (low_of fences p) (high_of fences p)) a) (lines_ok 3 m (at + 34 * n) t) (fenced fences (p + 1) ns b)
      ∙ ap₂ (λ (x : Bool) (y : Bool). x && y) (sym (lines_cut t 3 n m at)) (sym (split a b k ∙ refl))
      ∙ ap (λ (rs : List (List ℕ)). lines_ok 3 (n + m) at t && fenced fences p (n ∷ ns) rs) (sym (rows_cut t 3 n m at))
    where
      split : (a b : List (List ℕ)) → length a ≡ n → fenced fences p (n ∷ ns) (a ++ b) ≡ every (row_ok (low_of fences p) (high_of fences p)) a && fenced fences (p + 1) ns b
      split a b k = rw (take_at a b n k, drop_at a b n k)

  -- Rows tested by the fences are in range and in their places.

  module _ (fences : List ℕ) (r : T (rising fences)) where
    one_part : (p n at : ℕ) → p < length fences → (rs : List (List ℕ)) → rs ≡ rows_at 3 n at t
        → every (row_ok (low_of fences p) (high_of fences p)) rs ≡ every in_range (map delivery_of rs) && every (in_place fences p) (map (nth 0) rs)
    unfolding every rows_at
    one_part p zero at h rs e = rw e
    one_part p (suc n) at h rs e =
        let l : List ℕ = column_at 11 at 3 t in
        let q : List (List ℕ) = rows_at 3 n (at + 34) t in
        rw e
        (ap (λ (b : Bool). b && in_range (delivery_of l) && every (row_ok (low_of fences p) (high_of fences p)) q) (sym (place_bounds fences r p h (nth 0 l) (first_most at)))
        ∙ ap₂ (λ (a b : Bool). a && b) (and_comm (in_place fences p (nth 0 l)) (in_range (delivery_of l))) (one_part p n (at + 34) h q refl)
        ∙ pairs_swap (in_range (delivery_of l)) (in_place fences p (nth 0 l)) (every in_range (map delivery_of q)) (every (in_place fences p) (map (nth 0) q)))
      where
        first_most : (at : ℕ) → nth 0 (column_at 11 at 3 t) ≤ most_number
        first_most at = go (column_at 11 at 3 t) (column_fits t 11 3 at)
          where
            go : (l : List ℕ) → Fit l → nth 0 l ≤ most_number
            go [] f = omega arith
            go (x ∷ l) f = fit_first x l f

    all_parts : (p : ℕ) (ns : List ℕ) (at : ℕ) → p + length ns ≤ length fences
        → fenced fences p ns (rows_at 3 (sum_of ns) at t) ≡ every in_range (map delivery_of (rows_at 3 (sum_of ns) at t))
        && every_at (in_place fences) p (parts ns (map (nth 0) (rows_at 3 (sum_of ns) at t)))
    unfolding every_at parts sum_of every rows_at
    all_parts p [] at h = refl
    all_parts p (n ∷ ns) at h =
        let m : ℕ = sum_of ns in
        let a : List (List ℕ) = rows_at 3 n at t in
        let b : List (List ℕ) = rows_at 3 m (at + 34 * n) t in
        let k : length a ≡ n = length-rows-at t 3 n at in
        go (rows_at 3 (n + m) at t) a b (rows_cut t 3 n m at) k (one_part p n at (omega arith) a refl) (all_parts (p + 1) ns (at + 34 * n) (omega arith))
      where
        go : (rs a b : List (List ℕ)) → rs ≡ a ++ b → length a ≡ n
            → every (row_ok (low_of fences p) (high_of fences p)) a ≡ every in_range (map delivery_of a) && every (in_place fences p) (map (nth 0) a)
            → fenced fences (p + 1) ns b ≡ every in_range (map delivery_of b) && every_at (in_place fences) (p + 1) (parts ns (map (nth 0) b))
            → every (row_ok (low_of fences p) (high_of fences p)) (take n rs) && fenced fences (p + 1) ns (drop n rs)
            ≡ every in_range (map delivery_of rs) && (every (in_place fences p) (take n (map (nth 0) rs)) && every_at (in_place fences) (p + 1) (parts ns (drop n (map (nth 0) rs))))
        go rs a b e k x y =
            let ta : take n rs ≡ a = ap (take n) e ∙ take_at a b n k in
            let tb : drop n rs ≡ b = ap (drop n) e ∙ drop_at a b n k in
            ap₂ (λ (u v : List (List ℕ)). every (row_ok (low_of fences p) (high_of fences p)) u && fenced fences (p + 1) ns v) ta tb
            ∙ ap₂ (λ (u v : Bool). u && v) x y
            ∙ pairs_swap (every in_range (map delivery_of a)) (every (in_place fences p) (map (nth 0) a)) (every in_range (map delivery_of b))
            (every_at (in_place fences) (p + 1) (parts ns (map (nth 0) b)))
            ∙ ap₂
            (λ (u v : List (List ℕ)). every in_range (map delivery_of u) && every in_range (map delivery_of v) &&
            (every (in_place fences p) (map (nth 0) u) && every_at (in_place fences) (p + 1) (parts ns (map (nth 0) v))))
            (sym ta) (sym tb)
            ∙ ap₂
            (λ (u v : List Delivery). every in_range u && every in_range v &&
            (every (in_place fences p) (map (nth 0) (take n rs)) && every_at (in_place fences) (p + 1) (parts ns (map (nth 0) (drop n rs)))))
            (map-take delivery_of n rs) (map-drop delivery_of n rs)
            ∙ ap₂ (λ (u : Bool) (v : Bool). u && v) (sym (every_cut in_range n (map delivery_of rs)))
            (ap₂ (λ (u v : List ℕ). every (in_place fences p) u && every_at (in_place fences) (p + 1) (parts ns v)) (map-take (nth 0) n rs) (map-drop (nth 0) n rs))

  -- The book in a text.

  abbrev h : Header
  h = header_at t

  abbrev k : ℕ
  k = h.count

  abbrev m : ℕ
  m = h.used

  abbrev pub start : ℕ
  start = 34 + 23 * k

  abbrev ls : List ℕ
  ls = column_at 23 34 k t

  abbrev fs : List ℕ
  fs = column_at 23 45 k t

  abbrev pub book_at : Book
  book_at = record { directory = directory_at h.block k t; deliveries = map delivery_of (rows_at 3 m start t) }

  abbrev rows_part : List (List ℕ) → List ℕ → Option Book
  rows_part ps u = and_then (take_lines m 3 u) (λ (ds : Taken (List (List ℕ))). only_if (eqb (length ds.rest) 0 && book_ok h (book_of h ps ds.value)) (book_of h ps ds.value))

  abbrev pub lines_right : Bool
  lines_right = lines_ok 2 k 34 t && (lines_ok 3 m start t && (leb (length t) (start + 34 * m) && book_ok h book_at))

  book_there : book_of h (rows_at 2 k 34 t) (rows_at 3 m start t) ≡ book_at
  book_there =
      ap₂ (λ (a b : List ℕ). record { directory = record { block = h.block; lengths = a; fences = b }; deliveries = map delivery_of (rows_at 3 m start t) })
      (column_of_lem t 2 0 (omega arith) k 34) (column_of_lem t 2 1 (omega arith) k 34)

  rows_form : rows_part (rows_at 2 k 34 t) (drop start t) ≡ only_if (lines_ok 3 m start t && (leb (length t) (start + 34 * m) && book_ok h book_at)) book_at
  rows_form =
      chain (take_lines m 3 (drop start t)) (lines_ok 3 m start t) (taken (rows_at 3 m start t) (drop (start + 34 * m) t))
      (λ (ds : Taken (List (List ℕ))). only_if (eqb (length ds.rest) 0 && book_ok h (book_of h (rows_at 2 k 34 t) ds.value)) (book_of h (rows_at 2 k 34 t) ds.value))
      (leb (length t) (start + 34 * m) && book_ok h book_at) book_at (lines_at t m 3 start)
      (rw (nothing_left t (start + 34 * m), book_there))

  -- the parts that the code tests are those of the book
  parts_right : rising fs ≡ true → sum_of ls ≡ m → parts_ok fs 0 ls start t ≡ lines_ok 3 m start t && (every in_range book_at.deliveries && sound_growers ls fs (map grower_of book_at.deliveries))
  unfolding sound_growers
  parts_right r s =
      let e : length fs ≡ length ls = length_column 23 45 k t ∙ sym (length_column 23 34 k t) in
      parts_are fs 0 ls start
      ∙ ap (λ (b : Bool). lines_ok 3 (sum_of ls) start t && b) (all_parts fs (of_true _ r) 0 ls start (omega arith))
      ∙ ap (λ (n : ℕ). lines_ok 3 n start t && (every in_range (map delivery_of (rows_at 3 n start t)) && every_at (in_place fs) 0 (parts ls (map (nth 0) (rows_at 3 n start t))))) s
      ∙ ap (λ (l : List ℕ). lines_ok 3 m start t && (every in_range book_at.deliveries && every_at (in_place fs) 0 (parts ls l))) (sym (growers_again (rows_at 3 m start t)))

  pub numbers_right : length t ≡ start + 34 * m → lines_ok 3 m start t && (leb (length t) (start + 34 * m) && book_ok h book_at) ≡ right_parts t start book_at.directory m
  unfolding book_ok
  numbers_right size = rw (le-leb (length t) (start + 34 * m) (omega arith)) (go (rising fs) (eqb (sum_of ls) m) refl refl)
    where
      v : Bool
      v = every in_range book_at.deliveries

      g : Bool
      g = sound_growers ls fs (map grower_of book_at.deliveries)

      go : (a b : Bool) → rising fs ≡ a → eqb (sum_of ls) m ≡ b → lines_ok 3 m start t && (b && a && v && g) ≡ a && (b && parts_ok fs 0 ls start t)
      go false b p q = rw (and-false b) (and-false (lines_ok 3 m start t))
      go true false p q = and-false (lines_ok 3 m start t)
      go true true p q = sym (parts_right p (eqb→eq (sum_of ls) m (of_true _ q)))

-- L is the block limit
module _ (L : ℕ) (t : List ℕ) where
  pub header_form : take_header L t ≡ only_if (head_ok L t) (taken (h t) (drop 34 t))
  unfolding take_header head_ok
  header_form =
      chain (take_line 3 t) (line_ok 3 0 t) (taken (column_at 11 0 3 t) (drop 34 t))
      (λ (r : Taken (List ℕ)). only_if (header_ok L (header_of r.value)) (taken (header_of r.value) r.rest)) (header_ok L (h t)) (taken (h t) (drop 34 t)) (line_at t 3 0) refl

  pub book_form : read_book L t ≡ only_if (head_ok L t && lines_right t) (book_at t)
  unfolding read_book
  book_form =
      chain (take_header L t) (head_ok L t) (taken (h t) (drop 34 t)) (λ (x : Taken Header). and_then (take_lines x.value.count 2 x.rest) (λ (ps : Taken (List (List ℕ))).
      and_then (take_lines x.value.used 3 ps.rest)
      (λ (ds : Taken (List (List ℕ))). only_if (eqb (length ds.rest) 0 && book_ok x.value (book_of x.value ps.value ds.value))
      (book_of x.value ps.value ds.value))))
      (lines_right t) (book_at t) header_form
      (chain (take_lines (k t) 2 (drop 34 t)) (lines_ok 2 (k t) 34 t) (taken (rows_at 2 (k t) 34 t) (drop (start t) t)) (λ (ps : Taken (List (List ℕ))). rows_part t ps.value ps.rest)
      (lines_ok 3 (m t) (start t) t && (leb (length t) (start t + 34 * m t) && book_ok (h t) (book_at t))) (book_at t) (lines_at t (k t) 2 34) (rows_form t))

  pub slots_form : (n : ℕ) → head_ok L t ≡ true → slots_for_book L t n ≡ leb (m t) n
  unfolding slots_for_book
  slots_form n e = rw (header_form, e)

  pub head_good : head_ok L t ≡ true → HeaderGood L (h t)
  unfolding head_ok
  head_good e = header_good L (h t) (and_snd (line_ok 3 0 t) (header_ok L (h t)) (of_true _ e))

  -- a text of another length is no book
  pub wrong_size : head_ok L t ≡ true → (length t ≡ start t + 34 * m t → ⊥) → lines_right t ≡ false
  unfolding head_ok
  wrong_size e other = go (lines_ok 2 (k t) 34 t) (lines_ok 3 (m t) (start t) t) (leb (length t) (start t + 34 * m t)) refl refl refl
    where
      first : 34 ≤ length t
      first = line_long t 3 0 (and_fst (line_ok 3 0 t) (header_ok L (h t)) (of_true _ e))

      go : (a b c : Bool) → lines_ok 2 (k t) 34 t ≡ a → lines_ok 3 (m t) (start t) t ≡ b → leb (length t) (start t + 34 * m t) ≡ c → a && (b && (c && book_ok (h t) (book_at t))) ≡ false
      go false b c p q r = refl
      go true false c p q r = refl
      go true true false p q r = refl
      go true true true p q r =
          let x = lines_long t 2 (k t) 34 first (of_true _ p) in
          let y = lines_long t 3 (m t) (start t) x (of_true _ q) in
          absurd (other (omega (arith, leb→le (length t) (start t + 34 * m t) (of_true _ r))))

-- The numbers of a directory.

module _ (L : ℕ) (t : List ℕ) (b k : ℕ) (few : k ≤ L) where
  in_parts : Fits L (directory_at b k t)
  in_parts = record { even = length_column 23 45 k t ∙ sym (length_column 23 34 k t); few = omega (arith, length_column 23 34 k t) }

  pub numbers_there : Numbered L (directory_numbers L (directory_at b k t))
  numbers_there = record { size = length_numbers L (directory_at b k t) in_parts; few = omega (arith, count_numbers L (directory_at b k t), length_column 23 34 k t) }

  pub numbers_are : (start m : ℕ) → numbers_ok L t start (directory_numbers L (directory_at b k t)) m ≡ right_parts t start (directory_at b k t) m
  unfolding numbers_ok
  numbers_are start m = ap (λ (d : Directory). right_parts t start d m) (directory_again L (directory_at b k t) in_parts)
