-- A book's text is read as that book, and a text that is read is the text of its book. Assumes nothing.
use Prim.Native.Nat.{ℕ, zero, suc, ◌≤◌}
use mathlib.Core.Path.{◌≡◌, refl, sym, ap, ap₂, ◌∙◌, subst}
use mathlib.Core.Bool.{◌&&◌}
use mathlib.Core.Option.{some}
use mathlib.Core.List.{List, [], ◌∷◌, ◌++◌, append_assoc, append-nil, map}
use native.Mathlib.Omega.{arith}
use lib.Dec.{T, leb, eqb, leb→le, le→leb, eqb→eq}
use lib.ListN.{length, length-map}
use Rattle.model.specs.declared.Delivery.{Delivery}
use Rattle.model.specs.Bounds.{most_number, most_slots, most_block_length, most_weight, most_yield}
use Rattle.model.specs.Lists.{sum_of, every, rising, only_if, and_then}
use Rattle.model.specs.Deliveries.{delivery, grower_of, in_range, no_day}
use Rattle.model.specs.Blocks.{block_length_ok}
use Rattle.model.specs.Column.{sound_growers}
use Rattle.model.specs.Fields.{line, lines, Taken, taken, take_line, take_lines, nth}
use Rattle.model.specs.Snapshot.{Header, Book, partition_rows, delivery_row, delivery_of, book_text, header_ok, header_of, take_header, book_ok, book_of, read_book, slots_for_book}
use Rattle.model.proofs.Tests.{and_fst, and_snd, and_mk, is_true, eq→eqb}
use Rattle.model.proofs.LineLaws.{through, only, Fit, fit_cons, fit_none, fit_first, fit_rest, take-line, TookLine, line_taken, Rows, no_rows, row, take-lines, TookLines, lines-taken}

fit_three : (a b c : ℕ) → a ≤ most_number → b ≤ most_number → c ≤ most_number → Fit (a ∷ b ∷ c ∷ [])
fit_three a b c x y z = fit_cons a (b ∷ c ∷ []) x (fit_cons b (c ∷ []) y (fit_cons c [] z fit_none))

-- a book whose values are right
pub record Good (L : ℕ) (b : Book) : Type 0 where
  pub block : T (block_length_ok b.directory.block)
  pub even : length b.directory.fences ≡ length b.directory.lengths
  pub some_parts : 1 ≤ length b.directory.lengths
  pub few : length b.directory.lengths ≤ L
  pub count_fits : length b.directory.lengths ≤ most_number
  pub total : sum_of b.directory.lengths ≡ length b.deliveries
  pub slots : length b.deliveries ≤ most_slots
  pub rises : T (rising b.directory.fences)
  pub values : T (every in_range b.deliveries)
  pub no_days : T (every no_day b.deliveries)
  pub sound : T (sound_growers b.directory.lengths b.directory.fences (map grower_of b.deliveries))
  pub fences_fit : Fit b.directory.fences
  pub growers_fit : Fit (map grower_of b.deliveries)

-- The partition lines.

pairs_count : (ns fs : List ℕ) → length fs ≡ length ns → length (partition_rows ns fs) ≡ length ns
unfolding partition_rows
pairs_count [] fs e = refl
pairs_count (n ∷ ns) [] e = absurd (omega arith)
pairs_count (n ∷ ns) (f ∷ fs) e = ap suc (pairs_count ns fs (omega arith))

pairs_lengths : (ns fs : List ℕ) → length fs ≡ length ns → map (nth 0) (partition_rows ns fs) ≡ ns
unfolding partition_rows
pairs_lengths [] fs e = refl
pairs_lengths (n ∷ ns) [] e = absurd (omega arith)
pairs_lengths (n ∷ ns) (f ∷ fs) e = ap (λ (l : List ℕ). n ∷ l) (pairs_lengths ns fs (omega arith))

pairs_fences : (ns fs : List ℕ) → length fs ≡ length ns → map (nth 1) (partition_rows ns fs) ≡ fs
unfolding partition_rows
pairs_fences [] [] e = refl
pairs_fences [] (f ∷ fs) e = absurd (omega arith)
pairs_fences (n ∷ ns) [] e = absurd (omega arith)
pairs_fences (n ∷ ns) (f ∷ fs) e = ap (λ (l : List ℕ). f ∷ l) (pairs_fences ns fs (omega arith))

pairs_rows : (ns fs : List ℕ) → sum_of ns ≤ most_slots → Fit fs → Rows 2 (partition_rows ns fs)
unfolding partition_rows sum_of
pairs_rows [] fs h f = no_rows
pairs_rows (n ∷ ns) [] h f = no_rows
pairs_rows (n ∷ ns) (x ∷ fs) h f =
    row (record { count = refl; fit = fit_cons n (x ∷ []) (omega arith) (fit_cons x [] (fit_first x fs f) fit_none) }) (pairs_rows ns fs (omega arith) (fit_rest x fs f))

-- lines of two numbers are partition lines
row_two : (ns : List ℕ) → length ns ≡ 2 → nth 0 ns ∷ nth 1 ns ∷ [] ≡ ns
row_two [] e = absurd (omega arith)
row_two (a ∷ []) e = absurd (omega arith)
row_two (a ∷ b ∷ []) e = refl
row_two (a ∷ b ∷ c ∷ l) e = absurd (omega arith)

pairs_again : (rs : List (List ℕ)) → Rows 2 rs → partition_rows (map (nth 0) rs) (map (nth 1) rs) ≡ rs
unfolding partition_rows
pairs_again [] no_rows = refl
pairs_again (ns ∷ rs) (row r o) = ap₂ (λ (a : List ℕ) (b : List (List ℕ)). a ∷ b) (row_two ns r.count) (pairs_again rs o)

fit_nth : (n j : ℕ) (rs : List (List ℕ)) → Rows n rs → Fit (map (nth j) rs)
fit_nth n j [] no_rows = fit_none
fit_nth n j (ns ∷ rs) (row r o) = fit_cons (nth j ns) (map (nth j) rs) (go ns j r.fit) (fit_nth n j rs o)
  where
    go : (l : List ℕ) (i : ℕ) → Fit l → nth i l ≤ most_number
    go [] i f = omega arith
    go (x ∷ l) zero f = fit_first x l f
    go (x ∷ l) (suc i) f = go l i (fit_rest x l f)

-- The delivery lines.

threes_deliveries : (ds : List Delivery) → T (every no_day ds) → map delivery_of (map delivery_row ds) ≡ ds
unfolding every
threes_deliveries [] t = refl
threes_deliveries (d ∷ ds) t =
    ap₂ (λ (n : ℕ) (l : List Delivery). delivery d.grower d.weight d.oil_yield n ∷ l)
    (sym (eqb→eq d.day 0 (and_fst (no_day d) (every no_day ds) t))) (threes_deliveries ds (and_snd (no_day d) (every no_day ds) t))

-- the deliveries of lines are on day 0
pub lines-undated : (rs : List (List ℕ)) → T (every no_day (map delivery_of rs))
unfolding every
lines-undated [] = tt
lines-undated (l ∷ rs) = lines-undated rs

threes_rows : (ds : List Delivery) → T (every in_range ds) → Fit (map grower_of ds) → Rows 3 (map delivery_row ds)
unfolding every
threes_rows [] v f = no_rows
threes_rows (d ∷ ds) v f =
    let i : T (in_range d) = and_fst (in_range d) (every in_range ds) v in
    let w : d.weight ≤ most_weight = leb→le _ _ (and_fst (leb d.weight most_weight) (leb d.oil_yield most_yield) i) in
    let y : d.oil_yield ≤ most_yield = leb→le _ _ (and_snd (leb d.weight most_weight) (leb d.oil_yield most_yield) i) in
    row (record { count = refl; fit = fit_three d.grower d.weight d.oil_yield (fit_first d.grower (map grower_of ds) f) (omega arith) (omega arith) })
    (threes_rows ds (and_snd (in_range d) (every in_range ds) v) (fit_rest d.grower (map grower_of ds) f))

row_three : (ns : List ℕ) → length ns ≡ 3 → nth 0 ns ∷ nth 1 ns ∷ nth 2 ns ∷ [] ≡ ns
row_three [] e = absurd (omega arith)
row_three (a ∷ []) e = absurd (omega arith)
row_three (a ∷ b ∷ []) e = absurd (omega arith)
row_three (a ∷ b ∷ c ∷ []) e = refl
row_three (a ∷ b ∷ c ∷ d ∷ l) e = absurd (omega arith)

threes_again : (rs : List (List ℕ)) → Rows 3 rs → map delivery_row (map delivery_of rs) ≡ rs
threes_again [] no_rows = refl
threes_again (ns ∷ rs) (row r o) = ap₂ (λ (a : List ℕ) (b : List (List ℕ)). a ∷ b) (row_three ns r.count) (threes_again rs o)

-- number i of each delivery line, as the deliveries' own
pub numbers_read : (f : Delivery → ℕ) (i : ℕ) → ((l : List ℕ) → f (delivery_of l) ≡ nth i l) → (rs : List (List ℕ)) → map f (map delivery_of rs) ≡ map (nth i) rs
numbers_read f i h [] = refl
numbers_read f i h (l ∷ rs) = ap₂ (λ (a : ℕ) (b : List ℕ). a ∷ b) (h l) (numbers_read f i h rs)

pub growers_again : (rs : List (List ℕ)) → map grower_of (map delivery_of rs) ≡ map (nth 0) rs
growers_again = numbers_read grower_of 0 (λ l. refl)

-- The header.

header_passes : (L b m k : ℕ) → T (block_length_ok b) → m ≤ most_slots → 1 ≤ k → k ≤ L → T (header_ok L (record { block = b; used = m; count = k }))
unfolding header_ok
header_passes L b m k t h o f =
    and_mk (block_length_ok b && leb m most_slots && leb 1 k) (leb k L)
    (and_mk (block_length_ok b && leb m most_slots) (leb 1 k)
    (and_mk (block_length_ok b) (leb m most_slots) t (le→leb m most_slots h))
    (le→leb 1 k o))
    (le→leb k L f)

pub record HeaderGood (L : ℕ) (h : Header) : Type 0 where
  pub block : T (block_length_ok h.block)
  pub used : h.used ≤ most_slots
  pub one : 1 ≤ h.count
  pub few : h.count ≤ L

pub header_good : (L : ℕ) (h : Header) → T (header_ok L h) → HeaderGood L h
unfolding header_ok
header_good L h t =
    let a = block_length_ok h.block in
    let b = leb h.used most_slots in
    let c = leb 1 h.count in
    let d = leb h.count L in
    let t2 = and_fst (a && b && c) d t in
    let t1 = and_fst (a && b) c t2 in
    record {
      block = and_fst a b t1;
      used = leb→le _ _ (and_snd a b t1);
      one = leb→le _ _ (and_snd (a && b) c t2);
      few = leb→le _ _ (and_snd (a && b && c) d t);
    }

block_small : (b : ℕ) → T (block_length_ok b) → b ≤ most_block_length
unfolding block_length_ok
block_small b t = leb→le _ _ (and_snd (leb 1 b) (leb b most_block_length) t)

take_header_lem : (L b m k : ℕ) (t : List ℕ) → T (block_length_ok b) → m ≤ most_slots → 1 ≤ k → k ≤ L → k ≤ most_number
    → take_header L (line (b ∷ m ∷ k ∷ []) ++ t) ≡ some (taken (record { block = b; used = m; count = k }) t)
unfolding take_header
take_header_lem L b m k t o h p f l =
    let q = block_small b o in
    rw (
      take-line (b ∷ m ∷ k ∷ []) t (fit_three b m k (omega arith) (omega arith) (omega arith)),
      is_true (header_ok L (record { block = b; used = m; count = k })) (header_passes L b m k o h p f),
    )

-- A book's text is read as that book.

book_passes : (L : ℕ) (b : Book) (h : Header) → Good L b → sum_of b.directory.lengths ≡ h.used → T (book_ok h b)
unfolding book_ok
book_passes L b h g e =
    let s = eqb (sum_of b.directory.lengths) h.used in
    let r = rising b.directory.fences in
    let v = every in_range b.deliveries in
    let o = sound_growers b.directory.lengths b.directory.fences (map grower_of b.deliveries) in
    and_mk (s && r && v) o (and_mk (s && r) v (and_mk s r (eq→eqb _ _ e) g.rises) g.values) g.sound

module _ (L : ℕ) (b : Book) (g : Good L b) where
  abbrev pub ns : List ℕ
  ns = b.directory.lengths

  abbrev pub fs : List ℕ
  fs = b.directory.fences

  pub ps : List (List ℕ)
  ps = partition_rows ns fs

  pub ds : List (List ℕ)
  ds = map delivery_row b.deliveries

  pub head : Header
  head = record { block = b.directory.block; used = sum_of ns; count = length ns }

  text_is : book_text b ≡ line (b.directory.block ∷ sum_of ns ∷ length ns ∷ []) ++ (lines ps ++ (lines ds ++ []))
  unfolding book_text ps ds
  text_is =
      let h : List ℕ = line (b.directory.block ∷ sum_of ns ∷ length ns ∷ []) in
      append_assoc h (lines ps) (lines ds) ∙ ap (λ (q : List ℕ). h ++ (lines ps ++ q)) (sym (append-nil (lines ds)))

  parts_read : take_lines (length ns) 2 (lines ps ++ (lines ds ++ [])) ≡ some (taken ps (lines ds ++ []))
  unfolding ps
  parts_read =
      ap (λ (n : ℕ). take_lines n 2 (lines ps ++ (lines ds ++ []))) (sym (pairs_count ns fs g.even))
      ∙ take-lines 2 ps (lines ds ++ []) (pairs_rows ns fs (omega (arith, g.total, g.slots)) g.fences_fit)

  deliveries_read : take_lines (sum_of ns) 3 (lines ds ++ []) ≡ some (taken ds [])
  unfolding ds
  deliveries_read =
      ap (λ (n : ℕ). take_lines n 3 (lines ds ++ [])) (g.total ∙ sym (length-map b.deliveries delivery_row))
      ∙ take-lines 3 ds [] (threes_rows b.deliveries g.values g.growers_fit)

  book_again : book_of head ps ds ≡ b
  unfolding head ps ds
  book_again =
      ap (λ (l : List ℕ). record { directory = record { block = b.directory.block; lengths = l; fences = map (nth 1) ps }; deliveries = map delivery_of ds })
      (pairs_lengths ns fs g.even)
      ∙ ap (λ (l : List ℕ). record { directory = record { block = b.directory.block; lengths = ns; fences = l }; deliveries = map delivery_of ds })
      (pairs_fences ns fs g.even)
      ∙ ap (λ (l : List Delivery). record { directory = b.directory; deliveries = l }) (threes_deliveries b.deliveries g.no_days)

  header_read : take_header L (book_text b) ≡ some (taken head (lines ps ++ (lines ds ++ [])))
  unfolding head
  header_read =
      rw text_is
      (take_header_lem L b.directory.block (sum_of ns) (length ns) (lines ps ++ (lines ds ++ [])) g.block
      (omega (arith, g.total, g.slots)) g.some_parts g.few g.count_fits)

  -- the slots that the text asks for
  pub room_for : (n : ℕ) → slots_for_book L (book_text b) n ≡ leb (length b.deliveries) n
  unfolding slots_for_book head
  room_for n = rw (header_read, g.total)

  pub text_read : read_book L (book_text b) ≡ some b
  unfolding read_book head
  text_read =
      rw (header_read, parts_read, deliveries_read, book_again, is_true (book_ok head b) (book_passes L b head g refl))

-- A text that is read is the text of its book.

record BookGood (h : Header) (b : Book) : Type 0 where
  pub total : sum_of b.directory.lengths ≡ h.used
  pub rises : T (rising b.directory.fences)
  pub values : T (every in_range b.deliveries)
  pub sound : T (sound_growers b.directory.lengths b.directory.fences (map grower_of b.deliveries))

book_good : (h : Header) (b : Book) → T (book_ok h b) → BookGood h b
unfolding book_ok
book_good h b o =
    let s = eqb (sum_of b.directory.lengths) h.used in
    let r = rising b.directory.fences in
    let v = every in_range b.deliveries in
    let g = sound_growers b.directory.lengths b.directory.fences (map grower_of b.deliveries) in
    let o2 = and_fst (s && r && v) g o in
    let o1 = and_fst (s && r) v o2 in
    record { total = eqb→eq _ _ (and_fst s r o1); rises = and_snd s r o1; values = and_snd (s && r) v o2; sound = and_snd (s && r && v) g o }

pub record IsBookText (L : ℕ) (t : List ℕ) (b : Book) : Type 0 where
  pub text : book_text b ≡ t
  pub good : Good L b

-- the book of a header and lines that were taken one after the other
module _ (L : ℕ) where
  no_rest : (l : List ℕ) → T (eqb (length l) 0) → l ≡ []
  no_rest [] e = refl
  no_rest (x ∷ l) e = absurd (omega (arith, eqb→eq (length (x ∷ l)) 0 e))

  module _ (t hs t1 : List ℕ) (h : Header) (t2 : List ℕ) (ps : List (List ℕ)) (t3 : List ℕ) (ds : List (List ℕ)) (t4 : List ℕ)
      (is-head : header_of hs ≡ h) (is-rest : t1 ≡ t2) (head_ok : T (header_ok L (header_of hs)))
      (first : TookLine 3 t (taken hs t1)) (parts : TookLines h.count 2 t2 (taken ps t3)) (rest : TookLines h.used 3 t3 (taken ds t4))
      (ok : T (eqb (length t4) 0 && book_ok h (book_of h ps ds))) where
    numbers : BookGood h (book_of h ps ds)
    numbers = book_good h (book_of h ps ds) (and_snd (eqb (length t4) 0) (book_ok h (book_of h ps ds)) ok)

    text_of : book_text (book_of h ps ds) ≡ t
    unfolding book_text
    text_of =
        let z : t4 ≡ [] = no_rest t4 (and_fst (eqb (length t4) 0) (book_ok h (book_of h ps ds)) ok) in
        let x : h.block ∷ sum_of (map (nth 0) ps) ∷ length (map (nth 0) ps) ∷ [] ≡ hs
        = ap₂ (λ (m k : ℕ). h.block ∷ m ∷ k ∷ []) numbers.total (length-map ps (nth 0) ∙ parts.count) ∙ ap (λ (y : Header). y.block ∷ y.used ∷ y.count ∷ []) (sym is-head)
        ∙ row_three hs first.count in
        let ls : List (List ℕ) = partition_rows (map (nth 0) ps) (map (nth 1) ps) in
        let rs : List (List ℕ) = map delivery_row (map delivery_of ds) in
        let y : lines ls ≡ lines ps = ap lines (pairs_again ps parts.rows) in
        let w : lines rs ≡ lines ds = ap lines (threes_again ds rest.rows) in
        let v : lines ds ≡ t3 = sym (append-nil (lines ds)) ∙ ap (λ (l : List ℕ). lines ds ++ l) (sym z) ∙ rest.text in
        append_assoc (line (h.block ∷ sum_of (map (nth 0) ps) ∷ length (map (nth 0) ps) ∷ [])) (lines ls) (lines rs)
        ∙ ap (λ (l : List ℕ). line l ++ (lines ls ++ lines rs)) x
        ∙ ap₂ (λ (p q : List ℕ). line hs ++ (p ++ q)) y (w ∙ v)
        ∙ ap (λ (l : List ℕ). line hs ++ l) (parts.text ∙ sym is-rest)
        ∙ first.text

    good_of : Good L (book_of h ps ds)
    good_of =
        let hg = header_good L h (subst (λ (x : Header). T (header_ok L x)) is-head head_ok) in
        let n : length (map (nth 0) ps) ≡ h.count = length-map ps (nth 0) ∙ parts.count in
        let m : length (map delivery_of ds) ≡ h.used = length-map ds delivery_of ∙ rest.count in
        record {
          block = hg.block;
          even = length-map ps (nth 1) ∙ sym (length-map ps (nth 0));
          some_parts = omega (arith, n, hg.one);
          few = omega (arith, n, hg.few);
          count_fits =
              let f = fit_nth 3 2 (hs ∷ []) (row (record { count = first.count; fit = first.fit }) no_rows) in
              omega (arith, n, fit_first (nth 2 hs) [] f, ap (λ (x : Header). x.count) is-head);
          total = numbers.total ∙ sym m;
          slots = omega (arith, m, hg.used);
          rises = numbers.rises;
          values = numbers.values;
          no_days = lines-undated ds;
          sound = numbers.sound;
          fences_fit = fit_nth 2 1 ps parts.rows;
          growers_fit = subst Fit (sym (growers_again ds)) (fit_nth 3 0 ds rest.rows);
        }

    book_of_lem : IsBookText L t (book_of h ps ds)
    book_of_lem = record { text = text_of; good = good_of }

  pub read_text : (t : List ℕ) (b : Book) → read_book L t ≡ some b → IsBookText L t b
  unfolding read_book take_header
  read_text t b e =
      let p = through (take_header L t)
      (λ (h : Taken Header). and_then (take_lines h.value.count 2 h.rest)
      (λ ps. and_then (take_lines h.value.used 3 ps.rest)
      (λ ds. only_if (eqb (length ds.rest) 0 && book_ok h.value (book_of h.value ps.value ds.value)) (book_of h.value ps.value ds.value)))) b e in
      let h : Header = p.value.value in
      let q = through (take_lines h.count 2 p.value.rest)
      (λ (ps : Taken (List (List ℕ))). and_then (take_lines h.used 3 ps.rest)
      (λ ds. only_if (eqb (length ds.rest) 0 && book_ok h (book_of h ps.value ds.value)) (book_of h ps.value ds.value))) b
      p.next in
      let ps : List (List ℕ) = q.value.value in
      let r = through (take_lines h.used 3 q.value.rest)
      (λ (ds : Taken (List (List ℕ))). only_if (eqb (length ds.rest) 0 && book_ok h (book_of h ps ds.value)) (book_of h ps ds.value)) b q.next in
      let ds : List (List ℕ) = r.value.value in
      let o = only (eqb (length r.value.rest) 0 && book_ok h (book_of h ps ds)) (book_of h ps ds) b r.next in
      let u = through (take_line 3 t) (λ (r : Taken (List ℕ)). only_if (header_ok L (header_of r.value)) (taken (header_of r.value) r.rest)) p.value p.first in
      let v = only (header_ok L (header_of u.value.value)) (taken (header_of u.value.value) u.value.rest) p.value u.next in
      subst (IsBookText L t) o.1 (book_of_lem t u.value.value u.value.rest h p.value.rest ps q.value.rest ds r.value.rest
      (ap (λ (x : Taken Header). x.value) v.1) (ap (λ (x : Taken Header). x.rest) v.1) v.0
      (line_taken 3 t u.value u.first) (lines-taken h.count 2 p.value.rest q.value q.first) (lines-taken h.used 3 q.value.rest r.value r.first) o.0)
