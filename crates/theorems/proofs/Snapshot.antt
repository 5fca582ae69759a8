-- The snapshot's round trips: a column that can be written holds a good book, and a good book's text is read as that book;
-- a text that is read is the text of a good book, and the column that holds it can be written. Assumes nothing.
use Prim.Native.Nat.{ℕ, ◌≤◌}
use mathlib.Core.Path.{◌≡◌, refl, sym, ap, ap₂, ◌∙◌, subst}
use mathlib.Core.Bool.{not}
use mathlib.Core.Option.{Option, none, some}
use mathlib.Core.List.{List, [], ◌∷◌, ◌++◌, map}
use native.Mathlib.Omega.{arith}
use lib.Dec.{T, eqb, eqb→eq, leb→le, le→leb}
use lib.ListN.{length, take, drop, length-append, length-map, length-drop, take-append-drop}
use lib.Seq.{take_at, length-take-le}
use Rattle.model.specs.declared.Delivery.{Delivery}
use Rattle.model.specs.Bounds.{most_number, most_day}
use Rattle.model.specs.Lists.{sum_of, every, is_some}
use Rattle.model.specs.Checks.{first_failed}
use Rattle.model.specs.Deliveries.{grower_of, weight_of, yield_of, day_of, Slices, slices_for, each_slice, joined, in_range, day_ok, no_day}
use Rattle.model.specs.Blocks.{block_length_ok, slices_ok}
use Rattle.model.specs.Directory.{Directory, directory_size, partition_count, directory_of, directory_numbers, directory_block_ok}
use Rattle.model.specs.Column.{Column, slots, lengths_of, fences_of, sound_growers, all_records, sound}
use Rattle.model.specs.Snapshot.{Book, book_text, book_in, snapshot_text, read_book, is_book, slots_for_book}
use Rattle.model.specs.Questions.{read_checks}
use Rattle.model.specs.SnapshotCalls.{WriteResult, slices_read, write_call, read_call, column_read}
use Rattle.model.proofs.Tests.{and_fst, and_snd, and_mk, eq→eqb, is_true, yes_first, first_passed, or_snd, nothing_failed}
use Rattle.model.proofs.ListLaws.{every_front, every_back}
use Rattle.model.proofs.Deliveries.{slices_front, rows-joined}
use Rattle.model.proofs.Parts.{flatten-parts}
use Rattle.model.proofs.DirectoryLaws.{Fits, Shaped, shaped, shaped_passes, numbers_shaped, directory_again, length_lengths, length_fences}
use Rattle.model.proofs.LineLaws.{Fit, fits_field}
use Rattle.model.proofs.BookLaws.{Good, IsBookText, room_for, text_read, read_text}
use Rattle.model.proofs.ColumnBooks.{sound_used, numbers_again}
use Rattle.model.proofs.SetLaws.{Sliced, sliced, slices_pass}
use Rattle.model.proofs.WriteLaws.{Writable, writable, writes, write_accepted, write_is}
use Rattle.theorems.specs.Snapshot.{Numbers32, written, read_into, WrittenIsRead, ReadIsWritten}
use Rattle.theorems.proofs.ValidColumn.{both_pass, Valid, even_slices, in_range_lem, length_records}

-- day 0 is a day
undated_days : (l : List Delivery) → T (every no_day l) → T (every day_ok l)
unfolding every
undated_days [] t = tt
undated_days (d ∷ l) t =
    let e : d.day ≡ 0 = eqb→eq d.day 0 (and_fst (no_day d) (every no_day l) t) in
    and_mk (day_ok d) (every day_ok l) (le→leb d.day most_day (omega arith)) (undated_days l (and_snd (no_day d) (every no_day l) t))

module _ (L : ℕ) where
  valid_of : {c : Column} {room : ℕ} → Writable L c room → Valid L c
  valid_of w = record {
    block_ok = w.block;
    slices_ok_lem = w.slices;
    shape = shaped L _ _ w.shape;
    sound = w.is_sound;
    values = both_pass (all_records L _) w.values (undated_days (all_records L _) w.no_days);
  }

  -- The book of a column that can be written is good.

  block_there : (n : ℕ) (ns : List ℕ) → Shaped L n ns → T (directory_block_ok L ns) → T (block_length_ok (directory_of L ns).block)
  unfolding directory_block_ok directory_of
  block_there n ns s t = rw (is_true (eqb (length ns) (directory_size L)) (eq→eqb _ _ s.size)) at t

  module _ (c : Column) (v : Valid L c) where
    abbrev m : ℕ
    m = sum_of (lengths_of L c)

    -- the numbers of the records are those of the used slots
    slices_used : slices_for (all_records L c) ≡ each_slice (take m) c.slices
    slices_used = ap slices_for (flatten-parts (lengths_of L c) (slots c)) ∙ slices_front m c.slices (even_slices L c v)

    growers_used : map grower_of (all_records L c) ≡ take m c.slices.growers
    growers_used = ap (λ (s : Slices). s.growers) slices_used

    sound_there : T (sound_growers (lengths_of L c) (fences_of L c) (map grower_of (all_records L c)))
    unfolding sound
    sound_there =
        let ns : List ℕ = lengths_of L c in
        let fs : List ℕ = fences_of L c in
        let gs : List ℕ = c.slices.growers in
        let k : sum_of ns ≤ length (take m gs) = omega (arith, length-take-le m gs v.shape.room) in
        let e : sound_growers ns fs gs ≡ sound_growers ns fs (map grower_of (all_records L c))
        = ap (sound_growers ns fs) (sym (take-append-drop m gs)) ∙ sound_used ns fs (take m gs) (drop m gs) k ∙ ap (sound_growers ns fs) (sym growers_used) in
        subst T e v.sound

    fences_small : Numbers32 c.directory → Fit (fences_of L c)
    unfolding directory_of
    fences_small f =
        let ns : List ℕ = c.directory in
        every_front fits_field (partition_count L ns) (drop L (drop 2 ns)) (every_back fits_field L (drop 2 ns) (every_back fits_field 2 ns f))

    good_in : L ≤ most_number → Numbers32 c.directory → Numbers32 c.slices.growers → T (every no_day (all_records L c)) → Good L (book_in L c)
    good_in l f g n0 =
        let n = length_lengths L (length c.slices.growers) c.directory v.shape in
        let s = sliced c.slices v.slices_ok_lem in
        record {
          block = block_there (length c.slices.growers) c.directory v.shape v.block_ok;
          even = length_fences L (length c.slices.growers) c.directory v.shape ∙ sym n;
          some_parts = omega (arith, n, v.shape.some);
          few = omega (arith, n, v.shape.few);
          count_fits = omega (arith, n, v.shape.few);
          total = sym (length_records L c v);
          slots = omega (arith, length_records L c v, v.shape.room, s.most);
          rises = v.shape.rises;
          values = in_range_lem L c v;
          no_days = n0;
          sound = sound_there;
          fences_fit = fences_small f;
          growers_fit = subst Fit (sym growers_used) (every_front fits_field m c.slices.growers g);
        }

    -- the column of its own book, in other slices
    column_is : (s : Slices) → column_read L (some (book_in L c)) s ≡ read_into L c s
    unfolding column_read
    column_is s =
        ap₂ (λ (d : List ℕ) (r : Slices). record { directory = d; slices = r }) (numbers_again L (length c.slices.growers) c.directory v.shape)
        (ap₂ (λ (r : Slices) (k : ℕ). joined r (each_slice (drop k) s)) slices_used (length_records L c v))

  -- Reading a text that is a book's.

  read_is : (b : Book) (s : Slices) → Good L b → T (slices_ok s) → length b.deliveries ≤ length s.growers
      → read_call L (book_text b) s ≡ record { refusal = 0; column = column_read L (some b) s }
  unfolding read_call read_checks is_book
  read_is b s g k h =
      let r : read_book L (book_text b) ≡ some b = text_read L b g in
      let z : first_failed (read_checks L (book_text b) s) ≡ 0
      = first_passed 3 _ _ k
      ∙ first_passed 12 _ _ (subst T (sym (room_for L b g (length s.growers))) (le→leb (length b.deliveries) (length s.growers) h))
      ∙ first_passed 14 (is_book L (book_text b)) [] (subst (λ (o : Option Book). T (is_some o)) (sym r) tt)
      ∙ nothing_failed in
      rw (z, r)

  -- Written, and read.

  written_read : L ≤ most_number → (c : Column) (out : List ℕ) → Numbers32 c.directory → Numbers32 c.slices.growers → (write_call L c out).answer.refusal ≡ 0
      → (s : Slices) → T (slices_ok s) → sum_of (lengths_of L c) ≤ length s.growers
      → read_call L (written L c out) s ≡ record { refusal = 0; column = read_into L c s }
  written_read most c out nd ng ok s k h =
      let z = write_accepted L c out ok in
      let w : Writable L c (length out) = writable L c (length out) z in
      let v : Valid L c = valid_of w in
      let t : List ℕ = snapshot_text L c in
      let bytes : written L c out ≡ t = ap (λ (r : WriteResult). take r.answer.bytes r.text) (write_is L c out z) ∙ take_at t (drop (length t) out) (length t) refl in
      ap (λ (u : List ℕ). read_call L u s) bytes
      ∙ read_is (book_in L c) s (good_in c v most nd ng w.no_days) k (omega (arith, length_records L c v))
      ∙ ap (λ (x : Column). record { refusal = 0; column = x }) (column_is c v s)

  -- Read, and written.

  abbrev book_column : Book → Slices → Column
  book_column b s = record { directory = directory_numbers L b.directory; slices = slices_read b.deliveries s }

  -- a column that holds a good book can be written, as the book's text
  module _ (b : Book) (s : Slices) (g : Good L b) (sl : Sliced s) (enough : length b.deliveries ≤ length s.growers) where
    abbrev col : Column
    col = book_column b s

    abbrev ns : List ℕ
    ns = b.directory.lengths

    abbrev fs : List ℕ
    fs = b.directory.fences

    abbrev ds : List Delivery
    ds = b.deliveries

    abbrev n : ℕ
    n = length ds

    directory_fits : Fits L b.directory
    directory_fits = record { even = g.even; few = g.few }

    there : directory_of L col.directory ≡ b.directory
    there = directory_again L b.directory directory_fits

    length_read : (f : Delivery → ℕ) (old : List ℕ) → n ≤ length old → length (map f ds ++ drop n old) ≡ length old
    length_read f old h = omega (arith, length-append (map f ds) (drop n old), length-map ds f, length-drop n old)

    slices_in : Sliced col.slices
    slices_in =
        let x = length_read grower_of s.growers enough in
        let y = length_read weight_of s.weights (omega (arith, sl.even.weights)) in
        let z = length_read yield_of s.yields (omega (arith, sl.even.yields)) in
        let d = length_read day_of s.days (omega (arith, sl.even.days)) in
        record {
          even = record { weights = y ∙ sl.even.weights ∙ sym x; yields = z ∙ sl.even.yields ∙ sym x; days = d ∙ sl.even.days ∙ sym x };
          one = omega (arith, x, sl.one);
          most = omega (arith, x, sl.most);
        }

    shape_in : Shaped L (length col.slices.growers) col.directory
    shape_in = numbers_shaped L (length col.slices.growers) b.directory directory_fits g.some_parts g.rises (omega (arith, g.total, length_read grower_of s.growers enough))

    records_in : all_records L col ≡ ds
    records_in =
        flatten-parts (lengths_of L col) (slots col)
        ∙ ap (λ (d : Directory). take (sum_of d.lengths) (slots col)) there
        ∙ ap (take (sum_of ns)) (rows-joined ds (each_slice (drop n) s))
        ∙ take_at ds _ (sum_of ns) (sym g.total)

    text_again : snapshot_text L col ≡ book_text b
    text_again = ap₂ (λ (d : Directory) (l : List Delivery). book_text (record { directory = d; deliveries = l })) there records_in

    block_in : T (directory_block_ok L col.directory)
    unfolding directory_block_ok directory_numbers
    block_in = or_snd (not (eqb (length col.directory) (directory_size L))) (block_length_ok b.directory.block) g.block

    sound_in : T (sound L col)
    unfolding sound
    sound_in =
        let e : sound_growers (lengths_of L col) (fences_of L col) col.slices.growers ≡ sound_growers ns
        fs (map grower_of ds)
        = ap (λ (d : Directory). sound_growers d.lengths d.fences col.slices.growers) there
        ∙ sound_used ns fs (map grower_of ds) _ (omega (arith, g.total, length-map ds grower_of)) in
        subst T (sym e) g.sound

    writable_in : (room : ℕ) → length (book_text b) ≤ room → Writable L col room
    writable_in room h = record {
      block = block_in;
      slices = slices_pass _ slices_in;
      shape = shaped_passes L _ _ shape_in;
      is_sound = sound_in;
      values = subst (λ (l : List Delivery). T (every in_range l)) (sym records_in) g.values;
      no_days = subst (λ (l : List Delivery). T (every no_day l)) (sym records_in) g.no_days;
      fits = le→leb _ room (subst (λ (l : List ℕ). length l ≤ room) (sym text_again) h);
    }

    written_again : (out : List ℕ) → length (book_text b) ≤ length out
        → write_call L col out ≡ record { answer = record { refusal = 0; bytes = length (book_text b) }; text = book_text b ++ drop (length (book_text b)) out }
    written_again out h =
        write_is L col out (writes L col (length out) (writable_in (length out) h))
        ∙ ap (λ (t : List ℕ). record { answer = record { refusal = 0; bytes = length t }; text = t ++ drop (length t) out }) text_again

  -- what an accepted reading found
  record WasRead (text : List ℕ) (s : Slices) : Type 0 where
    pub book : Book
    pub is_text : IsBookText L text book
    pub slices : Sliced s
    pub enough : length book.deliveries ≤ length s.growers
    pub column : (read_call L text s).column ≡ book_column book s

  was_read : (text : List ℕ) (s : Slices) → (read_call L text s).refusal ≡ 0 → WasRead text s
  unfolding read_call read_checks is_book column_read
  was_read text s ok =
      let a = yes_first 2 (slices_ok s) _ ok in
      let b = yes_first 11 (slots_for_book L text (length s.growers)) _ a.1 in
      let d = yes_first 13 (is_book L text) _ b.1 in
      go (read_book L text) refl d.0 a.0 b.0
    where
      go : (o : Option Book) → read_book L text ≡ o → T (is_some o) → T (slices_ok s) → T (slots_for_book L text (length s.growers)) → WasRead text s
      go none e t k r = absurd t
      go (some b) e t k r =
          let i = read_text L text b e in
          record {
            book = b;
            is_text = i;
            slices = sliced s k;
            enough =
                let c : ℕ = length s.growers in
                leb→le (length b.deliveries) c (subst T (room_for L b i.good c) (subst (λ (u : List ℕ). T (slots_for_book L u c)) (sym i.text) r));
            column = rw (ok, e);
          }

  -- the column of an accepted reading is valid, and has no more records than there are slots
  pub read_valid : (text : List ℕ) (s : Slices) → (read_call L text s).refusal ≡ 0
      → Valid L (read_call L text s).column × (sum_of (lengths_of L (read_call L text s).column) ≤ length s.growers)
  read_valid text s ok =
      let w = was_read text s ok in
      let b : Book = w.book in
      let g = w.is_text.good in
      let v : Valid L (book_column b s) = valid_of (writable_in b s g w.slices w.enough (length (book_text b)) (omega arith)) in
      let n : sum_of (lengths_of L (book_column b s)) ≤ length s.growers
      = omega (arith, ap (λ (d : Directory). sum_of d.lengths) (there b s g w.slices w.enough), g.total, w.enough) in
      subst (λ (c : Column). Valid L c × (sum_of (lengths_of L c) ≤ length s.growers)) (sym w.column) (v, n)

  read_written : (text : List ℕ) (s : Slices) (out : List ℕ) → (read_call L text s).refusal ≡ 0 → length text ≤ length out
      → write_call L (read_call L text s).column out ≡ record { answer = record { refusal = 0; bytes = length text }; text = text ++ drop (length text) out }
  read_written text s out ok h =
      let w = was_read text s ok in
      let i = w.is_text in
      ap (λ (x : Column). write_call L x out) w.column
      ∙ written_again w.book s i.good w.slices w.enough out (subst (λ (t : List ℕ). length t ≤ length out) (sym i.text) h)
      ∙ ap (λ (t : List ℕ). record { answer = record { refusal = 0; bytes = length t }; text = t ++ drop (length t) out }) i.text

pub written_is_read : WrittenIsRead
written_is_read L most c out nd ng ok s k h = written_read L most c out nd ng ok s k h

pub read_is_written : ReadIsWritten
read_is_written L text s out ok h = read_written L text s out ok h
