-- What writing checks, and what it answers. Assumes nothing.
use Prim.Native.Nat.{ℕ, ◌+◌, ◌-◌, ◌*◌, ◌≤◌, ◌<◌}
use mathlib.Core.Path.{◌≡◌, refl, sym, ap, ap₂, ◌∙◌}
use mathlib.Core.Bool.{Bool, true, false}
use mathlib.Core.List.{List, [], ◌∷◌, ◌++◌, map}
use native.Mathlib.Omega.{arith}
use borrow.Author.Tests.{ne_eqb, le-leb, lt-leb}
use lib.Dec.{T, leb, leb→le}
use lib.ListN.{length, take, drop, length-append}
use lib.Seq.{length-take-le}
use Rattle.model.specs.declared.Delivery.{Delivery}
use Rattle.std.specs.Prelude.{Ok, Err}
use Rattle.model.specs.declared.refusal.Refusal.{Refusal}
use Rattle.model.specs.Refusals.{refusal_number}
use Rattle.model.specs.Answers.{written_of}
use Rattle.model.specs.Lent.{slices_part}
use Rattle.model.proofs.Refusals.{refusal_some}
use Rattle.model.specs.Lists.{sum_of, every, rising}
use Rattle.model.specs.Checks.{ask, first_failed}
use Rattle.model.specs.Deliveries.{Slices, rows, Even, each_slice, in_range, day_ok, no_day}
use Rattle.model.specs.Blocks.{slices_ok}
use Rattle.model.specs.Directory.{partition_count, directory_of, directory_block_ok, directory_ok}
use Rattle.model.specs.Column.{Column, slots, lengths_of, fences_of, all_records, sound}
use Rattle.model.specs.Fields.{line, lines}
use Rattle.model.specs.Snapshot.{partition_rows, delivery_row, book_text, snapshot_text}
use Rattle.model.specs.Questions.{lent_checks, write_checks}
use Rattle.model.specs.SnapshotCalls.{WriteResult, write_call}
use Rattle.model.proofs.Tests.{is_true, yes_first}
use Rattle.model.proofs.Deliveries.{rows-part}
use Rattle.model.proofs.Parts.{flatten-parts}
use Rattle.model.proofs.WriteLaws.{writable, write_is}
use Rattle.model.proofs.LineLaws.{length-line}
use Rattle.checks.specs.Values.{all_values_ok, all_days_ok, all_undated}
use Rattle.checks.proofs.Answers.{failed_first, numbered, passed_first, passed_both, every-rows, every_day_rows, every-undated-rows}
use Rattle.directory.proofs.LentColumns.{LentColumn, lent_column, count_lengths, count_fences}
use Rattle.fields.specs.Writing.{placed}
use Rattle.fields.proofs.Placing.{placed_first, placed-joined}
use Rattle.snapshot.specs.Answers.{used_slices, sound_checks}
use Rattle.snapshot.proofs.Putting.{rows_of, length_partitions, length-rows-of}

-- L is the block limit
module _ (L : ℕ) (c : Column) where
  abbrev count : ℕ
  count = partition_count L c.directory

  abbrev used : ℕ
  used = sum_of (lengths_of L c)

  -- the used slots of each slice
  abbrev part : Slices
  part = used_slices L c

  -- the text's lines
  abbrev head_line : List ℕ
  head_line = line ((directory_of L c.directory).block ∷ used ∷ count ∷ [])

  abbrev part_lines : List ℕ
  part_lines = lines (partition_rows (lengths_of L c) (fences_of L c))

  abbrev row_lines : List ℕ
  row_lines = lines (rows_of part)

  pub records_are : all_records L c ≡ rows part
  records_are = flatten-parts (lengths_of L c) (slots c) ∙ sym (rows-part used 0 c.slices)

  head_size : length head_line ≡ 34
  head_size = length-line ((directory_of L c.directory).block ∷ used ∷ count ∷ [])

  module _ (l : LentColumn L c) where
    part_length : (s : List ℕ) → length s ≡ length c.slices.growers → length (take used s) ≡ used
    part_length s e = length-take-le used s (omega (arith, l.shape.room))

    pub parts_even : Even part
    parts_even =
        let s = c.slices in
        let g = sym (part_length s.growers refl) in
        record {
          weights = part_length s.weights l.even.weights ∙ g;
          yields = part_length s.yields l.even.yields ∙ g;
          days = part_length s.days l.even.days ∙ g;
        }

    pub values_there : (m : ℕ) (r : Bool) → m ≡ used → r ≡ all_values_ok (take m c.slices.weights) (take m c.slices.yields) → every in_range (all_records L c) ≡ r
    values_there m r u e =
        sym
        (e
        ∙ ap (λ (n : ℕ). all_values_ok (take n c.slices.weights) (take n c.slices.yields)) u
        ∙ every-rows part parts_even
        ∙ ap (every in_range) (sym records_are))

    -- the same of the records of the used slots
    pub values_of : (b : Bool) (s : Slices) → s ≡ part → b ≡ all_values_ok s.weights s.yields → every in_range (all_records L c) ≡ b
    values_of b s e q = values_there used b refl (q ∙ ap (λ (r : Slices). all_values_ok r.weights r.yields) e)

    -- check 19 of writing, and of a sheet
    pub undated_there : (m : ℕ) (r : Bool) → m ≡ used → r ≡ all_undated (take m c.slices.days) → every no_day (all_records L c) ≡ r
    undated_there m r u e =
        sym (e ∙ ap (λ (n : ℕ). all_undated (take n c.slices.days)) u ∙ every-undated-rows part parts_even ∙ ap (every no_day) (sym records_are))

    pub undated_of : (b : Bool) (s : Slices) → s ≡ part → b ≡ all_undated s.days → every no_day (all_records L c) ≡ b
    undated_of b s e q = undated_there used b refl (q ∙ ap (λ (r : Slices). all_undated r.days) e)

    pub days_there : (m : ℕ) (r : Bool) → m ≡ used → r ≡ all_days_ok (take m c.slices.days) → every day_ok (all_records L c) ≡ r
    days_there m r u e =
        sym (e ∙ ap (λ (n : ℕ). all_days_ok (take n c.slices.days)) u ∙ every_day_rows part parts_even ∙ ap (every day_ok) (sym records_are))

    text_is : snapshot_text L c ≡ head_line ++ part_lines ++ row_lines
    unfolding book_text
    text_is =
        ap₂ (λ (k : ℕ) (ds : List Delivery). line ((directory_of L c.directory).block ∷ used ∷ k ∷ []) ++ part_lines ++ lines (map delivery_row ds)) (count_lengths L c l) records_are

    parts_size : length part_lines ≡ 23 * count
    parts_size = length_partitions (lengths_of L c) (fences_of L c) (count_fences L c l ∙ sym (count_lengths L c l)) ∙ ap (λ (n : ℕ). 23 * n) (count_lengths L c l)

    rows_size : length row_lines ≡ 34 * used
    rows_size = length-rows-of part parts_even ∙ ap (λ (n : ℕ). 34 * n) (part_length c.slices.growers refl)

    text_size : length (snapshot_text L c) ≡ 34 + 23 * count + 34 * used
    text_size = ap length text_is ∙ omega (arith, length-append (head_line ++ part_lines) row_lines, length-append head_line part_lines, head_size, parts_size, rows_size)

-- records of the used slots are as many
pub records_many : (L : ℕ) (c : Column) → LentColumn L c → (r : Slices) → r ≡ used_slices L c → length r.growers ≡ used L c
records_many L c l r e = ap (λ (s : Slices). length s.growers) e ∙ part_length L c l c.slices.growers refl

-- the used slots as the records cut them
pub part_is : (L : ℕ) (c : Column) (m : ℕ) (s r : Slices) → m ≡ used L c → s ≡ c.slices → r ≡ slices_part 0 m s → r ≡ used_slices L c
part_is L c m s r u e q = let z : m - 0 ≡ used L c = omega (arith, u) in q ∙ ap₂ (λ (k : ℕ) (x : Slices). each_slice (take k) x) z e

-- The parts lent of its directory.

pub record PartsLent (L : ℕ) (c : Column) (ls fs : List ℕ) : Type 0 where
  pub even : length fs ≡ length ls
  pub many : length ls ≡ count L c
  pub rises : T (rising fs)
  pub room : sum_of ls ≤ length c.slices.growers

pub parts_lent : (L : ℕ) (c : Column) → LentColumn L c → {ls fs : List ℕ} → ls ≡ lengths_of L c → fs ≡ fences_of L c → PartsLent L c ls fs
parts_lent L c l el ef =
    let n = count_lengths L c l in
    record { even = rw (el, ef) (count_fences L c l ∙ sym n); many = rw el n; rises = rw ef l.shape.rises; room = rw el l.shape.room }

-- The checks of a column that is to be written.

module _ (L : ℕ) (c : Column) where
  pub lent_refused : (n : ℕ) → n ≡ first_failed (lent_checks L c) → (n ≡ 0 → ⊥) → n ≡ first_failed (sound_checks L c)
  lent_refused n e z = e ∙ failed_first (lent_checks L c) _ (λ y. z (e ∙ y))

  module _ (p : first_failed (lent_checks L c) ≡ 0) where
    lent_passed : (directory_block_ok L c.directory ≡ true) × (slices_ok c.slices ≡ true) × (directory_ok L (length c.slices.growers) c.directory ≡ true)
    lent_passed =
        let a = yes_first 1 (directory_block_ok L c.directory) _ p in
        let b = yes_first 2 (slices_ok c.slices) _ a.1 in
        let d = yes_first 5 (directory_ok L (length c.slices.growers) c.directory) _ b.1 in
        (is_true _ a.0, is_true _ b.0, is_true _ d.0)

    pub checks_are : first_failed (sound_checks L c) ≡ first_failed (ask 6 (sound L c) ∷ ask 8 (every in_range (all_records L c)) ∷ [])
    unfolding first_failed
    checks_are = let l = lent_passed in rw (l.0, l.1, l.2)

    pub shape_refused : sound L c ≡ false → 6 ≡ first_failed (sound_checks L c)
    unfolding first_failed
    shape_refused e = sym (checks_are ∙ rw e)

    pub values_refused : sound L c ≡ true → every in_range (all_records L c) ≡ false → 8 ≡ first_failed (sound_checks L c)
    unfolding first_failed
    values_refused e v = sym (checks_are ∙ rw (e, v))

    pub all_passed : sound L c ≡ true → every in_range (all_records L c) ≡ true → 0 ≡ first_failed (sound_checks L c)
    unfolding first_failed
    all_passed e v = sym (checks_are ∙ rw (e, v))

-- Writing, past these.

module _ (L : ℕ) (c : Column) (room : ℕ) where
  pub column_refused : (n : ℕ) → n ≡ first_failed (sound_checks L c) → (n ≡ 0 → ⊥) → n ≡ first_failed (write_checks L c room)
  unfolding write_checks
  column_refused n e z = e ∙ failed_first (sound_checks L c) _ (λ y. z (e ∙ y))

  module _ (p : first_failed (sound_checks L c) ≡ 0) where
    pub lent_there : LentColumn L c
    unfolding numbered
    lent_there = lent_column L c (passed_both (lent_checks L c) (ask 6 (sound L c) ∷ ask 8 (every in_range (all_records L c)) ∷ []) tt p).0

    asked : first_failed (write_checks L c room) ≡ first_failed (ask 19 (every no_day (all_records L c)) ∷ ask 15 (leb (length (snapshot_text L c)) room) ∷ [])
    unfolding write_checks numbered
    asked = passed_first (sound_checks L c) (ask 19 (every no_day (all_records L c)) ∷ ask 15 (leb (length (snapshot_text L c)) room) ∷ []) tt p

    pub days_refused : every no_day (all_records L c) ≡ false → 19 ≡ first_failed (write_checks L c room)
    unfolding first_failed
    days_refused d = sym (asked ∙ rw d)

    pub room_refused : every no_day (all_records L c) ≡ true → room < 34 + 23 * count L c + 34 * used L c → 15 ≡ first_failed (write_checks L c room)
    unfolding first_failed
    room_refused d h = sym (asked ∙ rw (d, lt-leb (length (snapshot_text L c)) room (omega (arith, text_size L c lent_there, h))))

    pub write_passed : every no_day (all_records L c) ≡ true → 34 + 23 * count L c + 34 * used L c ≤ room → 0 ≡ first_failed (write_checks L c room)
    unfolding first_failed
    write_passed d h = sym (asked ∙ rw (d, le-leb (length (snapshot_text L c)) room (omega (arith, text_size L c lent_there, h))))

-- The answer.

module _ (L : ℕ) (c : Column) (out : List ℕ) where
  pub write_refused : (x : Refusal) → refusal_number x ≡ first_failed (write_checks L c (length out)) → ◌≡◌ {A = WriteResult} (record { answer = written_of (Err x); text = out }) (write_call L c out)
  unfolding write_call
  write_refused x e = sym (rw (sym e, ne_eqb (refusal_number x) 0 (refusal_some x)))

  pub record CanWrite : Type 0 where
    pub passed : first_failed (write_checks L c (length out)) ≡ 0
    pub lent : LentColumn L c
    pub room : 34 + 23 * count L c + 34 * used L c ≤ length out

  pub can_write : first_failed (write_checks L c (length out)) ≡ 0 → CanWrite
  unfolding first_failed
  can_write p =
      let w = writable L c (length out) p in
      let q : first_failed (lent_checks L c) ≡ 0
      = rw (
        is_true (directory_block_ok L c.directory) w.block,
        is_true (slices_ok c.slices) w.slices,
        is_true (directory_ok L (length c.slices.growers) c.directory) w.shape,
      ) in
      let l = lent_column L c q in
      record {
        passed = p;
        lent = l;
        room = omega (arith, leb→le (length (snapshot_text L c)) (length out) w.fits, text_size L c l);
      }

  -- the parts lent, and the text after each group of lines
  module _ (w : CanWrite) (b m k bytes : ℕ) (r : Slices) (ls fs t₁ t₂ t₃ : List ℕ) where
    pub write_done : b ≡ (directory_of L c.directory).block → m ≡ used L c → k ≡ count L c → bytes ≡ 34 + 23 * k + 34 * m → r ≡ used_slices L c → ls ≡ lengths_of L c → fs ≡ fences_of L c
        → t₁ ≡ placed 0 (line (b ∷ m ∷ k ∷ [])) out
        → t₂ ≡ placed 34 (lines (partition_rows ls fs)) t₁
        → t₃ ≡ placed (34 + 23 * k) (lines (rows_of r)) t₂
        → ◌≡◌ {A = WriteResult} (record { answer = written_of (Ok bytes); text = t₃ }) (write_call L c out)
    write_done eb em ek en er el ef e₁ e₂ e₃ =
        let l = w.lent in
        let h : List ℕ = head_line L c in
        let p : List ℕ = part_lines L c in
        let d : List ℕ = row_lines L c in
        let hs = head_size L c in
        let ps = parts_size L c l in
        let rs = rows_size L c l in
        let f₁ : t₁ ≡ placed 0 h out = e₁ ∙ rw (eb, ek, em) in
        let f₂ : t₂ ≡ placed 0 (h ++ p) out
        = e₂ ∙ ap₂ (λ (u v : List ℕ). placed 34 (lines (partition_rows u v)) t₁) el ef ∙ ap (placed 34 p) f₁ ∙ placed-joined 0 34 h p out (omega arith) (omega (arith, w.room)) in
        let f₃ : t₃ ≡ placed 0 (h ++ p ++ d) out
        = e₃ ∙ ap (λ (u : Slices). placed (34 + 23 * k) (lines (rows_of u)) t₂) er ∙ ap (placed (34 + 23 * k) d) f₂
        ∙ placed-joined 0 (34 + 23 * k) (h ++ p) d out (omega (arith, length-append h p)) (omega (arith, length-append h p, w.room)) in
        let s : t₃ ≡ snapshot_text L c ++ drop (length (snapshot_text L c)) out
        = f₃ ∙ ap (λ (u : List ℕ). placed 0 u out) (sym (text_is L c l)) ∙ placed_first (snapshot_text L c) out in
        let z : bytes ≡ length (snapshot_text L c) = omega (arith, text_size L c l) in
        ap₂ (λ (u : ℕ) (v : List ℕ). record { answer = record { refusal = 0; bytes = u }; text = v }) z s ∙ sym (write_is L c out w.passed)
