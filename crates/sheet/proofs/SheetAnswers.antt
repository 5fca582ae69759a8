-- What checking a column for a sheet and writing the sheet answer. Assumes nothing.
use Prim.Native.Nat.{ℕ, ◌+◌, ◌*◌, ◌≤◌, ◌<◌}
use mathlib.Core.Path.{◌≡◌, refl, sym, ap, ◌∙◌, subst}
use mathlib.Core.Bool.{Bool, true, false, cond, ◌&&◌, and-false}
use mathlib.Core.List.{List, [], ◌∷◌, ◌++◌}
use Rattle.std.specs.Prelude.{Option, Some}
use native.Mathlib.Omega.{arith}
use borrow.Author.Tests.{ne_eqb, le-leb, lt-leb}
use lib.Dec.{T, leb, leb→le}
use lib.ListN.{length, get_or, take, drop, replicate, length-append, length-map}
use lib.Seq.{length-take-le, take_at}
use Rattle.model.specs.declared.Delivery.{Delivery}
use Rattle.model.specs.declared.lent.DaySpan.{DaySpan}
use Rattle.model.specs.declared.refusal.Refusal.{Refusal}
use Rattle.model.specs.Lists.{sum_of, every, keep}
use Rattle.model.specs.Checks.{Check, ask, first_failed}
use Rattle.model.specs.Calendar.{Span, is_in}
use Rattle.model.specs.Deliveries.{Slices, each_slice, in_range, day_ok, on_days}
use Rattle.model.specs.Column.{Column, lengths_of, all_records, sound}
use Rattle.model.specs.Questions.{lent_checks}
use Rattle.model.specs.Sheet.{each_once, sheet_of, by_grower}
use Rattle.model.specs.SheetCalls.{SheetResult}
use Rattle.model.specs.Refusals.{refusal_number}
use Rattle.model.specs.Lent.{span_given}
use Rattle.model.proofs.Refusals.{refusal_some}
use Rattle.model.proofs.Tests.{and_fst, and_snd, yes_first}
use Rattle.model.proofs.Deliveries.{values_rows}
use Rattle.model.proofs.SheetLaws.{once_fewer}
use Rattle.checks.proofs.Answers.{failed_first, numbered, passed_first, passed_both}
use Rattle.slices.specs.Slices.{all_within, Measured}
use Rattle.directory.proofs.LentColumns.{LentColumn, lent_column}
use Rattle.fields.specs.Writing.{placed}
use Rattle.fields.proofs.Placing.{placed_first}
use Rattle.snapshot.specs.Answers.{sound_checks}
use Rattle.snapshot.proofs.WriteAnswers.{records_are}
use Rattle.slot_order.specs.Passes.{slots_in, growers_at}
use Rattle.slot_order.specs.Spans.{slots_on}
use Rattle.slot_order.proofs.Groups.{by_grower_length, by_grower_in, by_grower_falls_not, by_grower_growers}
use Rattle.slot_order.proofs.Picking.{picked_few, picked_in}
use Rattle.sheet_lines.specs.Runs.{records_at, InOrder}
use Rattle.sheet_lines.proofs.SheetText.{length_sheet, same_sheet}
use Rattle.sheet.specs.Answers.{span_of, is_given, span_slots, span_text, span_refusal, span_call}
use Rattle.sheet.proofs.PartOrder.{long_growers, part_even, part-slots, part_sorted, part_records}

-- the bytes of the sheet of slots
abbrev pub bytes_of : List ℕ → List ℕ → ℕ
bytes_of gs is = 81 * length (each_once (growers_at gs is)) + 61

-- there are no more slots of some days than records, and no more growers than slots
pub slots_few : (x : Slices) (s : Span) → length (slots_on s x) ≤ length x.growers
slots_few x s = picked_few (λ (i : ℕ). is_in s (get_or x.days i 0)) (length x.growers)

pub growers_fewer : (x : Slices) (s : Span) → length (each_once (growers_at x.growers (slots_on s x))) ≤ length (slots_on s x)
growers_fewer x s = omega (arith, once_fewer (growers_at x.growers (slots_on s x)), length-map (slots_on s x) (λ (i : ℕ). get_or x.growers i 0))

-- L is the block limit
module _ (L : ℕ) (c : Column) where
  abbrev used : ℕ
  used = sum_of (lengths_of L c)

  -- the used slots
  abbrev pub part : Slices
  part = each_slice (take used) c.slices

  module _ (l : LentColumn L c) where
    there : used ≤ length c.slices.growers
    there = l.shape.room

    long : length part.growers ≡ used
    long = long_growers c.slices used l.even there

    part_measured : T (every in_range (all_records L c)) → Measured part
    part_measured v =
        let e = part_even c.slices used l.even there in
        let w : T (all_within 100000 part.weights && all_within 10000 part.yields) = subst T (ap (every in_range) (records_are L c) ∙ values_rows part e) v in
        record {
          few = omega (arith, long, there, l.most);
          even = e;
          good_weights = and_fst (all_within 100000 part.weights) (all_within 10000 part.yields) w;
          good_yields = and_snd (all_within 100000 part.weights) (all_within 10000 part.yields) w;
        }

    module _ (s : Span) where
      -- the slots, as the code has them
      part_slots : slots_on s part ≡ span_slots L c s
      part_slots = part-slots c.slices used l.even there s (length part.growers) long

      text_is : span_text L c s ≡ sheet_of (records_at part (span_slots L c s))
      text_is = ap (λ (ds : List Delivery). sheet_of (keep (on_days s) ds)) (records_are L c) ∙ ap sheet_of (sym (part_records c.slices used l.even there s))

      part_size : length (span_text L c s) ≡ bytes_of part.growers (slots_on s part)
      part_size = ap length text_is ∙ length_sheet part (span_slots L c s) ∙ ap (bytes_of part.growers) (sym part_slots)

      module _ {x : Slices} (q : x ≡ part) where
        pub slots_are : slots_on s x ≡ span_slots L c s
        slots_are = ap (slots_on s) q ∙ part_slots

        pub text_size : length (span_text L c s) ≡ bytes_of x.growers (slots_on s x)
        text_size = part_size ∙ sym (ap (λ (y : Slices). bytes_of y.growers (slots_on s y)) q)

-- The checks: 19 and 15 are put where the others passed.

module _ (L : ℕ) (c : Column) (t : Option DaySpan) (room orderRoom workRoom : ℕ) where
  abbrev dated : Bool
  dated = is_given t && every day_ok (all_records L c)

  abbrev many : ℕ
  many = length (span_slots L c (span_of t))

  abbrev fits : Bool
  fits = leb (length (span_text L c (span_of t))) room && (leb many orderRoom && leb many workRoom)

  abbrev last : List Check
  last = ask 19 dated ∷ ask 15 fits ∷ []

  abbrev refusal : ℕ
  refusal = span_refusal L c t room orderRoom workRoom

  pub column_first : (r : Refusal) → refusal_number r ≡ first_failed (sound_checks L c) → refusal_number r ≡ refusal
  column_first r e = e ∙ failed_first (sound_checks L c) last (λ z. refusal_some r (e ∙ z))

  module _ (n : first_failed (sound_checks L c) ≡ 0) where
    refusal_is : (d f : Bool) → dated ≡ d → fits ≡ f → refusal ≡ cond d (cond f 0 15) 19
    unfolding first_failed numbered
    refusal_is d f p q = passed_first (sound_checks L c) last tt n ∙ rw (p, q)

    pub days_refused : dated ≡ false → 19 ≡ refusal
    days_refused d = sym (refusal_is false fits d refl)

    module _ (d : dated ≡ true) where
      room_refused : fits ≡ false → 15 ≡ refusal
      room_refused f = sym (refusal_is true false d f)

      module _ {k : ℕ} (j : k ≡ many) where
        pub order_short : orderRoom < k → 15 ≡ refusal
        order_short h = room_refused (rw (lt-leb many orderRoom (omega arith), and-false))

        pub work_short : k ≤ orderRoom → workRoom < k → 15 ≡ refusal
        work_short h i = room_refused (rw (le-leb many orderRoom (omega arith), lt-leb many workRoom (omega arith), and-false))

        module _ {b : ℕ} (size : length (span_text L c (span_of t)) ≡ b) where
          pub text_short : leb b room ≡ false → 15 ≡ refusal
          text_short f = room_refused (rw (size, f))

          pub all_fits : leb b room ≡ true → k ≤ orderRoom → k ≤ workRoom → 0 ≡ refusal
          all_fits f h i = sym (refusal_is true true d (rw (size, f, le-leb many orderRoom (omega arith), le-leb many workRoom (omega arith))))

-- The answer.

module _ (L : ℕ) (c : Column) (t : Option DaySpan) (out order work : List ℕ) where
  pub sheet_refused : (r : Refusal) → refusal_number r ≡ span_refusal L c t (length out) (length order) (length work)
      → ◌≡◌ {A = SheetResult} (record { answer = record { refusal = refusal_number r; bytes = 0 }; text = out; order = order; work = work }) (span_call L c t out order work)
  unfolding span_call
  sheet_refused r e = rw (sym e, ne_eqb (refusal_number r) 0 (refusal_some r))

-- what is known of a column that passed the checks ahead of these two
record Passed (L : ℕ) (c : Column) : Type 0 where
  pub lent : LentColumn L c
  pub values : T (every in_range (all_records L c))

sound_passed : (L : ℕ) (c : Column) → first_failed (sound_checks L c) ≡ 0 → Passed L c
unfolding numbered
sound_passed L c p =
    let b = passed_both (lent_checks L c) (ask 6 (sound L c) ∷ ask 8 (every in_range (all_records L c)) ∷ []) tt p in
    let f = yes_first 5 (sound L c) (ask 8 (every in_range (all_records L c)) ∷ []) b.1 in
    record { lent = lent_column L c b.0; values = (yes_first 7 (every in_range (all_records L c)) [] f.1).0 }

pub sound_lent : (L : ℕ) (c : Column) → first_failed (sound_checks L c) ≡ 0 → LentColumn L c
sound_lent L c p = (sound_passed L c p).lent

-- what is known once every check has passed
pub record CanWrite (L : ℕ) (c : Column) (d : DaySpan) (out order work : List ℕ) : Type 0 where
  pub all : span_refusal L c (Some d) (length out) (length order) (length work) ≡ 0
  pub lent : LentColumn L c
  pub measured : Measured (part L c)
  pub room : length (span_text L c (span_given d)) ≤ length out
  pub order_room : length (span_slots L c (span_given d)) ≤ length order
  pub work_room : length (span_slots L c (span_given d)) ≤ length work

module _ (L : ℕ) (c : Column) (d : DaySpan) (out order work : List ℕ) where
  can_write : span_refusal L c (Some d) (length out) (length order) (length work) ≡ 0 → CanWrite L c d out order work
  unfolding numbered
  can_write p =
      let b = passed_both (sound_checks L c) (last L c (Some d) (length out) (length order) (length work)) tt p in
      let w = sound_passed L c b.0 in
      let g = yes_first 18 (dated L c (Some d) (length out) (length order) (length work)) _ b.1 in
      let f = (yes_first 14 (fits L c (Some d) (length out) (length order) (length work)) [] g.1).0 in
      let k : ℕ = length (span_slots L c (span_given d)) in
      let a : Bool = leb (length (span_text L c (span_given d))) (length out) in
      let o : Bool = leb k (length order) in
      let v : Bool = leb k (length work) in
      record {
        all = p;
        lent = w.lent;
        measured = part_measured L c w.lent w.values;
        room = leb→le (length (span_text L c (span_given d))) (length out) (and_fst a (o && v) f);
        order_room = leb→le k (length order) (and_fst o v (and_snd a (o && v) f));
        work_room = leb→le k (length work) (and_snd o v (and_snd a (o && v) f));
      }

  pub all_checked : {t : Option DaySpan} → t ≡ Some d → 0 ≡ span_refusal L c t (length out) (length order) (length work) → CanWrite L c d out order work
  all_checked e p = can_write (sym (ap (λ (t : Option DaySpan). span_refusal L c t (length out) (length order) (length work)) e) ∙ sym p)

module _ {L : ℕ} {c : Column} {d : DaySpan} {out order work : List ℕ} (w : CanWrite L c d out order work) {x : Slices} (q : x ≡ part L c) {k : ℕ}
    (j : k ≡ length (slots_on (span_given d) x)) where
  abbrev s : Span
  s = span_given d

  abbrev is : List ℕ
  is = span_slots L c s

  in_code : slots_on s x ≡ is
  in_code = slots_are L c w.lent s q

  many_is : k ≡ length is
  many_is = j ∙ ap length in_code

  pub measured : Measured x
  measured = subst Measured (sym q) w.measured

  pub order_room : k ≤ length order
  order_room = omega (arith, many_is, w.order_room)

  pub work_room : k ≤ length work
  work_room = omega (arith, many_is, w.work_room)

  pub order_size : length (take k order) ≡ length (slots_on s x)
  order_size = length-take-le k order order_room ∙ j

  pub work_size : length (take k work) ≡ length (take k order)
  work_size = length-take-le k work work_room ∙ sym (length-take-le k order order_room)

  -- the order's part, once it is arranged
  module _ {o : List ℕ} (z : o ≡ by_grower x.growers (slots_on s x)) where
    sorted_is : o ≡ by_grower x.growers is
    sorted_is = z ∙ ap (by_grower x.growers) in_code

    order_there : length o ≡ k
    order_there = ap length sorted_is ∙ by_grower_length x.growers is ∙ sym many_is

    pub order_long : k ≤ length (o ++ drop k order)
    order_long = omega (arith, length-append o (drop k order), order_there)

    front : take k (o ++ drop k order) ≡ by_grower x.growers is
    front = take_at o (drop k order) k order_there ∙ sorted_is

    slots_in_lem : InOrder x.growers (by_grower x.growers is)
    slots_in_lem =
        record {
          few = omega (arith, by_grower_length x.growers is, many_is, j, slots_few x s, measured.few);
          there = by_grower_in x.growers is (subst (λ (l : List ℕ). T (slots_in x.growers l)) in_code (picked_in _ x.growers (length x.growers) (omega arith)));
          falls_not = by_grower_falls_not x.growers is;
        }

    pub in_order : InOrder x.growers (take k (o ++ drop k order))
    in_order = subst (InOrder x.growers) (sym front) slots_in_lem

    pub text_room : bytes_of x.growers (take k (o ++ drop k order)) ≤ length out
    text_room =
        let b : bytes_of x.growers (take k (o ++ drop k order)) ≡ length (span_text L c s)
        = ap (bytes_of x.growers) front ∙ ap (λ (l : List ℕ). 81 * length l + 61) (by_grower_growers x.growers is)
        ∙ sym (text_size L c w.lent s q ∙ ap (bytes_of x.growers) in_code) in
        omega (arith, b, w.room)

    pub sheet_done : {bytes : ℕ} {v m : List ℕ} → v ≡ placed 0 (sheet_of (records_at x (take k (o ++ drop k order)))) out
        → bytes ≡ length (sheet_of (records_at x (take k (o ++ drop k order)))) → m ≡ replicate (length (take k work)) 0
        → ◌≡◌ {A = SheetResult} (record { answer = record { refusal = 0; bytes = bytes }; text = v; order = o ++ drop k order; work = m ++ drop k work })
        (span_call L c (Some d) out order work)
    unfolding span_call
    sheet_done {bytes} {v} {m} et eb em =
        let r : sheet_of (records_at x (take k (o ++ drop k order))) ≡ span_text L c s
        = ap (λ (l : List ℕ). sheet_of (records_at x l)) front ∙ same_sheet x is ∙ ap (λ (y : Slices). sheet_of (records_at y is)) q ∙ sym (text_is L c w.lent s) in
        let v' : v ≡ span_text L c s ++ drop (length (span_text L c s)) out = et ∙ ap (λ (l : List ℕ). placed 0 l out) r ∙ placed_first (span_text L c s) out in
        let b' : bytes ≡ length (span_text L c s) = eb ∙ ap length r in
        let g : by_grower x.growers is ≡ by_grower c.slices.growers is
        = ap (λ (y : Slices). by_grower y.growers is) q ∙ part_sorted c.slices (used L c) w.lent.even w.lent.shape.room s in
        let o' : o ++ drop k order ≡ by_grower c.slices.growers is ++ drop (length is) order
        = ap (λ (l : List ℕ). l ++ drop k order) (sorted_is ∙ g) ∙ ap (λ (n : ℕ). by_grower c.slices.growers is ++ drop n order) many_is in
        let m' : m ++ drop k work ≡ replicate (length is) 0 ++ drop (length is) work
        = ap (λ (l : List ℕ). l ++ drop k work) (em ∙ ap (λ (n : ℕ). replicate n 0) (length-take-le k work work_room))
        ∙ ap (λ (n : ℕ). replicate n 0 ++ drop n work) many_is in
        (λ i. record { answer = record { refusal = 0; bytes = b' i }; text = v' i; order = o' i; work = m' i }) ∙ sym (rw w.all)
