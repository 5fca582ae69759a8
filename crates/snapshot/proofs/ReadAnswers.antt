-- What judging a text answers, return by return, and then reading. Assumes nothing.
use Prim.Native.Nat.{ℕ, ◌+◌, ◌*◌, ◌≤◌, ◌<◌}
use mathlib.Core.Path.{◌≡◌, refl, sym, ap, ap₂, ◌∙◌, subst}
use mathlib.Core.Bool.{Bool, true, false, cond, ◌&&◌}
use mathlib.Core.Option.{Option, none, some}
use mathlib.Core.List.{List, [], ◌∷◌, ◌++◌, map}
use native.Mathlib.Omega.{arith}
use borrow.Author.Tests.{ne_eqb, le-leb, lt-leb}
use lib.Dec.{T, leb, leb→le}
use lib.ListN.{length, take, drop, replicate, length-map}
use lib.Seq.{length-take-le}
use Rattle.model.specs.declared.Delivery.{Delivery}
use Rattle.std.specs.Prelude.{Result, Ok, Err}
use Rattle.model.specs.declared.refusal.Refusal.{Refusal}
use Rattle.model.specs.declared.refusal.Refusal.TheVariants.{Text, Full, Slices as BadSlices}
use Rattle.model.specs.Refusals.{refusal_number, number_of}
use Rattle.model.specs.Answers.{applied_of}
use Rattle.model.proofs.Refusals.{refusal_some}
use Rattle.model.specs.Bounds.{block_limit, most_slots}
use Rattle.model.specs.Lists.{only_if, and_then, value_or, is_some}
use Rattle.model.specs.Checks.{first_failed}
use Rattle.model.specs.Deliveries.{grower_of, weight_of, yield_of, day_of, Slices, slices_of}
use Rattle.model.specs.Lent.{column_of}
use Rattle.model.specs.Blocks.{slices_ok}
use Rattle.model.specs.Directory.{directory_numbers}
use Rattle.model.specs.Fields.{Taken, taken, nth}
use Rattle.model.specs.Snapshot.{Header, Book, delivery_of, read_book, is_book, slots_for_book}
use Rattle.model.specs.Questions.{read_checks}
use Rattle.model.specs.SnapshotCalls.{ReadResult, read_call, column_read}
use Rattle.model.proofs.Tests.{and_fst, and_snd, of_true}
use Rattle.model.proofs.SetLaws.{sliced}
use Rattle.model.proofs.BookLaws.{numbers_read}
use Rattle.directory.specs.Numbers.{Numbered}
use Rattle.lines.specs.Lines.{text_checked, column_at, column_ok, lines_ok, rows_at}
use Rattle.lines.proofs.Storing.{length_column, column_ok_lem}
use Rattle.lines.proofs.Reading.{met, unmet, ok_no_err}
use Rattle.lines.proofs.Forms.{column_of_lem, length-rows-at}
use Rattle.snapshot.specs.declared.Head.{Head}
use Rattle.snapshot.specs.declared.Judged.{Judged}
use Rattle.snapshot.specs.Texts.{header_at, head_ok, head_in, head_found, directory_at, listed_in}
use Rattle.snapshot.specs.Answers.{numbers_ok, judged_book, judged_of, result_of}
use Rattle.snapshot.proofs.TextLaws.{start, book_at, lines_right, header_form, book_form, slots_form, head_good, wrong_size, numbers_right, numbers_there, numbers_are}

-- line 1 accepted
module _ (L : ℕ) (t : List ℕ) (hd : Head) (e : Ok hd ≡ head_found L t) where
  accepted_head : (head_ok L t ≡ true) × (hd ≡ head_in (header_at t))
  accepted_head = met (head_ok L t) Text e

  -- what holds of the header holds of what was found
  from_header : (P : Head → Type 0) → P (head_in (header_at t)) → P hd
  from_header P p = subst P (sym accepted_head.1) p

  pub few : hd.count ≤ L
  few = from_header (λ (y : Head). y.count ≤ L) (head_good L t accepted_head.0).few

  pub most : hd.used ≤ most_slots
  most = from_header (λ (y : Head). y.used ≤ most_slots) (head_good L t accepted_head.0).used

  -- the partition lines, listed
  module _ (r : Result (List ℕ) Refusal) (f : r ≡ listed_in L hd.block hd.count t) where
    found : r ≡ listed_in L (header_at t).block (header_at t).count t
    found = from_header (λ (y : Head). r ≡ listed_in L y.block y.count t → r ≡ listed_in L (header_at t).block (header_at t).count t) (λ q. q) f

  listed : (l : List ℕ) → Ok l ≡ listed_in L hd.block hd.count t
      → (lines_ok 2 (header_at t).count 34 t ≡ true) × (l ≡ directory_numbers L (directory_at (header_at t).block (header_at t).count t))
  listed l f = met (lines_ok 2 (header_at t).count 34 t) Text (found (Ok l) f)

  pub numbers_listed : (l : List ℕ) → Ok l ≡ listed_in L hd.block hd.count t → Numbered L l
  numbers_listed l f = subst (Numbered L) (sym (listed l f).1) (numbers_there L t (header_at t).block (header_at t).count (head_good L t accepted_head.0).few)

module _ (L : ℕ) (t : List ℕ) (c : ℕ) where
  -- line 1 refused
  pub answer_no_head : (x : Refusal) → Err x ≡ head_found L t → Err x ≡ judged_of L t c
  unfolding judged_of slots_for_book
  answer_no_head x e =
      let o = unmet (head_ok L t) (head_in (header_at t)) e in
      ap Err o.1 ∙ sym (rw (header_form L t, book_form L t, o.0))

  module _ (hd : Head) (e : Ok hd ≡ head_found L t) where
    ok : head_ok L t ≡ true
    ok = (accepted_head L t hd e).0

    lift : (P : Head → Type 0) → P (head_in (header_at t)) → P hd
    lift = from_header L t hd e

    pub answer_few : c < hd.used → Err Full ≡ judged_of L t c
    unfolding judged_of
    answer_few k = lift (λ (y : Head). c < y.used → Err Full ≡ judged_of L t c) (λ l. sym (rw (slots_form L t c ok, lt-leb (header_at t).used c l))) k

    module _ (k : hd.used ≤ c) where
      book_is : judged_of L t c ≡ judged_book L (only_if (lines_right t) (book_at t))
      unfolding judged_of
      book_is = lift (λ (y : Head). y.used ≤ c → judged_of L t c ≡ judged_book L (only_if (lines_right t) (book_at t)))
          (λ l. rw (slots_form L t c ok, le-leb (header_at t).used c l, book_form L t, ok)) k

      not_right : lines_right t ≡ false → Err Text ≡ judged_of L t c
      not_right f = sym (book_is ∙ rw f)

      pub answer_size : (length t ≡ 34 + 23 * hd.count + 34 * hd.used → ⊥) → Err Text ≡ judged_of L t c
      answer_size other = lift (λ (y : Head). (length t ≡ 34 + 23 * y.count + 34 * y.used → ⊥) → Err Text ≡ judged_of L t c) (λ o. not_right (wrong_size L t ok o)) other

      pub answer-lines : (x : Refusal) → Err x ≡ listed_in L hd.block hd.count t → Err x ≡ judged_of L t c
      answer-lines x f =
          let o = unmet (lines_ok 2 (header_at t).count 34 t) (directory_numbers L (directory_at (header_at t).block (header_at t).count t)) (found L t hd e (Err x) f) in
          ap Err o.1 ∙ not_right (rw o.0)

      module _ (l : List ℕ) (f : Ok l ≡ listed_in L hd.block hd.count t) (size : length t ≡ 34 + 23 * hd.count + 34 * hd.used) where
        whole : length t ≡ start t + 34 * (header_at t).used
        whole = lift (λ (y : Head). length t ≡ 34 + 23 * y.count + 34 * y.used → length t ≡ start t + 34 * (header_at t).used) (λ s. s) size

        -- the test of the numbers is the test of the book
        tested : numbers_ok L t (34 + 23 * hd.count) l hd.used ≡ lines_right t
        tested =
            lift (λ (y : Head). numbers_ok L t (34 + 23 * y.count) l y.used ≡ lines_right t)
            (ap (λ (y : List ℕ). numbers_ok L t (start t) y (header_at t).used) (listed L t hd e l f).1
            ∙ numbers_are L t (header_at t).block (header_at t).count (head_good L t ok).few (start t) (header_at t).used
            ∙ sym (numbers_right t whole)
            ∙ sym (rw (listed L t hd e l f).0))

        pub answer_numbers : (x : Refusal) → Err x ≡ text_checked (numbers_ok L t (34 + 23 * hd.count) l hd.used) → Err x ≡ judged_of L t c
        answer_numbers x g =
            let o = unmet (numbers_ok L t (34 + 23 * hd.count) l hd.used) tt g in
            ap Err o.1 ∙ not_right (sym tested ∙ o.0)

        pub answer_yes : Ok tt ≡ text_checked (numbers_ok L t (34 + 23 * hd.count) l hd.used) → Ok (record { used = hd.used; start = 34 + 23 * hd.count; directory = l }) ≡ judged_of L t c
        answer_yes g =
            let r : lines_right t ≡ true = sym tested ∙ (met (numbers_ok L t (34 + 23 * hd.count) l hd.used) Text g).0 in
            lift (λ (y : Head). Ok (record { used = y.used; start = 34 + 23 * y.count; directory = l }) ≡ judged_book L (some (book_at t)))
            (ap₂ (λ (u : ℕ) (d : List ℕ). Ok (record { used = u; start = start t; directory = d }))
            (sym (length-map (rows_at 3 (header_at t).used (start t) t) delivery_of ∙ length-rows-at t 3 (header_at t).used (start t)))
            (listed L t hd e l f).1
            ∙ ap (λ (k : ℕ). Ok (record { used = length (book_at t).deliveries; start = 34 + 23 * k; directory = directory_numbers L (book_at t).directory }))
            (sym (length_column 23 34 (header_at t).count t)))
            ∙ sym (book_is ∙ rw r)

-- What an accepted text holds.

pub record Accepted (L : ℕ) (t : List ℕ) (n : ℕ) (j : Judged) : Type 0 where
  pub ok : head_ok L t ≡ true
  pub right : lines_right t ≡ true
  pub slots : (header_at t).used ≤ n
  pub used : j.used ≡ (header_at t).used
  pub start_is : j.start ≡ start t
  pub directory : j.directory ≡ directory_numbers L (book_at t).directory

-- judging in one form: line 1, the slots, the rest
judged_form : (L : ℕ) (t : List ℕ) (n : ℕ)
    → judged_of L t n ≡ cond (cond (head_ok L t) (leb (header_at t).used n) true) (judged_book L (only_if (head_ok L t && lines_right t) (book_at t))) (Err Full)
unfolding judged_of slots_for_book
judged_form L t n = rw (header_form L t, book_form L t) (go (head_ok L t) (only_if (head_ok L t && lines_right t) (book_at t)))
  where
    go : (a : Bool) (o : Option Book)
        → cond (value_or true (and_then (only_if a (taken (header_at t) (drop 34 t))) (λ (h : Taken Header). some (leb h.value.used n)))) (judged_book L o) (Err Full)
        ≡ cond (cond a (leb (header_at t).used n) true) (judged_book L o) (Err Full)
    go true o = refl
    go false o = refl

pub accepted : (L : ℕ) (t : List ℕ) (n : ℕ) (j : Judged) → Ok j ≡ judged_of L t n → Accepted L t n j
accepted L t n j e = go (head_ok L t) (lines_right t) (leb (header_at t).used n) refl refl refl (e ∙ judged_form L t n)
  where
    go : (a b l : Bool) → head_ok L t ≡ a → lines_right t ≡ b → leb (header_at t).used n ≡ l
        → Ok j ≡ cond (cond a l true) (judged_book L (only_if (a && b) (book_at t))) (Err Full) → Accepted L t n j
    go false b l p q r f = absurd (ok_no_err f)
    go true b false p q r f = absurd (ok_no_err f)
    go true false true p q r f = absurd (ok_no_err f)
    go true true true p q r f =
        let m = book_at t in
        let is : j ≡ record { used = length m.deliveries; start = 34 + 23 * length m.directory.lengths; directory = directory_numbers L m.directory } = cc in
        record {
          ok = p;
          right = q;
          slots = leb→le _ _ (of_true _ r);
          used = ap (λ (y : Judged). y.used) is ∙ length-map (rows_at 3 (header_at t).used (start t) t) delivery_of ∙ length-rows-at t 3 (header_at t).used (start t);
          start_is = ap (λ (y : Judged). y.start) is ∙ ap (λ (k : ℕ). 34 + 23 * k) (length_column 23 34 (header_at t).count t);
          directory = ap (λ (y : Judged). y.directory) is;
        }

-- what its lines lend to the stores: bounds, and good fields in each column
pub record Stored (L : ℕ) (t : List ℕ) (n : ℕ) (j : Judged) : Type 0 where
  pub begins : j.start ≤ 34 + 23 * L
  pub used : j.used ≤ most_slots
  pub room : j.used ≤ n
  pub growers : T (column_ok 34 j.start j.used t)
  pub weights : T (column_ok 34 (j.start + 11) j.used t)
  pub yields : T (column_ok 34 (j.start + 22) j.used t)

pub stored : (L : ℕ) (t : List ℕ) (n : ℕ) (j : Judged) → Ok j ≡ judged_of L t n → Stored L t n j
stored L t n j e =
    let a = accepted L t n j e in
    let g = head_good L t a.ok in
    let m : ℕ = (header_at t).used in
    let o : T (lines_ok 3 m (start t) t) = and_fst (lines_ok 3 m (start t) t) _ (and_snd (lines_ok 2 (header_at t).count 34 t) _ (of_true _ a.right)) in
    record {
      begins = omega (arith, a.start_is, g.few);
      used = omega (arith, a.used, g.used);
      room = omega (arith, a.used, a.slots);
      growers = column a o 0 (omega arith) j.start (omega arith);
      weights = column a o 1 (omega arith) (j.start + 11) (omega arith);
      yields = column a o 2 (omega arith) (j.start + 22) (omega arith);
    }
  where
    column : Accepted L t n j → T (lines_ok 3 (header_at t).used (start t) t) → (i : ℕ) → i < 3 → (at : ℕ) → at ≡ j.start + 11 * i → T (column_ok 34 at j.used t)
    column a o i h at q =
        let s : start t + 11 * i ≡ at = omega (arith, q, a.start_is) in
        subst (λ (u : ℕ). T (column_ok 34 at u t)) (sym a.used) (subst (λ (s : ℕ). T (column_ok 34 s (header_at t).used t)) s (column_ok_lem t 3 i h (header_at t).used (start t) o))

-- and each slice has room for its column
pub record Rooms (s : Slices) (m : ℕ) : Type 0 where
  pub growers : m ≤ length s.growers
  pub weights : m ≤ length s.weights
  pub yields : m ≤ length s.yields
  pub days : m ≤ length s.days

pub rooms : (s : Slices) (m : ℕ) → slices_ok s ≡ true → m ≤ length s.growers → Rooms s m
rooms s m e h =
    let v = (sliced s (of_true _ e)).even in
    record { growers = h; weights = omega (arith, v.weights); yields = omega (arith, v.yields); days = omega (arith, v.days) }

-- Reading.

same_result : {d d' g g' w w' y y' n n' : List ℕ} → d ≡ d' → g ≡ g' → w ≡ w' → y ≡ y' → n ≡ n'
    → ◌≡◌ {A = ReadResult} (record { refusal = 0; column = column_of d g w y n }) (record { refusal = 0; column = column_of d' g' w' y' n' })
same_result p q r s u = λ i. record { refusal = 0; column = column_of (p i) (q i) (r i) (s i) (u i) }

-- the deliveries of lines are on day 0
lines_days : (rs : List (List ℕ)) → map day_of (map delivery_of rs) ≡ replicate (length rs) 0
lines_days [] = refl
lines_days (l ∷ rs) = ap (λ (ns : List ℕ). 0 ∷ ns) (lines_days rs)

module _ (t : List ℕ) (s : Slices) where
  abbrev L : ℕ
  L = block_limit

  abbrev gs : List ℕ
  gs = s.growers

  -- check 3
  pub read_three : slices_ok s ≡ false → result_of (applied_of (Err BadSlices)) s ≡ read_call L t s
  unfolding read_call read_checks first_failed column_read
  read_three e = sym (rw e)

  module _ (e : slices_ok s ≡ true) where
    refusal_is : (r : Result Judged Refusal) → r ≡ judged_of L t (length gs) → first_failed (read_checks L t s) ≡ number_of r
    unfolding read_checks first_failed is_book judged_of
    refusal_is r q = rw e (go (slots_for_book L t (length gs)) (read_book L t)) ∙ ap number_of (sym q)
      where
        go : (b : Bool) (o : Option Book) → cond b (cond (is_some o) 0 14) 12 ≡ number_of (cond b (judged_book L o) (Err Full))
        go false o = refl
        go true none = refl
        go true (some b) = refl

    pub read_refused : (x : Refusal) → Err x ≡ judged_of L t (length gs) → result_of (applied_of (Err x)) s ≡ read_call L t s
    unfolding read_call column_read
    read_refused x q = sym (rw (refusal_is (Err x) q, ne_eqb (refusal_number x) 0 (refusal_some x)))

    module _ (j : Judged) (q : Ok j ≡ judged_of L t (length gs)) where
      a : Accepted L t (length gs) j
      a = accepted L t (length gs) j q

      call_is : read_call L t s ≡ record { refusal = 0; column = column_read L (some (book_at t)) s }
      unfolding read_call
      call_is = rw (refusal_is (Ok j) q, book_form L t, a.ok, a.right)

      -- one slice afterwards
      slice_is : (f : Delivery → ℕ) (i at : ℕ) → i < 3 → at ≡ j.start + 11 * i → ((l : List ℕ) → f (delivery_of l) ≡ nth i l) → (old new : List ℕ)
          → new ≡ column_at 34 at j.used t ++ drop j.used old → new ≡ map f (book_at t).deliveries ++ drop (length (book_at t).deliveries) old
      slice_is f i at h k p old new r =
          let m : ℕ = (header_at t).used in
          let s : at ≡ start t + 11 * i = omega (arith, k, a.start_is) in
          r
          ∙ ap₂ (λ (u v : ℕ). column_at 34 u v t ++ drop v old) s a.used
          ∙ ap₂ (λ (l : List ℕ) (k : ℕ). l ++ drop k old) (sym (numbers_read f i p (rows_at 3 m (start t) t) ∙ column_of_lem t 3 i h m (start t)))
          (sym (length-map (rows_at 3 m (start t) t) delivery_of ∙ length-rows-at t 3 m (start t)))

      -- the days afterwards
      days_are : {z : List ℕ} → z ≡ replicate (length (take j.used s.days)) 0 → j.used ≤ length s.days
          → z ++ drop j.used s.days ≡ map day_of (book_at t).deliveries ++ drop (length (book_at t).deliveries) s.days
      days_are {z} r h =
          let rs : List (List ℕ) = rows_at 3 (header_at t).used (start t) t in
          let m : j.used ≡ length rs = a.used ∙ sym (length-rows-at t 3 (header_at t).used (start t)) in
          ap₂ (λ (l : List ℕ) (k : ℕ). l ++ drop k s.days)
          (r ∙ ap (λ (k : ℕ). replicate k 0) (length-take-le j.used s.days h ∙ m) ∙ sym (lines_days rs))
          (m ∙ sym (length-map rs delivery_of))

      pub read_done : (gs' ws' ys' z : List ℕ)
          → gs' ≡ column_at 34 j.start j.used t ++ drop j.used gs
          → ws' ≡ column_at 34 (j.start + 11) j.used t ++ drop j.used s.weights
          → ys' ≡ column_at 34 (j.start + 22) j.used t ++ drop j.used s.yields
          → z ≡ replicate (length (take j.used s.days)) 0
          → j.used ≤ length s.days
          → result_of (applied_of (Ok j.directory)) (slices_of gs' ws' ys' (z ++ drop j.used s.days)) ≡ read_call L t s
      unfolding column_read
      read_done gs' ws' ys' z u v w r h =
          same_result a.directory (slice_is grower_of 0 j.start (omega arith) (omega arith) (λ l. refl) gs gs' u)
          (slice_is weight_of 1 (j.start + 11) (omega arith) (omega arith) (λ l. refl) s.weights ws' v)
          (slice_is yield_of 2 (j.start + 22) (omega arith) (omega arith) (λ l. refl) s.yields ys' w)
          (days_are r h)
          ∙ sym call_is
