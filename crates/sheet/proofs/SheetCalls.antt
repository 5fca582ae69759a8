-- The whole sheet is the one of all days, and a term's is the one of the term's days. Assumes nothing.
use Prim.Native.Nat.{ℕ, zero, suc, ◌≤◌, ◌<◌}
use mathlib.Core.Path.{◌≡◌, refl, sym, ap, ◌∙◌}
use mathlib.Core.Bool.{Bool, true, false, cond, ◌&&◌}
use mathlib.Core.List.{List, [], ◌∷◌, ◌++◌}
use Rattle.std.specs.Prelude.{Option, Some, Result, Ok, Err}
use Rattle.std.specs.Result.{result_ok}
use native.Mathlib.Omega.{arith}
use native.Mathlib.Decide.{ℕ_discrete}
use borrow.Author.Tests.{ne_eqb, le-leb}
use lib.Dec.{T, leb, eqb, leb→le}
use lib.ListN.{length, get_or, take}
use lib.Seq.{get_or-take}
use Rattle.model.specs.declared.Delivery.{Delivery}
use Rattle.model.specs.declared.lent.DaySpan.{DaySpan}
use Rattle.model.specs.declared.refusal.Refusal.{Refusal}
use Rattle.model.proofs.Refusals.{refusal_some}
use Rattle.model.specs.Bounds.{most_day}
use Rattle.model.specs.Lists.{sum_of, up_from, every, keep}
use Rattle.model.specs.Checks.{Check, ask, first_failed}
use Rattle.model.specs.Calendar.{Span, span, is_in}
use Rattle.model.specs.SettlementTerms.{term_of}
use Rattle.model.specs.Deliveries.{day_ok, on_days}
use Rattle.model.specs.Column.{Column, lengths_of, all_records}
use Rattle.model.specs.Questions.{sheet_checks, term_sheet_checks}
use Rattle.model.specs.Sheet.{sheet_of, sheet_text, by_grower, slots_in_order}
use Rattle.model.specs.SheetCalls.{SheetResult, written, not_written, sheet_call, term_sheet_call}
use Rattle.model.proofs.Tests.{and_fst, and_snd, is_true, of_true}
use Rattle.model.proofs.ListLaws.{length_up_from}
use Rattle.model.proofs.GrowerLaws.{all_imply, keep_whole}
use Rattle.checks.proofs.Answers.{failed_first, numbered, passed_first}
use Rattle.dates.specs.declared.TermAnswer.{TermAnswer}
use Rattle.dates.specs.DateCalls.{term_given, term_call, term_answer_of}
use Rattle.directory.proofs.LentColumns.{LentColumn}
use Rattle.snapshot.specs.Answers.{sound_checks}
use Rattle.snapshot.proofs.WriteAnswers.{days_there}
use Rattle.sheet.specs.Answers.{span_of, is_given, span_slots, span_text, span_call}
use Rattle.sheet.proofs.PartOrder.{all_below}
use Rattle.sheet.proofs.SheetAnswers.{sound_lent}

-- all days
abbrev always : Span
always = span 0 most_day

-- records of days that are days
keep_days : (ds : List Delivery) → T (every day_ok ds) → keep (on_days always) ds ≡ ds
unfolding keep every
keep_days [] t = refl
keep_days (d ∷ ds) t =
    rw (le-leb 0 d.day (omega arith), is_true (day_ok d) (and_fst (day_ok d) (every day_ok ds) t))
    (ap (λ (l : List Delivery). d ∷ l) (keep_days ds (and_snd (day_ok d) (every day_ok ds) t)))

-- numbers that are all at most another
day_at : (s : List ℕ) → T (every (λ (n : ℕ). leb n most_day) s) → (i : ℕ) → get_or s i 0 ≤ most_day
unfolding every
day_at [] t i = omega arith
day_at (x ∷ s) t zero = leb→le x most_day (and_fst (leb x most_day) (every (λ (n : ℕ). leb n most_day) s) t)
day_at (x ∷ s) t (suc i) = day_at s (and_snd (leb x most_day) (every (λ (n : ℕ). leb n most_day) s) t) i

module _ (L : ℕ) (c : Column) (out order work : List ℕ) where
  abbrev used : ℕ
  used = sum_of (lengths_of L c)

  -- the checks 19 and 15, and the answer, of a text of k records
  abbrev ends : Bool → ℕ → List ℕ → List Check
  ends d k t = ask 19 d ∷ ask 15 (leb (length t) (length out) && (leb k (length order) && leb k (length work))) ∷ []

  abbrev result : Bool → ℕ → List ℕ → List ℕ → SheetResult
  result d k t is =
      let n : ℕ = first_failed (sound_checks L c ++ ends d k t) in
      cond (eqb n 0) (written t k is out order work) (not_written n out order work)

  -- where a check ahead of 15 fails, text and slots do not matter
  none_written : (n : ℕ) → (n ≡ 0 → ⊥) → (d : Bool) (k : ℕ) (t is : List ℕ) → first_failed (sound_checks L c ++ ends d k t) ≡ n → result d k t is ≡ not_written n out order work
  none_written n z d k t is e = rw (e, ne_eqb n 0 z)

  module _ (z : first_failed (sound_checks L c) ≡ 0 → ⊥) where
    column_refused : (d : Bool) (k : ℕ) (t is : List ℕ) → result d k t is ≡ not_written (first_failed (sound_checks L c)) out order work
    column_refused d k t is = none_written (first_failed (sound_checks L c)) z d k t is (sym (failed_first (sound_checks L c) (ends d k t) z))

  module _ (p : first_failed (sound_checks L c) ≡ 0) where
    nineteen : (k : ℕ) (t : List ℕ) → first_failed (sound_checks L c ++ ends false k t) ≡ 19
    unfolding first_failed numbered
    nineteen k t = passed_first (sound_checks L c) (ends false k t) tt p

    day_refused : (k : ℕ) (t is : List ℕ) → result false k t is ≡ not_written 19 out order work
    day_refused k t is = none_written 19 (λ z. omega (arith, z)) false k t is (nineteen k t)

  not-dated : (k j : ℕ) (t u is js : List ℕ) → result false k t is ≡ result false j u js
  not-dated k j t u is js = go (ℕ_discrete (first_failed (sound_checks L c)) 0)
    where
      go : Dec (first_failed (sound_checks L c) ≡ 0) → result false k t is ≡ result false j u js
      go (yes p) = day_refused p k t is ∙ sym (day_refused p j u js)
      go (no z) = column_refused z false k t is ∙ sym (column_refused z false j u js)

  -- the slots of all days
  whole_slots : LentColumn L c → every day_ok (all_records L c) ≡ true → span_slots L c always ≡ up_from 0 used
  whole_slots l d =
      keep_whole (λ (i : ℕ). is_in always (get_or c.slices.days i 0)) (up_from 0 used)
      (all_imply (λ (i : ℕ). i < used) (λ (i : ℕ). is_in always (get_or c.slices.days i 0) ≡ true) (λ i h. here i h) (up_from 0 used) (all_below used 0 used (omega arith)))
    where
      days : List ℕ
      days = take used c.slices.days

      here : (i : ℕ) → i < used → is_in always (get_or c.slices.days i 0) ≡ true
      here i h =
          let n : ℕ = get_or c.slices.days i 0 in
          let w : get_or days i 0 ≤ most_day = day_at days (of_true _ (sym (days_there L c l used _ refl refl) ∙ d)) i in
          rw (le-leb 0 n (omega arith), le-leb n most_day (omega (arith, w, get_or-take used c.slices.days i 0 h)))

  same_parts : {k j : ℕ} {t u is js : List ℕ} (d : Bool) → k ≡ j → t ≡ u → is ≡ js → result d k t is ≡ result d j u js
  same_parts d p q r = λ i. result d (p i) (q i) (r i)

  abbrev gs : List ℕ
  gs = c.slices.growers

  whole_either : Dec (first_failed (sound_checks L c) ≡ 0) → (d : Bool) → every day_ok (all_records L c) ≡ d
      → result d (length (span_slots L c always)) (span_text L c always) (by_grower gs (span_slots L c always)) ≡ result d used (sheet_text L c) (slots_in_order gs used)
  whole_either (no z) d e =
      let is : List ℕ = span_slots L c always in
      column_refused z d (length is) (span_text L c always) (by_grower gs is) ∙ sym (column_refused z d used (sheet_text L c) (slots_in_order gs used))
  whole_either (yes p) false e =
      let is : List ℕ = span_slots L c always in
      not-dated (length is) used (span_text L c always) (sheet_text L c) (by_grower gs is) (slots_in_order gs used)
  whole_either (yes p) true e =
      let s = whole_slots (sound_lent L c p) e in
      same_parts true (ap length s ∙ length_up_from 0 used) (ap sheet_of (keep_days (all_records L c) (of_true _ e))) (ap (by_grower gs) s)

  pub whole_call : span_call L c (Some (record { first = 0; last = most_day })) out order work ≡ sheet_call L c out order work
  unfolding span_call sheet_call sheet_checks
  whole_call = whole_either (ℕ_discrete (first_failed (sound_checks L c)) 0) (every day_ok (all_records L c)) refl

  -- what the days asked for make of it
  abbrev answered : Option DaySpan → SheetResult
  answered t = result (is_given t && every day_ok (all_records L c)) (length (span_slots L c (span_of t))) (span_text L c (span_of t)) (by_grower gs (span_slots L c (span_of t)))

  term_either : (s : Span) (b : Bool) (t : Result DaySpan Refusal) → term_answer_of t ≡ cond b (term_given s) (record { refusal = 19; first = 0; last = 0 })
      → answered (result_ok t) ≡ result (b && every day_ok (all_records L c)) (length (span_slots L c s)) (span_text L c s) (by_grower gs (span_slots L c s))
  term_either s true (Ok d) e =
      ap (λ (x : TermAnswer). result (every day_ok (all_records L c)) (length (span_slots L c (span x.first x.last))) (span_text L c (span x.first x.last))
      (by_grower gs (span_slots L c (span x.first x.last)))) e
  term_either s false (Ok d) e = let z : 0 ≡ 19 = ap (λ (x : TermAnswer). x.refusal) e in absurd (omega (arith, z))
  term_either s true (Err r) e = absurd (refusal_some r (ap (λ (x : TermAnswer). x.refusal) e))
  term_either s false (Err r) e =
      let none : Span = span 0 0 in
      not-dated (length (span_slots L c none)) (length (span_slots L c s)) (span_text L c none) (span_text L c s) (by_grower gs (span_slots L c none)) (by_grower gs (span_slots L c s))

  pub term_call_lem : (day : ℕ) (t : Result DaySpan Refusal) → term_answer_of t ≡ term_call day → span_call L c (result_ok t) out order work ≡ term_sheet_call L c day out order work
  unfolding span_call term_sheet_call term_sheet_checks term_call
  term_call_lem day t e = term_either (term_of day) (leb day most_day) t e
