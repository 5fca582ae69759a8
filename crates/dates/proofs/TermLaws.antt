-- Settlement terms: where they begin and end. Assumes nothing.
use Prim.Native.Nat.{ℕ, ◌+◌, ◌-◌, ◌≤◌, ◌<◌}
use mathlib.Core.Path.{◌≡◌, refl, ap, ◌∙◌}
use mathlib.Core.Bool.{Bool, true, false, cond, ◌&&◌}
use native.Mathlib.Omega.{arith}
use lib.Dec.{T, leb, ltb, leb→le}
use borrow.Author.Tests.{leb-true, leb-false, le-leb, lt-leb, le-ltb}
use Rattle.model.proofs.Tests.{and_fst, and_snd}
use Rattle.model.specs.Bounds.{most_day}
use Rattle.model.specs.Calendar.{Span, is_in, date, is_leap, month_days, day_number, next_date}
use Rattle.model.specs.SettlementTerms.{Half, early, late, term, term_at, term_of}
use Rattle.dates.specs.Months.{is_month}
use Rattle.dates.proofs.Months.{MonthFacts, month_facts}
use Rattle.dates.proofs.Dates.{Real, day_most, Follows, follows, the_date}

-- a month of 2000 to 2099 has a first day
pub month_begins : (y m : ℕ) → T (is_month y m) → Real y m 1
unfolding is_month
month_begins y m t =
    let a = leb 2000 y in
    let b = leb y 2099 in
    let e = leb 1 m in
    let f = leb m 12 in
    let ys = and_fst (a && b) (e && f) t in
    let ms = and_snd (a && b) (e && f) t in
    let l : 1 ≤ m = leb→le _ _ (and_fst e f ms) in
    let h : m ≤ 12 = leb→le _ _ (and_snd e f ms) in
    record {
      year_least = leb→le _ _ (and_fst a b ys);
      year_most = leb→le _ _ (and_snd a b ys);
      month_least = l;
      month_most = h;
      day_least = omega arith;
      day_most = omega (arith, month_facts (is_leap y) m l h);
    }

pub is_month_lem : (y m d : ℕ) → Real y m d → T (is_month y m)
unfolding is_month
is_month_lem y m d r = rw (le-leb 2000 y r.year_least, le-leb y 2099 r.year_most, le-leb 1 m r.month_least, le-leb m 12 r.month_most) tt

-- another day of the same month
pub on : (y m d e : ℕ) → Real y m d → 1 ≤ e → e ≤ month_days (is_leap y) m → Real y m e
on y m d e r l h = record { year_least = r.year_least; year_most = r.year_most; month_least = r.month_least; month_most = r.month_most; day_least = l; day_most = h }

-- a month's days are numbered on from its first
pub on_day : (y m d : ℕ) → 1 ≤ d → day_number (date y m d) + 1 ≡ day_number (date y m 1) + d
unfolding day_number
on_day y m d l = omega arith

pub facts : (y m d : ℕ) → Real y m d → MonthFacts (is_leap y) m
facts y m d r = month_facts (is_leap y) m r.month_least r.month_most

-- the two terms of a month by its first day
pub record Begins (y m : ℕ) : Type 0 where
  pub early_first : (term y m early).first ≡ day_number (date y m 1)
  pub early_last : (term y m early).last ≡ day_number (date y m 1) + 14
  pub late_first : (term y m late).first ≡ day_number (date y m 1) + 15
  pub late_last : (term y m late).last + 1 ≡ day_number (date y m 1) + month_days (is_leap y) m
  pub least : 28 ≤ month_days (is_leap y) m
  pub most : month_days (is_leap y) m ≤ 31

pub begins : (y m d : ℕ) → Real y m d → Begins y m
unfolding term
begins y m d r =
    let f = facts y m d r in
    record {
      early_first = refl;
      early_last = omega (arith, on_day y m 15 (omega arith));
      late_first = omega (arith, on_day y m 16 (omega arith));
      late_last = on_day y m (month_days (is_leap y) m) (omega arith);
      least = f.least;
      most = f.most;
    }

-- a date lies in its term
pub record Held (s : Span) (n : ℕ) : Type 0 where
  pub begun : s.first ≤ n
  pub not_over : n ≤ s.last

pub is_in_lem : (s : Span) (n : ℕ) → Held s n → T (is_in s n)
is_in_lem s n h = rw (le-leb s.first n h.begun, le-leb n s.last h.not_over) tt

pub in_held : (s : Span) (n : ℕ) → T (is_in s n) → Held s n
in_held s n t = record { begun = leb→le _ _ (and_fst (leb s.first n) (leb n s.last) t); not_over = leb→le _ _ (and_snd (leb s.first n) (leb n s.last) t) }

pub held : (y m d : ℕ) → Real y m d → Held (term_at (date y m d)) (day_number (date y m d))
unfolding term_at
held y m d r = go (leb d 15) refl
  where
    b : Begins y m
    b = begins y m d r

    go : (x : Bool) → leb d 15 ≡ x → Held (term y m (cond x early late)) (day_number (date y m d))
    go true e =
        let w : d ≤ 15 = leb-true _ _ e in
        record { begun = omega (arith, b.early_first, on_day y m d r.day_least, r.day_least); not_over = omega (arith, b.early_last, on_day y m d r.day_least) }
    go false e =
        let w : 15 < d = leb-false _ _ e in
        record { begun = omega (arith, b.late_first, on_day y m d r.day_least); not_over = omega (arith, b.late_last, on_day y m d r.day_least, r.day_most) }

-- the term of a number whose date is known
pub term-at : (n y m d : ℕ) → Real y m d → day_number (date y m d) ≡ n → term_of n ≡ term_at (date y m d)
unfolding term_of
term-at n y m d r e = ap term_at (the_date n y m d r e)

-- what a term holds has that term
pub only : (y m : ℕ) (h : Half) (n : ℕ) → Real y m 1 → Held (term y m h) n → term_of n ≡ term y m h
unfolding term_at
only y m early n r h =
    let b = begins y m 1 r in
    let d = n + 1 - day_number (date y m 1) in
    let l : day_number (date y m 1) ≤ n = omega (arith, b.early_first, h.begun) in
    let w : d ≤ 15 = omega (arith, b.early_last, h.not_over) in
    term-at n y m d (on y m 1 d r (omega arith) (omega (arith, b.least))) (omega (arith, on_day y m d (omega arith)))
    ∙ ap (λ (x : Bool). term y m (cond x early late)) (le-leb d 15 w)
only y m late n r h =
    let b = begins y m 1 r in
    let d = n + 1 - day_number (date y m 1) in
    let l : day_number (date y m 1) + 15 ≤ n = omega (arith, b.late_first, h.begun) in
    let w : 15 < d = omega arith in
    term-at n y m d (on y m 1 d r (omega arith) (omega (arith, b.late_last, h.not_over))) (omega (arith, on_day y m d (omega arith)))
    ∙ ap (λ (x : Bool). term y m (cond x early late)) (lt-leb d 15 w)

-- a term begins on the first and on the 16th
starts_early : (n y m : ℕ) → Real y m 1 → day_number (date y m 1) ≡ n → (term_of n).first ≡ n
unfolding term_at term
starts_early n y m r e = ap (λ (s : Span). s.first) (term-at n y m 1 r e) ∙ e

starts_late : (n y m : ℕ) → Real y m 16 → day_number (date y m 16) ≡ n → (term_of n).first ≡ n
unfolding term_at term
starts_late n y m r e = ap (λ (s : Span). s.first) (term-at n y m 16 r e) ∙ e

-- the day after a month's last
month_over : (y m : ℕ) → next_date (date y m (month_days (is_leap y) m)) ≡ cond (ltb m 12) (date y (m + 1) 1) (date (y + 1) 1 1)
unfolding next_date
month_over y m = rw (le-ltb (month_days (is_leap y) m) (month_days (is_leap y) m) (omega arith))

-- the day after a term's last begins a term
pub next_starts : (y m d : ℕ) → Real y m d → (term_at (date y m d)).last < most_day → (term_of ((term_at (date y m d)).last + 1)).first ≡ (term_at (date y m d)).last + 1
unfolding term_at term
next_starts y m d r = go (leb d 15)
  where
    f : MonthFacts (is_leap y) m
    f = facts y m d r

    L : ℕ
    L = month_days (is_leap y) m

    after : (b : Bool) (k : ℕ) → Follows k (cond b (date y (m + 1) 1) (date (y + 1) 1 1)) → (term_of k).first ≡ k
    after true k w = starts_early k y (m + 1) w.exists w.number
    after false k w = starts_early k (y + 1) 1 w.exists w.number

    go : (x : Bool) → (term y m (cond x early late)).last < most_day → (term_of ((term y m (cond x early late)).last + 1)).first ≡ (term y m (cond x early late)).last + 1
    go true h = starts_late _ y m (on y m d 16 r (omega arith) (omega (arith, f.least))) (omega (arith, on_day y m 15 (omega arith), on_day y m 16 (omega arith)))
    go false h = after (ltb m 12) _ (rw (month_over y m) at (follows _ y m L h (on y m d L r (omega (arith, f.least)) (omega arith)) refl))

pub ends : (y m d : ℕ) → Real y m d → (term_at (date y m d)).last ≤ most_day
unfolding term_at term
ends y m d r = go (leb d 15)
  where
    f : MonthFacts (is_leap y) m
    f = facts y m d r

    go : (x : Bool) → (term y m (cond x early late)).last ≤ most_day
    go true = day_most y m 15 (on y m d 15 r (omega arith) (omega (arith, f.least)))
    go false = day_most y m (month_days (is_leap y) m) (on y m d (month_days (is_leap y) m) r (omega (arith, f.least)) (omega arith))
