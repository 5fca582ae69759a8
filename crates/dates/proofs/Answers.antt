-- What the code answers is what the calls' definitions say. Assumes nothing.
use Prim.Native.Nat.{ℕ, ◌+◌, ◌-◌, ◌*◌, ◌/◌, ◌≤◌, ◌<◌}
use mathlib.Core.Path.{◌≡◌, sym, subst, ap, ap₂, ◌∙◌}
use mathlib.Core.Bool.{Bool, cond}
use native.Mathlib.Omega.{arith}
use borrow.Author.Tests.{le-leb, lt-leb}
use Rattle.model.proofs.Tests.{is_true, is_false}
use Rattle.dates.specs.declared.Parts.{Parts}
use Rattle.dates.specs.declared.DayAnswer.{DayAnswer}
use Rattle.dates.specs.declared.DateAnswer.{DateAnswer}
use Rattle.dates.specs.declared.TermAnswer.{TermAnswer}
use Rattle.model.specs.Bounds.{most_day}
use Rattle.model.specs.Calendar.{date, is_leap, month_days, days_before_month, days_before_year, is_date, day_number}
use Rattle.model.specs.SettlementTerms.{early, late, term, term_at, term_of}
use Rattle.dates.specs.DateCalls.{day_given, date_given, term_given, day_call, date_call, term_call}
use Rattle.dates.specs.Parts.{MonthAt, Parted}
use Rattle.dates.proofs.Months.{month_facts}
use Rattle.dates.proofs.Years.{year_counted, year_number, next_year}
use Rattle.dates.proofs.Dates.{Real, real, unreal, the_date}
use Rattle.dates.proofs.TermLaws.{begins, on_day, term-at}

-- the year of a day number
pub record YearAt (n k : ℕ) : Type 0 where
  pub small : k < 100
  pub begun : days_before_year (2000 + k) ≤ n
  pub not_over : n < days_before_year (2000 + k) + days_before_month (is_leap (2000 + k)) 13

year_at : (n k : ℕ) → n ≤ 36524 → 1461 * k ≤ 4 * n → 4 * n < 1461 * k + 1461 → YearAt n k
year_at n k h l u =
    let s : k < 100 = omega arith in
    let a = year_counted k (omega arith) in
    let b = year_number (2000 + k + 1) (omega arith) (omega arith) in
    let e = next_year (2000 + k) (omega arith) (omega arith) in
    record { small = s; begun = omega (arith, a); not_over = omega (arith, b, e) }

pub year_found : (n : ℕ) → n ≤ 36524 → YearAt n (4 * n / 1461)
year_found n h = year_at n (4 * n / 1461) h (omega arith) (omega arith)

-- the day of that year
pub in_year : (n k a : ℕ) (l : Bool) → YearAt n k → l ≡ is_leap (2000 + k) → a ≡ days_before_year (2000 + k) → n - a < days_before_month l 13
in_year n k a l y e f = rw e (omega (arith, y))

pub parted : (n k a m b : ℕ) (l : Bool) → YearAt n k → l ≡ is_leap (2000 + k) → a ≡ days_before_year (2000 + k)
    → MonthAt l (n - a) m → b ≡ days_before_month l m → Parted n (record { date = record { year = 2000 + k; month = m; day = n - a - b + 1 }; leap = l })
unfolding day_number
parted n k a m b l y e f h g =
    let h' : MonthAt (is_leap (2000 + k)) (n - a) m = subst (λ (x : Bool). MonthAt x (n - a) m) e h in
    let g' : b ≡ days_before_month (is_leap (2000 + k)) m = subst (λ (x : Bool). b ≡ days_before_month x m) e g in
    let w = month_facts (is_leap (2000 + k)) m h'.least h'.most in
    record {
      leap_year = e;
      year_least = omega arith;
      year_most = omega (arith, y.small);
      month_least = h'.least;
      month_most = h'.most;
      day_least = omega arith;
      day_most = omega (arith, h'.begun, h'.not_over, w.next);
      early = omega arith;
      number = omega (arith, y.begun, h'.begun);
    }

-- a date that is taken apart exists
exists : (n : ℕ) (p : Parts) → Parted n p → Real p.date.year p.date.month p.date.day
exists n p q = record { year_least = q.year_least; year_most = q.year_most; month_least = q.month_least; month_most = q.month_most; day_least = q.day_least; day_most = q.day_most }

-- the date of a day number
pub date_refused : (n : ℕ) → most_day < n → ◌≡◌ {A = DateAnswer} (record { refusal = 19; year = 0; month = 0; day = 0 }) (date_call n)
unfolding date_call
date_refused n h = rw (lt-leb n most_day h)

pub date-answer : (n : ℕ) (p : Parts) → n ≤ most_day → Parted n p → ◌≡◌ {A = DateAnswer} (record { refusal = 0; year = p.date.year; month = p.date.month; day = p.date.day }) (date_call n)
unfolding date_call
date-answer n p h q = rw (le-leb n most_day h) (sym (ap date_given (the_date n p.date.year p.date.month p.date.day (exists n p q) q.number)))

-- its term
pub term_refused : (n : ℕ) → most_day < n → ◌≡◌ {A = TermAnswer} (record { refusal = 19; first = 0; last = 0 }) (term_call n)
unfolding term_call
term_refused n h = rw (lt-leb n most_day h)

abbrev answer : ℕ → ℕ → TermAnswer
answer a e = record { refusal = 0; first = a; last = e }

pub term_early : (n : ℕ) (p : Parts) → n ≤ most_day → Parted n p → p.date.day ≤ 15 → ◌≡◌ {A = TermAnswer} (record { refusal = 0; first = n + 1 - p.date.day; last = n + 15 - p.date.day }) (term_call n)
unfolding term_call term_at
term_early n p h q w =
    let r = exists n p q in
    let b = begins p.date.year p.date.month p.date.day r in
    let o = on_day p.date.year p.date.month p.date.day q.day_least in
    let t : term_of n ≡ term p.date.year p.date.month early
    = term-at n p.date.year p.date.month p.date.day r q.number ∙ ap (λ (x : Bool). term p.date.year p.date.month (cond x early late)) (le-leb p.date.day 15 w) in
    rw (le-leb n most_day h) (ap₂ answer (omega (arith, b.early_first, o, q.number)) (omega (arith, b.early_last, o, q.number)) ∙ sym (ap term_given t))

pub term_late : (n : ℕ) (p : Parts) (e : ℕ) → n ≤ most_day → Parted n p → 15 < p.date.day → e ≡ month_days p.leap p.date.month
    → ◌≡◌ {A = TermAnswer} (record { refusal = 0; first = n + 16 - p.date.day; last = n + e - p.date.day }) (term_call n)
unfolding term_call term_at
term_late n p e h q w f =
    let r = exists n p q in
    let b = begins p.date.year p.date.month p.date.day r in
    let o = on_day p.date.year p.date.month p.date.day q.day_least in
    let f' : e ≡ month_days (is_leap p.date.year) p.date.month = subst (λ (x : Bool). e ≡ month_days x p.date.month) q.leap_year f in
    let t : term_of n ≡ term p.date.year p.date.month late
    = term-at n p.date.year p.date.month p.date.day r q.number ∙ ap (λ (x : Bool). term p.date.year p.date.month (cond x early late)) (lt-leb p.date.day 15 w) in
    rw (le-leb n most_day h) (ap₂ answer (omega (arith, b.late_first, o, q.number)) (omega (arith, b.late_last, o, q.number)) ∙ sym (ap term_given t))

-- the day number of a date
pub day_refused : (y m d : ℕ) → (Real y m d → ⊥) → ◌≡◌ {A = DayAnswer} (record { refusal = 19; day = 0 }) (day_call y m d)
unfolding day_call
day_refused y m d h = rw (is_false (is_date (date y m d)) (λ t. h (real y m d t)))

-- a year from 2000 on, as the code counts it
back : (y : ℕ) → 2000 ≤ y → 2000 + (y - 2000) ≡ y
back y l = omega arith

pub too_late : (y m d e : ℕ) (l : Bool) → l ≡ is_leap (2000 + (y - 2000)) → e ≡ month_days l m → e < d → Real y m d → ⊥
too_late y m d e l f g h r =
    let f' : l ≡ is_leap y = f ∙ ap is_leap (back y r.year_least) in
    let g' : e ≡ month_days (is_leap y) m = subst (λ (x : Bool). e ≡ month_days x m) f' g in
    omega (arith, r.day_most)

pub day_answer : (y m d e a b : ℕ) (l : Bool) → 2000 ≤ y → y ≤ 2099 → 1 ≤ m → m ≤ 12 → 1 ≤ d → l ≡ is_leap (2000 + (y - 2000))
    → e ≡ month_days l m → d ≤ e → a ≡ days_before_year (2000 + (y - 2000)) → b ≡ days_before_month l m
    → ◌≡◌ {A = DayAnswer} (record { refusal = 0; day = a + b + (d - 1) }) (day_call y m d)
unfolding day_call day_number
day_answer y m d e a b l y₁ y₂ m₁ m₂ d₁ f g d₂ h k =
    let f' : l ≡ is_leap y = f ∙ ap is_leap (back y y₁) in
    let g' : e ≡ month_days (is_leap y) m = subst (λ (x : Bool). e ≡ month_days x m) f' g in
    let h' : a ≡ days_before_year y = h ∙ ap days_before_year (back y y₁) in
    let k' : b ≡ days_before_month (is_leap y) m = subst (λ (x : Bool). b ≡ days_before_month x m) f' k in
    let r : Real y m d = record { year_least = y₁; year_most = y₂; month_least = m₁; month_most = m₂; day_least = d₁; day_most = omega arith } in
    rw (is_true (is_date (date y m d)) (unreal y m d r)) (ap day_given (let z : a + b + (d - 1) ≡ days_before_year y + days_before_month (is_leap y) m + (d - 1) = omega arith in z))
