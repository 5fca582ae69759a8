-- The laws that specs/DateLaws.antt states. Assumes nothing.
use Prim.Native.Nat.{ℕ, ◌≤◌, ◌<◌}
use mathlib.Core.Path.{◌≡◌, refl, subst}
use mathlib.Core.Bool.{Bool, true, false, ◌&&◌, ◌||◌}
use native.Mathlib.Omega.{arith}
use native.Mathlib.Decide.{dec_lt}
use lib.Dec.{T, ltb, eqb, ltb→lt, eqb→eq}
use Rattle.model.proofs.Tests.{and_fst, and_snd}
use Rattle.model.specs.Lists.{sum_of, up_from}
use Rattle.model.specs.Calendar.{date, days_before_month, days_before_year, day_number, date_of}
use Rattle.model.specs.SettlementTerms.{Half, early, late, term, term_at, term_of}
use Rattle.dates.specs.Months.{is_earlier, days_in}
use Rattle.dates.specs.DateLaws.{ExactEachWay, NumbersRise, OneTerm, TermSize, NoGap}
use Rattle.dates.proofs.Dates.{Real, real, unreal, day_most, reached, the_date, year_le, month_le, day_le}
use Rattle.dates.proofs.TermLaws.{month_begins, is_month_lem, Begins, begins, Held, held, is_in_lem, in_held, only, next_starts, ends}

pub exact_each_way : ExactEachWay
exact_each_way = record {
  a_date = λ n h. unreal _ _ _ (reached n h).exists;
  same_day = λ n h. (reached n h).number;
  a_day = λ t h. day_most t.year t.month t.day (real t.year t.month t.day h);
  same-date = λ t h. the_date (day_number t) t.year t.month t.day (real t.year t.month t.day h) refl;
}

-- one of two tests
either : {C : Type 0} (a b : Bool) → T (a || b) → (T a → C) → (T b → C) → C
either true b t f g = f tt
either false b t f g = g t

in_month : (y m d d' : ℕ) → Real y m d → Real y m d' → d < d' → day_number (date y m d) < day_number (date y m d')
in_month y m d d' r s h = go (dec_lt (day_number (date y m d)) (day_number (date y m d')))
  where
    go : Dec (day_number (date y m d) < day_number (date y m d')) → day_number (date y m d) < day_number (date y m d')
    go (yes k) = k
    go (no k) = let z : ⊥ = omega (arith, day_le y m d' d s r (omega arith)) in absurd z

in_year : (y m d m' d' : ℕ) → Real y m d → Real y m' d' → T (ltb m m' || (eqb m m' && ltb d d')) → day_number (date y m d) < day_number (date y m' d')
in_year y m d m' d' r s t = go (dec_lt (day_number (date y m d)) (day_number (date y m' d')))
  where
    go : Dec (day_number (date y m d) < day_number (date y m' d')) → day_number (date y m d) < day_number (date y m' d')
    go (yes k) = k
    go (no k) =
        either (ltb m m') (eqb m m' && ltb d d') t
        (λ u. let z : ⊥ = omega (arith, ltb→lt m m' u, month_le y m' d' m d s r (omega arith)) in absurd z)
        (λ u. subst (λ (i : ℕ). Real y i d' → day_number (date y m d) < day_number (date y i d'))
        (eqb→eq m m' (and_fst (eqb m m') (ltb d d') u))
        (λ s'. in_month y m d d' r s' (ltb→lt d d' (and_snd (eqb m m') (ltb d d') u))) s)

rise : (y m d y' m' d' : ℕ) → Real y m d → Real y' m' d' → T (ltb y y' || (eqb y y' && (ltb m m' || (eqb m m' && ltb d d')))) → day_number (date y m d) < day_number (date y' m' d')
rise y m d y' m' d' r s t = go (dec_lt (day_number (date y m d)) (day_number (date y' m' d')))
  where
    go : Dec (day_number (date y m d) < day_number (date y' m' d')) → day_number (date y m d) < day_number (date y' m' d')
    go (yes k) = k
    go (no k) =
        either (ltb y y') (eqb y y' && (ltb m m' || (eqb m m' && ltb d d'))) t
        (λ u. let z : ⊥ = omega (arith, ltb→lt y y' u, year_le y' m' d' y m d s r (omega arith)) in absurd z)
        (λ u. subst (λ (i : ℕ). Real i m' d' → day_number (date y m d) < day_number (date i m' d'))
        (eqb→eq y y' (and_fst (eqb y y') (ltb m m' || (eqb m m' && ltb d d')) u))
        (λ s'. in_year y m d m' d' r s' (and_snd (eqb y y') (ltb m m' || (eqb m m' && ltb d d')) u)) s)

pub numbers_rise : NumbersRise
unfolding is_earlier
numbers_rise s t h k e = rise s.year s.month s.day t.year t.month t.day (real _ _ _ h) (real _ _ _ k) e

pub one_term : OneTerm
unfolding term_of
one_term = record {
  a_month = λ n h. is_month_lem _ _ _ (reached n h).exists;
  lies_in = λ n h. let f = reached n h in is_in_lem (term_of n) n (subst (λ (i : ℕ). Held (term_of n) i) f.number (held (date_of n).year (date_of n).month (date_of n).day f.exists));
  in_no_other = λ y m h n k t. only y m h n (month_begins y m k) (in_held (term y m h) n t);
}

pub term_size : TermSize
term_size = record { least = λ y m h k. least-of y m h (begins y m 1 (month_begins y m k)); most = λ y m h k. most_of y m h (begins y m 1 (month_begins y m k)) }
  where
    least-of : (y m : ℕ) (h : Half) → Begins y m → 13 ≤ days_in (term y m h)
    least-of y m early b = omega arith
    least-of y m late b = omega arith

    most_of : (y m : ℕ) (h : Half) → Begins y m → days_in (term y m h) ≤ 16
    most_of y m early b = omega arith
    most_of y m late b = omega arith

-- 1 January 2000
first_term : (term_of 0).first ≡ 0
unfolding term_of term_at term date_of day_number days_before_year days_before_month sum_of up_from
first_term = refl

pub no_gap : NoGap
unfolding term_of
no_gap = record {
  starts = first_term;
  goes_on = λ n h k. next_starts (date_of n).year (date_of n).month (date_of n).day (reached n h).exists k;
  ends = λ n h. ends (date_of n).year (date_of n).month (date_of n).day (reached n h).exists;
}
