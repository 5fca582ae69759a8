-- Tests one after the other, and lists of checks answered by the first "no". Assumes nothing.
use Prim.Native.Nat.{ℕ, zero, suc, ◌≤◌, ◌<◌}
use mathlib.Core.Path.{◌≡◌, refl, sym, ap, ◌∙◌}
use mathlib.Core.Bool.{Bool, true, false, cond, ◌&&◌}
use mathlib.Core.List.{List, [], ◌∷◌, ◌++◌, map}
use borrow.Author.Tests.{lt-leb, le-leb, ne_eqb}
use native.Mathlib.Omega.{arith}
use native.Mathlib.Decide.{ℕ_discrete}
use lib.Dec.{T, leb, eqb, leb→le}
use Rattle.model.specs.Lists.{every}
use Rattle.model.specs.Checks.{Check, ask, first_failed}
use Rattle.model.specs.declared.Delivery.{Delivery}
use Rattle.model.specs.Deliveries.{day_of, Slices, rows, Even, in_range, day_ok, no_day}
use Rattle.model.proofs.Tests.{and_fst, and_snd}
use Rattle.model.proofs.Deliveries.{slices_for_lem, values_rows, days_rows}
use Rattle.slices.specs.Slices.{all_within}
use Rattle.checks.specs.Values.{all_values_ok, all_days_ok, all_undated}

pub and_no : (a b : Bool) → a ≡ false → false ≡ a && b
and_no a b e = rw e

pub and_yes : (a b : Bool) → a ≡ true → b ≡ a && b
and_yes a b e = rw e

-- lo to hi
pub below : (lo x hi : ℕ) → x < lo → false ≡ leb lo x && leb x hi
below lo x hi h = and_no (leb lo x) (leb x hi) (lt-leb lo x h)

pub up_to : (lo x hi : ℕ) → lo ≤ x → leb x hi ≡ leb lo x && leb x hi
up_to lo x hi h = and_yes (leb lo x) (leb x hi) (le-leb lo x h)

-- the first "no" answers
pub fails : (n : ℕ) (b : Bool) (cs : List Check) → b ≡ false → n ≡ first_failed (ask n b ∷ cs)
unfolding first_failed
fails n b cs e = rw e

pub passes : (n m : ℕ) (b : Bool) (cs : List Check) → b ≡ true → m ≡ first_failed cs → m ≡ first_failed (ask n b ∷ cs)
unfolding first_failed
passes n m b cs e h = rw e h

pub none_failed : 0 ≡ first_failed []
unfolding first_failed
none_failed = refl

-- a list of checks that begins with one that fails
pub failed_first : (as' bs : List Check) → (first_failed as' ≡ 0 → ⊥) → first_failed as' ≡ first_failed (as' ++ bs)
unfolding first_failed
failed_first [] bs h = absurd (h refl)
failed_first (c ∷ cs) bs h = go c.holds refl h (failed_first cs bs)
  where
    go : (b : Bool) → c.holds ≡ b → (cond b (first_failed cs) c.number ≡ 0 → ⊥) → ((first_failed cs ≡ 0 → ⊥) → first_failed cs ≡ first_failed (cs ++ bs))
        → cond b (first_failed cs) c.number ≡ cond b (first_failed (cs ++ bs)) c.number
    go true e n ih = ih n
    go false e n ih = refl

-- A list of checks that begins with a list that passes. No check has the number 0.

unfoldable pub numbered : List Check → Bool
numbered [] = true
numbered (c ∷ cs) = leb 1 c.number && numbered cs

pub passed_first : (as' bs : List Check) → T (numbered as') → first_failed as' ≡ 0 → first_failed (as' ++ bs) ≡ first_failed bs
unfolding first_failed numbered
passed_first [] bs n h = refl
passed_first (c ∷ cs) bs n h = go c.holds h (passed_first cs bs (and_snd (leb 1 c.number) (numbered cs) n))
  where
    go : (b : Bool) → cond b (first_failed cs) c.number ≡ 0 → (first_failed cs ≡ 0 → first_failed (cs ++ bs) ≡ first_failed bs)
        → cond b (first_failed (cs ++ bs)) c.number ≡ first_failed bs
    go true z ih = ih z
    go false z ih = absurd (omega (arith, leb→le 1 c.number (and_fst (leb 1 c.number) (numbered cs) n)))

pub passed_both : (as' bs : List Check) → T (numbered as') → first_failed (as' ++ bs) ≡ 0 → (first_failed as' ≡ 0) × (first_failed bs ≡ 0)
passed_both as' bs n h = go (ℕ_discrete (first_failed as') 0)
  where
    go : Dec (first_failed as' ≡ 0) → (first_failed as' ≡ 0) × (first_failed bs ≡ 0)
    go (yes e) = (e, sym (passed_first as' bs n e) ∙ h)
    go (no f) = absurd (f (failed_first as' bs f ∙ h))

-- Check 8: the rows are tested by their weights and their yields; check 19: by their days.

pub every-rows : (s : Slices) → Even s → all_values_ok s.weights s.yields ≡ every in_range (rows s)
every-rows s e = sym (values_rows s e)

pub every_day_rows : (s : Slices) → Even s → all_days_ok s.days ≡ every day_ok (rows s)
every_day_rows s e = sym (days_rows s e)

undated_for : (l : List Delivery) → all_undated (map day_of l) ≡ every no_day l
unfolding every
undated_for [] = refl
undated_for (d ∷ l) = ap (λ (t : Bool). no_day d && t) (undated_for l)

pub every-undated-rows : (s : Slices) → Even s → all_undated s.days ≡ every no_day (rows s)
every-undated-rows s e = ap (λ (t : Slices). all_undated t.days) (sym (slices_for_lem s e)) ∙ undated_for (rows s)

-- a number is 0 just if it is at most 0
pub at_most_zero : (s : List ℕ) → all_within 0 s ≡ all_undated s
unfolding every
at_most_zero [] = refl
at_most_zero (x ∷ s) = ap (λ (t : Bool). leb x 0 && t) (at_most_zero s) ∙ ap (λ (b : Bool). b && all_undated s) (go x)
  where
    go : (n : ℕ) → leb n 0 ≡ eqb n 0
    go zero = refl
    go (suc n) = lt-leb (suc n) 0 (omega arith) ∙ sym (ne_eqb (suc n) 0 (λ e. omega (arith, e)))
