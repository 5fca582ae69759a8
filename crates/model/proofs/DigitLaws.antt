-- Plain digits: what they spell, and that they are read as one field. Assumes nothing.
use Prim.Native.Nat.{ℕ, zero, suc, ◌/◌, ◌^◌, ◌≤◌, ◌<◌}
use mathlib.Core.Path.{◌≡◌, refl, sym, ap, ◌∙◌}
use mathlib.Core.Bool.{Bool, true, false, cond, ◌&&◌, ◌||◌}
use mathlib.Core.Option.{some}
use mathlib.Core.List.{List, [], ◌∷◌, ◌++◌}
use native.Mathlib.Omega.{arith}
use native.Mathlib.Nat.{pow-suc}
use borrow.Author.Tests.{le-leb, leb-true, ne_eqb, eqb-true}
use lib.Dec.{leb, eqb}
use lib.ListN.{length, length-append}
use Rattle.model.specs.Bounds.{most_number}
use Rattle.model.specs.Lists.{every, is_some}
use Rattle.model.specs.Fields.{taken, last_digit, spelled}
use Rattle.model.proofs.FieldLaws.{spelled-append, below_tenth}
use Rattle.model.specs.Csv.{comma, quote, carriage_return, ahead, after_end, behind, take_plain, take_field}
use Rattle.model.specs.Weighbridge.{is_digit, number_in, digits, plain_number}

-- a list of digits
pub data Digits : List ℕ → Type 0 where
  no_digit : Digits []
  digit_then : {b : ℕ} {ds : List ℕ} → 48 ≤ b → b ≤ 57 → Digits ds → Digits (b ∷ ds)

digits-joined : {a b : List ℕ} → Digits a → Digits b → Digits (a ++ b)
digits-joined no_digit r = r
digits-joined (digit_then l m d) r = digit_then l m (digits-joined d r)

last_digit_lem : (n : ℕ) → Digits (last_digit n ∷ [])
last_digit_lem n = digit_then {b = last_digit n} {ds = []} (omega arith) (omega arith) no_digit

digits_are : (w n : ℕ) → Digits (digits w n)
unfolding digits
digits_are zero n = no_digit
digits_are (suc w) n = go (eqb n 0) (digits_are w (n / 10))
  where
    go : (b : Bool) → Digits (digits w (n / 10)) → Digits (cond b [] (digits w (n / 10) ++ last_digit n ∷ []))
    go true d = no_digit
    go false d = digits-joined d (last_digit_lem n)

pub plain_digits : (n : ℕ) → Digits (plain_number n)
unfolding plain_number
plain_digits n = digits-joined (digits_are 9 (n / 10)) (last_digit_lem n)

pub plain_some : (n : ℕ) → 1 ≤ length (plain_number n)
unfolding plain_number
plain_some n = omega (arith, length-append (digits 9 (n / 10)) (last_digit n ∷ []))

digits_pass : {ds : List ℕ} → Digits ds → every is_digit ds ≡ true
unfolding every
digits_pass no_digit = refl
digits_pass (digit_then {b} l m d) = rw (le-leb 48 b l, le-leb b 57 m) (digits_pass d)

pub digits_of : (s : List ℕ) → every is_digit s ≡ true → Digits s
unfolding every
digits_of [] e = no_digit
digits_of (b ∷ s) e = go (leb 48 b) (leb b 57) refl refl e (digits_of s)
  where
    go : (x y : Bool) → leb 48 b ≡ x → leb b 57 ≡ y → x && y && every is_digit s ≡ true → (every is_digit s ≡ true → Digits s) → Digits (b ∷ s)
    go true true l m e more = digit_then (leb-true 48 b l) (leb-true b 57 m) (more e)
    go true false l m e more = let z : ◌≡◌ {A = ℕ} 0 1 = cc in absurd (omega arith)
    go false y l m e more = let z : ◌≡◌ {A = ℕ} 0 1 = cc in absurd (omega arith)

spelled-digits : (w n : ℕ) → n < 10 ^ w → spelled 0 (digits w n) ≡ n
unfolding digits spelled
spelled-digits zero n h = omega arith
spelled-digits (suc w) n h = go (eqb n 0) refl (spelled-digits w (n / 10) (below_tenth n (10 ^ w) (omega (arith, pow-suc 10 w))))
  where
    go : (b : Bool) → eqb n 0 ≡ b → spelled 0 (digits w (n / 10)) ≡ n / 10 → spelled 0 (cond b [] (digits w (n / 10) ++ last_digit n ∷ [])) ≡ n
    go true e s = sym (eqb-true n 0 e)
    go false e s = spelled-append 0 (digits w (n / 10)) (last_digit n ∷ []) ∙ omega (arith, s)

pub spelled_plain : (n : ℕ) → n ≤ most_number → spelled 0 (plain_number n) ≡ n
unfolding plain_number spelled
spelled_plain n h =
    let s : spelled 0 (digits 9 (n / 10)) ≡ n / 10 = spelled-digits 9 (n / 10) (omega arith) in
    spelled-append 0 (digits 9 (n / 10)) (last_digit n ∷ []) ∙ omega (arith, s)

-- a number's digits are read as that number
pub number_read : (most n : ℕ) → n ≤ most → n ≤ most_number → number_in most (plain_number n) ≡ some n
unfolding number_in
number_read most n h k =
    rw (le-leb 1 (length (plain_number n)) (plain_some n), digits_pass (plain_digits n), spelled_plain n k, le-leb n most h)

-- No digit ends a field.

goes_on : (b : ℕ) (t : List ℕ) → 48 ≤ b → b ≤ 57 → eqb b quote || is_some (behind (b ∷ t)) ≡ false
unfolding behind after_end
goes_on b t l m = rw (ne_eqb b quote (λ e. omega arith), ne_eqb b comma (λ e. omega arith), ne_eqb b carriage_return (λ e. omega arith), ne_eqb b 10 (λ e. omega arith))

plain_read : {ds : List ℕ} (r : List ℕ) → Digits ds → take_plain r ≡ taken [] r → take_plain (ds ++ r) ≡ taken ds r
unfolding take_plain
plain_read r no_digit e = e
plain_read r (digit_then {b} {ds} l m d) e = rw (goes_on b (ds ++ r) l m) (ap (ahead b) (plain_read r d e))

pub field_read : {ds : List ℕ} (r : List ℕ) → Digits ds → 1 ≤ length ds → take_plain r ≡ taken [] r → take_field (ds ++ r) ≡ some (taken ds r)
unfolding take_field
field_read r no_digit h e = absurd (omega arith)
field_read r (digit_then {b} {ds} l m d) h e = rw (ne_eqb b quote (λ e. omega arith)) (ap some (plain_read r (digit_then l m d) e))
