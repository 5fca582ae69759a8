-- A number's digits: how many there are, and that they are written from the last one to the left. Assumes nothing.
use Prim.Native.Nat.{ℕ, zero, suc, ◌+◌, ◌-◌, ◌*◌, ◌/◌, ◌≤◌, ◌<◌}
use mathlib.Core.Path.{◌≡◌, refl, sym, ap, ◌∙◌}
use mathlib.Core.Bool.{Bool, true, false, cond}
use mathlib.Core.List.{List, [], ◌∷◌, ◌++◌}
use native.Mathlib.Omega.{arith}
use borrow.Author.Tests.{le-leb, lt-leb, eqb-true, eqb-false}
use lib.Dec.{leb, eqb, leb→le, le→leb}
use lib.ListN.{length, get_or, drop, length-append, drop_of_length-le}
use Rattle.model.specs.Bounds.{most_slots}
use Rattle.model.specs.Lists.{sum_of}
use Rattle.model.specs.Fields.{last_digit}
use Rattle.model.specs.Weighbridge.{digits, plain_number}
use Rattle.model.proofs.Tests.{same_test}
use Rattle.model.proofs.ListLaws.{drop_next}
use Rattle.csv_lines.specs.Writing.{CountIs, reached, digit_count}

-- Bounds reached.

pub reaches_it : (b n : ℕ) → b ≤ n → CountIs 1 (reached b n) 1
unfolding reached
reaches_it b n h = record { is = sym (rw (le-leb b n h)); few = omega arith }

pub stays_below : (b n : ℕ) → n < b → CountIs 0 (reached b n) 1
unfolding reached
stays_below b n h = record { is = sym (rw (lt-leb b n h)); few = omega arith }

-- a tenth reaches a bound just if the number reaches ten times it
reached_tenth : (b n : ℕ) → reached b (n / 10) ≡ reached (b * 10) n
unfolding reached
reached_tenth b n =
    ap (λ (t : Bool). cond t 1 0)
    (same_test (leb b (n / 10)) (leb (b * 10) n)
    (λ t. le→leb (b * 10) n (let h = leb→le b (n / 10) t in omega arith))
    (λ t. le→leb b (n / 10) (let h = leb→le (b * 10) n t in omega arith)))

-- how many of w bounds a number reaches, each ten times the one before
reached_of : ℕ → ℕ → ℕ → ℕ
reached_of zero b n = 0
reached_of (suc w) b n = reached b n + reached_of w (b * 10) n

reached_tenths : (w b n : ℕ) → reached_of w b (n / 10) ≡ reached_of w (b * 10) n
unfolding reached_of
reached_tenths zero b n = refl
reached_tenths (suc w) b n = omega (arith, reached_tenth b n, reached_tenths w (b * 10) n)

-- How many digits there are.

none_reached : (w b : ℕ) → 0 < b → reached_of w b 0 ≡ 0
unfolding reached_of
none_reached zero b h = refl
none_reached (suc w) b h = omega (arith, (stays_below b 0 h).is, none_reached w (b * 10) (omega arith))

length_digits : (w n : ℕ) → length (digits w n) ≡ reached_of w 1 n
unfolding digits reached_of
length_digits zero n = refl
length_digits (suc w) n = go (eqb n 0) refl (length_digits w (n / 10) ∙ reached_tenths w 1 n)
  where
    go : (b : Bool) → eqb n 0 ≡ b → length (digits w (n / 10)) ≡ reached_of w 10 n
        → length (cond b [] (digits w (n / 10) ++ last_digit n ∷ [])) ≡ reached 1 n + reached_of w 10 n
    go true e h = sym (ap (λ (k : ℕ). reached_of (suc w) 1 k) (eqb-true n 0 e) ∙ none_reached (suc w) 1 (omega arith))
    go false e h =
        let r : 1 ≡ reached 1 n = (reaches_it 1 n (omega (arith, eqb-false n 0 e))).is in
        omega (arith, length-append (digits w (n / 10)) (last_digit n ∷ []))

abbrev of_three : ℕ → ℕ → ℕ → ℕ → ℕ
of_three n a b c = reached a n + reached b n + reached c n

pub plain_length : (n a b c : ℕ) → CountIs a (of_three n 10 100 1000) 3 → CountIs b (of_three n 10000 100000 1000000) 3
    → CountIs c (of_three n 10000000 100000000 1000000000) 3
    → CountIs (1 + a + b + c) (length (plain_number n)) 10
unfolding plain_number reached_of
plain_length n a b c p q r =
    let d : length (digits 9 (n / 10)) ≡ reached_of 9 10 n = length_digits 9 (n / 10) ∙ reached_tenths 9 1 n in
    record { is = omega (arith, length-append (digits 9 (n / 10)) (last_digit n ∷ [])); few = omega arith }

-- Digits written from the last one to the left.

-- the last i digits of n
unfoldable pub last_digits : ℕ → ℕ → List ℕ
last_digits zero n = []
last_digits (suc i) n = last_digits i (n / 10) ++ last_digit n ∷ []

length_snoc : (l : List ℕ) (a : ℕ) → length (l ++ a ∷ []) ≡ suc (length l)
length_snoc l a = omega (arith, length-append l (a ∷ []))

digits_last : (w n : ℕ) → digits w n ≡ last_digits (length (digits w n)) n
unfolding digits last_digits
digits_last zero n = refl
digits_last (suc w) n = go (eqb n 0) (digits_last w (n / 10))
  where
    go : (b : Bool) → digits w (n / 10) ≡ last_digits (length (digits w (n / 10))) (n / 10)
        → cond b [] (digits w (n / 10) ++ last_digit n ∷ []) ≡ last_digits (length (cond b [] (digits w (n / 10) ++ last_digit n ∷ []))) n
    go true h = refl
    go false h = ap (λ (l : List ℕ). l ++ last_digit n ∷ []) h ∙ ap (λ (k : ℕ). last_digits k n) (sym (length_snoc (digits w (n / 10)) (last_digit n)))

-- a number's digits are its last ones, as many as there are
pub plain_last : (n : ℕ) → plain_number n ≡ last_digits (length (plain_number n)) n
unfolding plain_number last_digits
plain_last n =
    ap (λ (l : List ℕ). l ++ last_digit n ∷ []) (digits_last 9 (n / 10))
    ∙ ap (λ (k : ℕ). last_digits k n) (sym (length_snoc (digits 9 (n / 10)) (last_digit n)))

pub length_last : (i n : ℕ) → length (last_digits i n) ≡ i
unfolding last_digits
length_last zero n = refl
length_last (suc i) n = length_snoc (last_digits i (n / 10)) (last_digit n) ∙ ap suc (length_last i (n / 10))

pub last_none : (n : ℕ) → last_digits 0 n ≡ []
unfolding last_digits
last_none n = refl

pub last_next : (i n : ℕ) → 0 < i → last_digits i n ≡ last_digits (i - 1) (n / 10) ++ last_digit n ∷ []
unfolding last_digits
last_next zero n h = absurd (omega arith)
last_next (suc i) n h = let z : i ≡ suc i - 1 = omega arith in ap (λ (k : ℕ). last_digits k (n / 10) ++ last_digit n ∷ []) z

-- The digits of many numbers.

pub record Counted (s : List ℕ) (total i : ℕ) : Type 0 where
  pub left : i ≤ length s
  pub few : total ≤ 10 * i
  pub all : total + digit_count (drop i s) ≡ digit_count s

pub count_start : (s : List ℕ) → Counted s 0 0
count_start s = record { left = omega arith; few = omega arith; all = omega arith }

module _ {s : List ℕ} {total i : ℕ} (w : Counted s total i) where
  pub count_next : i < length s → {r : ℕ} → CountIs r (length (plain_number (get_or s i 0))) 10 → Counted s (total + r) (i + 1)
  unfolding digit_count sum_of
  count_next h p =
      let e : digit_count (drop i s) ≡ length (plain_number (get_or s i 0)) + digit_count (drop (i + 1) s) = ap digit_count (drop_next s i h) in
      record { left = omega arith; few = omega (arith, w.few, p.few); all = omega (arith, w.all, p.is, e) }

  pub count_end : length s ≤ i → length s ≤ most_slots → CountIs total (digit_count s) 2621440
  unfolding digit_count sum_of
  count_end h m =
      let e : digit_count (drop i s) ≡ 0 = ap digit_count (drop_of_length-le s h) in
      record { is = omega (arith, w.all); few = omega (arith, w.few) }
