-- A number's field: its length, what it spells, and that writing and reading agree. Assumes nothing.
use Prim.Native.Nat.{ℕ, zero, suc, ◌+◌, ◌-◌, ◌*◌, ◌/◌, ◌^◌, ◌≤◌, ◌<◌}
use mathlib.Core.Path.{◌≡◌, refl, sym, ap, ap₂, ◌∙◌, subst}
use mathlib.Core.Bool.{Bool, true, false, cond, ◌&&◌}
use mathlib.Core.Option.{some}
use mathlib.Core.List.{List, [], ◌∷◌, ◌++◌}
use native.Mathlib.Omega.{arith}
use native.Mathlib.Nat.{pow-suc}
use lib.Dec.{T, leb, eqb, le→leb, leb→le, eqb→eq, eqb_refl}
use lib.ListN.{length, replicate, length-append, length-replicate}
use lib.IntN.{ℤ, pos, negsuc}
use Rattle.model.specs.Bounds.{most_number}
use Rattle.model.specs.Lists.{same_list, only_if}
use Rattle.model.specs.Fields.{blank, minus, last_digit, leading, justified, number_field, signed_field, spelled, read_field}
use Rattle.model.proofs.Tests.{and_fst, and_snd, is_true}

-- Lists that are the same.

pub same_self : (l : List ℕ) → same_list l l ≡ true
unfolding same_list
same_self [] = refl
same_self (a ∷ l) = rw (is_true (eqb a a) (eqb_refl a)) (same_self l)

pub same_eq : (a b : List ℕ) → T (same_list a b) → a ≡ b
unfolding same_list
same_eq [] [] t = refl
same_eq [] (b ∷ bs) t = absurd t
same_eq (a ∷ as') [] t = absurd t
same_eq (a ∷ as') (b ∷ bs) t = ap₂ (λ (x : ℕ) (y : List ℕ). x ∷ y) (eqb→eq a b (and_fst (eqb a b) (same_list as' bs) t)) (same_eq as' bs (and_snd (eqb a b) (same_list as' bs) t))

-- Lengths.

pub length-leading : (sign w n : ℕ) → length (leading sign w n) ≡ w
unfolding leading
length-leading sign zero n = refl
length-leading sign (suc w) n = go (eqb n 0) (length-leading sign w (n / 10))
  where
    go : (b : Bool) → length (leading sign w (n / 10)) ≡ w → length (cond b (replicate w blank ++ sign ∷ []) (leading sign w (n / 10) ++ last_digit n ∷ [])) ≡ suc w
    go true h = omega (arith, length-append (replicate w blank) (sign ∷ []), length-replicate w blank)
    go false h = omega (arith, length-append (leading sign w (n / 10)) (last_digit n ∷ []))

pub length-justified : (sign w n : ℕ) → 1 ≤ w → length (justified sign w n) ≡ w
unfolding justified
length-justified sign w n h = omega (arith, length-append (leading sign (w - 1) (n / 10)) (last_digit n ∷ []), length-leading sign (w - 1) (n / 10))

pub length-number : (n : ℕ) → length (number_field n) ≡ 11
length-number n = length-justified blank 11 n (omega arith)

pub length_signed : (z : ℤ) → length (signed_field z) ≡ 20
unfolding signed_field
length_signed (pos n) = length-justified blank 20 n (omega arith)
length_signed (negsuc n) = length-justified minus 20 (suc n) (omega arith)

-- What a field spells.

pub spelled-append : (v : ℕ) (a b : List ℕ) → spelled v (a ++ b) ≡ spelled (spelled v a) b
unfolding spelled
spelled-append v [] b = refl
spelled-append v (x ∷ a) b = spelled-append (v * 10 + (x - 48)) a b

pub spelled_blanks : (w : ℕ) → spelled 0 (replicate w blank) ≡ 0
unfolding spelled
spelled_blanks zero = refl
spelled_blanks (suc w) = spelled_blanks w

pub below_tenth : (n p : ℕ) → n < p * 10 → n / 10 < p
below_tenth n p h = omega arith

-- the leading columns of n spell n
pub spelled-leading : (w n : ℕ) → n < 10 ^ w → spelled 0 (leading blank w n) ≡ n
unfolding leading spelled
spelled-leading zero n h = omega arith
spelled-leading (suc w) n h = go (eqb n 0) refl (spelled-leading w (n / 10) (below_tenth n (10 ^ w) (omega (arith, pow-suc 10 w))))
  where
    go : (b : Bool) → eqb n 0 ≡ b → spelled 0 (leading blank w (n / 10)) ≡ n / 10 → spelled 0 (cond b (replicate w blank ++ blank ∷ []) (leading blank w (n / 10) ++ last_digit n ∷ [])) ≡ n
    go true e s =
        let z : n ≡ 0 = eqb→eq n 0 (subst T (sym e) tt) in
        spelled-append 0 (replicate w blank) (blank ∷ []) ∙ ap (λ (v : ℕ). v * 10 + 0) (spelled_blanks w) ∙ sym z
    go false e s =
        spelled-append 0 (leading blank w (n / 10)) (last_digit n ∷ []) ∙ omega (arith, s)

pub spelled-justified : (n : ℕ) → n < 10 ^ 11 → spelled 0 (number_field n) ≡ n
unfolding justified spelled
spelled-justified n h =
    let s : spelled 0 (leading blank 10 (n / 10)) ≡ n / 10 = spelled-leading 10 (n / 10) (below_tenth n (10 ^ 10) (omega arith)) in
    spelled-append 0 (leading blank 10 (n / 10)) (last_digit n ∷ []) ∙ omega (arith, s)

-- Writing and reading agree.

-- a number's field is read as that number
pub read_number : (n : ℕ) → n ≤ most_number → read_field (number_field n) ≡ some n
unfolding read_field
read_number n h =
    rw (spelled-justified n (omega arith), same_self (number_field n), is_true (leb n most_number) (le→leb n most_number h))

-- what is read as a number is that number's field
pub record IsField (bs : List ℕ) (n : ℕ) : Type 0 where
  pub field : number_field n ≡ bs
  pub most : n ≤ most_number

pub field_read : (bs : List ℕ) (n : ℕ) → read_field bs ≡ some n → IsField bs n
unfolding read_field
field_read bs n e = go (same_list (number_field (spelled 0 bs)) bs) (leb (spelled 0 bs) most_number) refl refl e
  where
    go : (a b : Bool) → same_list (number_field (spelled 0 bs)) bs ≡ a → leb (spelled 0 bs) most_number ≡ b → only_if (a && b) (spelled 0 bs) ≡ some n → IsField bs n
    go true true p q r =
        let s : spelled 0 bs ≡ n = cc in
        record { field = ap number_field (sym s) ∙ same_eq (number_field (spelled 0 bs)) bs (subst T (sym p) tt); most = rw s at (leb→le (spelled 0 bs) most_number (subst T (sym q) tt)) }
    go true false p q r = let z : ◌≡◌ {A = ℕ} 0 1 = cc in absurd (omega arith)
    go false b p q r = let z : ◌≡◌ {A = ℕ} 0 1 = cc in absurd (omega arith)
