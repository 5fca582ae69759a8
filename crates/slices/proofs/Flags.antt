-- Loops that keep a flag: every number of a slice, or every two neighbours, pass a test. Assumes nothing.
use Prim.Native.Nat.{ℕ, zero, suc, ◌+◌, ◌-◌, ◌≤◌, ◌<◌}
use mathlib.Core.Path.{◌≡◌, refl, sym, ap, ◌∙◌}
use mathlib.Core.Bool.{Bool, true, false, ◌&&◌, and-true, and-false}
use mathlib.Core.List.{List, [], ◌∷◌}
use native.Mathlib.Omega.{arith}
use borrow.Author.Tests.{eq-eqb, ne_eqb}
use lib.Dec.{leb, ltb, eqb}
use lib.Bits.{bit_or, or_add_and, and_le_l, and_le_r}
use lib.ListN.{length, get_or, drop, drop_of_length-le}
use Rattle.model.specs.Lists.{every, rising, never_falls}
use Rattle.slices.specs.Slices.{chain}
use Rattle.model.proofs.Tests.{pairs_swap}
use Rattle.model.proofs.ListLaws.{drop_next}

pub and_both : (a b c : Bool) → (a && b) && c ≡ a && (b && c)
and_both true b c = refl
and_both false b c = refl

-- what the flag knows at i: so far, and the rest, is the whole
pub record Flagged (f : ℕ → Bool) (s : List ℕ) (good : Bool) (i : ℕ) : Type 0 where
  pub at : i ≤ length s
  pub so_far : good && every f (drop i s) ≡ every f s

pub flag_start : (f : ℕ → Bool) (s : List ℕ) → Flagged f s true 0
flag_start f s = record { at = omega arith; so_far = refl }

module _ (f : ℕ → Bool) (s : List ℕ) (good : Bool) (i : ℕ) (h : i < length s) (w : Flagged f s good i) where
  next : (b : Bool) → f (get_or s i 0) ≡ b → every f (drop i s) ≡ b && every f (drop (i + 1) s)
  unfolding every
  next b e = rw (drop_next s i h, e)

  pub flag_good : f (get_or s i 0) ≡ true → Flagged f s good (i + 1)
  flag_good e = record { at = omega arith; so_far = ap (λ (b : Bool). good && b) (sym (next true e)) ∙ w.so_far }

  pub flag_bad : f (get_or s i 0) ≡ false → Flagged f s false (i + 1)
  flag_bad e = record { at = omega arith; so_far = sym (and-false good) ∙ ap (λ (b : Bool). good && b) (sym (next false e)) ∙ w.so_far }

  -- a turn of a loop that keeps the flag with the test of its number
  pub flag_next : Flagged f s (good && f (get_or s i 0)) (i + 1)
  flag_next =
      let b = f (get_or s i 0) in
      record { at = omega arith; so_far = and_both good b (every f (drop (i + 1) s)) ∙ ap (λ (b : Bool). good && b) (sym (next b refl)) ∙ w.so_far }

pub flag_end : (f : ℕ → Bool) (s : List ℕ) (good : Bool) (i : ℕ) → length s ≤ i → Flagged f s good i → good ≡ every f s
unfolding every
flag_end f s good i h w = sym (and-true good) ∙ ap (λ (l : List ℕ). good && every f l) (sym (drop_of_length-le s h)) ∙ w.so_far

-- Neighbours.

pub chain_rising : (l : List ℕ) → chain ltb l ≡ rising l
unfolding chain rising
chain_rising [] = refl
chain_rising (a ∷ []) = refl
chain_rising (a ∷ b ∷ l) = ap (λ (t : Bool). ltb a b && t) (chain_rising (b ∷ l))

pub chain_falls : (l : List ℕ) → chain leb l ≡ never_falls l
unfolding chain never_falls
chain_falls [] = refl
chain_falls (a ∷ []) = refl
chain_falls (a ∷ b ∷ l) = ap (λ (t : Bool). leb a b && t) (chain_falls (b ∷ l))

pub record Chained (r : ℕ → ℕ → Bool) (s : List ℕ) (good : Bool) (i : ℕ) : Type 0 where
  pub at : i ≤ length s
  pub so_far : good && chain r (drop i s) ≡ chain r s

pub chain_start : (r : ℕ → ℕ → Bool) (s : List ℕ) → Chained r s true 0
chain_start r s = record { at = omega arith; so_far = refl }

two_of : (r : ℕ → ℕ → Bool) (x y : ℕ) (l t : List ℕ) → l ≡ y ∷ t → chain r (x ∷ l) ≡ r x y && chain r l
unfolding chain
two_of r x y l t e = rw e

module _ (r : ℕ → ℕ → Bool) (s : List ℕ) (good : Bool) (i : ℕ) (h : i + 1 < length s) (w : Chained r s good i) where
  two : (b : Bool) → r (get_or s i 0) (get_or s (i + 1) 0) ≡ b → chain r (drop i s) ≡ b && chain r (drop (i + 1) s)
  two b e =
      ap (chain r) (drop_next s i (omega arith))
      ∙ two_of r (get_or s i 0) (get_or s (i + 1) 0) (drop (i + 1) s) (drop (i + 1 + 1) s) (drop_next s (i + 1) h)
      ∙ ap (λ (t : Bool). t && chain r (drop (i + 1) s)) e

  pub chain_next : Chained r s (good && r (get_or s i 0) (get_or s (i + 1) 0)) (i + 1)
  chain_next =
      let b = r (get_or s i 0) (get_or s (i + 1) 0) in
      record { at = omega arith; so_far = and_both good b (chain r (drop (i + 1) s)) ∙ ap (λ (b : Bool). good && b) (sym (two b refl)) ∙ w.so_far }

-- a turn of a loop at i from 1 on, which tests a number and the one before it
pub chain_turn : (r : ℕ → ℕ → Bool) (s : List ℕ) (good : Bool) (i : ℕ) → 1 ≤ i → i < length s → Chained r s good (i - 1)
    → (t : Bool) → t ≡ r (get_or s (i - 1) 0) (get_or s i 0) → Chained r s (good && t) (i + 1 - 1)
chain_turn r s good i o h w t e =
    let a : i - 1 + 1 ≡ i = omega arith in
    let b : i + 1 - 1 ≡ i = omega arith in
    rw (b, e) (rw a at (chain_next r s good (i - 1) (omega arith) w))

short : (r : ℕ → ℕ → Bool) (s : List ℕ) (i : ℕ) → length s ≤ i + 1 → chain r (drop i s) ≡ true
unfolding chain
short r [] zero h = refl
short r [] (suc i) h = refl
short r (x ∷ []) zero h = refl
short r (x ∷ y ∷ s) zero h = absurd (omega arith)
short r (x ∷ s) (suc i) h = short r s i (omega arith)

pub chain_end : (r : ℕ → ℕ → Bool) (s : List ℕ) (good : Bool) (i : ℕ) → length s ≤ i + 1 → Chained r s good i → good ≡ chain r s
chain_end r s good i h w = sym (and-true good) ∙ ap (λ (b : Bool). good && b) (sym (short r s i h)) ∙ w.so_far

-- two slices at once
pub record BothZero (s u : List ℕ) (good : Bool) (i : ℕ) : Type 0 where
  pub at : i ≤ length s
  pub so_far : good && (every (eqb 0) (drop i s) && every (eqb 0) (drop i u)) ≡ every (eqb 0) s && every (eqb 0) u

pub both_start : (s u : List ℕ) → BothZero s u true 0
both_start s u = record { at = omega arith; so_far = refl }

module _ (s u : List ℕ) (good : Bool) (i : ℕ) (h : i < length s) (k : length u ≡ length s) (w : BothZero s u good i) where
  next_two : every (eqb 0) (drop i s) && every (eqb 0) (drop i u) ≡ eqb 0 (get_or s i 0) && eqb 0 (get_or u i 0) && (every (eqb 0) (drop (i + 1) s) && every (eqb 0) (drop (i + 1) u))
  unfolding every
  next_two = rw (drop_next s i h, drop_next u i (omega arith)) (pairs_swap (eqb 0 (get_or s i 0)) (every (eqb 0) (drop (i + 1) s)) (eqb 0 (get_or u i 0)) (every (eqb 0) (drop (i + 1) u)))

  -- both are 0 where the bits of both are
  or_zero : (a b : ℕ) → eqb (bit_or a b) 0 ≡ eqb 0 a && eqb 0 b
  or_zero zero zero = rw (eq-eqb (bit_or 0 0) 0 (omega (arith, or_add_and 0 0)), eq-eqb 0 0 refl)
  or_zero zero (suc b) = rw (ne_eqb (bit_or 0 (suc b)) 0 (λ e. omega (arith, or_add_and 0 (suc b), and_le_l 0 (suc b))), ne_eqb 0 (suc b) (λ e. omega arith)) (sym (and-false (eqb 0 0)))
  or_zero (suc a) b = rw (ne_eqb (bit_or (suc a) b) 0 (λ e. omega (arith, or_add_and (suc a) b, and_le_r (suc a) b)), ne_eqb 0 (suc a) (λ e. omega arith))

  pub both_next : BothZero s u (good && eqb (bit_or (get_or s i 0) (get_or u i 0)) 0) (i + 1)
  both_next =
      let a = get_or s i 0 in
      let b = get_or u i 0 in
      let rest = every (eqb 0) (drop (i + 1) s) && every (eqb 0) (drop (i + 1) u) in
      record {
        at = omega arith;
        so_far = ap (λ (t : Bool). (good && t) && rest) (or_zero a b) ∙ and_both good (eqb 0 a && eqb 0 b) rest ∙ ap (λ (t : Bool). good && t) (sym next_two) ∙ w.so_far;
      }

pub both_end : (s u : List ℕ) (good : Bool) (i : ℕ) → length s ≤ i → length u ≡ length s → BothZero s u good i → good ≡ every (eqb 0) s && every (eqb 0) u
unfolding every
both_end s u good i h k w =
    let e : every (eqb 0) (drop i s) && every (eqb 0) (drop i u) ≡ true = rw (drop_of_length-le s h, drop_of_length-le u {i = i} (omega arith)) in
    sym (and-true good) ∙ ap (λ (b : Bool). good && b) (sym e) ∙ w.so_far
