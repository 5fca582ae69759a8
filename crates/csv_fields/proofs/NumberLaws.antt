-- Digits from a byte on, and the number that they spell. Assumes nothing.
use Rattle.std.proofs.Common.{◌≡◌, ℕ, zero, suc, ◌+◌, ◌-◌, ◌*◌, ◌^◌, ◌<◌, ◌≤◌, Bool, true, false, ◌&&◌, leb, List, [], ◌∷◌, ◌++◌, length, get_or, take, drop, sym}
use Rattle.std.proofs.Common.{refl, ap, ◌∙◌, subst, ap₂, pow-suc, add-one, arith, length-drop, take-append-drop, length-take-le, drop-drop, le-leb}
use Rattle.std.specs.Prelude.{Some, None}
use mathlib.Core.Option.{none, some}
use borrow.Author.Tests.{lt-leb}
use lib.Seq.{take-length}
use Rattle.model.specs.Bounds.{most_number}
use Rattle.model.specs.Lists.{every}
use Rattle.model.specs.Fields.{spelled}
use Rattle.model.specs.Weighbridge.{is_digit, number_in}
use Rattle.model.proofs.ListLaws.{every-joined}
use Rattle.model.proofs.FieldLaws.{spelled-append}
use Rattle.csv_fields.specs.Reading.{between, Spells, DigitsTo, DigitsAt, RunIs, ShortIs}
use Rattle.csv_fields.proofs.CursorLaws.{here_cons, between_none, between_next}

-- a text from a byte on is the bytes to another and the text from there
pub parted : (text : List ℕ) (at to : ℕ) → at ≤ to → drop at text ≡ between at to text ++ drop to text
parted text at to l =
    let e : at + (to - at) ≡ to = omega arith in
    sym (take-append-drop (to - at) (drop at text)) ∙ ap (λ (t : List ℕ). between at to text ++ t) (drop-drop (to - at) at text ∙ ap (λ (n : ℕ). drop n text) e)

-- Bytes that are no number.

number_none : (most : ℕ) (s : List ℕ) → leb 1 (length s) && every is_digit s && leb (spelled 0 s) most ≡ false → number_in most s ≡ none
unfolding number_in
number_none most s e = rw e

pub none_empty : (most : ℕ) (s : List ℕ) → length s ≡ 0 → number_in most s ≡ none
none_empty most s e = number_none most s (rw (lt-leb 1 (length s) (omega arith)))

pub none_other : (most : ℕ) (s : List ℕ) → every is_digit s ≡ false → number_in most s ≡ none
none_other most s e = number_none most s (rw e (go (leb 1 (length s)) (leb (spelled 0 s) most)))
  where
    go : (a b : Bool) → a && false && b ≡ false
    go true b = refl
    go false b = refl

none_large : (most : ℕ) (s : List ℕ) → most < spelled 0 s → number_in most s ≡ none
none_large most s l = number_none most s (rw (lt-leb (spelled 0 s) most l) (go (leb 1 (length s)) (every is_digit s)))
  where
    go : (a b : Bool) → a && b && false ≡ false
    go true true = refl
    go true false = refl
    go false b = refl

-- Digits, one more each time.

one_digit : (b : ℕ) → 48 ≤ b → b ≤ 57 → every is_digit (b ∷ []) ≡ true
unfolding every
one_digit b l m = rw (le-leb 48 b l, le-leb b 57 m)

other_first : (b : ℕ) (t : List ℕ) → is_digit b ≡ false → every is_digit (b ∷ t) ≡ false
unfolding every
other_first b t e = rw e

spelled_grows : (v : ℕ) (s : List ℕ) → v ≤ spelled v s
unfolding spelled
spelled_grows v [] = omega arith
spelled_grows v (b ∷ s) = omega (arith, spelled_grows (v * 10 + (b - 48)) s)

spelled-cons : (v b : ℕ) (t : List ℕ) → spelled v (b ∷ t) ≡ spelled (v * 10 + (b - 48)) t
unfolding spelled
spelled-cons v b t = refl

spelled_none : (v : ℕ) → spelled v [] ≡ v
unfolding spelled
spelled_none v = refl

no_digits : every is_digit [] ≡ true
unfolding every
no_digits = refl

spells_start : (text : List ℕ) (at : ℕ) → at ≤ length text → Spells text at 0 at
spells_start text at h = record {
  low = omega arith;
  high = h;
  digits = ap (every is_digit) (between_none text at) ∙ no_digits;
  value = ap (spelled 0) (between_none text at) ∙ spelled_none 0;
}

pub digits_start : (text : List ℕ) (at : ℕ) → at ≤ length text → DigitsTo text at 0 at
digits_start text at h = record { spells = spells_start text at h; small = omega arith }

spells_next : {text : List ℕ} {at v i n : ℕ} → Spells text at v i → i < length text → 48 ≤ get_or text i 0 → get_or text i 0 ≤ 57
    → n ≡ v * 10 + (get_or text i 0 - 48) → Spells text at n (i + 1)
spells_next {text} {at} {v} {i} p h l m s =
    let byte : ℕ = get_or text i 0 in
    let e = between_next text at i p.low h in
    record {
      low = omega (arith, p.low);
      high = omega arith;
      digits = ap (every is_digit) e ∙ every-joined is_digit (between at i text) (byte ∷ []) ∙ rw (p.digits, one_digit byte l m);
      value =
          ap (spelled 0) e
          ∙ spelled-append 0 (between at i text) (byte ∷ [])
          ∙ rw p.value (spelled-cons v byte [] ∙ spelled_none (v * 10 + (byte - 48)) ∙ sym s);
    }

module _ {text : List ℕ} {at v i : ℕ} (p : DigitsTo text at v i) where
  pub digits_low : get_or text i 0 < 48 → RunIs text at (Some (record { number = v; next = i }))
  digits_low l = record { is = record { passed = p; stops = λ h. rw (lt-leb 48 (get_or text i 0) l) } }

  pub digits_high : 57 < get_or text i 0 → RunIs text at (Some (record { number = v; next = i }))
  digits_high l = record { is = record { passed = p; stops = λ h. rw (le-leb 48 (get_or text i 0) (omega arith), lt-leb (get_or text i 0) 57 l) } }

  pub digits_end : length text ≤ i → RunIs text at (Some (record { number = v; next = i }))
  digits_end l = record { is = record { passed = p; stops = λ h. absurd (omega arith) } }

  module _ (h : i < length text) where
    abbrev byte : ℕ
    byte = get_or text i 0

    abbrev more : ℕ
    more = v * 10 + (byte - 48)

    pub digits_next : {n : ℕ} → 48 ≤ byte → byte ≤ 57 → n ≡ more → n ≤ most_number → DigitsTo text at n (i + 1)
    digits_next l m s k = record { spells = spells_next p.spells h l m s; small = k }

    pub digits_large : most_number < more → RunIs text at None
    digits_large l =
        let e : spelled 0 (drop at text) ≡ spelled more (drop (i + 1) text)
        = ap (spelled 0) (parted text at i p.spells.low)
        ∙ spelled-append 0 (between at i text) (drop i text)
        ∙ ap₂ spelled p.spells.value (here_cons text i h)
        ∙ spelled-cons v byte (drop (i + 1) text) in
        record { is = none_large most_number (drop at text) (omega (arith, e, spelled_grows more (drop (i + 1) text))) }

  -- digits spell their number
  pub digits_number : at < i → number_in most_number (between at i text) ≡ some v
  unfolding number_in
  digits_number l =
      let n : length (between at i text) ≡ i - at = length-take-le (i - at) (drop at text) (omega (arith, length-drop at text, p.spells.high)) in
      rw (le-leb 1 (length (between at i text)) (omega arith), p.spells.digits, p.spells.value, le-leb v most_number p.small)

-- A whole text.

module _ {s : List ℕ} {v i : ℕ} (p : DigitsAt s 0 v i) where
  pub spell_other : (i ≡ length s → ⊥) → number_in most_number s ≡ none
  spell_other n =
      let l : i < length s = omega (arith, p.passed.spells.high) in
      let e : every is_digit s ≡ false
      = ap (every is_digit) (parted s 0 i (omega arith))
      ∙ every-joined is_digit (between 0 i s) (drop i s)
      ∙ rw (p.passed.spells.digits, here_cons s i l) (other_first (get_or s i 0) (drop (i + 1) s) (p.stops l)) in
      none_other most_number s e

  pub spell_all : i ≡ length s → (i ≡ 0 → ⊥) → number_in most_number s ≡ some v
  spell_all e n =
      let k : i - 0 ≡ length s = omega arith in
      let w : between 0 i s ≡ s = ap (λ (n : ℕ). take n s) k ∙ take-length s in
      ap (number_in most_number) (sym w) ∙ digits_number p.passed (omega arith)

-- At most ten digits.

-- a power of ten is at most a higher one
powers_rise : (k d : ℕ) → 10 ^ k ≤ 10 ^ (k + d)
powers_rise k zero = let e : k + 0 ≡ k = omega arith in omega (arith, ap (λ (n : ℕ). 10 ^ n) e)
powers_rise k (suc d) =
    let e : k + suc d ≡ suc (k + d) = omega arith in
    omega (arith, powers_rise k d, ap (λ (n : ℕ). 10 ^ n) e, pow-suc 10 (k + d))

-- k digits, of those for which there is room, spell a number below 10 to the k
pub record Shorter (text : List ℕ) (at digits v k : ℕ) : Type 0 where
  pub room : at + digits < length text
  pub most : digits ≤ 10
  pub few : k ≤ digits
  pub spells : Spells text at v (at + k)
  pub below : v < 10 ^ k

pub shorter_start : (text : List ℕ) (at digits : ℕ) → at + digits < length text → digits ≤ 10 → Shorter text at digits 0 0
shorter_start text at digits h m =
    let e : at ≡ at + 0 = omega arith in
    record {
      room = h;
      most = m;
      few = omega arith;
      spells = subst (λ (i : ℕ). Spells text at 0 i) e (spells_start text at (omega arith));
      below = omega arith;
    }

module _ {text : List ℕ} {at digits v k : ℕ} (p : Shorter text at digits v k) where
  -- nine digits fit into 32 bits
  pub nine_fit : k < digits → v < 1000000000
  nine_fit h =
      let d : ℕ = 9 - k in
      let e : k + d ≡ 9 = omega (arith, p.most) in
      omega (arith, p.below, powers_rise k d, ap (λ (n : ℕ). 10 ^ n) e)

  pub shorter_next : {d n : ℕ} → k < digits → d ≤ 9 → get_or text (at + k) 0 ≡ d + 48 → n ≡ v * 10 + d → Shorter text at digits n (k + 1)
  shorter_next {d} {n} h l b s =
      let e : at + k + 1 ≡ at + (k + 1) = omega arith in
      record {
        room = p.room;
        most = p.most;
        few = omega arith;
        spells = subst (λ (i : ℕ). Spells text at n i) e (spells_next p.spells (omega (arith, p.room)) (omega (arith, b)) (omega (arith, b)) (omega (arith, b, s)));
        below = omega (arith, ap (λ (n : ℕ). 10 ^ n) (add-one k), pow-suc 10 k, p.below);
      }

  pub short_read : v ≤ most_number → ShortIs text at (Some (record { number = v; next = at + k }))
  short_read l = record { is = record { passed = record { spells = p.spells; small = l }; behind = omega (arith, p.room, p.few) } }

  pub short_all : digits ≤ k → v ≤ most_number → ShortIs text at (Some (record { number = v; next = at + digits }))
  short_all h l = let e : at + k ≡ at + digits = omega (arith, p.few) in subst (λ (i : ℕ). ShortIs text at (Some (record { number = v; next = i }))) e (short_read l)
