-- A field that has been read before, spelled: each of its columns is a blank or a digit, so that its low four bits are what it
-- adds. Assumes nothing.
use Prim.Native.Nat.{ℕ, zero, suc, ◌+◌, ◌-◌, ◌*◌, ◌/◌, ◌%◌, ◌^◌, ◌≤◌, ◌<◌}
use mathlib.Core.Path.{◌≡◌, refl, sym, ap, ap₂, ◌∙◌, subst}
use mathlib.Core.Bool.{Bool, true, false, cond, ◌&&◌}
use mathlib.Core.Option.{Option, none, some}
use mathlib.Core.List.{List, [], ◌∷◌, ◌++◌}
use native.Mathlib.Omega.{arith}
use native.Mathlib.Numerals.{add-one}
use native.Mathlib.Nat.{pow-suc, pow-le-pow_right}
use borrow.Author.Tests.{eq-eqb, lt-ltb}
use lib.Dec.{T, ltb, eqb, ltb→lt, eqb→eq}
use lib.ListN.{length, get_or, take, drop, replicate, length-drop, length-take}
use lib.Seq.{take-suc, take_all}
use Rattle.model.specs.Bounds.{most_number}
use Rattle.model.specs.Lists.{every, value_or, is_some}
use Rattle.model.specs.Fields.{blank, last_digit, leading, justified, number_field, spelled, read_field}
use Rattle.model.proofs.Tests.{and_fst, and_snd, of_true}
use Rattle.model.proofs.ListLaws.{every-at, every-joined}
use Rattle.model.proofs.FieldLaws.{length-number, spelled-append, spelled-justified, field_read}
use Rattle.fields.specs.Reading.{field_at, field_ok, value_at}
use Rattle.fields.proofs.Columns.{length_here, byte_here}

-- a blank or a digit
abbrev low_bits : ℕ → Bool
low_bits b = eqb (b % 16) (b - 48) && ltb (b - 48) 10

digit_bits : (n : ℕ) → low_bits (last_digit n) ≡ true
digit_bits n = rw (eq-eqb (last_digit n % 16) (last_digit n - 48) (omega arith), lt-ltb (last_digit n - 48) 10 (omega arith))

blank_bits : (w : ℕ) → every low_bits (replicate w blank) ≡ true
unfolding every
blank_bits zero = refl
blank_bits (suc w) = blank_bits w

joined_bits : (l : List ℕ) (b : ℕ) → every low_bits l ≡ true → low_bits b ≡ true → every low_bits (l ++ b ∷ []) ≡ true
unfolding every
joined_bits l b e h = every-joined low_bits l (b ∷ []) ∙ rw (e, h)

leading_bits : (w n : ℕ) → every low_bits (leading blank w n) ≡ true
unfolding leading every
leading_bits zero n = refl
leading_bits (suc w) n = go (eqb n 0) (leading_bits w (n / 10))
  where
    go : (t : Bool) → every low_bits (leading blank w (n / 10)) ≡ true → every low_bits (cond t (replicate w blank ++ blank ∷ []) (leading blank w (n / 10) ++ last_digit n ∷ [])) ≡ true
    go true h = joined_bits (replicate w blank) blank (blank_bits w) refl
    go false h = joined_bits (leading blank w (n / 10)) (last_digit n) h (digit_bits n)

field_bits : (n : ℕ) → every low_bits (number_field n) ≡ true
unfolding justified
field_bits n = joined_bits (leading blank 10 (n / 10)) (last_digit n) (leading_bits 10 (n / 10)) (digit_bits n)

-- the field of n stands at a cursor
pub record Known (text : List ℕ) (at n : ℕ) : Type 0 where
  pub fits : at + 11 ≤ length text
  pub field : number_field n ≡ field_at at text
  pub most : n ≤ most_number

pub known : (text : List ℕ) (at : ℕ) → T (field_ok at text) → Known text at (value_at at text)
unfolding field_ok value_at
known text at t = go (read_field (field_at at text)) refl t
  where
    go : (o : Option ℕ) → read_field (field_at at text) ≡ o → T (is_some o) → Known text at (value_or 0 o)
    go none e h = absurd h
    go (some n) e h =
        let r = field_read (field_at at text) n e in
        record { fits = omega (arith, ap length r.field, length-number n, length-take 11 (drop at text), length-drop at text); field = r.field; most = r.most }

-- v is what the first i columns spell
pub record Spelling (text : List ℕ) (at n v i : ℕ) : Type 0 where
  pub known : Known text at n
  pub few : i ≤ 11
  pub spells : v ≡ spelled 0 (take i (field_at at text))
  pub small : v < 10 ^ i

pub spell_start : (text : List ℕ) (at : ℕ) → T (field_ok at text) → Spelling text at (value_at at text) 0 0
unfolding spelled
spell_start text at t = record { known = known text at t; few = omega arith; spells = refl; small = omega arith }

module _ {text : List ℕ} {at n v i : ℕ} (w : Spelling text at n v i) where
  abbrev f : List ℕ
  f = field_at at text

  full : length f ≡ 11
  full = length_here text at w.known.fits

  module _ (h : i < 11) where
    pub most_spelled : v < 10000000000
    most_spelled = omega (arith, w.small, pow-le-pow_right {n = 10} (omega arith) {i = i} {j = 10} (omega arith))

    abbrev b : ℕ
    b = get_or text (at + i) 0

    bits : T (low_bits b)
    bits =
        let e : T (every low_bits f) = of_true _ (ap (every low_bits) (sym w.known.field) ∙ field_bits n) in
        subst (λ (x : ℕ). T (low_bits x)) (byte_here text at i h) (every-at low_bits f i e (omega (arith, full)))

    pub low_bits_lem : b % 16 ≡ b - 48
    low_bits_lem = eqb→eq _ _ (and_fst (eqb (b % 16) (b - 48)) (ltb (b - 48) 10) bits)

    pub digit : b - 48 < 10
    digit = ltb→lt _ _ (and_snd (eqb (b % 16) (b - 48)) (ltb (b - 48) 10) bits)

    pub spell_next : (d : ℕ) → d ≡ b % 16 → Spelling text at n (v * 10 + d) (i + 1)
    unfolding spelled
    spell_next d q =
        let more : take (i + 1) f ≡ take i f ++ get_or f i 0 ∷ [] = rw add-one (take-suc f i 0 (omega (arith, full))) in
        record {
          known = w.known;
          few = omega arith;
          spells =
              ap₂ (λ (x y : ℕ). x * 10 + y) w.spells (q ∙ low_bits_lem ∙ ap (λ (x : ℕ). x - 48) (sym (byte_here text at i h)))
              ∙ sym (spelled-append 0 (take i f) (get_or f i 0 ∷ []))
              ∙ ap (spelled 0) (sym more);
          small = omega (arith, ap (λ (k : ℕ). 10 ^ k) (add-one i), pow-suc 10 i, w.small, q, low_bits_lem, digit);
        }

  pub spell_end : 11 ≤ i → v ≡ n
  spell_end h = w.spells ∙ ap (spelled 0) (take_all i f (omega (arith, full)) ∙ sym w.known.field) ∙ spelled-justified n (omega (arith, w.known.most))
