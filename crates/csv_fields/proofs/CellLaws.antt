-- A field with its number and what stands behind it. Assumes nothing.
use Rattle.std.proofs.Common.{◌≡◌, ℕ, ◌+◌, ◌-◌, ◌<◌, ◌≤◌, Bool, true, false, cond, ◌&&◌, ◌||◌, eqb, List, [], ◌∷◌, length, get_or}
use Rattle.std.proofs.Common.{drop, sym, refl, ap, ◌∙◌, arith, length-drop, length-take-le, eqb-true}
use Rattle.std.specs.Prelude.{Some, None}
use Rattle.std.specs.Prelude as rust
use mathlib.Core.Option.{Option, none, some}
use native.Mathlib.Decide.{dec_lt}
use borrow.Author.Tests.{lt-leb}
use Rattle.model.specs.Bounds.{most_number}
use Rattle.model.specs.Lists.{every}
use Rattle.model.specs.Fields.{Taken, taken}
use Rattle.model.specs.Csv.{Bytes, quote, ahead, behind, take_plain, take_field}
use Rattle.model.specs.Weighbridge.{is_digit, number_in}
use Rattle.model.proofs.CsvLaws.{fields_torn, fields_broken}
use Rattle.model.proofs.DigitLaws.{digits_of, field_read}
use Rattle.csv_fields.specs.declared.Behind.{Behind}
use Rattle.csv_fields.specs.declared.Behind.TheVariants.{Comma, End}
use Rattle.csv_fields.specs.Reading.{ShortAt, ShortCellIs, BehindIs, between, number_of, holds_quote, FoundAt, FieldIs, DigitsTo, CellBefore, CellIs, SkippedIs}
use Rattle.csv_fields.proofs.CursorLaws.{at-comma}
use Rattle.csv_fields.proofs.NumberLaws.{parted, none_other, digits_number}

-- a field that is read, its number, and what stands behind it
module _ (v : rust.Option ℕ) {text : List ℕ} {at to : ℕ} {f : Bytes}
    (on : at ≤ to) (e : take_field (drop at text) ≡ some (taken f (drop to text))) (n : number_of v ≡ number_in most_number f) where
  cell_cases : (b : Behind) → BehindIs text to (Some b) → CellBefore text at v b
  cell_cases (Comma next) q = record {
    bytes = f;
    rest = drop to text;
    field = e;
    goes_on = sym q.is;
    number = n;
    within = q.within;
    on = omega (arith, q.on);
    moves = λ h. omega (arith, q.on);
  }
  cell_cases (End next) q = record {
    bytes = f;
    rest = drop to text;
    field = e;
    goes_on = sym q.is;
    number = n;
    within = q.within;
    on = omega (arith, q.on);
    moves = λ h. go h (dec_lt to (length text));
  }
    where
      go : at < length text → Dec (to < length text) → at < next
      go h (yes l) = omega (arith, q.moves l)
      go h (no l) = omega (arith, q.on)

  pub cell_whole : {b : Behind} → BehindIs text to (Some b) → CellIs text at (Some (record { number = v; behind = b }))
  cell_whole {b} q = record { is = cell_cases b q }

pub cell_torn : {text : List ℕ} {at : ℕ} → take_field (drop at text) ≡ none → CellIs text at None
cell_torn {text} {at} e = record { is = λ k. fields_torn k (drop at text) e }

-- A field at a byte: its bytes spell its number, and one with a quote in it is none.

quote_other : (f : Bytes) → holds_quote f ≡ true → every is_digit f ≡ false
unfolding holds_quote every
quote_other [] e = let z : ◌≡◌ {A = ℕ} 0 1 = cc in absurd (omega arith)
quote_other (b ∷ f) e = go (eqb b quote) refl e (quote_other f)
  where
    low : (b : ℕ) → eqb b quote ≡ true → is_digit b && every is_digit f ≡ false
    low b p = rw (lt-leb 48 b (omega (arith, eqb-true b quote p)))

    either : (x : Bool) → x && false ≡ false
    either true = refl
    either false = refl

    go : (c : Bool) → eqb b quote ≡ c → c || holds_quote f ≡ true → (holds_quote f ≡ true → every is_digit f ≡ false) → is_digit b && every is_digit f ≡ false
    go true p e h = low b p
    go false p e h = rw (h e) (either (is_digit b))

abbrev number_for : Option ℕ → rust.Option ℕ
number_for (some n) = Some n
number_for none = None

number_for_lem : (o : Option ℕ) → number_of (number_for o) ≡ o
number_for_lem (some n) = refl
number_for_lem none = refl

module _ {text : List ℕ} {at from to rest : ℕ} {clean : Bool} (p : FoundAt text at from to clean rest) where
  module _ {b : Behind} (q : BehindIs text rest (Some b)) where
    pub cell_plain : {v : rust.Option ℕ} → clean ≡ true → number_of v ≡ number_in most_number (between from to text) → CellIs text at (Some (record { number = v; behind = b }))
    cell_plain c e = cell_whole _ p.on p.is (e ∙ ap (number_in most_number) (sym (p.holds.plain c))) q

    pub cell_doubled : clean ≡ false → CellIs text at (Some (record { number = None; behind = b }))
    cell_doubled c = cell_whole _ p.on p.is (sym (none_other most_number p.bytes (quote_other p.bytes (p.holds.doubled c)))) q

  pub cell_broken : BehindIs text rest None → CellIs text at None
  cell_broken q = record { is = λ k. fields_broken k (drop at text) p.bytes (drop rest text) p.is (sym q.is) }

  -- A field whose number is not read: there is one that its bytes spell, or none.
  pub skipped : (b : rust.Option Behind) → BehindIs text rest b → SkippedIs text at b
  skipped (Some b) q = record { number = number_for (number_in most_number p.bytes); is = cell_whole _ p.on p.is (number_for_lem (number_in most_number p.bytes)) q }
  skipped None q = record { number = None; is = cell_broken q }

pub skipped_torn : {text : List ℕ} {at : ℕ} → FieldIs text at None → SkippedIs text at None
skipped_torn e = record { number = None; is = cell_torn e.is }

-- Digits, and behind them what may stand behind a field.

stops_here : (t : List ℕ) (e : Taken Bool) → behind t ≡ some e → take_plain t ≡ taken [] t
unfolding take_plain
stops_here [] e b = refl
stops_here (x ∷ t) e b = rw b (go (eqb x quote))
  where
    go : (c : Bool) → cond (c || true) (taken [] (x ∷ t)) (ahead x (take_plain t)) ≡ taken [] (x ∷ t)
    go true = refl
    go false = refl

module _ {text : List ℕ} {at number to : ℕ} (p : DigitsTo text at number to) (some-there : to ≡ at → ⊥) where
  longer : at < to
  longer = omega (arith, p.spells.low)

  digits_field : (e : Taken Bool) → behind (drop to text) ≡ some e → take_field (drop at text) ≡ some (taken (between at to text) (drop to text))
  digits_field e b =
      let n : length (between at to text) ≡ to - at = length-take-le (to - at) (drop at text) (omega (arith, length-drop at text, p.spells.high)) in
      ap take_field (parted text at to p.spells.low) ∙ field_read (drop to text) (digits_of (between at to text) p.spells.digits) (omega arith) (stops_here (drop to text) e b)

  pub cell_digits : (b : Behind) → BehindIs text to (Some b) → CellIs text at (Some (record { number = Some number; behind = b }))
  cell_digits (Comma n) q = cell_whole _ p.spells.low (digits_field _ (sym q.is)) (sym (digits_number p longer)) q
  cell_digits (End n) q = cell_whole _ p.spells.low (digits_field _ (sym q.is)) (sym (digits_number p longer)) q

-- Digits, and a comma or a line end behind them.

module _ {text : List ℕ} {at number to : ℕ} (p : ShortAt text at number to) (some-there : to ≡ at → ⊥) where
  pub short_comma : get_or text to 0 ≡ 44 → ShortCellIs text at true (Some (record { number = number; next = to + 1 }))
  short_comma e = record { is = (cell_digits p.passed some-there _ (at-comma text to p.behind e)).is }

  pub short_end : {next : ℕ} → BehindIs text to (Some (End next)) → ShortCellIs text at false (Some (record { number = number; next = next }))
  short_end q = record { is = (cell_digits p.passed some-there _ q).is }
