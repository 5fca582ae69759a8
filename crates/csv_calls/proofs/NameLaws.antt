-- A name compared with a field, and counted column by column.
use Prim.Native.Nat.{ℕ, suc, ◌+◌, ◌-◌, ◌≤◌, ◌<◌}
use mathlib.Core.Path.{◌≡◌, refl, sym, ap, ap₂, ◌∙◌}
use mathlib.Core.Bool.{Bool, true, false, cond, ◌&&◌, ◌||◌}
use mathlib.Core.Option.{none, some}
use mathlib.Core.List.{List, [], ◌∷◌, ◌++◌}
use native.Mathlib.Omega.{arith}
use borrow.Author.Tests.{eqb-true, eqb-false}
use lib.Dec.{eqb}
use lib.ListN.{length, drop, length-append}
use Rattle.model.specs.Lists.{same_list}
use Rattle.model.specs.Fields.{taken}
use Rattle.model.specs.Csv.{Bytes, quote, take_field}
use Rattle.model.specs.Weighbridge.{times_named, column_named}
use Rattle.model.proofs.CsvLaws.{fields_torn, fields_broken}
use Rattle.std.specs.Prelude.{None, Some}
use Rattle.std.specs.Str.{bytes_eq}
use Rattle.csv_fields.specs.declared.Behind.TheVariants.{Comma, End}
use Rattle.csv_fields.specs.Reading.{BehindIs, between, holds_quote, FoundAt}
use Rattle.csv_fields.proofs.PassedLaws.{FieldsPassed, none_passed, record_broken, field_passed, record_ended}
use Rattle.csv_calls.specs.declared.Named.{Named}
use Rattle.csv_calls.specs.Checking.{IsName, with_column, NameAmong, NamedIs}

-- `==` of two texts
pub same_is : (s t : List ℕ) → bytes_eq s t ≡ same_list s t
unfolding same_list
same_is [] [] = refl
same_is [] (b ∷ t) = refl
same_is (a ∷ s) [] = refl
same_is (a ∷ s) (b ∷ t) = ap (λ (x : Bool). eqb a b && x) (same_is s t)

-- A field with a quote is no name.

quote_no_name : (f name : Bytes) → holds_quote f ≡ true → holds_quote name ≡ false → false ≡ same_list f name
unfolding holds_quote same_list
quote_no_name [] name e n = let z : ◌≡◌ {A = ℕ} 0 1 = cc in absurd (omega arith)
quote_no_name (a ∷ f) [] e n = refl
quote_no_name (a ∷ f) (b ∷ name) e n = go (eqb a b) refl (eqb a quote) refl (eqb b quote) refl e n (quote_no_name f name)
  where
    go : (x : Bool) → eqb a b ≡ x → (p : Bool) → eqb a quote ≡ p → (q : Bool) → eqb b quote ≡ q
        → p || holds_quote f ≡ true → q || holds_quote name ≡ false
        → (holds_quote f ≡ true → holds_quote name ≡ false → false ≡ same_list f name)
        → false ≡ x && same_list f name
    go false xe p pe q qe e n h = refl
    go true xe p pe true qe e n h = let z : ◌≡◌ {A = ℕ} 0 1 = cc in absurd (omega arith)
    go true xe false pe false qe e n h = h e n
    go true xe true pe false qe e n h = absurd (eqb-false b quote qe (sym (eqb-true a b xe) ∙ eqb-true a quote pe))

module _ {text : List ℕ} {from to : ℕ} {clean : Bool} {name : Bytes} where
  pub doubled_no_name : holds_quote name ≡ false → clean ≡ false → IsName text from to clean name false
  doubled_no_name n d = record { is = λ f h. quote_no_name f name (h.doubled d) n }

  pub plain_name : {r : Bool} → clean ≡ true → r ≡ same_list (between from to text) name → IsName text from to clean name r
  plain_name d e = record { is = λ f h. e ∙ ap (λ (l : List ℕ). same_list l name) (sym (h.plain d)) }

-- One column more.

module _ (name : Bytes) where
  times_snoc : (fs : List Bytes) (f : Bytes) → times_named name (fs ++ f ∷ []) ≡ cond (same_list f name) (times_named name fs + 1) (times_named name fs)
  unfolding times_named
  times_snoc [] f = refl
  times_snoc (g ∷ fs) f = go (same_list g name) (same_list f name) (times_named name fs) (times_snoc fs f)
    where
      go : (x y : Bool) {m : ℕ} (n : ℕ) → m ≡ cond y (n + 1) n → cond x (m + 1) m ≡ cond y (cond x (n + 1) n + 1) (cond x (n + 1) n)
      go true true n e = ap (λ (k : ℕ). k + 1) e
      go true false n e = ap (λ (k : ℕ). k + 1) e
      go false true n e = e
      go false false n e = e

  column_seen : (fs : List Bytes) (f : Bytes) → 1 ≤ times_named name fs → column_named name (fs ++ f ∷ []) ≡ column_named name fs
  unfolding times_named column_named
  column_seen [] f h = absurd (omega arith)
  column_seen (g ∷ fs) f h = go (same_list g name) h (column_seen fs f)
    where
      go : (x : Bool) {n i j : ℕ} → 1 ≤ cond x (n + 1) n → (1 ≤ n → i ≡ j) → cond x 0 (i + 1) ≡ cond x 0 (j + 1)
      go true h e = refl
      go false h e = ap (λ (n : ℕ). n + 1) (e h)

  column_first : (fs : List Bytes) (f : Bytes) → times_named name fs ≡ 0 → same_list f name ≡ true → length fs ≡ column_named name (fs ++ f ∷ [])
  unfolding times_named column_named
  column_first [] f h e = rw e
  column_first (g ∷ fs) f h e = go (same_list g name) h (λ z. column_first fs f z e)
    where
      go : (x : Bool) {n l i : ℕ} → cond x (n + 1) n ≡ 0 → (n ≡ 0 → l ≡ i) → suc l ≡ cond x 0 (i + 1)
      go true h c = absurd (omega arith)
      go false h c = omega (arith, c h)

  -- the first column with the name, after one more that has it or has not
  first_snoc : (fs : List Bytes) (f : Bytes) (x : Bool) → x ≡ same_list f name → (s : Named) → NameAmong name fs s → 1 ≤ times_named name (fs ++ f ∷ [])
      → (with_column s x (s.count + 1) 0).column ≡ column_named name (fs ++ f ∷ [])
  first_snoc fs f x e s a h = go x e (eqb s.times 0) refl
    where
      t : times_named name (fs ++ f ∷ []) ≡ cond (same_list f name) (times_named name fs + 1) (times_named name fs)
      t = times_snoc fs f

      seen : 1 ≤ times_named name fs → s.column ≡ column_named name (fs ++ f ∷ [])
      seen h = a.first (omega (arith, a.times)) ∙ sym (column_seen fs f h)

      go : (x : Bool) → x ≡ same_list f name → (z : Bool) → eqb s.times 0 ≡ z → cond x (cond z s.count s.column) s.column ≡ column_named name (fs ++ f ∷ [])
      go true e true z = a.counted ∙ column_first fs f (sym a.times ∙ eqb-true s.times 0 z) (sym e)
      go true e false z = seen (omega (arith, a.times, eqb-false s.times 0 z))
      go false e z w = seen (omega (arith, t ∙ ap (λ (b : Bool). cond b (times_named name fs + 1) (times_named name fs)) (sym e)))

pub one_more_lem : {name : Bytes} {fs : List Bytes} (f : Bytes) {x : Bool} {s r : Named} {next : ℕ}
    → NameAmong name fs s
    → x ≡ same_list f name
    → r ≡ with_column s x (s.count + 1) next
    → NameAmong name (fs ++ f ∷ []) r
one_more_lem {name} {fs} f {x} {s} a e d =
    let t = times_snoc name fs f ∙ ap₂ (λ (b : Bool) (n : ℕ). cond b (n + 1) n) (sym e) (sym a.times) in
    record {
      times = ap (λ (r : Named). r.times) d ∙ sym t;
      first = λ h. ap (λ (r : Named). r.column) d ∙ first_snoc name fs f x e s a (omega (arith, h, t, ap (λ (r : Named). r.times) d));
      counted = ap (λ (r : Named). r.count) d ∙ omega (arith, a.counted, length-append fs (f ∷ []));
    }

-- The header, column by column: it is the fields passed and the fields from here.

abbrev no_column : Named
no_column = record { times = 0; column = 0; count = 0; next = 0 }

pub record HeaderSo (text : List ℕ) (name : Bytes) (s : Named) : Type 0 where
  pub fewer : s.times ≤ s.count
  pub fields : List Bytes
  pub passed : FieldsPassed text 0 s.next fields
  pub among : NameAmong name fields s

pub header_start : (text : List ℕ) (name : Bytes) → HeaderSo text name no_column
unfolding times_named
header_start text name = record {
  fewer = omega arith;
  fields = [];
  passed = none_passed text 0 (omega arith);
  among = record { times = refl; first = λ h. absurd (omega arith); counted = refl };
}

module _ {text : List ℕ} {name : Bytes} {s : Named} (p : HeaderSo text name s) where
  abbrev here : List ℕ
  here = drop s.next text

  pub header_torn : take_field here ≡ none → NamedIs text name None
  header_torn e = record { is = record_broken p.passed (λ n. fields_torn n here e) }

  module _ {from to rest : ℕ} {clean : Bool} (f : FoundAt text s.next from to clean rest) where
    pub header_broken : BehindIs text rest None → NamedIs text name None
    header_broken q = record { is = record_broken p.passed (λ n. fields_broken n here f.bytes (drop rest text) f.is (sym q.is)) }

    module _ {x : Bool} (i : IsName text from to clean name x) {n : ℕ} {r : Named} (d : r ≡ with_column s x (s.count + 1) n) where
      among' : NameAmong name (p.fields ++ f.bytes ∷ []) r
      among' = one_more_lem f.bytes p.among (i.is f.bytes f.holds) d

      goes_on : r.next ≡ n
      goes_on = ap (λ (r : Named). r.next) d

      fewer' : r.times ≤ r.count
      fewer' = go x (ap (λ (r : Named). r.times) d)
        where
          go : (x : Bool) → r.times ≡ cond x (s.times + 1) s.times → r.times ≤ r.count
          go true e = omega (arith, e, ap (λ (r : Named). r.count) d, p.fewer)
          go false e = omega (arith, e, ap (λ (r : Named). r.count) d, p.fewer)

      pub header_less : BehindIs text rest (Some (Comma n)) → length text + 1 - r.next < length text + 1 - s.next
      header_less z = omega (arith, goes_on, f.on, z.on, z.within)

      pub header_comma : BehindIs text rest (Some (Comma n)) → HeaderSo text name r
      header_comma z = record {
        fewer = fewer';
        fields = p.fields ++ f.bytes ∷ [];
        passed = rw goes_on (field_passed p.passed n f.is (sym z.is) (omega (arith, f.on, z.on)) z.within);
        among = among';
      }

      pub header_end : BehindIs text rest (Some (End n)) → NamedIs text name (Some r)
      header_end z = record {
        is = record {
          header = p.fields ++ f.bytes ∷ [];
          is = record_ended p.passed n f.is (sym z.is) ∙ ap (λ (k : ℕ). some (taken (p.fields ++ f.bytes ∷ []) (drop k text))) (sym goes_on);
          among = among';
          within = omega (arith, goes_on, z.within);
        };
      }
