-- Reading a record at a byte, field by field. Assumes nothing.
use Prim.Native.Nat.{ℕ, zero, suc, ◌+◌, ◌≤◌, ◌<◌}
use mathlib.Core.Path.{◌≡◌, refl, sym, ap, ◌∙◌}
use mathlib.Core.Bool.{Bool, true, false, cond}
use Rattle.std.specs.Prelude.{Option, None, Some}
use mathlib.Core.Option.{none}
use mathlib.Core.List.{List, [], ◌∷◌, ◌++◌}
use native.Mathlib.Omega.{arith}
use native.Mathlib.Decide.{dec_lt}
use borrow.Author.Tests.{eq-eqb, ne_eqb}
use lib.Dec.{eqb, eqb→eq}
use lib.ListN.{length, drop, length-append}
use Rattle.model.specs.Bounds.{most_number}
use Rattle.model.specs.Csv.{Bytes, take_fields}
use Rattle.model.specs.Weighbridge.{number_in, field_at}
use Rattle.model.proofs.Tests.{same_test, eq→eqb}
use Rattle.csv_fields.specs.Reading.{number_of, CellAt}
use Rattle.csv_fields.proofs.PassedLaws.{FieldsPassed, none_passed, record_broken, field_passed, record_ended}
use Rattle.csv_rows.specs.declared.Columns.{Columns}
use Rattle.csv_rows.specs.declared.Picks.{Picks}
use Rattle.csv_rows.specs.Rows.{PickedIs, PicksIs, RecordIs}

-- The number of a column.

module _ {k col : ℕ} {new old : Option ℕ} where
  pub picked_new : k ≡ col → PickedIs k col new old new
  picked_new e = record { is = rw (eq-eqb k col e) }

  pub picked_old : (k ≡ col → ⊥) → PickedIs k col new old old
  picked_old n = record { is = rw (ne_eqb k col n) }

field_snoc : (col : ℕ) (fs : List Bytes) (f : Bytes) → field_at col (fs ++ f ∷ []) ≡ cond (eqb (length fs) col) f (field_at col fs)
field_snoc zero [] f = refl
field_snoc (suc col) [] f = rw (ne_eqb 0 (suc col) (λ e. omega arith))
field_snoc zero (g ∷ fs) f = rw (ne_eqb (suc (length fs)) 0 (λ e. omega arith))
field_snoc (suc col) (g ∷ fs) f = field_snoc col fs f ∙ ap (λ (x : Bool). cond x f (field_at col fs)) (same (length fs) col)
  where
    same : (m n : ℕ) → eqb m n ≡ eqb (suc m) (suc n)
    same m n =
        same_test (eqb m n) (eqb (suc m) (suc n)) (λ t. eq→eqb (suc m) (suc n) (ap suc (eqb→eq m n t)))
        (λ t. eq→eqb m n (omega (arith, eqb→eq (suc m) (suc n) t)))

-- a column's number among the fields passed, and one field more
pub record PickedIn (fs : List Bytes) (col : ℕ) (v : Option ℕ) : Type 0 where
  pub is : number_of v ≡ number_in most_number (field_at col fs)

no_field : (col : ℕ) → PickedIn [] col None
unfolding number_in
no_field col = record { is = refl }

field_more : (f : Bytes) {fs : List Bytes} {k col : ℕ} {new old v : Option ℕ}
    → k ≡ length fs → number_of new ≡ number_in most_number f → PickedIn fs col old → PickedIs k col new old v → PickedIn (fs ++ f ∷ []) col v
field_more f {fs} {k} {col} l n o e = record { is = e.is ∙ rw (l, n, o.is) (either (eqb (length fs) col)) ∙ ap (number_in most_number) (sym (field_snoc col fs f)) }
  where
    either : (x : Bool) → cond x (number_in most_number f) (number_in most_number (field_at col fs)) ≡ number_in most_number (cond x f (field_at col fs))
    either true = refl
    either false = refl

-- the fields passed, and the numbers of three of them
pub record Passed (text : List ℕ) (at : ℕ) (c : Columns) (i k : ℕ) (p : Picks) : Type 0 where
  pub fields : List Bytes
  pub passed : FieldsPassed text at i fields
  pub counted : k ≡ length fields
  pub grower : PickedIn fields c.grower p.grower
  pub weight : PickedIn fields c.weight p.weight
  pub oil : PickedIn fields c.oil_yield p.oil_yield

pub passed_none : (text : List ℕ) (at : ℕ) (c : Columns) → at ≤ length text → Passed text at c at 0 (record { grower = None; weight = None; oil_yield = None })
passed_none text at c h = record {
  fields = [];
  passed = none_passed text at h;
  counted = refl;
  grower = no_field c.grower;
  weight = no_field c.weight;
  oil = no_field c.oil_yield;
}

module _ {text : List ℕ} {at : ℕ} {c : Columns} {i k : ℕ} {old : Picks} (p : Passed text at c i k old) where
  pub passed_broken : ((n : ℕ) → take_fields (suc n) (drop i text) ≡ none) → RecordIs text at c None
  passed_broken e = record { is = record_broken p.passed e }

  -- one field more, the numbers picked anew
  module _ {v : Option ℕ} {new : Picks} (q : PicksIs k c v old new) {n : ℕ} where
    pub passed_comma : CellAt text i v true n → Passed text at c n (k + 1) new
    passed_comma f = record {
      fields = p.fields ++ f.bytes ∷ [];
      passed = field_passed p.passed n f.field f.goes_on (omega (arith, f.on)) f.within;
      counted = omega (arith, p.counted, length-append p.fields (f.bytes ∷ []));
      grower = field_more f.bytes p.counted f.number p.grower q.grower;
      weight = field_more f.bytes p.counted f.number p.weight q.weight;
      oil = field_more f.bytes p.counted f.number p.oil q.oil;
    }

    pub passed_end : CellAt text i v false n → RecordIs text at c (Some (record { count = k + 1; picks = new; next = n }))
    passed_end f = record {
      is = record {
        fields = p.fields ++ f.bytes ∷ [];
        is = record_ended p.passed n f.field f.goes_on;
        counted = omega (arith, p.counted, length-append p.fields (f.bytes ∷ []));
        grower = (field_more f.bytes p.counted f.number p.grower q.grower).is;
        weight = (field_more f.bytes p.counted f.number p.weight q.weight).is;
        oil = (field_more f.bytes p.counted f.number p.oil q.oil).is;
        within = f.within;
        moves = λ h. after h (dec_lt i (length text));
      };
    }
      where
        after : at < length text → Dec (i < length text) → at < n
        after h (yes l) = omega (arith, f.moves l, p.passed.low)
        after h (no l) = omega (arith, f.on)
