-- Reading a row at a byte: a record of the header's columns, with a number in each of the three. Assumes nothing.
use Prim.Native.Nat.{ℕ, ◌≤◌, ◌<◌}
use mathlib.Core.Path.{◌≡◌, refl, sym, ap, ◌∙◌}
use mathlib.Core.Bool.{Bool, true, false, ◌&&◌}
use Rattle.std.specs.Prelude.{None, Some}
use Rattle.std.specs.Prelude as rust
use mathlib.Core.Option.{Option, none, some}
use mathlib.Core.List.{List}
use native.Mathlib.Omega.{arith}
use borrow.Author.Tests.{eq-eqb, ne_eqb, le-leb, lt-leb, leb-true, leb-false}
use lib.Dec.{leb}
use lib.ListN.{length, drop}
use Rattle.model.specs.declared.Delivery.{Delivery}
use Rattle.model.specs.Bounds.{most_number, most_weight, most_yield}
use Rattle.model.specs.Lists.{every, only_if, and_then}
use Rattle.model.specs.Deliveries.{delivery}
use Rattle.model.specs.Fields.{spelled}
use Rattle.model.specs.Csv.{Bytes, take_record}
use Rattle.model.specs.Weighbridge.{grower_name, weight_name, yield_name, is_digit, number_in, number_named, field_at, row_of}
use Rattle.csv_fields.specs.Reading.{number_of}
use Rattle.csv_rows.specs.declared.Columns.{Columns}
use Rattle.csv_rows.specs.declared.Record.{Record}
use Rattle.csv_rows.specs.Rows.{ColumnsOf, ReadAt, BadRow, RowIs}

-- A number at most another.

abbrev bounded : ℕ → Option ℕ → Option ℕ
bounded most o = and_then o (λ n. only_if (leb n most) n)

number_bounded : (most : ℕ) (f : Bytes) → most ≤ most_number → number_in most f ≡ bounded most (number_in most_number f)
unfolding number_in
number_bounded most f l = go (leb 1 (length f) && every is_digit f) (spelled 0 f) (leb (spelled 0 f) most) refl (leb (spelled 0 f) most_number) refl
  where
    go : (d : Bool) (n : ℕ) (x : Bool) → leb n most ≡ x → (z : Bool) → leb n most_number ≡ z → only_if (d && x) n ≡ and_then (only_if (d && z) n) (λ m. only_if (leb m most) m)
    go false n x e z k = refl
    go true n x e true k = rw e
    go true n true e false k = absurd (omega (arith, leb-true n most e, leb-false n most_number k))
    go true n false e false k = refl

pub none_there : (most : ℕ) {v : rust.Option ℕ} → v ≡ None → bounded most (number_of v) ≡ none
none_there most e = rw e

pub too_large : (most : ℕ) {v : rust.Option ℕ} {n : ℕ} → v ≡ Some n → most < n → bounded most (number_of v) ≡ none
too_large most {v} {n} e l = rw (e, lt-leb n most l)

pub in_range_lem : (most : ℕ) {v : rust.Option ℕ} {n : ℕ} → v ≡ Some n → n ≤ most → bounded most (number_of v) ≡ some n
in_range_lem most {v} {n} e l = rw (e, le-leb n most l)

-- A delivery of three numbers.

abbrev row_given : Option ℕ → Option ℕ → Option ℕ → Option Delivery
row_given g w y = and_then g (λ g. and_then (bounded most_weight w) (λ w. and_then (bounded most_yield y) (λ y. some (delivery g w y 0))))

row_other : (h fs : List Bytes) → (length fs ≡ length h → ⊥) → row_of h fs ≡ none
unfolding row_of
row_other h fs n = rw (ne_eqb (length fs) (length h) n)

row_is : (h fs : List Bytes) (g w y : Option ℕ)
    → length fs ≡ length h
    → number_named grower_name most_number h fs ≡ g
    → number_named weight_name most_weight h fs ≡ bounded most_weight w
    → number_named yield_name most_yield h fs ≡ bounded most_yield y
    → row_of h fs ≡ row_given g w y
unfolding row_of
row_is h fs g w y l p q r = rw (eq-eqb (length fs) (length h) l, p, q, r)

no_row : {text : List ℕ} {at : ℕ} {c : Columns} → ((h : List Bytes) → ColumnsOf h c → BadRow h (drop at text)) → RowIs text at c None
no_row e = record { within = omega arith; moves = λ z. z; is = e }

pub row_broken : {text : List ℕ} {at : ℕ} {c : Columns} → take_record (drop at text) ≡ none → RowIs text at c None
row_broken e = no_row (λ h k. record { is = rw e })

module _ {text : List ℕ} {at : ℕ} {c : Columns} {r : Record} (p : ReadAt text at c r) where
  bad : ((h : List Bytes) → ColumnsOf h c → row_of h p.fields ≡ none) → RowIs text at c None
  bad e = no_row (λ h k. record { is = rw p.is (e h k) })

  pub row_count : (r.count ≡ c.count → ⊥) → RowIs text at c None
  row_count n = bad (λ h k. row_other h p.fields (λ e. n (p.counted ∙ e ∙ sym k.counted)))

  module _ (l : r.count ≡ c.count) where
    row_given_lem : (h : List Bytes) → ColumnsOf h c → row_of h p.fields ≡ row_given (number_of r.picks.grower) (number_of r.picks.weight) (number_of r.picks.oil_yield)
    row_given_lem h k =
        row_is h p.fields (number_of r.picks.grower) (number_of r.picks.weight) (number_of r.picks.oil_yield) (sym p.counted ∙ l ∙ k.counted) (sym (named k.grower p.grower))
        (in_bound most_weight (omega arith) k.weight p.weight) (in_bound most_yield (omega arith) k.oil p.oil)
      where
        named : {i j : ℕ} {o : Option ℕ} → i ≡ j → o ≡ number_in most_number (field_at i p.fields) → o ≡ number_in most_number (field_at j p.fields)
        named e q = q ∙ ap (λ (n : ℕ). number_in most_number (field_at n p.fields)) e

        in_bound : (most : ℕ) {i j : ℕ} {o : Option ℕ} → most ≤ most_number → i ≡ j → o ≡ number_in most_number (field_at i p.fields)
            → number_in most (field_at j p.fields) ≡ bounded most o
        in_bound most {i} {j} m e q = number_bounded most (field_at j p.fields) m ∙ ap (bounded most) (sym (named e q))

    refused : row_given (number_of r.picks.grower) (number_of r.picks.weight) (number_of r.picks.oil_yield) ≡ none → RowIs text at c None
    refused e = bad (λ h k. row_given_lem h k ∙ e)

    pub row_no_grower : r.picks.grower ≡ None → RowIs text at c None
    row_no_grower e = refused (rw e)

    pub row_no_weight : bounded most_weight (number_of r.picks.weight) ≡ none → RowIs text at c None
    row_no_weight e = refused (rw e (go (number_of r.picks.grower)))
      where
        go : (o : Option ℕ) → and_then {B = Delivery} o (λ (g : ℕ). none) ≡ none
        go none = refl
        go (some g) = refl

    pub row_no_yield : bounded most_yield (number_of r.picks.oil_yield) ≡ none → RowIs text at c None
    row_no_yield e = refused (rw e (go (number_of r.picks.grower) (bounded most_weight (number_of r.picks.weight))))
      where
        go : (o q : Option ℕ) → and_then {B = Delivery} o (λ (g : ℕ). and_then q (λ (w : ℕ). none)) ≡ none
        go none q = refl
        go (some g) none = refl
        go (some g) (some w) = refl

    pub row_good : {x v z : ℕ} → r.picks.grower ≡ Some x → bounded most_weight (number_of r.picks.weight) ≡ some v → bounded most_yield (number_of r.picks.oil_yield) ≡ some z
        → RowIs text at c (Some (record { delivery = delivery x v z 0; next = r.next }))
    row_good {x} {v} {z} e f i = record {
      within = p.within;
      moves = p.moves;
      is = λ h k. record { fields = p.fields; is = p.is; row = row_given_lem h k ∙ rw (e, f, i) };
    }
