-- A line judged field by field, and lines one after the other. Assumes nothing.
use Prim.Native.Nat.{ℕ, suc, ◌+◌, ◌-◌, ◌*◌, ◌≤◌, ◌<◌}
use mathlib.Core.Path.{◌≡◌, refl, sym, ap, ap₂, ◌∙◌, subst}
use mathlib.Core.Bool.{Bool, true, false, cond, ◌&&◌}
use mathlib.Core.Option.{Option, none, some}
use mathlib.Core.List.{List, [], ◌∷◌, ◌++◌}
use native.Mathlib.Omega.{arith}
use lib.Dec.{eqb}
use lib.ListN.{length, get_or, take, drop, set, drop_of_length-le}
use lib.Seq.{drop-cons, take_all}
use Rattle.std.proofs.lemmas.List.{take_more_set}
use Rattle.std.specs.Prelude.{Result, Ok, Err, IsErrAnd}
use Rattle.std.proofs.lemmas.Result.{err_from_is_err_and}
use Rattle.model.specs.declared.refusal.Refusal.{Refusal}
use Rattle.model.specs.declared.refusal.Refusal.TheVariants.{Text}
use Rattle.model.specs.Lists.{only_if, and_then, is_some}
use Rattle.model.specs.Fields.{read_field, after_line_end}
use Rattle.fields.specs.Reading.{Read, read_at, field_ok, value_at}
use Rattle.model.proofs.LineLaws.{nothing}
use Rattle.lines.specs.Lines.{line_found, column_at, line_length, line_ok, lines_ok}
use Rattle.lines.proofs.Storing.{get_or-column, column_more}

pub ok_no_err : {A : Type 0} {x : A} {r : Refusal} → ◌≡◌ {A = Result A Refusal} (Ok x) (Err r) → ⊥
ok_no_err e = cc

-- What a check that is accepted says of the test, and one that is refused.

pub met : {A : Type 0} (b : Bool) (r : Refusal) {x y : A} → Ok x ≡ cond b (Ok y) (Err r) → (b ≡ true) × (x ≡ y)
met true r e = (refl, cc)
met false r e = absurd (ok_no_err e)

pub unmet : {A : Type 0} (b : Bool) (y : A) {r x : Refusal} → Err x ≡ cond b (Ok y) (Err r) → (b ≡ false) × (x ≡ r)
unmet true y e = absurd (ok_no_err (sym e))
unmet false y e = (refl, cc)

-- a refusal that `?` passes on: a part that fails the whole refuses the whole
pub passed_on : {B : Type 0} (r : Result B Refusal) (x : Refusal) → IsErrAnd r (λ y. y ≡ x) → r ≡ Err x
passed_on r x q = let p = err_from_is_err_and r q in p.1 ∙ ap Err p.2

pub refused_on : {A B : Type 0} (a b : Bool) (y : A) (z : B) (r : Result B Refusal) (x : Refusal) → IsErrAnd r (λ y. y ≡ x) → Err x ≡ cond a (Ok y) (Err Text) → (a ≡ false → b ≡ false)
    → r ≡ cond b (Ok z) (Err Text)
refused_on a b y z r x q e f = let m = unmet a y e in passed_on r x q ∙ ap Err m.1 ∙ sym (rw (f m.0))

abbrev found : ℕ → ℕ → Read
found n at = record { number = n; next = at + 11 }

module _ (t : List ℕ) where
  -- What reading a field at a byte says.

  inv_none : (at : ℕ) → none ≡ read_at t at → read_field (take 11 (drop at t)) ≡ none
  unfolding read_at
  inv_none at e = go (read_field (take 11 (drop at t))) e
    where
      go : (o : Option ℕ) → none ≡ and_then o (λ (n : ℕ). some (found n at)) → o ≡ none
      go none e = refl
      go (some n) e = absurd (nothing e)

  inv_some : (at : ℕ) (r : Read) → some r ≡ read_at t at → (read_field (take 11 (drop at t)) ≡ some r.number) × (r.next ≡ at + 11)
  unfolding read_at
  inv_some at r e = go (read_field (take 11 (drop at t))) e
    where
      go : (o : Option ℕ) → some r ≡ and_then o (λ (n : ℕ). some (found n at)) → (o ≡ some r.number) × (r.next ≡ at + 11)
      go none e = absurd (nothing (sym e))
      go (some n) e =
          let q : r ≡ record { number = n; next = at + 11 } = cc in
          (ap (λ (x : Read). some x.number) (sym q), ap (λ (x : Read). x.next) q)

  next_is : (at : ℕ) (r : Read) → some r ≡ read_at t at → r.next ≡ at + 11
  next_is at r e = (inv_some at r e).1

  value_some : (at : ℕ) (r : Read) → some r ≡ read_at t at → r.number ≡ value_at at t
  unfolding value_at
  value_some at r e = rw (inv_some at r e).0

  no_field : (at : ℕ) → none ≡ read_at t at → field_ok at t ≡ false
  unfolding field_ok
  no_field at e = rw (inv_none at e)

  has_field : (at : ℕ) (r : Read) → some r ≡ read_at t at → field_ok at t ≡ true
  unfolding field_ok
  has_field at r e = rw (inv_some at r e).0

  -- LF at a byte.

  pub ends_at : (at : ℕ) → at < length t → eqb (get_or t at 0) 10 ≡ is_some (after_line_end (drop at t))
  unfolding after_line_end
  ends_at at h = rw (drop-cons t at 0 h) (go (eqb (get_or t at 0) 10))
    where
      go : (b : Bool) → b ≡ is_some (only_if b (drop (suc at) t))
      go true = refl
      go false = refl

  pub ends_past : (at : ℕ) → length t ≤ at → false ≡ is_some (after_line_end (drop at t))
  unfolding after_line_end
  ends_past at h = rw (drop_of_length-le t h)

-- what looking for a line says: it is there, and number j
pub found_line : (n at : ℕ) (t ns : List ℕ) → Ok ns ≡ line_found n at t → line_ok n at t ≡ true
found_line n at t ns e = (met (line_ok n at t) Text e).0

pub found_numbers : (n at : ℕ) (t ns : List ℕ) → Ok ns ≡ line_found n at t → ns ≡ column_at 11 at n t
found_numbers n at t ns e = (met (line_ok n at t) Text e).1

pub found_number : (n at : ℕ) (t ns : List ℕ) → Ok ns ≡ line_found n at t → (j : ℕ) → j < n → get_or ns j 0 ≡ value_at (at + 11 * j) t
found_number n at t ns e j h = ap (λ (l : List ℕ). get_or l j 0) (found_numbers n at t ns e) ∙ get_or-column 11 at n t j h

-- The fields that are left of a line.

pub record FieldsLeft (t : List ℕ) (at n i e : ℕ) : Type 0 where
  pub left : i ≤ n
  pub work : line_ok n at t ≡ line_ok (n - i) e t

pub fields_start : (t : List ℕ) (at n : ℕ) → FieldsLeft t at n 0 at
fields_start t at n = let z : n - 0 ≡ n = omega arith in record { left = omega arith; work = ap (λ (k : ℕ). line_ok k at t) (sym z) }

module _ {t : List ℕ} {at n i e : ℕ} where
  one_field : i < n → FieldsLeft t at n i e → line_ok n at t ≡ field_ok e t && line_ok (n - (i + 1)) (e + 11) t
  unfolding line_ok
  one_field h w = let z : n - i ≡ suc (n - (i + 1)) = omega arith in w.work ∙ rw z

  pub fields_stop : i < n → FieldsLeft t at n i e → none ≡ read_at t e → false ≡ line_ok n at t
  fields_stop h w q = sym (one_field h w ∙ rw (no_field t e q))

  pub fields_next : i < n → FieldsLeft t at n i e → (r : Read) → some r ≡ read_at t e → FieldsLeft t at n (i + 1) r.next
  fields_next h w r q = record { left = omega arith; work = one_field h w ∙ rw (has_field t e r q) (ap (λ (k : ℕ). line_ok (n - (i + 1)) k t) (sym (inv_some t e r q).1)) }

  pub fields_end : n ≤ i → FieldsLeft t at n i e → is_some (after_line_end (drop e t)) ≡ line_ok n at t
  unfolding line_ok
  fields_end h w = let z : n - i ≡ 0 = omega arith in sym (w.work ∙ rw z)

-- Places judged one after the other, s bytes apart: `one` judges the first, `all` as many as there are.

pub record Judge (one : ℕ → Bool) (all : ℕ → ℕ → Bool) (s : ℕ) : Type 0 where
  pub none : (at : ℕ) → all 0 at ≡ true
  pub more : (n at : ℕ) → all (suc n) at ≡ one at && all n (at + s)

-- those that are left
pub record Left (all : ℕ → ℕ → Bool) (s at n i e : ℕ) : Type 0 where
  pub left : i ≤ n
  pub at-line : e ≡ at + s * i
  pub work : all n at ≡ all (n - i) e

pub left_start : (all : ℕ → ℕ → Bool) (s at n : ℕ) → Left all s at n 0 at
left_start all s at n = let z : n - 0 ≡ n = omega arith in record { left = omega arith; at-line = omega arith; work = ap (λ (k : ℕ). all k at) (sym z) }

module _ {one : ℕ → Bool} {all : ℕ → ℕ → Bool} {s : ℕ} (j : Judge one all s) {at n i e : ℕ} (w : Left all s at n i e) where
  one_left : i < n → all n at ≡ one e && all (n - (i + 1)) (e + s)
  one_left h = let z : n - i ≡ suc (n - (i + 1)) = omega arith in w.work ∙ rw z (j.more (n - (i + 1)) e)

  pub left_stop : i < n → one e ≡ false → all n at ≡ false
  left_stop h q = one_left h ∙ rw q

  pub left_next : i < n → one e ≡ true → Left all s at n (i + 1) (e + s)
  left_next h q = record { left = omega arith; at-line = omega (arith, w.at-line); work = one_left h ∙ rw q }

  pub left_end : n ≤ i → true ≡ all n at
  left_end h = let z : n - i ≡ 0 = omega arith in sym (w.work ∙ rw z (j.none e))

pub lines_judge : (n : ℕ) (t : List ℕ) → Judge (λ e. line_ok n e t) (λ k e. lines_ok n k e t) (line_length n)
unfolding lines_ok
lines_judge n t = record { none = λ at. refl; more = λ k at. refl }

-- Numbers taken one after the other: those passed are a column of the text.

pub record Took (t : List ℕ) (at n i e : ℕ) (ns : List ℕ) : Type 0 where
  pub left : FieldsLeft t at n i e
  pub at_field : e ≡ at + 11 * i
  pub values : ns ≡ column_at 11 at i t

pub took_start : (t : List ℕ) (at n : ℕ) → Took t at n 0 at []
unfolding column_at
took_start t at n = record { left = fields_start t at n; at_field = omega arith; values = refl }

module _ {t : List ℕ} {at n i e : ℕ} {ns : List ℕ} (w : Took t at n i e ns) where
  took_read : i < n → (r : Read) → some r ≡ read_at t e → Took t at n (i + 1) r.next (ns ++ r.number ∷ [])
  took_read h r q = record {
    left = fields_next h w.left r q;
    at_field = next_is t e r q ∙ omega (arith, w.at_field);
    values = ap₂ (λ (l : List ℕ) (x : ℕ). l ++ x ∷ []) w.values (value_some t e r q ∙ ap (λ (k : ℕ). value_at k t) w.at_field) ∙ sym (column_more 11 at i t);
  }

  pub took_next : i < n → {x f : ℕ} → some (record { number = x; next = f }) ≡ read_at t e → Took t at n (i + 1) f (ns ++ x ∷ [])
  took_next h {x} {f} q = took_read h (record { number = x; next = f }) q

  pub took_stop : i < n → none ≡ read_at t e → false ≡ line_ok n at t
  took_stop h q = fields_stop h w.left q

  pub took_end : n ≤ i → is_some (after_line_end (drop e t)) ≡ line_ok n at t
  took_end h = fields_end h w.left

-- the same of an array that they are stored in
pub took_set : {t : List ℕ} {at n i e : ℕ} (l : List ℕ) → Took t at n i e (take i l) → length l ≡ n → i < n → {x f : ℕ} → some (record { number = x; next = f }) ≡ read_at t e
    → Took t at n (i + 1) f (take (i + 1) (set l i x))
took_set {t} {at} {n} {i} {e} l w z h {x} {f} q = subst (Took t at n (i + 1) f) (sym (take_more_set l i x (omega arith))) (took_next w h q)

-- the line is there, with these numbers
pub took_line : {t : List ℕ} {at n i e : ℕ} (l : List ℕ) → Took t at n i e (take i l) → length l ≡ n → n ≤ i → is_some (after_line_end (drop e t)) ≡ true → Ok l ≡ line_found n at t
took_line {t} {at} {n} {i} {e} l w z h q =
    let k : i ≡ n = omega (arith, w.left.left) in
    let v : l ≡ column_at 11 at n t = sym (take_all i l (omega arith)) ∙ w.values ∙ ap (λ (j : ℕ). column_at 11 at j t) k in
    rw (sym (took_end w h) ∙ q) (ap Ok v)
