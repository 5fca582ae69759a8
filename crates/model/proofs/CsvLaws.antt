-- A record read field by field, a text record by record, and the rows among them. Assumes nothing.
use Prim.Native.Nat.{ℕ, zero, suc, ◌≤◌}
use mathlib.Core.Path.{◌≡◌, refl, sym, ap, ◌∙◌}
use mathlib.Core.Bool.{true, false}
use mathlib.Core.Option.{Option, none, some}
use mathlib.Core.List.{List, [], ◌∷◌, ◌++◌}
use native.Mathlib.Omega.{arith}
use borrow.Author.Tests.{ne_eqb}
use lib.ListN.{length}
use lib.Seq.{append_snoc}
use Rattle.model.specs.declared.Delivery.{Delivery}
use Rattle.model.specs.Lists.{and_then}
use Rattle.model.specs.Fields.{Taken, taken}
use Rattle.model.specs.Csv.{Bytes, behind, take_field, take_fields, take_record, take_records}
use Rattle.model.specs.Weighbridge.{row_of, rows_of}

-- a field, and then the rest of its record
module _ (n : ℕ) (t : List ℕ) where
  pub fields_torn : take_field t ≡ none → take_fields (suc n) t ≡ none
  unfolding take_fields
  fields_torn e = rw e

  pub fields_broken : (f : Bytes) (u : List ℕ) → take_field t ≡ some (taken f u) → behind u ≡ none → take_fields (suc n) t ≡ none
  unfolding take_fields
  fields_broken f u e b = rw (e, b)

  pub fields_last : (f : Bytes) (u v : List ℕ) → take_field t ≡ some (taken f u) → behind u ≡ some (taken false v) → take_fields (suc n) t ≡ some (taken (f ∷ []) v)
  unfolding take_fields
  fields_last f u v e b = rw (e, b)

  pub fields_next : (f : Bytes) (u v : List ℕ)
      → take_field t ≡ some (taken f u)
      → behind u ≡ some (taken true v)
      → take_fields (suc n) t ≡ and_then (take_fields n v) (λ r. some (taken (f ∷ r.value) r.rest))
  unfolding take_fields
  fields_next f u v e b = rw (e, b)

-- the fields of a record behind others of it
abbrev pub behind_these : List Bytes → Option (Taken (List Bytes)) → Option (Taken (List Bytes))
behind_these fs o = and_then o (λ r. some (taken (fs ++ r.value) r.rest))

pub none_before : (o : Option (Taken (List Bytes))) → o ≡ behind_these [] o
none_before none = refl
none_before (some r) = refl

pub one_before : (fs : List Bytes) (f : Bytes) (o : Option (Taken (List Bytes)))
    → behind_these fs (and_then o (λ r. some (taken (f ∷ r.value) r.rest))) ≡ behind_these (fs ++ f ∷ []) o
one_before fs f none = refl
one_before fs f (some r) = ap (λ (l : List Bytes). some (taken l r.rest)) (sym (append_snoc fs f r.value))

-- a record, and then the rest of the text
module _ (n : ℕ) (t : List ℕ) (there : 1 ≤ length t) where
  pub records_next : (fs : List Bytes) (u : List ℕ) → take_record t ≡ some (taken fs u) → take_records (suc n) t ≡ some fs ∷ take_records n u
  unfolding take_records
  records_next fs u e = rw (ne_eqb (length t) 0 (λ z. omega arith), e)

  pub records_broken : take_record t ≡ none → take_records (suc n) t ≡ none ∷ []
  unfolding take_records
  records_broken e = rw (ne_eqb (length t) 0 (λ z. omega arith), e)

pub records_none : (n : ℕ) → take_records n [] ≡ []
unfolding take_records
records_none zero = refl
records_none (suc n) = refl

-- a row, and then the rest of them
module _ (h : List Bytes) where
  pub rows_next : (fs : List Bytes) (rs : List (Option (List Bytes))) (d : Delivery)
      → row_of h fs ≡ some d
      → rows_of h (some fs ∷ rs) ≡ and_then (rows_of h rs) (λ ds. some (d ∷ ds))
  unfolding rows_of
  rows_next fs rs d e = rw e

  pub rows_bad : (fs : List Bytes) (rs : List (Option (List Bytes))) → row_of h fs ≡ none → rows_of h (some fs ∷ rs) ≡ none
  unfolding rows_of
  rows_bad fs rs e = rw e

  pub rows_broken : (rs : List (Option (List Bytes))) → rows_of h (none ∷ rs) ≡ none
  unfolding rows_of
  rows_broken rs = refl

  pub rows_none : rows_of h [] ≡ some []
  unfolding rows_of
  rows_none = refl

  -- good rows are as many as the records
  pub rows_counted : (rs : List (Option (List Bytes))) (ds : List Delivery) → rows_of h rs ≡ some ds → length ds ≡ length rs
  unfolding rows_of
  rows_counted [] ds e = let z : [] ≡ ds = cc in ap length (sym z)
  rows_counted (none ∷ rs) ds e = let z : ◌≡◌ {A = ℕ} 0 1 = cc in absurd (omega arith)
  rows_counted (some fs ∷ rs) ds e = row (row_of h fs) (rows_of h rs) (rows_counted rs) ds e
    where
      row : (r : Option Delivery) (o : Option (List Delivery))
          → ((es : List Delivery) → o ≡ some es → length es ≡ length rs)
          → (ds : List Delivery)
          → and_then r (λ d. and_then o (λ es. some (d ∷ es))) ≡ some ds
          → length ds ≡ suc (length rs)
      row none o more ds e = let z : ◌≡◌ {A = ℕ} 0 1 = cc in absurd (omega arith)
      row (some d) none more ds e = let z : ◌≡◌ {A = ℕ} 0 1 = cc in absurd (omega arith)
      row (some d) (some es) more ds e = let z : d ∷ es ≡ ds = cc in ap length (sym z) ∙ ap suc (more es refl)
