-- Lines of numbers: what was written is read again, and what is read was written so. Assumes nothing.
use Prim.Native.Nat.{ℕ, zero, suc, ◌+◌, ◌*◌, ◌≤◌}
use mathlib.Core.Path.{◌≡◌, refl, sym, ap, ap₂, ◌∙◌, subst}
use mathlib.Core.Bool.{Bool, true, false}
use mathlib.Core.Option.{Option, none, some}
use mathlib.Core.List.{List, [], ◌∷◌, ◌++◌, append_assoc, map, flatten}
use native.Mathlib.Omega.{arith}
use lib.Dec.{T, leb, eqb, leb→le, le→leb, eqb→eq}
use lib.ListN.{length, take, drop, length-append, take-append-drop}
use lib.Seq.{take_at, drop_at}
use Rattle.model.specs.Bounds.{most_number}
use Rattle.model.specs.Lists.{every, only_if, and_then}
use Rattle.model.specs.Fields.{blank, justified, number_field, field_width, line_end, line, lines, read_field, Taken, taken, take_numbers, after_line_end, take_line, take_lines}
use Rattle.model.proofs.Tests.{and_fst, and_snd, and_mk}
use Rattle.model.proofs.FieldLaws.{length-justified, length-number, read_number, field_read}

-- Values that may be absent.

pub record Through {A B : Type 0} (o : Option A) (f : A → Option B) (b : B) : Type 0 where
  pub value : A
  pub first : o ≡ some value
  pub next : f value ≡ some b

pub nothing : {A : Type 0} {a : A} → none ≡ some a → ⊥
nothing e = let z : ◌≡◌ {A = ℕ} 0 1 = cc in omega arith

pub through : {A B : Type 0} (o : Option A) (f : A → Option B) (b : B) → and_then o f ≡ some b → Through o f b
through none f b e = absurd (nothing e)
through (some a) f b e = record { value = a; first = refl; next = e }

pub only : {A : Type 0} (t : Bool) (a b : A) → only_if t a ≡ some b → T t × (a ≡ b)
only true a b e = (tt, cc)
only false a b e = absurd (nothing e)

-- Numbers that fit a field.

abbrev pub fits_field : ℕ → Bool
fits_field n = leb n most_number

abbrev pub Fit : List ℕ → Type 0
Fit ns = T (every fits_field ns)

pub fit_cons : (n : ℕ) (ns : List ℕ) → n ≤ most_number → Fit ns → Fit (n ∷ ns)
unfolding every
fit_cons n ns h t = and_mk (fits_field n) (every fits_field ns) (le→leb n most_number h) t

pub fit_none : Fit []
unfolding every
fit_none = tt

pub fit_first : (n : ℕ) (ns : List ℕ) → Fit (n ∷ ns) → n ≤ most_number
unfolding every
fit_first n ns t = leb→le n most_number (and_fst (fits_field n) (every fits_field ns) t)

pub fit_rest : (n : ℕ) (ns : List ℕ) → Fit (n ∷ ns) → Fit ns
unfolding every
fit_rest n ns t = and_snd (fits_field n) (every fits_field ns) t

-- Fields one after the other.

take_fields : (ns t : List ℕ) → Fit ns → take_numbers (length ns) (flatten (map number_field ns) ++ t) ≡ some (taken ns t)
unfolding take_numbers flatten
take_fields [] t f = refl
take_fields (n ∷ ns) t f =
    let e : flatten (map number_field (n ∷ ns)) ++ t ≡ number_field n ++ (flatten (map number_field ns) ++ t) = append_assoc (number_field n) (flatten (map number_field ns)) t in
    let a : take field_width (number_field n ++ (flatten (map number_field ns) ++ t)) ≡ number_field n = take_at (number_field n) _ field_width (length-number n) in
    let b : drop field_width (number_field n ++ (flatten (map number_field ns) ++ t)) ≡ flatten (map number_field ns) ++ t = drop_at (number_field n) _ field_width (length-number n) in
    rw (e, a, b, read_number n (fit_first n ns f), take_fields ns t (fit_rest n ns f))

-- a list of n numbers that stood at the start of a text
pub record Took (n : ℕ) (t : List ℕ) (r : Taken (List ℕ)) : Type 0 where
  pub text : flatten (map number_field r.value) ++ r.rest ≡ t
  pub count : length r.value ≡ n
  pub fit : Fit r.value

fields_taken : (n : ℕ) (t : List ℕ) (r : Taken (List ℕ)) → take_numbers n t ≡ some r → Took n t r
unfolding take_numbers flatten
fields_taken zero t r e =
    let q : taken [] t ≡ r = cc in
    subst (Took 0 t) q (record { text = refl; count = refl; fit = fit_none })
fields_taken (suc n) t r e =
    let p = through (read_field (take field_width t)) (λ v. and_then (take_numbers n (drop field_width t)) (λ r. some (taken (v ∷ r.value) r.rest))) r e in
    let q = through (take_numbers n (drop field_width t)) (λ (r : Taken (List ℕ)). some (taken (p.value ∷ r.value) r.rest)) r p.next in
    let o = field_read (take field_width t) p.value p.first in
    let w = fields_taken n (drop field_width t) q.value q.first in
    let s : taken (p.value ∷ q.value.value) q.value.rest ≡ r = cc q.next in
    subst (Took (suc n) t) s (record {
      text = append_assoc (number_field p.value) (flatten (map number_field q.value.value)) q.value.rest ∙ ap₂ (λ (a b : List ℕ). a ++ b) o.field w.text ∙ take-append-drop field_width t;
      count = ap suc w.count;
      fit = fit_cons p.value q.value.value o.most w.fit;
    })

-- Lengths.

-- numbers of w columns each
pub length_fields : (w : ℕ) → 1 ≤ w → (ns : List ℕ) → length (flatten (map (justified blank w) ns)) ≡ w * length ns
unfolding flatten
length_fields w h [] = omega arith
length_fields w h (n ∷ ns) = omega (arith, length-append (justified blank w n) (flatten (map (justified blank w) ns)), length-justified blank w n h, length_fields w h ns)

pub length-line : (ns : List ℕ) → length (line ns) ≡ 11 * length ns + 1
unfolding line
length-line ns = omega (arith, length-append (flatten (map number_field ns)) (line_end ∷ []), length_fields 11 (omega arith) ns)

-- A line.

pub take-line : (ns t : List ℕ) → Fit ns → take_line (length ns) (line ns ++ t) ≡ some (taken ns t)
unfolding take_line line after_line_end
take-line ns t f =
    let e : line ns ++ t ≡ flatten (map number_field ns) ++ (line_end ∷ t) = append_assoc (flatten (map number_field ns)) (line_end ∷ []) t in
    rw (e, take_fields ns (line_end ∷ t) f)

after_end : (t u : List ℕ) → after_line_end t ≡ some u → line_end ∷ u ≡ t
unfolding after_line_end
after_end [] u e = absurd (nothing e)
after_end (b ∷ t) u e =
    let o = only (eqb b line_end) t u e in
    ap₂ (λ (x : ℕ) (l : List ℕ). x ∷ l) (sym (eqb→eq b line_end o.0)) (sym o.1)

pub record TookLine (n : ℕ) (t : List ℕ) (r : Taken (List ℕ)) : Type 0 where
  pub text : line r.value ++ r.rest ≡ t
  pub count : length r.value ≡ n
  pub fit : Fit r.value

pub line_taken : (n : ℕ) (t : List ℕ) (r : Taken (List ℕ)) → take_line n t ≡ some r → TookLine n t r
unfolding take_line line
line_taken n t r e =
    let p = through (take_numbers n t) (λ (r : Taken (List ℕ)). and_then (after_line_end r.rest) (λ u. some (taken r.value u))) r e in
    let q = through (after_line_end p.value.rest) (λ (u : List ℕ). some (taken p.value.value u)) r p.next in
    let w = fields_taken n t p.value p.first in
    let s : taken p.value.value q.value ≡ r = cc q.next in
    subst (TookLine n t) s (record {
      text =
          append_assoc (flatten (map number_field p.value.value)) (line_end ∷ []) q.value
          ∙ ap (λ (l : List ℕ). flatten (map number_field p.value.value) ++ l) (after_end p.value.rest q.value q.first) ∙ w.text;
      count = w.count;
      fit = w.fit;
    })

-- Lines of n numbers each.

pub record Row (n : ℕ) (ns : List ℕ) : Type 0 where
  pub count : length ns ≡ n
  pub fit : Fit ns

pub data Rows (n : ℕ) : List (List ℕ) → Type 0 where
  no_rows : Rows n []
  row : {ns : List ℕ} {rs : List (List ℕ)} → Row n ns → Rows n rs → Rows n (ns ∷ rs)

pub take-lines : (n : ℕ) (rs : List (List ℕ)) (t : List ℕ) → Rows n rs → take_lines (length rs) n (lines rs ++ t) ≡ some (taken rs t)
unfolding take_lines flatten
take-lines n [] t no_rows = refl
take-lines n (ns ∷ rs) t (row r o) =
    let e : lines (ns ∷ rs) ++ t ≡ line ns ++ (lines rs ++ t) = append_assoc (line ns) (lines rs) t in
    let a : take_line n (line ns ++ (lines rs ++ t)) ≡ some (taken ns (lines rs ++ t))
    = ap (λ (k : ℕ). take_line k (line ns ++ (lines rs ++ t))) (sym r.count) ∙ take-line ns _ r.fit in
    rw (e, a, take-lines n rs t o)

pub record TookLines (m n : ℕ) (t : List ℕ) (r : Taken (List (List ℕ))) : Type 0 where
  pub text : lines r.value ++ r.rest ≡ t
  pub count : length r.value ≡ m
  pub rows : Rows n r.value

pub lines-taken : (m n : ℕ) (t : List ℕ) (r : Taken (List (List ℕ))) → take_lines m n t ≡ some r → TookLines m n t r
unfolding take_lines flatten
lines-taken zero n t r e =
    let q : taken [] t ≡ r = cc in
    subst (TookLines 0 n t) q (record { text = refl; count = refl; rows = no_rows })
lines-taken (suc m) n t r e =
    let p = through (take_line n t) (λ (r : Taken (List ℕ)). and_then (take_lines m n r.rest) (λ q. some (taken (r.value ∷ q.value) q.rest))) r e in
    let q = through (take_lines m n p.value.rest) (λ (q : Taken (List (List ℕ))). some (taken (p.value.value ∷ q.value) q.rest)) r p.next in
    let o = line_taken n t p.value p.first in
    let w = lines-taken m n p.value.rest q.value q.first in
    let s : taken (p.value.value ∷ q.value.value) q.value.rest ≡ r = cc q.next in
    subst (TookLines (suc m) n t) s (record {
      text = append_assoc (line p.value.value) (lines q.value.value) q.value.rest ∙ ap (λ (l : List ℕ). line p.value.value ++ l) w.text ∙ o.text;
      count = ap suc w.count;
      rows = row (record { count = o.count; fit = o.fit }) w.rows;
    })
