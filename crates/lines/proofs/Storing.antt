-- A column of numbers stored one after the other. Assumes nothing.
use Prim.Native.Nat.{ℕ, zero, suc, ◌+◌, ◌-◌, ◌*◌, ◌≤◌, ◌<◌}
use mathlib.Core.Path.{◌≡◌, refl, sym, ap, ap₂, ◌∙◌, subst}
use mathlib.Core.List.{List, [], ◌∷◌, ◌++◌, append-nil}
use native.Mathlib.Omega.{arith}
use native.Mathlib.Numerals.{add-one}
use lib.ListN.{length, get_or, take, drop, set, drop_of_length-le}
use lib.Seq.{length-take-le, drop-cons, set_at, append_snoc}
use Rattle.fields.specs.Reading.{field_ok, value_at}
use Rattle.lines.specs.Lines.{column_at, column_ok, line_length, line_ok, lines_ok}
use Rattle.model.proofs.Tests.{and_fst, and_snd, and_mk}
use lib.Dec.{T}
use mathlib.Core.Bool.{◌&&◌}

-- Columns of a text.

pub length_column : (s at n : ℕ) (t : List ℕ) → length (column_at s at n t) ≡ n
unfolding column_at
length_column s at zero t = refl
length_column s at (suc n) t = ap suc (length_column s (at + s) n t)

pub get_or-column : (s at n : ℕ) (t : List ℕ) (j : ℕ) → j < n → get_or (column_at s at n t) j 0 ≡ value_at (at + s * j) t
unfolding column_at
get_or-column s at zero t j h = absurd (omega arith)
get_or-column s at (suc n) t zero h = ap (λ (k : ℕ). value_at k t) (omega arith)
get_or-column s at (suc n) t (suc j) h = get_or-column s (at + s) n t j (omega arith) ∙ ap (λ (k : ℕ). value_at k t) (omega arith)

pub column_more : (s at n : ℕ) (t : List ℕ) → column_at s at (n + 1) t ≡ column_at s at n t ++ value_at (at + s * n) t ∷ []
unfolding column_at
column_more s at zero t = let z : at + s * 0 ≡ at = omega arith in rw z
column_more s at (suc n) t =
    let y : suc n + 1 ≡ suc (n + 1) = omega arith in
    let z : at + s * suc n ≡ at + s + s * n = omega arith in
    rw (y, z) (ap (λ (l : List ℕ). value_at at t ∷ l) (column_more s (at + s) n t))

-- Numbers stored one after the other.

pub record Storing (t : List ℕ) (at : ℕ) (s₀ s : List ℕ) (i e : ℕ) : Type 0 where
  pub left : i ≤ length s₀
  pub at-line : e ≡ at + 34 * i
  pub so_far : s ≡ column_at 34 at i t ++ drop i s₀
  pub ahead : T (column_ok 34 e (length s₀ - i) t)

pub store_start : (t : List ℕ) (at : ℕ) (s : List ℕ) → T (column_ok 34 at (length s) t) → Storing t at s s 0 at
unfolding column_at
store_start t at s k = let z : length s - 0 ≡ length s = omega arith in record { left = omega arith; at-line = omega arith; so_far = refl; ahead = rw z k }

module _ {t : List ℕ} {at : ℕ} {s₀ s : List ℕ} {i e : ℕ} (w : Storing t at s₀ s i e) where
  module _ (h : i < length s₀) where
    -- the next field, and those behind it
    next_fields : T (field_ok e t && column_ok 34 (e + 34) (length s₀ - (i + 1)) t)
    unfolding column_ok
    next_fields =
        let z : length s₀ - i ≡ suc (length s₀ - (i + 1)) = omega arith in
        subst (λ (k : ℕ). T (column_ok 34 e k t)) z w.ahead

    pub store_field : T (field_ok e t)
    store_field = and_fst (field_ok e t) (column_ok 34 (e + 34) (length s₀ - (i + 1)) t) next_fields

    pub store_next : {x : ℕ} → x ≡ value_at e t → Storing t at s₀ (set s i x) (i + 1) (e + 34)
    store_next {x} q =
        let l : List ℕ = column_at 34 at i t in
        record {
          left = omega arith;
          at-line = omega (arith, w.at-line);
          so_far =
              ap (λ (r : List ℕ). set r i x) (w.so_far ∙ ap (λ (r : List ℕ). l ++ r) (drop-cons s₀ i 0 h))
              ∙ set_at l (get_or s₀ i 0) (drop (suc i) s₀) x i (length_column 34 at i t)
              ∙ sym (append_snoc l x (drop (suc i) s₀))
              ∙ ap₂ (λ (a : ℕ) (k : ℕ). (l ++ a ∷ []) ++ drop k s₀) (q ∙ ap (λ (k : ℕ). value_at k t) w.at-line) (sym (add-one i))
              ∙ ap (λ (r : List ℕ). r ++ drop (i + 1) s₀) (sym (column_more 34 at i t));
          ahead = and_snd (field_ok e t) (column_ok 34 (e + 34) (length s₀ - (i + 1)) t) next_fields;
        }

  pub store_end : length s₀ ≤ i → s ≡ column_at 34 at (length s₀) t
  store_end h =
      let z : i ≡ length s₀ = omega (arith, w.left) in
      w.so_far ∙ ap₂ (λ (k : ℕ) (r : List ℕ). column_at 34 at k t ++ r) z (drop_of_length-le s₀ (omega arith)) ∙ append-nil (column_at 34 at (length s₀) t)

-- the same into the front of a slice
module _ (t : List ℕ) (at m : ℕ) (s : List ℕ) (h : m ≤ length s) where
  pub front_length : m ≡ length (take m s)
  front_length = sym (length-take-le m s h)

  pub front_ok : T (column_ok 34 at m t) → T (column_ok 34 at (length (take m s)) t)
  front_ok k = rw (sym front_length) k

  pub front_stored : (u : List ℕ) → u ≡ column_at 34 at (length (take m s)) t → u ++ drop m s ≡ column_at 34 at m t ++ drop m s
  front_stored u e = ap (λ (l : List ℕ). l ++ drop m s) (e ∙ ap (λ (k : ℕ). column_at 34 at k t) (sym front_length))

-- Number j of each of m good lines stands there.

field_of : (t : List ℕ) (n at j : ℕ) → j < n → T (line_ok n at t) → T (field_ok (at + 11 * j) t)
unfolding line_ok
field_of t zero at j h o = absurd (omega arith)
field_of t (suc n) at zero h o = let z : at ≡ at + 11 * 0 = omega arith in subst (λ (k : ℕ). T (field_ok k t)) z (and_fst (field_ok at t) (line_ok n (at + 11) t) o)
field_of t (suc n) at (suc j) h o =
    let z : at + 11 + 11 * j ≡ at + 11 * suc j = omega arith in
    subst (λ (k : ℕ). T (field_ok k t)) z (field_of t n (at + 11) j (omega arith) (and_snd (field_ok at t) (line_ok n (at + 11) t) o))

pub column_ok_lem : (t : List ℕ) (n j : ℕ) → j < n → (m at : ℕ) → T (lines_ok n m at t) → T (column_ok (line_length n) (at + 11 * j) m t)
unfolding column_ok lines_ok
column_ok_lem t n j h zero at o = tt
column_ok_lem t n j h (suc m) at o =
    let s : ℕ = line_length n in
    let z : at + s + 11 * j ≡ at + 11 * j + s = omega arith in
    and_mk (field_ok (at + 11 * j) t) (column_ok s (at + 11 * j + s) m t) (field_of t n at j h (and_fst (line_ok n at t) (lines_ok n m (at + s) t) o))
    (subst (λ (k : ℕ). T (column_ok s k m t)) z (column_ok_lem t n j h m (at + s) (and_snd (line_ok n at t) (lines_ok n m (at + s) t) o)))
