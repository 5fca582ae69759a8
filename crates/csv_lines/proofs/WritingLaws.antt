-- Digits written from the last one to the left: what is left, placed from here on, makes the whole. Assumes nothing.
use Prim.Native.Nat.{ℕ, ◌+◌, ◌-◌, ◌/◌, ◌≤◌}
use mathlib.Core.Path.{◌≡◌, refl, sym, ap, ap₂, ◌∙◌}
use mathlib.Core.List.{List, [], ◌∷◌, ◌++◌, append_assoc}
use native.Mathlib.Omega.{arith}
use lib.ListN.{length, take, drop, set, length-append, length-set}
use lib.Seq.{length-take-le, take-append-le, take-take, drop_at}
use Rattle.model.specs.Fields.{last_digit}
use Rattle.model.specs.Weighbridge.{plain_number}
use Rattle.fields.specs.Writing.{placed}
use Rattle.fields.proofs.Placing.{placed_none, placed_one}
use Rattle.csv_lines.specs.Writing.{CountIs}
use Rattle.csv_lines.proofs.PlainLaws.{last_digits, length_last, last_none, last_next, plain_last}

-- q, and then p before it
placed-before : (at k : ℕ) (p q t : List ℕ) → k ≡ at + length p → at + length p + length q ≤ length t → placed at p (placed k q t) ≡ placed at (p ++ q) t
unfolding placed
placed-before at k p q t e h =
    let a : length (take k t) ≡ k = length-take-le k t (omega arith) in
    let r : List ℕ = q ++ drop (k + length q) t in
    let z : k + length q ≡ at + length (p ++ q) = omega (arith, length-append p q) in
    ap₂ (λ (x y : List ℕ). x ++ (p ++ y))
    (take-append-le at (take k t) r (omega arith) ∙ take-take at k t (omega arith))
    (drop_at (take k t) r (at + length p) (omega arith))
    ∙ ap (λ (l : List ℕ). take at t ++ l) (sym (append_assoc p q (drop (k + length q) t)) ∙ ap (λ (j : ℕ). (p ++ q) ++ drop j t) z)

-- the last i digits of m are left
pub record DigitsLeft (t : List ℕ) (at : ℕ) (whole text : List ℕ) (i m : ℕ) : Type 0 where
  pub size : length text ≡ length t
  pub room : at + i ≤ length t
  pub work : placed at (last_digits i m) text ≡ placed at whole t

-- a number's digits, of which there are i
pub plain_start : (t : List ℕ) (at n i : ℕ) {most : ℕ} → CountIs i (length (plain_number n)) most → at + length (plain_number n) ≤ length t → DigitsLeft t at (plain_number n) t i n
plain_start t at n i r h = record {
  size = refl;
  room = omega (arith, r.is);
  work = ap (λ (l : List ℕ). placed at l t) (ap (λ (k : ℕ). last_digits k n) r.is ∙ sym (plain_last n));
}

module _ {t : List ℕ} {at : ℕ} {whole text : List ℕ} {i m : ℕ} (l : DigitsLeft t at whole text i m) where
  pub digits_next : {i' j : ℕ} → i ≡ i' + 1 → j ≡ at + i' → DigitsLeft t at whole (set text j (last_digit m)) i' (m / 10)
  digits_next {i'} {j} u v =
      let b : ℕ = last_digit m in
      let ds : List ℕ = last_digits i' (m / 10) in
      let n : length ds ≡ i' = length_last i' (m / 10) in
      let r : at + i ≤ length text = omega (arith, l.size, l.room) in
      let z : i - 1 ≡ i' = omega arith in
      record {
        size = length-set text j b ∙ l.size;
        room = omega (arith, l.room);
        work =
            ap (placed at ds) (placed_one j b text (omega arith))
            ∙ placed-before at j ds (b ∷ []) text (omega arith) (omega arith)
            ∙ ap (λ (d : List ℕ). placed at d text) (ap (λ (k : ℕ). last_digits k (m / 10) ++ b ∷ []) (sym z) ∙ sym (last_next i m (omega arith)))
            ∙ l.work;
      }

  pub digits_end : i ≤ 0 → text ≡ placed at whole t
  digits_end h =
      let z : i ≡ 0 = omega arith in
      sym (placed_none at text) ∙ ap (λ (d : List ℕ). placed at d text) (sym (ap (λ (k : ℕ). last_digits k m) z ∙ last_none m)) ∙ l.work
