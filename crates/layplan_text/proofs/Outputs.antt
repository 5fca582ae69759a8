-- The output, written line by line into an array of zeros. Assumes nothing.
use Prim.Native.Nat.{ℕ, ◌+◌, ◌*◌, ◌≤◌, ◌<◌}
use mathlib.Core.Path.{◌≡◌, refl, sym, ap, ◌∙◌}
use mathlib.Core.List.{List, [], ◌∷◌, ◌++◌}
use native.Mathlib.Omega.{arith}
use native.Mathlib.Numerals.{add-one}
use lib.ListN.{length, get_or, drop, set, length-append, length-drop, length-set}
use lib.Seq.{drop-cons, drop-length, append_snoc}
use lib.IntN.{ℤ}
use mir.Syntax.{w64}
use mir.Val.{SFits, to_z, of_z}
use Rattle.model.specs.Bounds.{block_limit}
use Rattle.model.specs.Fields.{number_field, signed_field, line}
use Rattle.model.specs.Program.{partition_texts}
use Rattle.fields.specs.Writing.{placed}
use Rattle.model.proofs.FieldLaws.{length-number, length_signed}
use Rattle.model.proofs.LineLaws.{length-line}
use Rattle.fields.proofs.Placing.{length-placed, placed_none, placed_one, placed-joined}
use Rattle.fields.proofs.Signs.{held}
pub use Rattle.lines.proofs.Outputs.{output_within, output_front}
use Rattle.layplan_text.specs.Texts.{output_size, ends_text}

-- Partition lines.

pub length-parts : (a : ℕ) (es : List ℕ) → length (partition_texts a es) ≡ 23 * length es
unfolding partition_texts
length-parts a [] = refl
length-parts a (e ∷ es) = omega (arith, length-append (line (a ∷ e ∷ [])) (partition_texts (e + 1) es), length-line (a ∷ e ∷ []), length-parts (e + 1) es)

pub record PutEnds (t₀ : List ℕ) (at : ℕ) (ends t : List ℕ) (i e first : ℕ) : Type 0 where
  pub left : i ≤ length ends
  pub room : at + 23 * length ends ≤ length t₀
  pub at-line : e ≡ at + 23 * i
  pub size : length t ≡ length t₀
  pub work : placed e (partition_texts first (drop i ends)) t ≡ placed at (partition_texts 0 ends) t₀

pub put_ends_start : (t : List ℕ) (at : ℕ) (ends : List ℕ) → at + 23 * length ends ≤ length t → PutEnds t at ends t 0 at 0
put_ends_start t at ends h = record { left = omega arith; room = h; at-line = omega arith; size = refl; work = refl }

pub put_ends_next : {t₀ : List ℕ} {at : ℕ} {ends t t' : List ℕ} {i e first : ℕ} → i < length ends → PutEnds t₀ at ends t i e first
    → t' ≡ placed e (line (first ∷ get_or ends i 0 ∷ [])) t → PutEnds t₀ at ends t' (i + 1) (e + 23) (get_or ends i 0 + 1)
unfolding partition_texts
put_ends_next {t₀} {at} {ends} {t} {t'} {i} {e} {first} h w q =
    let l : List ℕ = line (first ∷ get_or ends i 0 ∷ []) in
    let n : length l ≡ 23 = length-line (first ∷ get_or ends i 0 ∷ []) in
    let r : List ℕ = partition_texts (get_or ends i 0 + 1) (drop (i + 1) ends) in
    let m : length r ≡ 23 * length (drop (i + 1) ends) = length-parts (get_or ends i 0 + 1) (drop (i + 1) ends) in
    let x : partition_texts first (drop i ends) ≡ l ++ r = ap (partition_texts first) (drop-cons ends i 0 h ∙ ap (λ (k : ℕ). get_or ends i 0 ∷ drop k ends) (sym (add-one i))) in
    record {
      left = omega arith;
      room = w.room;
      at-line = omega (arith, w.at-line);
      size = ap length q ∙ length-placed e l t (omega (arith, w.at-line, w.room, w.size)) ∙ w.size;
      work =
          ap (placed (e + 23) r) q
          ∙ placed-joined e (e + 23) l r t (omega arith) (omega (arith, m, length-drop (i + 1) ends, w.at-line, w.room, w.size))
          ∙ ap (λ (y : List ℕ). placed e y t) (sym x)
          ∙ w.work;
    }

pub put_ends_end : {t₀ : List ℕ} {at : ℕ} {ends t : List ℕ} {i e first : ℕ} → length ends ≤ i → PutEnds t₀ at ends t i e first → t ≡ placed at (partition_texts 0 ends) t₀
unfolding partition_texts
put_ends_end {t₀} {at} {ends} {t} {i} {e} {first} h w =
    let z : i ≡ length ends = omega (arith, w.left) in
    let x : drop i ends ≡ [] = ap (λ (k : ℕ). drop k ends) z ∙ drop-length ends in
    sym (placed_none e t) ∙ ap (λ (l : List ℕ). placed e (partition_texts first l) t) (sym x) ∙ w.work

-- A plan.

-- a signed number arrives as the number that its bits hold
pub bill_put : (t₁ t₂ : List ℕ) (z : ℤ) → SFits w64 z → t₂ ≡ placed 11 (signed_field (to_z w64 (of_z w64 z))) t₁ → t₂ ≡ placed 11 (signed_field z) t₁
bill_put t₁ t₂ z f e = e ∙ ap (λ (y : ℤ). placed 11 (signed_field y) t₁) (held z f)

module _ (cost : ℤ) (ends : List ℕ) where
  pub length_ends_text : length (ends_text cost ends) ≡ 32 + 23 * length ends
  unfolding ends_text
  length_ends_text =
      let k : List ℕ = number_field (length ends) in
      let z : List ℕ = signed_field cost in
      omega (arith, length-append (k ++ z) (10 ∷ partition_texts 0 ends), length-append k z, length-number (length ends), length_signed cost, length-parts 0 ends)

  module _ (z t₁ t₂ : List ℕ) (long : length z ≡ output_size) (few : length ends ≤ block_limit) (e₁ : t₁ ≡ placed 0 (number_field (length ends)) z) (e₂ : t₂ ≡ placed 11 (signed_field cost) t₁) where
    abbrev p : List ℕ
    p = number_field (length ends) ++ signed_field cost

    p_long : length p ≡ 31
    p_long = omega (arith, length-append (number_field (length ends)) (signed_field cost), length-number (length ends), length_signed cost)

    line_one : t₂ ≡ placed 0 p z
    line_one =
        e₂ ∙ ap (placed 11 (signed_field cost)) e₁
        ∙ placed-joined 0 11 (number_field (length ends)) (signed_field cost) z (omega (arith, length-number (length ends))) (omega (arith, length-number (length ends), length_signed cost))

    two_size : length t₂ ≡ length z
    two_size = ap length line_one ∙ length-placed 0 p z (omega (arith, p_long))

    head_size : length (set t₂ 31 10) ≡ length z
    head_size = length-set t₂ 31 10 ∙ two_size

    pub ends_room : 32 + 23 * length ends ≤ length (set t₂ 31 10)
    ends_room = omega (arith, head_size, long, few)

    line_done : set t₂ 31 10 ≡ placed 0 (p ++ 10 ∷ []) z
    line_done =
        placed_one 31 10 t₂ (omega (arith, two_size))
        ∙ ap (placed 31 (10 ∷ [])) line_one
        ∙ placed-joined 0 31 p (10 ∷ []) z (omega (arith, p_long)) (omega (arith, p_long))

    pub plan_put : (t₄ : List ℕ) → t₄ ≡ placed 32 (partition_texts 0 ends) (set t₂ 31 10) → t₄ ≡ placed 0 (ends_text cost ends) z
    unfolding ends_text
    plan_put t₄ e₄ =
        let n : length (p ++ 10 ∷ []) ≡ 32 = omega (arith, length-append p (10 ∷ []), p_long) in
        e₄ ∙ ap (placed 32 (partition_texts 0 ends)) line_done
        ∙ placed-joined 0 32 (p ++ 10 ∷ []) (partition_texts 0 ends) z (omega arith) (omega (arith, length-parts 0 ends))
        ∙ ap (λ (l : List ℕ). placed 0 l z) (append_snoc p 10 (partition_texts 0 ends))
