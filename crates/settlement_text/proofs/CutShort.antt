-- A text that is longer than every book of 64 partitions and 512 deliveries is refused by what its line 1 says, and so is its front.
-- Assumes nothing.
use Prim.Native.Nat.{ℕ, zero, suc, ◌+◌, ◌≤◌, ◌<◌}
use mathlib.Core.Path.{◌≡◌, refl, sym, ap, ◌∙◌}
use mathlib.Core.Bool.{Bool, true, false, cond}
use mathlib.Core.List.{List, [], ◌∷◌}
use native.Mathlib.Omega.{arith}
use lib.Dec.{leb, eqb, leb→le}
use lib.ListN.{length, take, drop}
use lib.Seq.{take-take, take_all, length-take-le}
use Rattle.model.specs.Bounds.{block_limit, sheet_slots}
use Rattle.model.specs.Lists.{only_if, is_some}
use Rattle.model.specs.Checks.{first_failed}
use Rattle.model.specs.Blocks.{slices_ok, slots_ok}
use Rattle.model.specs.Fields.{after_line_end}
use Rattle.model.specs.Sheet.{sheet_text}
use Rattle.model.specs.Snapshot.{is_book, slots_for_book}
use Rattle.model.specs.Questions.{read_checks}
use Rattle.model.specs.SnapshotCalls.{read_call}
use Rattle.model.specs.Program.{refusal_text}
use Rattle.model.specs.SheetCalls.{book_read, settlement}
use Rattle.model.proofs.Tests.{of_true, leb_no}
use Rattle.fields.specs.Reading.{field_at, field_ok, value_at}
use Rattle.lines.specs.Lines.{column_at, line_ok}
use Rattle.snapshot.specs.Texts.{header_at, head_ok}
use Rattle.snapshot.proofs.TextLaws.{lines_right, header_form, book_form, slots_form, head_good, wrong_size}

-- Line 1 lies in a front of a text.

cut_field : (a k n : ℕ) (l : List ℕ) → a + k ≤ n → take k (drop a (take n l)) ≡ take k (drop a l)
cut_field zero k n l h = take-take k n l (omega (arith, h))
cut_field (suc a) k zero l h = absurd (omega (arith, h))
cut_field (suc a) k (suc n) [] h = refl
cut_field (suc a) k (suc n) (x ∷ l) h = cut_field a k n l (omega (arith, h))

one_byte : (l : List ℕ) → is_some (after_line_end l) ≡ is_some (after_line_end (take 1 l))
unfolding after_line_end
one_byte [] = refl
one_byte (b ∷ l) = go (eqb b 10)
  where
    go : (t : Bool) → is_some (only_if t l) ≡ is_some (only_if {A = List ℕ} t [])
    go true = refl
    go false = refl

module _ (n : ℕ) (t : List ℕ) (h : 34 ≤ n) where
  same_field : (a : ℕ) → a + 11 ≤ 34 → field_at a (take n t) ≡ field_at a t
  same_field a k = cut_field a 11 n t (omega (arith, k, h))

  same_end : is_some (after_line_end (drop 33 (take n t))) ≡ is_some (after_line_end (drop 33 t))
  same_end = one_byte (drop 33 (take n t)) ∙ ap (λ (l : List ℕ). is_some (after_line_end l)) (cut_field 33 1 n t (omega (arith, h))) ∙ sym (one_byte (drop 33 t))

  same_numbers : column_at 11 0 3 (take n t) ≡ column_at 11 0 3 t
  unfolding column_at value_at
  same_numbers = rw (same_field 0 (omega arith), same_field 11 (omega arith), same_field 22 (omega arith))

  same_head : head_ok block_limit (take n t) ≡ head_ok block_limit t
  unfolding head_ok line_ok field_ok
  same_head = rw (same_field 0 (omega arith), same_field 11 (omega arith), same_field 22 (omega arith), same_end, same_numbers)

-- What a long text is refused by.

-- 12 where line 1 is three numbers in range and M is above the slots, else 14
abbrev refusal : List ℕ → ℕ
refusal t = cond (head_ok block_limit t) (cond (leb (header_at t).used sheet_slots) 14 12) 14

module _ (t : List ℕ) (long : 18914 < length t) where
  no_book : head_ok block_limit t ≡ true → leb (header_at t).used sheet_slots ≡ true → is_book block_limit t ≡ false
  unfolding is_book
  no_book e f =
      let g = head_good block_limit t e in
      let w : lines_right t ≡ false = wrong_size block_limit t e (λ z. let x : ⊥ = omega (arith, z, long, g.few, leb→le (header_at t).used sheet_slots (of_true _ f)) in x) in
      rw (book_form block_limit t, e, w)

  refused_by : (book_read t).refusal ≡ refusal t
  unfolding read_call read_checks first_failed slices_ok slots_ok slots_for_book is_book
  refused_by = go (head_ok block_limit t) refl (leb (header_at t).used sheet_slots) refl
    where
      go : (a : Bool) → head_ok block_limit t ≡ a → (b : Bool) → leb (header_at t).used sheet_slots ≡ b → (book_read t).refusal ≡ cond a (cond b 14 12) 14
      go false e b f = rw (header_form block_limit t, book_form block_limit t, e)
      go true e false f = rw (slots_form block_limit t sheet_slots e, f)
      go true e true f = rw (slots_form block_limit t sheet_slots e, f, no_book e f)

  long_refused : settlement t ≡ refusal_text (refusal t)
  unfolding settlement
  long_refused = rw refused_by (go (head_ok block_limit t) (leb (header_at t).used sheet_slots))
    where
      go : (a b : Bool) → cond (eqb (cond a (cond b 14 12) 14) 0) (sheet_text block_limit (book_read t).column) (refusal_text (cond a (cond b 14 12) 14)) ≡ refusal_text (cond a (cond b 14 12) 14)
      go true true = refl
      go true false = refl
      go false b = refl

pub cut_short : (t : List ℕ) → settlement (take 18915 t) ≡ settlement t
cut_short t = go (leb (length t) 18915) refl
  where
    go : (b : Bool) → leb (length t) 18915 ≡ b → settlement (take 18915 t) ≡ settlement t
    go true e = ap settlement (take_all 18915 t (leb→le (length t) 18915 (of_true _ e)))
    go false e =
        let h : 18915 < length t = leb_no (length t) 18915 e in
        long_refused (take 18915 t) (omega (arith, length-take-le 18915 t (omega (arith, h))))
        ∙ rw (same_head 18915 t (omega arith), same_numbers 18915 t (omega arith)) (sym (long_refused t (omega (arith, h))))
