-- A column that a book was read into is sound and in range, and its sheet has no more lines than there are slots: the sheet is not refused,
-- and it is the output. Assumes nothing.
use Prim.Native.Nat.{ℕ, ◌≤◌}
use Rattle.std.specs.Prelude.{Result, Ok, Err}
use Rattle.std.specs.Result.{result_unwrap_or}
use mathlib.Core.Path.{◌≡◌, refl, ap, ap₂, ◌∙◌, subst, sym}
use mathlib.Core.List.{List, []}
use mathlib.Core.Bool.{Bool, ◌&&◌}
use native.Mathlib.Omega.{arith}
use borrow.Author.Tests.{ne_eqb}
use lib.Dec.{T, leb, le→leb}
use lib.ListN.{length, replicate, length-replicate, length-map}
use Rattle.model.specs.declared.Delivery.{Delivery}
use Rattle.model.specs.declared.Applied.{Applied}
use Rattle.model.specs.declared.refusal.Refusal.{Refusal}
use Rattle.model.specs.Answers.{written_of}
use Rattle.model.specs.Bounds.{block_limit, sheet_slots}
use Rattle.model.specs.Lists.{sum_of, every}
use Rattle.model.specs.Checks.{first_failed}
use Rattle.model.specs.Column.{Column, lengths_of, all_records, sound}
use Rattle.model.specs.Deliveries.{grower_of, Slices, alike, in_range, day_ok}
use Rattle.model.specs.Growers.{growers_of}
use Rattle.model.specs.Questions.{sheet_checks}
use Rattle.model.specs.Sheet.{sheet_text, slots_in_order}
use Rattle.model.specs.SnapshotCalls.{ReadResult}
use Rattle.model.specs.Program.{refusal_text}
use Rattle.model.specs.SheetCalls.{SheetResult, sheet_call, written, book_read, settlement}
use Rattle.model.proofs.Tests.{and_fst, and_snd, and_mk, first_passed, nothing_failed}
use Rattle.model.proofs.SheetLaws.{sheet_length, once_fewer}
use Rattle.theorems.proofs.ValidColumn.{every_passes, Valid, length_records, lent_pass}
use Rattle.theorems.proofs.Snapshot.{read_valid}
use Rattle.snapshot.specs.Answers.{result_of}
pub use Rattle.lines.proofs.Outputs.{output_within, output_front}
use Rattle.lines.specs.declared.output.Output.{Output}
use Rattle.lines.specs.Outputs.{output_of as text_output}
use Rattle.settlement_text.specs.Texts.{output_size, output_of}

-- numbers that are all 0, as many as there are slots
abbrev zeros : List ℕ
zeros = replicate sheet_slots 0

-- the output's array before
abbrev blank : List ℕ
blank = replicate output_size 0

module _ (t : List ℕ) (a : Applied) (s : Slices) (e : result_of a s ≡ book_read t) where
  refusal_is : a.refusal ≡ (book_read t).refusal
  refusal_is = ap (λ (r : ReadResult). r.refusal) e

  -- a text that is not read
  pub program_refused : (x : Output output_size) → (a.refusal ≡ 0 → ⊥) → x ≡ output_of (refusal_text a.refusal) → x ≡ output_of (settlement t)
  unfolding settlement
  program_refused x n q = q ∙ sym (rw (sym refusal_is, ne_eqb a.refusal 0 n))

  module _ (ok : a.refusal ≡ 0) where
    abbrev col : Column
    col = (result_of a s).column

    read : Valid block_limit col × (sum_of (lengths_of block_limit col) ≤ length zeros)
    read =
        subst (λ (r : ReadResult). Valid block_limit r.column × (sum_of (lengths_of block_limit r.column) ≤ length zeros)) (sym e)
        (read_valid block_limit t (alike zeros) (sym refusal_is ∙ ok))

    few : sum_of (lengths_of block_limit col) ≤ sheet_slots
    few = omega (arith, read.1, length-replicate {A = ℕ} sheet_slots 0)

    fits : length (sheet_text block_limit col) ≤ output_size
    fits =
        let bag = all_records block_limit col in
        omega (arith, sheet_length bag, once_fewer (growers_of bag), length-map bag grower_of, length_records block_limit col read.0, few)

    accepted : first_failed (sheet_checks block_limit col (length blank) (length zeros) (length zeros)) ≡ 0
    unfolding sheet_checks
    accepted =
        let v = read.0 in
        let bag : List Delivery = all_records block_limit col in
        let vs : T (every in_range bag && every day_ok bag) = subst T (every_passes bag) v.values in
        let slots : Bool = leb (sum_of (lengths_of block_limit col)) (length zeros) in
        let bytes : Bool = leb (length (sheet_text block_limit col)) (length blank) in
        let room : T slots = le→leb (sum_of (lengths_of block_limit col)) (length zeros) read.1 in
        let text : T bytes = le→leb (length (sheet_text block_limit col)) (length blank) (omega (arith, fits, length-replicate {A = ℕ} output_size 0)) in
        lent_pass block_limit col v _
        ∙ first_passed 6 (sound block_limit col) _ v.sound
        ∙ first_passed 8 (every in_range bag) _ (and_fst (every in_range bag) (every day_ok bag) vs)
        ∙ first_passed 19 (every day_ok bag) _ (and_snd (every in_range bag) (every day_ok bag) vs)
        ∙ first_passed 15 (bytes && (slots && slots)) [] (and_mk bytes (slots && slots) text (and_mk slots slots room room))
        ∙ nothing_failed

    sheet_is : sheet_call block_limit col blank zeros zeros
        ≡ (let m : ℕ = sum_of (lengths_of block_limit col) in written (sheet_text block_limit col) m (slots_in_order col.slices.growers m) blank zeros zeros)
    unfolding sheet_call
    sheet_is = rw accepted

    settled : settlement t ≡ sheet_text block_limit col
    unfolding settlement
    settled = rw (sym refusal_is ∙ ok) (ap (λ (r : ReadResult). sheet_text block_limit r.column) (sym e))

    pub program_prints : (x : Result ℕ Refusal) (n : ℕ) (bytes order work : List ℕ)
        → record { answer = written_of x; text = bytes; order = order; work = work } ≡ sheet_call block_limit col blank zeros zeros
        → n ≡ result_unwrap_or x 0 → ◌≡◌ {A = Output output_size} (record { bytes = bytes; count = n }) (output_of (settlement t))
    unfolding text_output
    program_prints x n bytes order work q u =
        let r = q ∙ sheet_is in
        ap₂ (λ (b : List ℕ) (k : ℕ). record { bytes = b; count = k }) (ap (λ (s : SheetResult). s.text) r) (u ∙ counted x ∙ ap (λ (s : SheetResult). s.answer.bytes) r)
        ∙ ap output_of (sym settled)
      where
        counted : (x : Result ℕ Refusal) → result_unwrap_or x 0 ≡ (written_of x).bytes
        counted (Ok k) = refl
        counted (Err e) = refl
