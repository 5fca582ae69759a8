-- An export's checks taken apart, and what it answers where they pass. Assumes nothing.
use Prim.Native.Nat.{ℕ}
use mathlib.Core.Path.{◌≡◌, refl, sym, subst}
use mathlib.Core.Bool.{Bool, true, false, cond}
use mathlib.Core.List.{List, ◌++◌}
use lib.Dec.{T, leb, eqb, eqb→eq}
use lib.ListN.{length, drop}
use Rattle.model.specs.Lists.{every}
use Rattle.model.specs.Checks.{first_failed}
use Rattle.model.specs.Deliveries.{Slices, first_slots, in_range, day_ok}
use Rattle.model.specs.Blocks.{slices_ok}
use Rattle.model.specs.Weighbridge.{csv_text}
use Rattle.model.specs.Questions.{export_checks}
use Rattle.model.specs.SnapshotCalls.{WriteResult}
use Rattle.model.specs.CsvCalls.{export_call}
use Rattle.model.proofs.Tests.{yes_first}

module _ (m : ℕ) (s : Slices) where
  abbrev pub export_text : List ℕ
  export_text = csv_text (first_slots m s)

  -- checks 3 4 8 19 15 of an export
  pub record Exportable (room : ℕ) : Type 0 where
    pub slices : T (slices_ok s)
    pub used : T (leb m (length s.growers))
    pub values : T (every in_range (first_slots m s))
    pub days : T (every day_ok (first_slots m s))
    pub fits : T (leb (length export_text) room)

  pub exportable : (room : ℕ) → first_failed (export_checks m s room) ≡ 0 → Exportable room
  unfolding export_checks
  exportable room e =
      let a = yes_first 2 (slices_ok s) _ e in
      let b = yes_first 3 (leb m (length s.growers)) _ a.1 in
      let c = yes_first 7 (every in_range (first_slots m s)) _ b.1 in
      let k = yes_first 18 (every day_ok (first_slots m s)) _ c.1 in
      let d = yes_first 14 (leb (length export_text) room) _ k.1 in
      record { slices = a.0; used = b.0; values = c.0; days = k.0; fits = d.0 }

  module _ (out : List ℕ) where
    abbrev wrote : WriteResult
    wrote = record { answer = record { refusal = 0; bytes = length export_text }; text = export_text ++ drop (length export_text) out }

    pub export_accepted : (export_call m s out).answer.refusal ≡ 0 → first_failed (export_checks m s (length out)) ≡ 0
    unfolding export_call
    export_accepted e = go (first_failed (export_checks m s (length out))) (eqb (first_failed (export_checks m s (length out))) 0) refl e
      where
        go : (n : ℕ) (b : Bool) → eqb n 0 ≡ b → (cond {A = WriteResult} b wrote (record { answer = record { refusal = n; bytes = 0 }; text = out })).answer.refusal ≡ 0 → n ≡ 0
        go n true q r = eqb→eq n 0 (subst T (sym q) tt)
        go n false q r = r

    pub export_is : first_failed (export_checks m s (length out)) ≡ 0 → export_call m s out ≡ wrote
    unfolding export_call
    export_is e = rw e
