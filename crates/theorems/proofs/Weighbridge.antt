-- Importing an export restores the deliveries: an accepted export's slots are in range, its text is read as them, and every check of
-- importing it passes. Assumes nothing.
use Prim.Native.Nat.{ℕ, ◌≤◌}
use mathlib.Core.Path.{◌≡◌, refl, sym, ap, ap₂, ◌∙◌, subst}
use mathlib.Core.List.{List, [], ◌∷◌, map}
use native.Mathlib.Omega.{arith}
use borrow.Author.Tests.{le-leb}
use lib.Dec.{T, leb, leb→le}
use lib.ListN.{length, take, drop, replicate, length-map}
use lib.Seq.{take_at, length-take-le}
use Rattle.model.specs.declared.Delivery.{Delivery}
use Rattle.model.specs.Bounds.{most_number, most_weight, most_yield}
use Rattle.model.specs.Lists.{every}
use Rattle.model.specs.Checks.{first_failed}
use Rattle.model.specs.Deliveries.{Slices, slices_of, rows, first_slots, Even, slices_for, each_slice, joined, in_range, grower_of, weight_of, yield_of, day_of}
use Rattle.model.specs.Blocks.{slices_ok}
use Rattle.model.specs.Weighbridge.{csv_text}
use Rattle.model.specs.Questions.{import_checks, export_checks}
use Rattle.model.specs.SnapshotCalls.{WriteResult}
use Rattle.model.specs.CsvCalls.{imported, import_call, export_call}
use Rattle.model.proofs.Tests.{and_fst, and_snd, is_true}
use Rattle.model.proofs.ListLaws.{every_front}
use Rattle.model.proofs.Deliveries.{length-rows, slices_front}
use Rattle.model.proofs.SetLaws.{sliced}
use Rattle.model.proofs.ExportLaws.{Exportable, exportable, export_accepted, export_is}
use Rattle.theorems.specs.Snapshot.{Numbers32}
use Rattle.theorems.specs.Weighbridge.{exported, undated_front, ImportRestores}
use Rattle.theorems.proofs.ExportRead.{undated, Fits, none_fits, fit_then, named, once, text_read, text_counted}

-- slots in range fit
slots_fit : (ds : List Delivery) → Numbers32 (map grower_of ds) → T (every in_range ds) → Fits ds
unfolding every
slots_fit [] t u = none_fits
slots_fit (d ∷ ds) t u =
    let w = leb d.weight most_weight in
    let y = leb d.oil_yield most_yield in
    let a = and_fst (in_range d) (every in_range ds) u in
    fit_then
    (record {
      grower = leb→le d.grower most_number (and_fst (leb d.grower most_number) _ t);
      weight = leb→le d.weight most_weight (and_fst w y a);
      oil = leb→le d.oil_yield most_yield (and_snd w y a);
    })
    (slots_fit ds (and_snd (leb d.grower most_number) _ t) (and_snd (in_range d) (every in_range ds) u))

-- importing the text of deliveries that fit
module _ {ds : List Delivery} (f : Fits ds) (s : Slices) (t : T (slices_ok s)) (h : length ds ≤ length s.growers) where
  passes : first_failed (import_checks (csv_text ds) s) ≡ 0
  unfolding import_checks first_failed
  passes = rw (is_true (slices_ok s) t, named ds, once ds, text_read f, text_counted f, le-leb (length ds) (length s.growers) h)

  text_imported : import_call (csv_text ds) s ≡ imported (map undated ds) s
  unfolding import_call
  text_imported = rw (passes, text_read f)

-- what an accepted export passed, and its bytes
module _ (m : ℕ) (s : Slices) (out : List ℕ) (ok : (export_call m s out).answer.refusal ≡ 0) where
  accepted : first_failed (export_checks m s (length out)) ≡ 0
  accepted = export_accepted m s out ok

  passed : Exportable m s (length out)
  passed = exportable m s (length out) accepted

  bytes : exported m s out ≡ csv_text (first_slots m s)
  bytes =
      let t : List ℕ = csv_text (first_slots m s) in
      ap (λ (r : WriteResult). take r.answer.bytes r.text) (export_is m s out accepted) ∙ take_at t (drop (length t) out) (length t) refl

  -- the numbers of the first slots are those of the slices
  even : Even s
  even = (sliced s passed.slices).even

  counted : length (first_slots m s) ≡ m
  counted = length-take-le m (rows s) (omega (arith, length-rows s even, leb→le m (length s.growers) passed.used))

  front : slices_for (first_slots m s) ≡ each_slice (take m) s
  front = slices_front m s even

  fit : Numbers32 s.growers → Fits (first_slots m s)
  fit small =
      slots_fit (first_slots m s) (subst Numbers32 (ap (λ (t : Slices). t.growers) (sym front)) (every_front (λ (n : ℕ). leb n most_number) m s.growers small)) passed.values

-- the slices that hold deliveries on day 0
no_days : (ds : List Delivery) → map day_of (map undated ds) ≡ replicate (length ds) 0
no_days [] = refl
no_days (d ∷ ds) = ap (λ (l : List ℕ). 0 ∷ l) (no_days ds)

undated-number : (f : Delivery → ℕ) → ((d : Delivery) → f (undated d) ≡ f d) → (ds : List Delivery) → map f (map undated ds) ≡ map f ds
undated-number f h [] = refl
undated-number f h (d ∷ ds) = ap₂ (λ (n : ℕ) (l : List ℕ). n ∷ l) (h d) (undated-number f h ds)

undated_slices : (ds : List Delivery) (s : Slices) → slices_for ds ≡ s → slices_for (map undated ds) ≡ slices_of s.growers s.weights s.yields (replicate (length ds) 0)
undated_slices ds s e =
    rw (undated-number grower_of (λ d. refl) ds, undated-number weight_of (λ d. refl) ds, undated-number yield_of (λ d. refl) ds, no_days ds)
    (ap (λ (t : Slices). slices_of t.growers t.weights t.yields (replicate (length ds) 0)) e)

restored : (m : ℕ) (ds : List Delivery) (s t : Slices) → length ds ≡ m → slices_for ds ≡ each_slice (take m) s
    → imported (map undated ds) t ≡ record { answer = record { refusal = 0; rows = m }; slices = joined (undated_front m s) (each_slice (drop m) t) }
restored m ds s t n e =
    ap₂ (λ (k : ℕ) (r : Slices). record { answer = record { refusal = 0; rows = k }; slices = joined r (each_slice (drop k) t) }) (length-map ds undated ∙ n)
    (undated_slices ds (each_slice (take m) s) e ∙ ap (λ (k : ℕ). slices_of (take m s.growers) (take m s.weights) (take m s.yields) (replicate k 0)) n)

pub import_restores : ImportRestores
import_restores m s out small ok t k h =
    ap (λ (u : List ℕ). import_call u t) (bytes m s out ok)
    ∙ text_imported (fit m s out ok small) t k (omega (arith, counted m s out ok))
    ∙ restored m (first_slots m s) s t (counted m s out ok) (front m s out ok)
