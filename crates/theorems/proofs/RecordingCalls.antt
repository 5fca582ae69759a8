-- A list of calls recorded: what an accepted call has passed, and that what is left passes 9. Assumes nothing.
use Prim.Native.Nat.{ℕ, ◌*◌}
use mathlib.Core.Path.{◌≡◌, refl, sym, ◌∙◌}
use mathlib.Core.Bool.{Bool, true, false, cond, ◌&&◌}
use mathlib.Core.List.{List, [], ◌∷◌}
use lib.Dec.{T, eqb, eqb→eq}
use lib.ListN.{length, length-replicate}
use Rattle.model.specs.Blocks.{Set, values_ok, days_ok}
use Rattle.model.specs.Calls.{Call, ordered, offered_ok, offered_days_ok}
use Rattle.model.specs.Histograms.{raises, raise_all, counts_ok, room_to_raise, zeros}
use Rattle.model.specs.Questions.{recorder_checks}
use Rattle.model.specs.Recorder.{recorder_refusal, record_call, record_calls, recorded_from_zeros}
use Rattle.model.specs.Laws.{SetPasses}
use Rattle.model.proofs.Tests.{and_snd, yes_first, of_true}
use Rattle.model.proofs.SetLaws.{good}
use Rattle.theorems.proofs.RecordingSums.{length_all}
use Rattle.theorems.proofs.RecordingCounts.{Capped, call_capped, zeros_capped, passes_nine}
use Rattle.theorems.proofs.PlanChecks.{Offered, set_passes}

module _ (L : ℕ) (s : Set) (h : SetPasses L s) where
  -- an accepted call has passed 7, 8, 19 and 10
  pub accepted_passed : (hs : List ℕ) (c : Call) → eqb (recorder_refusal L s hs c) 0 ≡ true → T (ordered c) × Offered c × T (room_to_raise L hs (raises s c))
  unfolding recorder_refusal recorder_checks
  accepted_passed hs c e =
      let n : recorder_refusal L s hs c ≡ 0 = eqb→eq _ _ (of_true _ e) in
      let c7 = yes_first 6 (ordered c) _ (sym ((set_passes L s h).0 _) ∙ n) in
      let c8 = yes_first 7 (values_ok s && offered_ok c) _ c7.1 in
      let c19 = yes_first 18 (days_ok s && offered_days_ok c) _ c8.1 in
      let c9 = yes_first 8 (counts_ok L hs) _ c19.1 in
      let c10 = yes_first 9 (room_to_raise L hs (raises s c)) _ c9.1 in
      (c7.0, (and_snd (values_ok s) (offered_ok c) c8.0, and_snd (days_ok s) (offered_days_ok c) c19.0), c10.0)

  pub length-recorded : (hs : List ℕ) (c : Call) → length hs ≡ 10 * L → length (record_call L s hs c).histograms ≡ 10 * L
  unfolding record_call
  length-recorded hs c k = go (eqb (recorder_refusal L s hs c) 0)
    where
      go : (b : Bool) → length (cond b (raise_all L hs (raises s c)) hs) ≡ 10 * L
      go true = length_all L (raises s c) hs ∙ k
      go false = k

  capped_recorded : (hs : List ℕ) (c : Call) → Capped hs → Capped (record_call L s hs c).histograms
  unfolding record_call
  capped_recorded hs c k = go (eqb (recorder_refusal L s hs c) 0) refl
    where
      go : (b : Bool) → eqb (recorder_refusal L s hs c) 0 ≡ b → Capped (cond b (raise_all L hs (raises s c)) hs)
      go true e = call_capped L s (good L s h) hs c (accepted_passed hs c e).2 k
      go false e = k

  nine : (cs : List Call) (hs : List ℕ) → length hs ≡ 10 * L → Capped hs → T (counts_ok L (record_calls L s hs cs))
  unfolding record_calls
  nine [] hs k m = passes_nine L hs k m
  nine (c ∷ cs) hs k m = nine cs (record_call L s hs c).histograms (length-recorded hs c k) (capped_recorded hs c m)

  pub length-zeros : length (zeros L) ≡ 10 * L
  length-zeros = length-replicate {A = ℕ} (10 * L) 0

  pub recorded_passes : (cs : List Call) → T (counts_ok L (recorded_from_zeros L s cs))
  recorded_passes cs = nine cs (zeros L) length-zeros (zeros_capped L)
