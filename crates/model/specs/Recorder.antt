-- The recorder (01, 002 section 4.2): one call, and a list of calls.
use Rattle.std.specs.Prelude.{ℕ, cond, List, [], ◌∷◌, ◌++◌, eqb}
use Rattle.model.specs.Checks.{first_failed}
use Rattle.model.specs.Blocks.{Set}
use Rattle.model.specs.Calls.{Call}
use Rattle.model.specs.Histograms.{raises, raise_all, zeros}
use Rattle.model.specs.Questions.{recorder_checks}

-- what recording answers and leaves
pub record Recorded : Type 0 where
  pub refusal : ℕ
  pub histograms : List ℕ

-- L is the block limit
module _ (L : ℕ) where
  unfoldable pub recorder_refusal : Set → List ℕ → Call → ℕ
  recorder_refusal s hs c = first_failed (recorder_checks L s hs c)

  -- one call: "a refused call leaves them untouched"
  unfoldable pub record_call : Set → List ℕ → Call → Recorded
  record_call s hs c = record { refusal = recorder_refusal s hs c; histograms = cond (eqb (recorder_refusal s hs c) 0) (raise_all L hs (raises s c)) hs }

  -- a list of calls, refused ones included: each gets "the histograms as the call before it left them"
  unfoldable pub record_calls : Set → List ℕ → List Call → List ℕ
  record_calls s hs [] = hs
  record_calls s hs (c ∷ cs) = record_calls s (record_call s hs c).histograms cs

  -- the calls of the list that were accepted
  unfoldable pub accepted_calls : Set → List ℕ → List Call → List Call
  accepted_calls s hs [] = []
  accepted_calls s hs (c ∷ cs) = cond (eqb (recorder_refusal s hs c) 0) (c ∷ []) [] ++ accepted_calls s (record_call s hs c).histograms cs

  -- "a list starts from all zeros"
  abbrev pub recorded_from_zeros : Set → List Call → List ℕ
  recorded_from_zeros s cs = record_calls s (zeros L) cs

  abbrev pub accepted_from_zeros : Set → List Call → List Call
  accepted_from_zeros s cs = accepted_calls s (zeros L) cs
