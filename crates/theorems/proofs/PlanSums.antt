-- A list of calls recorded from zeros: a layout's cost is the sum of what the accepted calls add to it. Assumes nothing.
use Prim.Native.Nat.{ℕ, ◌+◌, ◌*◌}
use mathlib.Core.Path.{◌≡◌, refl}
use mathlib.Core.Bool.{Bool, true, false, cond}
use mathlib.Core.List.{List, [], ◌∷◌, ◌++◌, map}
use native.Mathlib.Omega.{arith}
use lib.Dec.{T, eqb}
use lib.ListN.{length}
use lib.IntN.{pos}
use Rattle.model.specs.declared.PriceCard.{PriceCard}
use Rattle.model.specs.Lists.{sum_of}
use Rattle.model.specs.Blocks.{Set, blocks}
use Rattle.model.specs.Calls.{Call, ordered}
use Rattle.model.specs.Histograms.{raises, raise_all, zeros}
use Rattle.model.specs.Cost.{cost_of}
use Rattle.model.specs.Recorder.{recorder_refusal, record_call, record_calls, accepted_calls, recorded_from_zeros, accepted_from_zeros}
use Rattle.model.specs.Laws.{SetPasses}
use Rattle.model.proofs.Integers.{is_pos, eq_is}
use Rattle.model.proofs.SetLaws.{Good, good, n_most}
use Rattle.theorems.proofs.RecordingSums.{load, weigh, weigh_all, weigh_zeros}
use Rattle.theorems.proofs.RecordingEntries.{raised_below}
use Rattle.theorems.proofs.RecordingCosts.{plus, minus, is_cost}
use Rattle.theorems.proofs.PlanChecks.{Offered}
use Rattle.theorems.proofs.RecordingCalls.{accepted_passed, length-recorded, length-zeros}

-- each call is worth what it adds to the cost, less what it takes away
module _ (L : ℕ) (s : Set) (h : SetPasses L s) (ends : List ℕ) (p : PriceCard) (worth : Call → ℕ)
    (balanced : (c : Call) → T (ordered c) → Offered c → load (plus p ends) (raises s c) ≡ worth c + load (minus p ends) (raises s c)) where
  o : Good L s
  o = good L s h

  -- what is added and what is taken away
  abbrev up : List ℕ → ℕ
  up hs = weigh L (plus p ends) (blocks s) hs

  abbrev down : List ℕ → ℕ
  down hs = weigh L (minus p ends) (blocks s) hs

  abbrev paid : List Call → ℕ
  paid cs = sum_of (map worth cs)

  abbrev accepts : List ℕ → Call → Bool
  accepts hs c = eqb (recorder_refusal L s hs c) 0

  -- one call
  one : (hs : List ℕ) (c : Call) → length hs ≡ 10 * L → up (record_call L s hs c).histograms + down hs ≡ up hs + paid (cond (accepts hs c) (c ∷ []) []) + down (record_call L s hs c).histograms
  unfolding record_call sum_of
  one hs c k = go (accepts hs c) refl
    where
      go : (b : Bool) → accepts hs c ≡ b → up (cond b (raise_all L hs (raises s c)) hs) + down hs ≡ up hs + paid (cond b (c ∷ []) []) + down (cond b (raise_all L hs (raises s c)) hs)
      go true e =
          let q = accepted_passed L s h hs c e in
          let low = raised_below L s o c in
          let added = weigh_all L (raises s c) hs (plus p ends) (blocks s) k (n_most L s o) low in
          let taken = weigh_all L (raises s c) hs (minus p ends) (blocks s) k (n_most L s o) low in
          omega (arith, balanced c q.0 q.1)
      go false e = omega arith

  paid_append : (a b : List Call) → paid (a ++ b) ≡ paid a + paid b
  unfolding sum_of
  paid_append [] b = omega arith
  paid_append (c ∷ a) b = omega (arith, paid_append a b)

  -- the whole list
  many : (cs : List Call) (hs : List ℕ) → length hs ≡ 10 * L → up (record_calls L s hs cs) + down hs ≡ up hs + paid (accepted_calls L s hs cs) + down (record_calls L s hs cs)
  unfolding record_calls accepted_calls sum_of
  many [] hs k = omega arith
  many (c ∷ cs) hs k =
      let next : List ℕ = (record_call L s hs c).histograms in
      omega (arith, one hs c k, many cs next (length-recorded L s h hs c k), paid_append (cond (accepts hs c) (c ∷ []) []) (accepted_calls L s next cs))

  pub cost-sum : (cs : List Call) → cost_of L p (blocks s) ends (recorded_from_zeros L s cs) ≡ pos (paid (accepted_from_zeros L s cs))
  cost-sum cs =
      eq_is _ _ _ _ _ _ (is_cost L p (blocks s) ends (recorded_from_zeros L s cs)) (is_pos (paid (accepted_from_zeros L s cs)))
      (omega (arith, many cs (zeros L) (length-zeros L s h), weigh_zeros L (plus p ends) (blocks s) (n_most L s o), weigh_zeros L (minus p ends) (blocks s) (n_most L s o)))
