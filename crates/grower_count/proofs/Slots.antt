-- Slots and their growers, joined and taken from the front. Assumes nothing.
use Prim.Native.Nat.{ℕ, ◌+◌, ◌<◌}
use mathlib.Core.Path.{◌≡◌, sym, subst}
use mathlib.Core.Bool.{Bool, true}
use mathlib.Core.List.{List, [], ◌∷◌, ◌++◌, map-append}
use native.Mathlib.Numerals.{add-one}
use lib.Dec.{T, ltb, lt→ltb}
use lib.ListN.{length, get_or, take}
use lib.Seq.{take-suc}
use Rattle.model.specs.Lists.{every}
use Rattle.slot_order.specs.Passes.{slots_in, growers_at}
use Rattle.model.proofs.Tests.{and_mk}
use Rattle.model.proofs.ListLaws.{every-joined}

module _ (gs : List ℕ) where
  abbrev there : ℕ → Bool
  there i = ltb i (length gs)

  pub slots-joined : (a b : List ℕ) → T (slots_in gs a) → T (slots_in gs b) → T (slots_in gs (a ++ b))
  slots-joined a b h k = subst T (sym (every-joined there a b)) (and_mk (every there a) (every there b) h k)

  pub slot_alone : (i : ℕ) → i < length gs → T (slots_in gs (i ∷ []))
  unfolding every
  slot_alone i h = and_mk (there i) true (lt→ltb i (length gs) h) tt

  pub growers_joined : (a b : List ℕ) → growers_at gs (a ++ b) ≡ growers_at gs a ++ growers_at gs b
  growers_joined a b = map-append (λ (i : ℕ). get_or gs i 0) a b

  pub growers_next : (is : List ℕ) (i : ℕ) → i < length is → growers_at gs (take (i + 1) is) ≡ growers_at gs (take i is) ++ get_or gs (get_or is i 0) 0 ∷ []
  growers_next is i h = rw (add-one, take-suc is i 0) (growers_joined (take i is) (get_or is i 0 ∷ []))
