-- The two loops over the four slices at once. Assumes nothing.
use Prim.Native.Nat.{ℕ, ◌+◌, ◌-◌, ◌≤◌, ◌<◌}
use mathlib.Core.Path.{◌≡◌, refl, ap, ◌∙◌}
use mathlib.Core.List.{List}
use native.Mathlib.Omega.{arith}
use lib.ListN.{length, get_or, take, set, length-set}
use Rattle.model.specs.declared.Delivery.{Delivery}
use Rattle.model.specs.Lists.{sum_of}
use Rattle.model.specs.Deliveries.{Slices, Even, each_slice, storing}
use Rattle.model.specs.Partitions.{start_of}
use Rattle.model.specs.Moves.{inserted, deleted, moved}
use Rattle.ripple.specs.Held.{carried}
use Rattle.ripple.proofs.Loops.{Spot, Lifted, Lowered, lifted_start, lifted_turn, lowered_start, lowered_turn}
use Rattle.ripple.proofs.Compose.{insert_end, delete_end, forward_law, within_law, backward_law}

-- the first partition starts at 0
pub start_first : (ns : List ℕ) → start_of ns 0 ≡ 0
unfolding start_of sum_of
start_first ns = refl

-- a number stored in slot p
abbrev pub stored : ℕ → ℕ → List ℕ → List ℕ
stored p x l = set l p x

pub carried_length : (q p : ℕ) (s after : Slices) → after ≡ each_slice (carried q p) s → length after.growers ≡ length s.growers
carried_length q p s after e = ap (λ (r : Slices). length r.growers) e ∙ length-set s.growers p _

pub record EachLifted (lens : List ℕ) (s₀ s : Slices) (p j : ℕ) : Type 0 where
  pub growers : Lifted lens s₀.growers s.growers p j
  pub weights : Lifted lens s₀.weights s.weights p j
  pub yields : Lifted lens s₀.yields s.yields p j
  pub days : Lifted lens s₀.days s.days p j

pub record EachLowered (lens : List ℕ) (d : Delivery) (s₀ : Slices) (p₀ j₀ : ℕ) (s : Slices) (p j : ℕ) : Type 0 where
  pub growers : Lowered lens d.grower s₀.growers p₀ j₀ s.growers p j
  pub weights : Lowered lens d.weight s₀.weights p₀ j₀ s.weights p j
  pub yields : Lowered lens d.oil_yield s₀.yields p₀ j₀ s.yields p j
  pub days : Lowered lens d.day s₀.days p₀ j₀ s.days p j

pub each_lifted_start : (lens : List ℕ) (s : Slices) (p : ℕ) → EachLifted lens s s p (length lens)
each_lifted_start lens s p =
    record { growers = lifted_start lens s.growers p; weights = lifted_start lens s.weights p; yields = lifted_start lens s.yields p; days = lifted_start lens s.days p }

pub each_lifted_turn : (lens : List ℕ) (s₀ s : Slices) (p j : ℕ) → Even s₀ → 1 < j → p < length s₀.growers → Spot lens p j → EachLifted lens s₀ s p j
    → EachLifted lens s₀ (each_slice (carried (p - get_or lens (j - 1) 0) p) s) (p - get_or lens (j - 1) 0) (j - 1)
each_lifted_turn lens s₀ s p j e h k w m =
    record {
      growers = lifted_turn 0 lens s₀.growers s.growers p j h k w m.growers;
      weights = lifted_turn 0 lens s₀.weights s.weights p j h (omega (arith, e.weights)) w m.weights;
      yields = lifted_turn 0 lens s₀.yields s.yields p j h (omega (arith, e.yields)) w m.yields;
      days = lifted_turn 0 lens s₀.days s.days p j h (omega (arith, e.days)) w m.days;
    }

pub each_insert_end : (d : Delivery) (lens : List ℕ) (t : ℕ) (s₀ s : Slices) (p : ℕ) → Even s₀ → t < length lens → p < length s₀.growers → Spot lens p (t + 1)
    → EachLifted lens s₀ s p (t + 1) → storing (stored p) d s ≡ storing (inserted lens t) d s₀
each_insert_end d lens t s₀ s p e h k w m =
    rw (
      insert_end d.grower lens t s₀.growers s.growers p h k w m.growers,
      insert_end d.weight lens t s₀.weights s.weights p h (omega (arith, e.weights)) w m.weights,
      insert_end d.oil_yield lens t s₀.yields s.yields p h (omega (arith, e.yields)) w m.yields,
      insert_end d.day lens t s₀.days s.days p h (omega (arith, e.days)) w m.days,
    )

pub each_lowered_start : (lens : List ℕ) (d : Delivery) (s : Slices) (p j : ℕ) → EachLowered lens d s p j s p j
each_lowered_start lens d s p j =
    record {
      growers = lowered_start lens d.grower s.growers p j;
      weights = lowered_start lens d.weight s.weights p j;
      yields = lowered_start lens d.oil_yield s.yields p j;
      days = lowered_start lens d.day s.days p j;
    }

pub each_lowered_turn : (lens : List ℕ) (d : Delivery) (s₀ : Slices) (p₀ j₀ : ℕ) (s : Slices) (p j : ℕ) → Even s → j < length lens → sum_of lens ≤ length s.growers → Spot lens (p + 1) j
    → EachLowered lens d s₀ p₀ j₀ s p j → EachLowered lens d s₀ p₀ j₀ (each_slice (carried (p + get_or lens j 0) p) s) (p + get_or lens j 0) (j + 1)
each_lowered_turn lens d s₀ p₀ j₀ s p j e h k w m =
    record {
      growers = lowered_turn 0 lens d.grower s₀.growers p₀ j₀ s.growers p j h k w m.growers;
      weights = lowered_turn 0 lens d.weight s₀.weights p₀ j₀ s.weights p j h (omega (arith, e.weights)) w m.weights;
      yields = lowered_turn 0 lens d.oil_yield s₀.yields p₀ j₀ s.yields p j h (omega (arith, e.yields)) w m.yields;
      days = lowered_turn 0 lens d.day s₀.days p₀ j₀ s.days p j h (omega (arith, e.days)) w m.days;
    }

-- slot i of t, which starts at a, goes; s₁ is where the loop begins
pub each_delete_end : (d : Delivery) (lens : List ℕ) (t a i : ℕ) (s₀ s₁ s : Slices) (p₀ p j : ℕ) → Even s₀ → t < length lens → a ≡ start_of lens t → i < get_or lens t 0
    → sum_of lens ≤ length s₀.growers → p₀ ≡ a + get_or lens t 0 - 1 → s₁ ≡ each_slice (carried p₀ (a + i)) s₀ → Spot lens (p + 1) j → length lens ≤ j
    → EachLowered lens d s₁ p₀ (t + 1) s p j → storing (stored p) d s ≡ storing (deleted lens t i) d s₀
each_delete_end d lens t a i s₀ s₁ s p₀ p j e h ea k l ep es w q m =
    rw (
      delete_end 0 lens t a i d.grower s₀.growers s₁.growers s.growers p₀ p j h ea k l ep (ap (λ (r : Slices). r.growers) es) w q m.growers,
      delete_end 0 lens t a i d.weight s₀.weights s₁.weights s.weights p₀ p j h ea k (omega (arith, e.weights)) ep (ap (λ (r : Slices). r.weights) es) w q m.weights,
      delete_end 0 lens t a i d.oil_yield s₀.yields s₁.yields s.yields p₀ p j h ea k (omega (arith, e.yields)) ep (ap (λ (r : Slices). r.yields) es) w q m.yields,
      delete_end 0 lens t a i d.day s₀.days s₁.days s.days p₀ p j h ea k (omega (arith, e.days)) ep (ap (λ (r : Slices). r.days) es) w q m.days,
    )

-- the three moves are a delete, or an insert after one record more has moved
module _ (d : Delivery) (ns : List ℕ) (t i : ℕ) (s : Slices) where
  pub each_forward : (u : ℕ) → t < u → u < length ns → storing (deleted (take u ns) t i) d s ≡ storing (moved ns t i u) d s
  each_forward u h k =
      rw (
        forward_law ns t i u d.grower s.growers h k,
        forward_law ns t i u d.weight s.weights h k,
        forward_law ns t i u d.oil_yield s.yields h k,
        forward_law ns t i u d.day s.days h k,
      )

  pub each_within : t < length ns → storing (deleted (take (t + 1) ns) t i) d s ≡ storing (moved ns t i t) d s
  each_within h =
      rw (
        within_law ns t i d.grower s.growers h,
        within_law ns t i d.weight s.weights h,
        within_law ns t i d.oil_yield s.yields h,
        within_law ns t i d.day s.days h,
      )

  pub each_backward : (u a : ℕ) → Even s → u < t → t < length ns → i < get_or ns t 0 → sum_of ns ≤ length s.growers → a ≡ start_of ns t
      → storing (inserted (take t ns) u) d (each_slice (carried a (a + i)) s) ≡ storing (moved ns t i u) d s
  unfolding start_of
  each_backward u a e h k m l ea =
      rw (
        backward_law 0 ns t i u d.grower s.growers h k m l,
        backward_law 0 ns t i u d.weight s.weights h k m (omega (arith, e.weights)),
        backward_law 0 ns t i u d.oil_yield s.yields h k m (omega (arith, e.yields)),
        backward_law 0 ns t i u d.day s.days h k m (omega (arith, e.days)),
        ea,
      )
