-- A move is forward, backward or within its partition. Assumes nothing.
use Prim.Native.Nat.{ℕ, ◌≤◌, ◌<◌}
use mathlib.Core.Path.{◌≡◌, refl, sym, subst}
use mathlib.Core.Bool.{Bool, true, false, not, cond}
use mathlib.Core.List.{List}
use native.Mathlib.Omega.{arith}
use lib.Dec.{T, ltb, ltb→lt, nltb→le}
use Rattle.model.specs.Moves.{move_forward, move_backward, move_within, move_at}

test : (a b : ℕ) (P : Bool → Type 0) → (a < b → P true) → (b ≤ a → P false) → P (ltb a b)
test a b P f g = go (ltb a b) refl
  where
    go : (t : Bool) → ltb a b ≡ t → P t
    go true e = f (ltb→lt a b (subst T (sym e) tt))
    go false e = g (nltb→le a b (subst (λ (t : Bool). T (not t)) (sym e) tt))

pub by_cases : {A : Type 0} (t i u : ℕ) (x : A) (ps : List (List A)) (C : List (List A) → Type 0)
    → (t < u → C (move_forward t i u x ps)) → (u < t → C (move_backward t i u x ps)) → (t ≡ u → C (move_within t i x ps)) → C (move_at t i u x ps)
unfolding move_at
by_cases t i u x ps C f b w =
    test t u (λ (k : Bool). C (cond k (move_forward t i u x ps) (cond (ltb u t) (move_backward t i u x ps) (move_within t i x ps)))) f
    (λ h. test u t (λ (k : Bool). C (cond k (move_backward t i u x ps) (move_within t i x ps))) b (λ k. w (omega arith)))

module _ {A : Type 0} (t i u : ℕ) (x : A) (ps : List (List A)) where
  pub move_at_forward : t < u → move_at t i u x ps ≡ move_forward t i u x ps
  move_at_forward h = by_cases t i u x ps (λ (r : List (List A)). r ≡ move_forward t i u x ps) (λ k. refl) (λ k. absurd (omega arith)) (λ k. absurd (omega arith))

  pub move_at_backward : u < t → move_at t i u x ps ≡ move_backward t i u x ps
  move_at_backward h = by_cases t i u x ps (λ (r : List (List A)). r ≡ move_backward t i u x ps) (λ k. absurd (omega arith)) (λ k. refl) (λ k. absurd (omega arith))

  pub move_at_within : t ≡ u → move_at t i u x ps ≡ move_within t i x ps
  move_at_within h = by_cases t i u x ps (λ (r : List (List A)). r ≡ move_within t i x ps) (λ k. absurd (omega arith)) (λ k. absurd (omega arith)) (λ k. refl)
