-- Bags: what the order of a list's elements does not change. Assumes nothing.
use Prim.Native.Nat.{ℕ, ◌+◌, ◌*◌}
use mathlib.Core.Path.{◌≡◌, refl, ap, ap₂, ◌∙◌}
use mathlib.Core.Bool.{Bool, true, false, cond, ◌&&◌}
use mathlib.Core.List.Permᴰ
use mathlib.Core.List.{List, ◌∷◌, map, Permᴰ}
use native.Mathlib.Omega.{arith}
use Rattle.model.specs.declared.Delivery.{Delivery}
use Rattle.model.specs.Lists.{sum_of, every, keep}
use Rattle.model.specs.Deliveries.{totals_of}
use Rattle.model.proofs.ListLaws.{bag-length}

module _ {A : Type 0} where
  pub bag-every : (f : A → Bool) {a b : List A} → Permᴰ a b → every f a ≡ every f b
  unfolding every
  bag-every f Permᴰ.nil = refl
  bag-every f (Permᴰ.cons e p) = ap₂ ◌&&◌ (ap f e) (bag-every f p)
  bag-every f (Permᴰ.swap {a} {b} {l = l} e g) = rw (← e, ← g) (swap (f a) (f b) (every f l))
    where
      swap : (x y z : Bool) → (x && (y && z)) ≡ (y && (x && z))
      swap true true z = refl
      swap true false z = refl
      swap false true z = refl
      swap false false z = refl
  bag-every f (Permᴰ.trans p q) = bag-every f p ∙ bag-every f q

  pub bag-keep : (f : A → Bool) {a b : List A} → Permᴰ a b → Permᴰ (keep f a) (keep f b)
  unfolding keep
  bag-keep f Permᴰ.nil = Permᴰ.nil
  bag-keep f (Permᴰ.cons {a} {b} {l₁} {l₂} e p) = rw (ap f e) (go (f b) (bag-keep f p))
    where
      go : (t : Bool) → Permᴰ (keep f l₁) (keep f l₂) → Permᴰ (cond t (a ∷ keep f l₁) (keep f l₁)) (cond t (b ∷ keep f l₂) (keep f l₂))
      go true q = Permᴰ.cons e q
      go false q = q
  bag-keep f (Permᴰ.swap {a} {b} {a'} {b'} {l} e g) = rw (ap f e, ap f g) (go (f b') (f a'))
    where
      go : (t u : Bool) → let k = keep f l in Permᴰ (cond t (a ∷ cond u (b ∷ k) k) (cond u (b ∷ k) k)) (cond u (a' ∷ cond t (b' ∷ k) k) (cond t (b' ∷ k) k))
      go true true = Permᴰ.swap e g
      go true false = Permᴰ.cons e (Permᴰ.refl _)
      go false true = Permᴰ.cons g (Permᴰ.refl _)
      go false false = Permᴰ.refl _
  bag-keep f (Permᴰ.trans p q) = Permᴰ.trans (bag-keep f p) (bag-keep f q)

  bag-sum : (f : A → ℕ) {a b : List A} → Permᴰ a b → sum_of (map f a) ≡ sum_of (map f b)
  unfolding sum_of
  bag-sum f Permᴰ.nil = refl
  bag-sum f (Permᴰ.cons e p) = ap₂ ◌+◌ (ap f e) (bag-sum f p)
  bag-sum f (Permᴰ.swap e g) = omega (arith, ap f e, ap f g)
  bag-sum f (Permᴰ.trans p q) = bag-sum f p ∙ bag-sum f q

-- totals do not depend on the order
pub bag-totals : {a b : List Delivery} → Permᴰ a b → totals_of a ≡ totals_of b
unfolding totals_of
bag-totals p = rw (bag-length p, bag-sum (λ (d : Delivery). d.weight) p, bag-sum (λ (d : Delivery). d.weight * d.oil_yield) p)
