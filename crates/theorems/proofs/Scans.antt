-- What a scan of some partitions finds, if every record is in its partition. Assumes nothing.
use Prim.Native.Nat.{ℕ, zero, suc, ◌+◌, ◌-◌, ◌≤◌, ◌<◌}
use mathlib.Core.Path.{◌≡◌, refl, sym, ap, ap₂, ◌∙◌}
use mathlib.Core.Bool.{Bool, false}
use mathlib.Core.List.{List, [], ◌∷◌, ◌++◌, append-nil, map, flatten}
use native.Mathlib.Omega.{arith}
use lib.Dec.{T}
use lib.ListN.{length, take, drop, length-take, take-append-drop}
use Rattle.model.specs.Lists.{keep}
use Rattle.model.proofs.Tests.{is_false}
use Rattle.model.proofs.ListLaws.{flatten-append, keep_append}
use Rattle.model.proofs.MovesKeep.{All, Sound}
use Rattle.model.proofs.GrowerLaws.{none_kept}

-- the property of a record's image
module _ {A B : Type 0} (f : A → B) (P : ℕ → B → Type 0) where
  all_mapped : (i : ℕ) (l : List A) → All (P i) (map f l) → All (λ (a : A). P i (f a)) l
  unfolding All
  all_mapped i [] h = tt
  all_mapped i (x ∷ l) h = (h.0, all_mapped i l h.1)

  pub sound_mapped : (i : ℕ) (ps : List (List A)) → Sound P i (map (map f) ps) → Sound (λ (j : ℕ) (a : A). P j (f a)) i ps
  unfolding Sound
  sound_mapped i [] h = tt
  sound_mapped i (p ∷ ps) h = (all_mapped i p h.0, sound_mapped (i + 1) ps h.1)

module _ {A : Type 0} (P : ℕ → A → Type 0) where
  sound-take : (n i : ℕ) (ps : List (List A)) → Sound P i ps → Sound P i (take n ps)
  unfolding Sound
  sound-take zero i ps h = tt
  sound-take (suc n) i [] h = tt
  sound-take (suc n) i (p ∷ ps) h = (h.0, sound-take n (i + 1) ps h.1)

  sound-drop : (n i : ℕ) (ps : List (List A)) → Sound P i ps → Sound P (i + n) (drop n ps)
  unfolding Sound
  sound-drop zero i ps h = let e : i + 0 ≡ i = omega arith in rw e h
  sound-drop (suc n) i [] h = tt
  sound-drop (suc n) i (p ∷ ps) h = let e : i + suc n ≡ i + 1 + n = omega arith in rw e (sound-drop n (i + 1) ps h.1)

  module _ (f : A → Bool) where
    -- partitions whose records all fail the test
    none_in : (i : ℕ) (ps : List (List A)) → Sound P i ps → ((j : ℕ) (a : A) → i ≤ j → j < i + length ps → P j a → f a ≡ false)
        → keep f (flatten ps) ≡ []
    unfolding Sound flatten keep
    none_in i [] h k = refl
    none_in i (p ∷ ps) h k =
        keep_append f p (flatten ps)
        ∙ ap₂ ◌++◌ (none_kept (P i) f (λ a w. k i a (omega arith) (omega arith) w) p h.0) (none_in (i + 1) ps h.1 (λ j a u v w. k j a (omega arith) (omega arith) w))

    cut_at : (n : ℕ) (ps : List (List A)) → keep f (flatten ps) ≡ keep f (flatten (take n ps)) ++ keep f (flatten (drop n ps))
    cut_at n ps =
        ap (λ (r : List (List A)). keep f (flatten r)) (sym (take-append-drop n ps))
        ∙ ap (keep f) (flatten-append (take n ps) (drop n ps)) ∙ keep_append f (flatten (take n ps)) (flatten (drop n ps))

    -- partitions p to q have every record that passes a test which no other partition's record passes
    pub kept_scan : (p q : ℕ) (ps : List (List A)) → Sound P 0 ps → ((j : ℕ) (a : A) → P j a → T (f a) → (p ≤ j) × (j ≤ q))
        → keep f (flatten (take (q + 1 - p) (drop p ps))) ≡ keep f (flatten ps)
    kept_scan p q ps h only =
        let k : ℕ = q + 1 - p in
        let before : keep f (flatten (take p ps)) ≡ []
        = none_in 0 (take p ps) (sound-take p 0 ps h) (λ j a u v w. is_false (f a) (λ t. let z = only j a w t in omega (arith, length-take p ps))) in
        let after : keep f (flatten (drop k (drop p ps))) ≡ []
        = none_in (0 + p + k) (drop k (drop p ps)) (sound-drop k (0 + p) (drop p ps) (sound-drop p 0 ps h)) (λ j a u v w. is_false (f a) (λ t. let z = only j a w t in omega arith)) in
        sym (cut_at p ps ∙ rw before (cut_at k (drop p ps) ∙ rw after (append-nil _)))
