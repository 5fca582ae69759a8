-- Tests of the records of each partition, as facts. Assumes nothing.
use Prim.Native.Nat.{ℕ, ◌+◌}
use mathlib.Core.Bool.{Bool}
use mathlib.Core.List.{List, [], ◌∷◌}
use lib.Dec.{T}
use Rattle.model.specs.Lists.{every}
use Rattle.model.specs.Partitions.{every_at}
use Rattle.model.proofs.Tests.{and_fst, and_snd, and_mk}
use Rattle.model.proofs.MovesKeep.{All, Sound}

module _ {A : Type 0} (f : A → Bool) where
  every_all : (l : List A) → T (every f l) → All (λ (a : A). T (f a)) l
  unfolding every All
  every_all [] t = tt
  every_all (x ∷ l) t = (and_fst (f x) (every f l) t, every_all l (and_snd (f x) (every f l) t))

  all_every : (l : List A) → All (λ (a : A). T (f a)) l → T (every f l)
  unfolding every All
  all_every [] h = tt
  all_every (x ∷ l) h = and_mk (f x) (every f l) h.0 (all_every l h.1)

module _ {A : Type 0} (f : ℕ → A → Bool) where
  pub every_at-sound : (p : ℕ) (ps : List (List A)) → T (every_at f p ps) → Sound (λ (q : ℕ) (a : A). T (f q a)) p ps
  unfolding every_at Sound
  every_at-sound p [] t = tt
  every_at-sound p (l ∷ ps) t = (every_all (f p) l (and_fst (every (f p) l) (every_at f (p + 1) ps) t), every_at-sound (p + 1) ps (and_snd (every (f p) l) (every_at f (p + 1) ps) t))

  pub sound-every_at : (p : ℕ) (ps : List (List A)) → Sound (λ (q : ℕ) (a : A). T (f q a)) p ps → T (every_at f p ps)
  unfolding every_at Sound
  sound-every_at p [] h = tt
  sound-every_at p (l ∷ ps) h = and_mk (every (f p) l) (every_at f (p + 1) ps) (all_every (f p) l h.0) (sound-every_at (p + 1) ps h.1)
