-- What a column's slices and its directory's numbers say of its book. Assumes nothing.
use Prim.Native.Nat.{ℕ, ◌-◌, ◌*◌, ◌≤◌}
use mathlib.Core.Path.{◌≡◌, refl, sym, ap, ap₂, ◌∙◌, subst}
use mathlib.Core.Bool.{◌&&◌}
use mathlib.Core.List.{List, [], ◌∷◌, ◌++◌}
use native.Mathlib.Omega.{arith}
use lib.Dec.{T, eqb, eqb→eq}
use lib.ListN.{length, take, drop, replicate, length-drop, take-append-drop}
use lib.Seq.{length-take-le, take-append-le, drop-append-le, take-take}
use Rattle.model.specs.Lists.{sum_of, every}
use Rattle.model.specs.Partitions.{parts}
use Rattle.model.specs.Directory.{directory_of, unused_numbers, padded, directory_numbers}
use Rattle.model.specs.Column.{sound_growers}
use Rattle.model.proofs.Tests.{and_fst, and_snd}
use Rattle.model.proofs.ListLaws.{every-joined}
use Rattle.model.proofs.DirectoryLaws.{Shaped}

-- numbers that are all 0
zeros_are : (l : List ℕ) → T (every (eqb 0) l) → l ≡ replicate (length l) 0
unfolding every
zeros_are [] t = refl
zeros_are (x ∷ l) t = ap₂ (λ (a : ℕ) (b : List ℕ). a ∷ b) (sym (eqb→eq 0 x (and_fst (eqb 0 x) (every (eqb 0) l) t))) (zeros_are l (and_snd (eqb 0 x) (every (eqb 0) l) t))

-- Partitions are cut from the used slots alone.
parts_used : {A : Type 0} (ns : List ℕ) (s t : List A) → sum_of ns ≤ length s → parts ns (s ++ t) ≡ parts ns s
unfolding parts sum_of
parts_used [] s t h = refl
parts_used {A} (n ∷ ns) s t h =
    ap₂ (λ (a : List A) (b : List (List A)). a ∷ b) (take-append-le n s t (omega arith))
    (ap (parts ns) (drop-append-le n s t (omega arith)) ∙ parts_used ns (drop n s) t (omega (arith, length-drop n s)))

pub sound_used : (ns fs gs rest : List ℕ) → sum_of ns ≤ length gs → sound_growers ns fs (gs ++ rest) ≡ sound_growers ns fs gs
unfolding sound_growers
sound_used ns fs gs rest h = rw (parts_used ns gs rest h)

-- The directory's numbers.

module _ (L : ℕ) where
  numbers_are : (b k : ℕ) (r : List ℕ) → length r ≡ 2 * L → k ≤ L → T (every (eqb 0) (drop k (take L r) ++ drop k (drop L r)))
      → b ∷ length (take k r) ∷ (padded L (take k r) ++ padded L (take k (drop L r))) ≡ b ∷ k ∷ r
  numbers_are b k r h f t =
      let x : List ℕ = take L r in
      let y : List ℕ = drop L r in
      let nx : length x ≡ L = length-take-le L r (omega arith) in
      let ny : length y ≡ L = omega (arith, length-drop L r) in
      let u : T (every (eqb 0) (drop k x) && every (eqb 0) (drop k y)) = subst T (every-joined (eqb 0) (drop k x) (drop k y)) t in
      let a : length (take k r) ≡ k = length-take-le k r (omega arith) in
      let c : length (take k y) ≡ k = length-take-le k y (omega arith) in
      let z : drop k x ≡ replicate (L - k) 0
      = zeros_are (drop k x) (and_fst (every (eqb 0) (drop k x)) (every (eqb 0) (drop k y)) u) ∙ ap (λ (n : ℕ). replicate n 0) (length-drop k x ∙ ap (λ (n : ℕ). n - k) nx) in
      let w : drop k y ≡ replicate (L - k) 0
      = zeros_are (drop k y) (and_snd (every (eqb 0) (drop k x)) (every (eqb 0) (drop k y)) u) ∙ ap (λ (n : ℕ). replicate n 0) (length-drop k y ∙ ap (λ (n : ℕ). n - k) ny) in
      let p : padded L (take k r) ≡ x
      = ap (λ (n : ℕ). take k r ++ replicate (L - n) 0) a ∙ ap₂ (λ (l m : List ℕ). l ++ m) (sym (take-take k L r f)) (sym z) ∙ take-append-drop k x in
      let q : padded L (take k y) ≡ y
      = ap (λ (n : ℕ). take k y ++ replicate (L - n) 0) c ∙ ap (λ (m : List ℕ). take k y ++ m) (sym w) ∙ take-append-drop k y in
      ap₂ (λ (n : ℕ) (l : List ℕ). b ∷ n ∷ l) a (ap₂ (λ (l m : List ℕ). l ++ m) p q ∙ take-append-drop L r)

  -- the numbers of the directory that they are read as
  pub numbers_again : (n : ℕ) (ns : List ℕ) → Shaped L n ns → directory_numbers L (directory_of L ns) ≡ ns
  unfolding directory_numbers directory_of unused_numbers
  numbers_again n [] s = absurd (omega (arith, s.size))
  numbers_again n (b ∷ []) s = absurd (omega (arith, s.size))
  numbers_again n (b ∷ k ∷ r) s = go s.unused
    where
      unfold_both : T (every (eqb 0) (drop k (take L r) ++ drop k (drop L r))) → b ∷ length (take k r) ∷ (padded L (take k r) ++ padded L (take k (drop L r))) ≡ b ∷ k ∷ r
      unfold_both = numbers_are b k r (omega (arith, s.size)) s.few

      go : T (every (eqb 0) (unused_numbers L (b ∷ k ∷ r))) → directory_numbers L (directory_of L (b ∷ k ∷ r)) ≡ b ∷ k ∷ r
      go t = unfold_both t
