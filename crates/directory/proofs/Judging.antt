-- Check 6 of a directory, test by test. Assumes nothing.
use Prim.Native.Nat.{ℕ, ◌+◌, ◌-◌, ◌*◌, ◌≤◌}
use mathlib.Core.Path.{◌≡◌, sym, ap, ◌∙◌}
use mathlib.Core.Bool.{Bool, ◌&&◌}
use mathlib.Core.List.{List, [], ◌∷◌, ◌++◌}
use native.Mathlib.Omega.{arith}
use lib.Dec.{T, eqb}
use lib.ListN.{length, get_or, take, drop, length-drop}
use lib.Seq.{drop-drop, take_all}
use Rattle.model.specs.Lists.{every}
use Rattle.model.specs.Directory.{directory_of, unused_numbers, directory_ok}
use Rattle.model.proofs.Tests.{and_fst, and_snd, and_mk, is_true, is_false}
use Rattle.model.proofs.ListLaws.{drop-take}
use Rattle.model.proofs.DirectoryLaws.{Shaped, shaped, shaped_passes, every_append}
use Rattle.model.specs.Checks.{ask, first_failed}

every_split : {A : Type 0} (f : A → Bool) (a b : List A) → T (every f (a ++ b)) → T (every f a) × T (every f b)
unfolding every
every_split f [] b t = (tt, t)
every_split f (x ∷ a) b t =
    let r = every_split f a b (and_snd (f x) (every f (a ++ b)) t) in
    (and_mk (f x) (every f a) (and_fst (f x) (every f (a ++ b)) t) r.0, r.1)

-- L is the block limit
module _ (L : ℕ) where
  -- refused, since the directory cannot pass, and accepted, since it does
  pub judged_not : (c : ℕ) (ns : List ℕ) → (Shaped L c ns → ⊥) → 6 ≡ first_failed (ask 6 (directory_ok L c ns) ∷ [])
  unfolding first_failed
  judged_not c ns h = rw (is_false (directory_ok L c ns) (λ t. h (shaped L c ns t)))

  pub judged_yes : (c : ℕ) (ns : List ℕ) → Shaped L c ns → 0 ≡ first_failed (ask 6 (directory_ok L c ns) ∷ [])
  unfolding first_failed
  judged_yes c ns s = rw (is_true (directory_ok L c ns) (shaped_passes L c ns s))

  -- the parts of the slice that the code lends
  module _ (ns : List ℕ) (size : length ns ≡ (2 + 2 * L)) (few : get_or ns 1 0 ≤ L) where
    abbrev k : ℕ
    k = get_or ns 1 0

    unused_lengths : take ((2 + L) - (2 + k)) (drop (2 + k) ns) ≡ drop k (take L (drop 2 ns))
    unused_lengths =
        let e : k + ((2 + L) - (2 + k)) ≡ L = omega arith in
        sym (rw e at (drop-take k ((2 + L) - (2 + k)) (drop 2 ns)) ∙ ap (take ((2 + L) - (2 + k))) (drop-drop k 2 ns))

    unused_fences : take ((2 + 2 * L) - ((2 + L) + k)) (drop ((2 + L) + k) ns) ≡ drop k (drop L (drop 2 ns))
    unused_fences =
        take_all ((2 + 2 * L) - ((2 + L) + k)) (drop ((2 + L) + k) ns) (omega (arith, length-drop ((2 + L) + k) ns))
        ∙ sym (ap (drop k) (drop-drop L 2 ns) ∙ drop-drop k (2 + L) ns)

    pub lengths_part : take (2 + k - 2) (drop 2 ns) ≡ (directory_of L ns).lengths
    unfolding directory_of
    lengths_part = let e : 2 + k - 2 ≡ k = omega arith in rw e

    pub fences_part : take ((2 + L) + k - (2 + L)) (drop (2 + L) ns) ≡ (directory_of L ns).fences
    unfolding directory_of
    fences_part = let e : (2 + L) + k - (2 + L) ≡ k = omega arith in rw (e, drop-drop L 2 ns)

    -- the test of both parts for 0 is the one of the unused numbers
    abbrev both_zero : Bool
    both_zero = every (eqb 0) (take ((2 + L) - (2 + k)) (drop (2 + k) ns)) && every (eqb 0) (take ((2 + 2 * L) - ((2 + L) + k)) (drop ((2 + L) + k) ns))

    pub unused_both : T both_zero → T (every (eqb 0) (unused_numbers L ns))
    unfolding unused_numbers
    unused_both t =
        let z = rw (unused_lengths, unused_fences) at t in
        every_append (eqb 0) _ _ (and_fst (every (eqb 0) (drop k (take L (drop 2 ns)))) _ z) (and_snd (every (eqb 0) (drop k (take L (drop 2 ns)))) _ z)

    pub unused_parts : T (every (eqb 0) (unused_numbers L ns)) → T both_zero
    unfolding unused_numbers
    unused_parts t =
        let r = every_split (eqb 0) (drop k (take L (drop 2 ns))) (drop k (drop L (drop 2 ns))) t in
        rw (unused_lengths, unused_fences) (and_mk (every (eqb 0) (drop k (take L (drop 2 ns)))) _ r.0 r.1)
