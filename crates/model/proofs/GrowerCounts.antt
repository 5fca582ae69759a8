-- The counts of the next grower are those of a range: the partitions scanned are a front part of the path, and what they sum to does not depend on the direction.
-- Assumes nothing.
use Prim.Native.Nat.{ℕ, zero, suc, ◌+◌, ◌-◌, ◌≤◌, ◌<◌}
use mathlib.Core.Path.{◌≡◌, refl, sym, ap, ◌∙◌}
use mathlib.Core.Bool.{Bool, true, false, cond}
use mathlib.Core.List.{List, [], ◌∷◌, map}
use native.Mathlib.Omega.{arith}
use native.Mathlib.Numerals.{add-one}
use lib.ListN.{length, get_or, take, drop}
use lib.Seq.{drop-cons}
use Rattle.model.specs.Lists.{sum_of, up_from}
use Rattle.model.specs.Checks.{first_failed}
use Rattle.model.specs.Blocks.{slices_ok}
use Rattle.model.specs.Directory.{Directory, directory_of, directory_block_ok, directory_ok}
use Rattle.model.specs.Column.{Column, lengths_of, fences_of, target}
use Rattle.model.specs.Accesses.{blocks_of, reads_of, blocks_scanned, scan_counts}
use Rattle.model.specs.Growers.{up, down, holds_one, down_from, path, up_to_first, counts_scanned, records_at, scanned_for}
use Rattle.model.specs.Questions.{lent_checks}
use Rattle.model.specs.Laws.{RangeCounts}
use Rattle.model.proofs.Tests.{yes_first}
use Rattle.model.proofs.ListLaws.{length_up_from}
use Rattle.model.proofs.Places.{placed}
use Rattle.model.proofs.DirectoryLaws.{shaped, length_lengths, length_fences}

-- The front part.
module _ (f : ℕ → Bool) where
  front : (l : List ℕ) → up_to_first f l ≡ take (length (up_to_first f l)) l
  unfolding up_to_first
  front [] = refl
  front (i ∷ l) = go (f i) (front l)
    where
      go : (t : Bool) → up_to_first f l ≡ take (length (up_to_first f l)) l → i ∷ cond t [] (up_to_first f l) ≡ i ∷ take (length (cond t [] (up_to_first f l))) l
      go true h = refl
      go false h = ap (λ (r : List ℕ). i ∷ r) h

  no_longer : (l : List ℕ) → length (up_to_first f l) ≤ length l
  unfolding up_to_first
  no_longer [] = omega arith
  no_longer (i ∷ l) = go (f i) (no_longer l)
    where
      go : (t : Bool) → length (up_to_first f l) ≤ length l → length (i ∷ cond t [] (up_to_first f l)) ≤ length (i ∷ l)
      go true h = omega arith
      go false h = omega arith

  some_first : (l : List ℕ) → 1 ≤ length l → 1 ≤ length (up_to_first f l)
  unfolding up_to_first
  some_first [] h = absurd (omega arith)
  some_first (i ∷ l) h = omega arith

take_up : (k a n : ℕ) → k ≤ n → take k (up_from a n) ≡ up_from a k
unfolding up_from
take_up zero a n h = refl
take_up (suc k) a zero h = absurd (omega arith)
take_up (suc k) a (suc n) h = ap (λ (l : List ℕ). a ∷ l) (take_up k (a + 1) n (omega arith))

pub length-down_from : (t : ℕ) → length (down_from t) ≡ t + 1
unfolding down_from
length-down_from zero = refl
length-down_from (suc t) = omega (arith, length-down_from t)

-- Sums over partitions one after the other.
module _ (F : ℕ → ℕ) where
  sum_last : (a k : ℕ) → sum_of (map F (up_from a (suc k))) ≡ sum_of (map F (up_from a k)) + F (a + k)
  unfolding sum_of up_from
  sum_last a zero = let e : a + 0 ≡ a = omega arith in rw e (omega arith)
  sum_last a (suc k) = let e : a + suc k ≡ a + 1 + k = omega arith in rw e (omega (arith, sum_last (a + 1) k))

  -- k of them down from t are k of them up to t
  sum_down : (k t : ℕ) → k ≤ t + 1 → sum_of (map F (take k (down_from t))) ≡ sum_of (map F (up_from (t + 1 - k) k))
  unfolding sum_of up_from down_from
  sum_down zero t h = refl
  sum_down (suc zero) zero h = refl
  sum_down (suc (suc k)) zero h = absurd (omega arith)
  sum_down (suc k) (suc t) h =
      let e : suc t + 1 - suc k ≡ t + 1 - k = omega arith in
      let x : t + 1 - k + k ≡ suc t = omega arith in
      rw e (omega (arith, sum_down k t (omega arith), sum_last (t + 1 - k) k, ap F x))

  sum-part : (ns : List ℕ) (p k : ℕ) → p + k ≤ length ns → sum_of (map (λ (i : ℕ). F (get_or ns i 0)) (up_from p k)) ≡ sum_of (map F (take k (drop p ns)))
  unfolding sum_of up_from
  sum-part ns p zero h = refl
  sum-part ns p (suc k) h =
      let e = sum-part ns (p + 1) k (omega arith) ∙ ap (λ (q : ℕ). sum_of (map F (take k (drop q ns)))) (add-one p) in
      rw (drop-cons ns p 0 (omega arith)) (ap (λ (n : ℕ). F (get_or ns p 0) + n) e)

module _ (d : Directory) (f : ℕ → Bool) (t : ℕ) (h : t < length d.lengths) where
  abbrev blocks_at : ℕ → ℕ
  blocks_at i = blocks_of d.block (get_or d.lengths i 0)

  counts_up : (is : List ℕ) → is ≡ up_to_first f (path up (length d.lengths) t) → counts_scanned d is ≡ scan_counts d t (t + length is - 1)
  unfolding counts_scanned scan_counts blocks_scanned path
  counts_up is e =
      let all : List ℕ = up_from t (length d.lengths - t) in
      let size = length_up_from t (length d.lengths - t) in
      let k : ℕ = length is in
      let same : k ≡ length (up_to_first f all) = ap length e in
      let some : 1 ≤ k = omega (arith, some_first f all (omega arith)) in
      let few : k ≤ length d.lengths - t = omega (arith, no_longer f all) in
      let x : t + k - 1 + 1 - t ≡ k = omega arith in
      let y : is ≡ up_from t k = e ∙ front f all ∙ ap (λ (n : ℕ). take n all) (sym same) ∙ take_up k t (length d.lengths - t) few in
      let z = ap (λ (l : List ℕ). sum_of (map blocks_at l)) y ∙ sum-part (blocks_of d.block) d.lengths t k (omega arith) in
      rw x (ap reads_of (omega (arith, z)))

  counts_down : (is : List ℕ) → is ≡ up_to_first f (path down (length d.lengths) t) → counts_scanned d is ≡ scan_counts d (t + 1 - length is) t
  unfolding counts_scanned scan_counts blocks_scanned path
  counts_down is e =
      let all : List ℕ = down_from t in
      let k : ℕ = length is in
      let same : k ≡ length (up_to_first f all) = ap length e in
      let few : k ≤ t + 1 = omega (arith, no_longer f all, length-down_from t) in
      let x : t + 1 - (t + 1 - k) ≡ k = omega arith in
      let y : is ≡ take k all = e ∙ front f all ∙ ap (λ (n : ℕ). take n all) (sym same) in
      let z = ap (λ (l : List ℕ). sum_of (map blocks_at l)) y ∙ sum_down blocks_at k t few ∙ sum-part (blocks_of d.block) d.lengths (t + 1 - k) k (omega arith) in
      rw x (ap reads_of (omega (arith, z)))

pub range_counts : (L : ℕ) (c : Column) (g : ℕ) → first_failed (lent_checks L c) ≡ 0 → RangeCounts L c g
unfolding scanned_for
range_counts L c g h =
    let c2 = yes_first 1 (directory_block_ok L c.directory) _ h in
    let c3 = yes_first 2 (slices_ok c.slices) _ c2.1 in
    let c6 = yes_first 5 (directory_ok L (length c.slices.growers) c.directory) _ c3.1 in
    let s = shaped L _ _ c6.0 in
    let k : length (fences_of L c) ≡ length (lengths_of L c) = length_fences L _ _ s ∙ sym (length_lengths L _ _ s) in
    let there : target L c g < length (lengths_of L c) = omega (arith, (placed (fences_of L c) g (omega (arith, length_fences L _ _ s, s.some))).within) in
    let d : Directory = directory_of L c.directory in
    record {
      upward = counts_up d (λ (i : ℕ). holds_one up g (records_at L c i)) (target L c g) there _ (rw k);
      downward = counts_down d (λ (i : ℕ). holds_one down g (records_at L c i)) (target L c g) there _ (rw k);
    }
