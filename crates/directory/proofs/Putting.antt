-- A directory into which partitions are put one after the other. Assumes nothing.
use Prim.Native.Nat.{ℕ, suc, ◌+◌, ◌-◌, ◌*◌, ◌<◌}
use mathlib.Core.Path.{◌≡◌, sym, ap, ◌∙◌}
use mathlib.Core.List.{List, [], ◌∷◌, ◌++◌}
use native.Mathlib.Omega.{arith}
use lib.ListN.{length, set, replicate, replicate-append-replicate, length-append, length-replicate, length-set}
use lib.Seq.{append_snoc, set_at, set-append_left}
use Rattle.model.specs.Directory.{directory_size, padded, directory_numbers}
use Rattle.model.proofs.ListLaws.{set-append-add}
use Rattle.model.proofs.DirectoryLaws.{length-padded}
use Rattle.directory.specs.Numbers.{blank, with_partition}

-- L is the block limit
module _ (L : ℕ) where
  -- the numbers of a directory of k partitions whose first lengths and fences are put
  abbrev pub parts_put : ℕ → ℕ → List ℕ → List ℕ → List ℕ
  parts_put b k l f = b ∷ k ∷ (padded L l ++ padded L f)

  pub put_none : (b k : ℕ) → blank L b k ≡ parts_put b k [] []
  put_none b k =
      let e : 2 * L ≡ L + L = omega arith in
      let n : L - 0 ≡ L = omega arith in
      ap (λ (r : List ℕ). b ∷ k ∷ r) (ap (λ (j : ℕ). replicate j 0) e ∙ sym (rw n (replicate-append-replicate L L 0)))

  -- as many numbers as before
  pub blank_size : (b k : ℕ) → length (blank L b k) ≡ directory_size L
  blank_size b k = omega (arith, length-replicate {A = ℕ} (2 * L) 0)

  pub put_size : (i n m : ℕ) (ns : List ℕ) → length (with_partition L i n m ns) ≡ length ns
  put_size i n m ns = length-set (set ns (2 + i) n) (2 + L + i) m ∙ length-set ns (2 + i) n

  -- the first of the unused numbers becomes the next of the list
  pad_next : (l : List ℕ) (i x : ℕ) → length l ≡ i → i < L → set (padded L l) i x ≡ padded L (l ++ x ∷ [])
  pad_next l i x n h =
      let z : L - length l ≡ suc (L - (i + 1)) = omega arith in
      let y : length (l ++ x ∷ []) ≡ i + 1 = omega (arith, length-append l (x ∷ [])) in
      ap (λ (k : ℕ). set (l ++ replicate k 0) i x) z
      ∙ set_at l 0 (replicate (L - (i + 1)) 0) x i n
      ∙ sym (append_snoc l x (replicate (L - (i + 1)) 0))
      ∙ ap (λ (k : ℕ). (l ++ x ∷ []) ++ replicate (L - k) 0) (sym y)

  -- partition i put where i are put
  pub put_next : (b k : ℕ) (l f : List ℕ) (i n m : ℕ) → length l ≡ i → length f ≡ i → i < L → with_partition L i n m (parts_put b k l f) ≡ parts_put b k (l ++ n ∷ []) (f ++ m ∷ [])
  put_next b k l f i n m hl hf h =
      let y : 2 + i ≡ suc (suc i) = omega arith in
      let p : List ℕ = padded L (l ++ n ∷ []) in
      let z : 2 + L + i ≡ suc (suc (length p + i)) = omega (arith, length-padded L (l ++ n ∷ []) (omega (arith, length-append l (n ∷ [])))) in
      ap (λ (j : ℕ). set (set (parts_put b k l f) j n) (2 + L + i) m) y
      ∙ ap (λ (r : List ℕ). set (b ∷ k ∷ r) (2 + L + i) m)
      (set-append_left (padded L l) (padded L f) i n (omega (arith, length-padded L l (omega arith))) ∙ ap (λ (r : List ℕ). r ++ padded L f) (pad_next l i n hl h))
      ∙ ap (λ (j : ℕ). set (b ∷ k ∷ (p ++ padded L f)) j m) z
      ∙ ap (λ (r : List ℕ). b ∷ k ∷ r) (set-append-add p (padded L f) i m ∙ ap (λ (r : List ℕ). p ++ r) (pad_next f i m hf h))

  -- every partition put
  pub put_all : (b k : ℕ) (l f : List ℕ) → length l ≡ k → parts_put b k l f ≡ directory_numbers L (record { block = b; lengths = l; fences = f })
  unfolding directory_numbers
  put_all b k l f e = ap (λ (j : ℕ). b ∷ j ∷ (padded L l ++ padded L f)) (sym e)
