-- The cost of added histograms is the sum of their costs. Assumes nothing.
use Prim.Native.Nat.{ℕ, zero, suc, ◌+◌}
use mathlib.Core.Path.{◌≡◌, refl, ap, ap₂, ◌∙◌}
use mathlib.Core.List.{List, [], ◌∷◌}
use native.Mathlib.Omega.{arith}
use lib.ListN.{length, get_or}
use lib.IntN.{ℤ, pos, ◌+ℤ◌, ◌*ℤ◌}
use Rattle.model.specs.declared.PriceCard.{PriceCard}
use Rattle.model.specs.Histograms.{Histogram, histograms, at, count, slot}
use Rattle.model.specs.Cost.{price, sum_blocks, sum_histograms, cost_of}
use Rattle.model.specs.Laws.{add_counts}
use Rattle.model.proofs.Integers.{is_exists, is_add, is_mul, eq_is}

count_added : (a b : List ℕ) (i : ℕ) → length a ≡ length b → get_or (add_counts a b) i 0 ≡ get_or a i 0 + get_or b i 0
unfolding add_counts
count_added [] [] i e = refl
count_added [] (y ∷ b) i e = absurd (omega arith)
count_added (x ∷ a) [] i e = absurd (omega arith)
count_added (x ∷ a) (y ∷ b) zero e = refl
count_added (x ∷ a) (y ∷ b) (suc i) e = count_added a b i (omega arith)

interchange : (a b c d : ℤ) → (a +ℤ b) +ℤ (c +ℤ d) ≡ (a +ℤ c) +ℤ (b +ℤ d)
interchange a b c d =
    let i = is_exists a in
    let j = is_exists b in
    let k = is_exists c in
    let l = is_exists d in
    eq_is _ _ _ _ _ _
    (is_add _ _ _ _ _ _ (is_add a b _ _ _ _ i.2 j.2) (is_add c d _ _ _ _ k.2 l.2))
    (is_add _ _ _ _ _ _ (is_add a c _ _ _ _ i.2 k.2) (is_add b d _ _ _ _ j.2 l.2))
    (omega arith)

distribute : (z : ℤ) (m n : ℕ) → z *ℤ pos (m + n) ≡ (z *ℤ pos m) +ℤ (z *ℤ pos n)
distribute z m n =
    let i = is_exists z in
    eq_is _ _ _ _ _ _
    (is_mul z _ _ (m + n) i.2)
    (is_add _ _ _ _ _ _ (is_mul z _ _ m i.2) (is_mul z _ _ n i.2))
    (omega arith)

zero-sum : pos 0 ≡ pos 0 +ℤ pos 0
zero-sum = refl

blocks-sum : (n : ℕ) (f g h : ℕ → ℤ) → ((i : ℕ) → h i ≡ f i +ℤ g i) → sum_blocks n h ≡ sum_blocks n f +ℤ sum_blocks n g
unfolding sum_blocks
blocks-sum zero f g h e = zero-sum
blocks-sum (suc n) f g h e = ap₂ (λ (x y : ℤ). x +ℤ y) (blocks-sum n f g h e) (e n) ∙ interchange (sum_blocks n f) (sum_blocks n g) (f n) (g n)

histograms-sum : (l : List Histogram) (f g h : Histogram → ℤ) → ((i : Histogram) → h i ≡ f i +ℤ g i) → sum_histograms l h ≡ sum_histograms l f +ℤ sum_histograms l g
unfolding sum_histograms
histograms-sum [] f g h e = zero-sum
histograms-sum (x ∷ l) f g h e = ap₂ (λ (y z : ℤ). y +ℤ z) (e x) (histograms-sum l f g h e) ∙ interchange (f x) (g x) (sum_histograms l f) (sum_histograms l g)

pub cost_added : (L : ℕ) (c : PriceCard) (n : ℕ) (ends a b : List ℕ) → length a ≡ length b
    → cost_of L c n ends (add_counts a b) ≡ cost_of L c n ends a +ℤ cost_of L c n ends b
unfolding cost_of
cost_added L c n ends a b e =
    blocks-sum n _ _ _ (λ i. histograms-sum histograms _ _ _ (λ h.
    ap (λ (k : ℕ). price c ends h i *ℤ pos k) (count_added a b (slot L (at h i)) e) ∙ distribute (price c ends h i) (count L a (at h i)) (count L b (at h i))))
