-- Recording adds up: a weighted sum of the histograms grows by the weights of the entries raised. Assumes nothing.
use Prim.Native.Nat.{ℕ, zero, suc, ◌+◌, ◌*◌, ◌≤◌, ◌<◌}
use mathlib.Core.Path.{◌≡◌, refl, sym, ap, ◌∙◌, subst}
use mathlib.Core.Logic.{◌≢◌}
use mathlib.Core.Bool.{Bool, true, false, cond}
use mathlib.Core.List.{List, [], ◌∷◌, map}
use native.Mathlib.Omega.{arith}
use native.Mathlib.Decide.{ℕ_discrete, dec_lt}
use native.Mathlib.Nat.{mul-le-mul_right}
use lib.Dec.{eqb, eqb→eq}
use lib.ListN.{length, get_or, length-set, get_or-replicate}
use lib.Seq.{get_or-set_same, get_or-set_other}
use Rattle.model.specs.Lists.{sum_of}
use Rattle.model.specs.Histograms.{Histogram, pq, rs, re, sc, de, ins, udf, utf, udb, utb, position, histograms, Entry, at, slot, count, raise, raise_all, zeros}
use Rattle.model.proofs.Tests.{eqb_no, of_true}

-- f 0 + .. + f (n - 1)
unfoldable pub sum_to : ℕ → (ℕ → ℕ) → ℕ
sum_to zero f = 0
sum_to (suc n) f = sum_to n f + f n

sum_same : (n : ℕ) (f g : ℕ → ℕ) → ((i : ℕ) → i < n → f i ≡ g i) → sum_to n f ≡ sum_to n g
unfolding sum_to
sum_same zero f g h = refl
sum_same (suc n) f g h = omega (arith, sum_same n f g (λ i l. h i (omega arith)), h n (omega arith))

-- two sums that differ at one place
sum_point : (n k x : ℕ) (f g : ℕ → ℕ) → k < n → ((i : ℕ) → i < n → i ≢ k → g i ≡ f i) → g k ≡ f k + x → sum_to n g ≡ sum_to n f + x
unfolding sum_to
sum_point zero k x f g l h e = absurd (omega arith)
sum_point (suc n) k x f g l h e = go (ℕ_discrete n k) (λ (w : k < n). sum_point n k x f g w (λ i v. h i (omega arith)) e)
  where
    go : Dec (n ≡ k) → (k < n → sum_to n g ≡ sum_to n f + x) → sum_to n g + g n ≡ sum_to n f + f n + x
    go (yes q) r = omega (arith, sum_same n g f (λ i v. h i (omega arith) (omega arith)), subst (λ (m : ℕ). g m ≡ f m + x) (sym q) e)
    go (no q) r = omega (arith, r (omega arith), h n (omega arith) q)

-- f summed over histograms
unfoldable pub over : List Histogram → (Histogram → ℕ) → ℕ
over [] f = 0
over (h ∷ l) f = f h + over l f

-- a histogram is known by its position
position_at : (h : Histogram) → get_or histograms (position h) pq ≡ h
unfolding position
position_at pq = refl
position_at rs = refl
position_at re = refl
position_at sc = refl
position_at de = refl
position_at ins = refl
position_at udf = refl
position_at utf = refl
position_at udb = refl
position_at utb = refl

position_only : (h k : Histogram) → position h ≡ position k → h ≡ k
position_only h k e = sym (position_at h) ∙ ap (λ (n : ℕ). get_or histograms n pq) e ∙ position_at k

position_most : (h : Histogram) → position h ≤ 9
unfolding position
position_most pq = omega arith
position_most rs = omega arith
position_most re = omega arith
position_most sc = omega arith
position_most de = omega arith
position_most ins = omega arith
position_most udf = omega arith
position_most utf = omega arith
position_most udb = omega arith
position_most utb = omega arith

-- how often a histogram is listed: once
times : Histogram → List Histogram → ℕ
times h [] = 0
times h (k ∷ l) = cond (eqb (position k) (position h)) 1 0 + times h l

times_once : (h : Histogram) → times h histograms ≡ 1
unfolding times position
times_once pq = refl
times_once rs = refl
times_once re = refl
times_once sc = refl
times_once de = refl
times_once ins = refl
times_once udf = refl
times_once utf = refl
times_once udb = refl
times_once utb = refl

over_same : (l : List Histogram) (f g : Histogram → ℕ) → ((h : Histogram) → f h ≡ g h) → over l f ≡ over l g
unfolding over
over_same [] f g e = refl
over_same (h ∷ l) f g e = omega (arith, e h, over_same l f g e)

over_point : (l : List Histogram) (k : Histogram) (x : ℕ) (f g : Histogram → ℕ) → ((h : Histogram) → position h ≢ position k → g h ≡ f h) → g k ≡ f k + x → over l g ≡ over l f + times k l * x
unfolding over times
over_point [] k x f g a e = omega arith
over_point (h ∷ l) k x f g a e = go (eqb (position h) (position k)) refl (over_point l k x f g a e)
  where
    go : (b : Bool) → eqb (position h) (position k) ≡ b → over l g ≡ over l f + times k l * x → g h + over l g ≡ f h + over l f + (cond b 1 0 + times k l) * x
    go true q r =
        let i : h ≡ k = position_only h k (eqb→eq _ _ (of_true _ q)) in
        let j : g h ≡ f h + x = subst (λ (m : Histogram). g m ≡ f m + x) (sym i) e in
        omega arith
    go false q r = omega (arith, a h (eqb_no _ _ q))

-- every entry stands at a block below n
unfoldable pub Below : ℕ → List Entry → Type 0
Below n [] = Unit
Below n (e ∷ es) = (e.block < n) × Below n es

-- the weights of some entries
abbrev pub load : (Histogram → ℕ → ℕ) → List Entry → ℕ
load f es = sum_of (map (λ (e : Entry). f e.histogram e.block) es)

-- nothing weighs nothing
over_zeros : (l : List Histogram) (f : Histogram → ℕ) → ((h : Histogram) → f h ≡ 0) → over l f ≡ 0
unfolding over
over_zeros [] f e = refl
over_zeros (h ∷ l) f e = omega (arith, e h, over_zeros l f e)

sum_zeros : (n : ℕ) (f : ℕ → ℕ) → ((i : ℕ) → i < n → f i ≡ 0) → sum_to n f ≡ 0
unfolding sum_to
sum_zeros zero f e = refl
sum_zeros (suc n) f e = omega (arith, e n (omega arith), sum_zeros n f (λ i l. e i (omega arith)))

-- two slots of histograms of L counts
pub slot_apart : (a b i k L : ℕ) → i < L → k < L → a * L + i ≡ b * L + k → (a ≡ b) × (i ≡ k)
slot_apart a b i k L h l e = go (dec_lt a b) (dec_lt b a)
  where
    go : Dec (a < b) → Dec (b < a) → (a ≡ b) × (i ≡ k)
    go (yes q) d = let m : (a + 1) * L ≤ b * L = mul-le-mul_right L (omega arith) in absurd (omega arith)
    go (no q) (yes r) = let m : (b + 1) * L ≤ a * L = mul-le-mul_right L (omega arith) in absurd (omega arith)
    go (no q) (no r) = let m : a ≡ b = omega arith in let n : a * L ≡ b * L = ap (λ (x : ℕ). x * L) m in (m, omega arith)

slot_low : (L : ℕ) (h : Histogram) (i : ℕ) → i < L → position h * L + i < 10 * L
slot_low L h i l = omega (arith, mul-le-mul_right L (position_most h))

module _ (L : ℕ) where
  -- the counts of blocks 0 to n - 1, each times its weight
  unfoldable pub weigh : (Histogram → ℕ → ℕ) → ℕ → List ℕ → ℕ
  weigh f n hs = sum_to n (λ (i : ℕ). over histograms (λ (h : Histogram). f h i * count L hs (at h i)))

  module _ (hs : List ℕ) (len : length hs ≡ 10 * L) (h : Histogram) (k : ℕ) (low : k < L) where
    count_same : count L (raise L hs (at h k)) (at h k) ≡ count L hs (at h k) + 1
    unfolding raise slot
    count_same = get_or-set_same hs (position h * L + k) _ 0 (omega (arith, slot_low L h k low))

    count_other : (j : Histogram) (i : ℕ) → position j * L + i ≢ position h * L + k → count L (raise L hs (at h k)) (at j i) ≡ count L hs (at j i)
    unfolding raise slot
    count_other j i n = get_or-set_other hs (position h * L + k) (position j * L + i) _ 0 n

    -- one raised
    weigh_raise : (f : Histogram → ℕ → ℕ) (n : ℕ) → n ≤ L → k < n → weigh f n (raise L hs (at h k)) ≡ weigh f n hs + f h k
    unfolding weigh
    weigh_raise f n m l =
        sum_point n k (f h k) _ _ l
        (λ i v w. over_same histograms _ _ (λ j. ap (λ (c : ℕ). f j i * c) (count_other j i (λ q. w (slot_apart (position j) (position h) i k L (omega arith) low q).1))))
        (over_point histograms h (f h k) _ _ (λ j w. ap (λ (c : ℕ). f j k * c) (count_other j k (λ q. w (slot_apart (position j) (position h) k k L low low q).0))) (rw count_same (omega arith))
        ∙ rw times_once (omega arith))

  length-raise : (hs : List ℕ) (e : Entry) → length (raise L hs e) ≡ length hs
  unfolding raise
  length-raise hs e = length-set hs _ _

  -- some raised
  pub weigh_all : (es : List Entry) (hs : List ℕ) (f : Histogram → ℕ → ℕ) (n : ℕ) → length hs ≡ 10 * L → n ≤ L → Below n es → weigh f n (raise_all L hs es) ≡ weigh f n hs + load f es
  unfolding raise_all Below sum_of
  weigh_all [] hs f n len m b = omega arith
  weigh_all (e ∷ es) hs f n len m b =
      let r : weigh f n (raise_all L (raise L hs e) es) ≡ weigh f n (raise L hs e) + load f es = weigh_all es (raise L hs e) f n (length-raise hs e ∙ len) m b.1 in
      omega (arith, weigh_raise hs len e.histogram e.block (omega (arith, b.0)) f n m b.0)

  pub length_all : (es : List Entry) (hs : List ℕ) → length (raise_all L hs es) ≡ length hs
  unfolding raise_all
  length_all [] hs = refl
  length_all (e ∷ es) hs = length_all es (raise L hs e) ∙ length-raise hs e

  pub weigh_zeros : (f : Histogram → ℕ → ℕ) (n : ℕ) → n ≤ L → weigh f n (zeros L) ≡ 0
  unfolding weigh slot
  weigh_zeros f n m = sum_zeros n _ (λ i l. over_zeros histograms _ (λ h. rw (get_or-replicate {A = ℕ} (10 * L) (position h * L + i) 0 0 (omega (arith, slot_low L h i (omega arith)))) (omega arith)))
