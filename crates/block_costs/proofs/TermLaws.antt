-- The terms of a block are small; their running sums, place by place, and that these are what the search asks of sums. Assumes nothing.
use mathlib.Core.Path.{◌≡◌, refl, sym, ap, ap₂, ◌∙◌, subst}
use mathlib.Core.Bool.{◌&&◌}
use mathlib.Core.List.{List, [], ◌∷◌, ◌++◌}
use Prim.Native.Nat.{ℕ, zero, suc, ◌+◌, ◌*◌, ◌^◌, ◌≤◌, ◌<◌}
use native.Mathlib.Omega.{arith}
use native.Mathlib.Nat.{mul-le-mul}
use native.Mathlib.Decide.{ℕ_discrete}
use native.Mathlib.Numerals.{add-one}
use lib.Dec.{T, leb, eqb, leb→le}
use lib.ListN.{length, get_or, set, drop, replicate, length-set, length-append, length-drop, get_or-append}
use lib.Seq.{get_or-set_same, get_or-set_other}
use Rattle.std.proofs.lemmas.List.{get_or-replicate}
use Rattle.model.specs.declared.PriceCard.{PriceCard}
use Rattle.model.specs.Lists.{every}
use Rattle.model.specs.Prices.{price_ok, prices_ok}
use Rattle.model.specs.Histograms.{Histogram, pq, rs, re, sc, de, ins, udf, utf, udb, utb, at, count, slot, histograms_size, counts_ok}
use Rattle.model.specs.Bounds.{block_limit, most_count, most_price}
use Rattle.model.proofs.Tests.{and_fst, and_snd, is_true}
use Rattle.histograms.proofs.Counts.{counts_long}
use Rattle.layout_search.specs.Sums.{sum}
use Rattle.layout_search.specs.Task.{search_limit}
use Rattle.layout_search.specs.RunningSums.{sums_per_place, fixed, per_block_before, weighted_before, per_block_after, weighted_after, per_partition_added, per_partition_saved}
use Rattle.layout_search.specs.RunningSums.{sum_at, part_of, Rising, Holds}
use Rattle.layout_search.proofs.SumLaws.{sum_most}
use Rattle.layout_search.proofs.PriceLaws.{small_product}
use Rattle.block_costs.specs.Terms.{fixed_of, per_block_before_of, per_block_after_of, per_partition_added_of, per_partition_saved_of, term_of, running_sum, pick, PricesPass, Counted, Summed, Loaded}

-- checks 1 and 9

pub prices_pass : (c : PriceCard) → T (prices_ok c) → PricesPass c
unfolding prices_ok
prices_pass p t =
    let a = price_ok p.rr in
    let b = price_ok p.sr in
    let c = price_ok p.«rw» in
    let x = and_fst a b (and_fst (a && b) c t) in
    let y = and_snd a b (and_fst (a && b) c t) in
    let z = and_snd (a && b) c t in
    record {
      rr_least = leb→le 1 p.rr (and_fst (leb 1 p.rr) (leb p.rr most_price) x);
      rr_most = leb→le p.rr most_price (and_snd (leb 1 p.rr) (leb p.rr most_price) x);
      sr_least = leb→le 1 p.sr (and_fst (leb 1 p.sr) (leb p.sr most_price) y);
      sr_most = leb→le p.sr most_price (and_snd (leb 1 p.sr) (leb p.sr most_price) y);
      rw_most = leb→le p.«rw» most_price (and_snd (leb 1 p.«rw») (leb p.«rw» most_price) z);
    }

count_small : (hs : List ℕ) → T (every (λ (n : ℕ). leb n most_count) hs) → (x : ℕ) → get_or hs x 0 ≤ most_count
unfolding every
count_small [] t x = omega arith
count_small (n ∷ hs) t zero = leb→le n most_count (and_fst (leb n most_count) _ t)
count_small (n ∷ hs) t (suc x) = count_small hs (and_snd (leb n most_count) _ t) x

pub counted : (L : ℕ) (hs : List ℕ) → T (counts_ok L hs) → Counted L hs
unfolding counts_ok
counted L hs t =
    let a = eqb (length hs) (histograms_size L) in
    let b = every (λ (n : ℕ). leb n most_count) hs in
    record { long = counts_long L hs (is_true (a && b) t); each = count_small hs (and_snd a b t) }

-- a price times a sum of counts is small
pub small : (p c l m : ℕ) → p ≤ l * most_price → c ≤ m * most_count → p * c ≤ l * most_price * (m * most_count)
small p c l m h k = mul-le-mul {n₂ = l * most_price} {m₂ = m * most_count} h k

module _ (L : ℕ) (c : PriceCard) (hs : List ℕ) (i : ℕ) (q : PricesPass c) (k : Counted L hs) where
  abbrev N : Histogram → ℕ
  N h = count L hs (at h i)

  most : (h : Histogram) → N h ≤ most_count
  most h = k.each (slot L (at h i))

  both_most : c.rr + c.«rw» ≤ 2 * most_price
  both_most = omega (arith, q.rr_most, q.rw_most)

  two : (p l : ℕ) (g h : Histogram) → p ≤ l * most_price → p * (N g + N h) ≤ l * most_price * (2 * most_count)
  two p l g h k = small p _ l 2 k (omega (arith, most g, most h))

  five : (g h : Histogram) → c.sr * (N g + N h + N de + N udf + N udb) ≤ 1 * most_price * (5 * most_count)
  five g h = small c.sr _ 1 5 (omega (arith, q.sr_most)) (omega (arith, most g, most h, most de, most udf, most udb))

  fixed_small : fixed_of L c hs i ≤ 2 ^ 34
  unfolding fixed_of
  fixed_small =
      let r = two c.rr 1 pq rs (omega (arith, q.rr_most)) in
      let s = two c.sr 1 re sc (omega (arith, q.sr_most)) in
      omega (arith, r, s, two (c.rr + c.«rw») 2 ins de both_most, two (c.rr + c.«rw») 2 udf udb both_most)

  pub before_small : per_block_before_of L c hs i ≤ 2 ^ 33
  unfolding per_block_before_of
  before_small = omega (arith, five pq rs)

  pub after_small : per_block_after_of L c hs i ≤ 2 ^ 33
  unfolding per_block_after_of
  after_small = omega (arith, five pq re)

  four : (c.rr + c.«rw») * (N ins + N de + N udf + N utb) ≤ 2 * most_price * (4 * most_count)
  four = small _ _ 2 4 both_most (omega (arith, most ins, most de, most udf, most utb))

  added_small : per_partition_added_of L c hs i ≤ 2 ^ 33
  unfolding per_partition_added_of
  added_small = omega (arith, four)

  saved_small : per_partition_saved_of L c hs i ≤ 2 ^ 33
  unfolding per_partition_saved_of
  saved_small = omega (arith, two (c.rr + c.«rw») 2 utf udb both_most)

  -- a product with the block's number
  weighted_small : (x : ℕ) → x ≤ 2 ^ 33 → i < search_limit → x * i ≤ 2 ^ 41
  weighted_small x h g = omega (arith, small_product x i (2 ^ 33) h (omega arith))

  pub term_small : (j : ℕ) → i < search_limit → term_of L c hs j i ≤ 2 ^ 41
  unfolding term_of
  term_small zero g = omega (arith, fixed_small)
  term_small (suc zero) g = omega (arith, before_small)
  term_small (suc (suc zero)) g = weighted_small _ before_small g
  term_small (suc (suc (suc zero))) g = omega (arith, after_small)
  term_small (suc (suc (suc (suc zero)))) g = weighted_small _ after_small g
  term_small (suc (suc (suc (suc (suc zero))))) g = omega (arith, added_small)
  term_small (suc (suc (suc (suc (suc (suc j)))))) g = omega (arith, saved_small)

-- a term times the block's number
pub weighted_fits : (x i : ℕ) → x ≤ 2 ^ 33 → i < block_limit → x * i ≤ 2 ^ 33 * block_limit
weighted_fits x i h g = mul-le-mul {n₂ = 2 ^ 33} {m₂ = block_limit} h (omega arith)

-- the seven in a list
pub picked : (a b c d e f g q : ℕ) → q < sums_per_place → get_or {A = ℕ} (a ∷ b ∷ c ∷ d ∷ e ∷ f ∷ g ∷ []) q 0 ≡ pick q a b c d e f g
picked a b c d e f g zero h = refl
picked a b c d e f g (suc zero) h = refl
picked a b c d e f g (suc (suc zero)) h = refl
picked a b c d e f g (suc (suc (suc zero))) h = refl
picked a b c d e f g (suc (suc (suc (suc zero)))) h = refl
picked a b c d e f g (suc (suc (suc (suc (suc zero))))) h = refl
picked a b c d e f g (suc (suc (suc (suc (suc (suc zero)))))) h = refl
picked a b c d e f g (suc (suc (suc (suc (suc (suc (suc q))))))) h = absurd (omega arith)

module _ (L : ℕ) (c : PriceCard) (hs : List ℕ) where
  pub sum_first : (q : ℕ) → running_sum L c hs q 0 ≡ 0
  unfolding running_sum sum
  sum_first q = refl

  pub sum_next : (q j : ℕ) → running_sum L c hs q (j + 1) ≡ running_sum L c hs q j + term_of L c hs q j
  unfolding running_sum sum
  sum_next q j = let z : 0 + j ≡ j = omega arith in rw (add-one j, z) refl

  pub sum_fits : (q j : ℕ) → PricesPass c → Counted L hs → j ≤ search_limit → running_sum L c hs q j ≤ 2 ^ 49
  unfolding running_sum
  sum_fits q j p k g = omega (arith, sum_most (2 ^ 41) (term_of L c hs q) 0 j (λ i u v. term_small L c hs i p k q (omega arith)))

  -- the sums, place by place

  pub first_summed : (sums : List ℕ) → ((x : ℕ) → x < sums_per_place → get_or sums x 0 ≡ 0) → Summed L c hs sums_per_place sums
  unfolding sum_at
  first_summed sums k = record { here = λ q j g h. let z : j ≡ 0 = omega arith in k (j * sums_per_place + q) h ∙ rw z (sym (sum_first q)) }

  pub summed_as : (x y : ℕ) (sums : List ℕ) → x ≡ y → Summed L c hs x sums → Summed L c hs y sums
  summed_as x y sums e s = subst (λ (v : ℕ). Summed L c hs v sums) e s

  pub summed_more : (q j y v : ℕ) (sums : List ℕ) → Summed L c hs y sums → q < sums_per_place → y ≡ j * sums_per_place + q → y < length sums → v ≡ running_sum L c hs q j
      → Summed L c hs (y + 1) (set sums y v)
  unfolding sum_at
  summed_more q j y v sums s g e room f = record { here = λ r i u w. go r i u w (ℕ_discrete (i * sums_per_place + r) y) }
    where
      go : (r i : ℕ) → r < sums_per_place → i * sums_per_place + r < y + 1 → Dec (i * sums_per_place + r ≡ y) → get_or (set sums y v) (i * sums_per_place + r) 0 ≡ running_sum L c hs r i
      go r i u w (yes z) =
          let a : r ≡ q = omega arith in
          let b : i ≡ j = omega arith in
          rw (z, a, b) (get_or-set_same sums y v 0 room ∙ f)
      go r i u w (no z) = get_or-set_other sums y (i * sums_per_place + r) v 0 z ∙ s.here r i u (omega arith)

  -- the sums of a block's place, one by one: each is the one at the block before and its term
  module _ (i q x : ℕ) (old sums : List ℕ) (s : Loaded L c hs ((i + 1) * sums_per_place + q) old sums) (g : q < sums_per_place) (e : x ≡ term_of L c hs q i) where
    pub next_sum : get_or sums (i * sums_per_place + q) 0 + x ≡ running_sum L c hs q (i + 1)
    unfolding sum_at
    next_sum = ap₂ (λ (a b : ℕ). a + b) (s.summed.here q i g (omega arith)) e ∙ sym (sum_next q i)

    pub next_fits : PricesPass c → Counted L hs → i < search_limit → get_or sums (i * sums_per_place + q) 0 + x ≤ 2 ^ 49
    next_fits p k h = rw next_sum (sum_fits q (i + 1) p k (omega arith))

    pub loaded_more : (i + 2) * sums_per_place ≤ length old
        → Loaded L c hs ((i + 1) * sums_per_place + (q + 1)) old (set sums (i * sums_per_place + sums_per_place + q) (get_or sums (i * sums_per_place + q) 0 + x))
    loaded_more room =
        let y : i * sums_per_place + sums_per_place + q ≡ (i + 1) * sums_per_place + q = omega arith in
        rw y
        (record {
          long = length-set sums _ _ ∙ s.long;
          summed = summed_as _ _ _ (omega arith) (summed_more q (i + 1) _ _ sums s.summed g refl (omega (arith, s.long)) next_sum);
        })

  -- the sums of no block
  pub first_loaded : (old zeros : List ℕ) (n : ℕ) → zeros ≡ replicate n 0 → n ≡ sums_per_place → sums_per_place ≤ length old → Loaded L c hs sums_per_place old (zeros ++ drop sums_per_place old)
  first_loaded old zeros n e f h = rw (e, f) (record {
    long = length-append (replicate sums_per_place 0) (drop sums_per_place old) ∙ omega (arith, length-drop sums_per_place old);
    summed = first_summed _ (λ x g. get_or-append (replicate sums_per_place 0) (drop sums_per_place old) 0 x g ∙ get_or-replicate sums_per_place x 0 0 g);
  })

  -- what was added up
  module _ (n : ℕ) (sums : List ℕ) (s : Summed L c hs ((n + 1) * sums_per_place) sums) where
    sum_is : (q j : ℕ) → q < sums_per_place → j ≤ n → sum_at sums q j ≡ running_sum L c hs q j
    sum_is q j g h = s.here q j g (omega arith)

    pub part_is : (q i : ℕ) → q < sums_per_place → i < n → part_of sums q i ≡ term_of L c hs q i
    part_is q i g h = omega (arith, sum_is q i g (omega arith), sum_is q (i + 1) g (omega arith), sum_next q i)

    weighted_is : (q r i : ℕ) → q < sums_per_place → r < sums_per_place → i < n → term_of L c hs q i ≡ term_of L c hs r i * i → part_of sums q i ≡ part_of sums r i * i
    weighted_is q r i g u h e = part_is q i g h ∙ e ∙ ap (λ (x : ℕ). x * i) (sym (part_is r i u h))

    pub summed_rising : Rising sums n
    unfolding term_of
    summed_rising = record {
      rise = λ q i g h. omega (arith, sum_is q i g (omega arith), sum_is q (i + 1) g (omega arith), sum_next q i);
      before_weighted = λ i h. weighted_is weighted_before per_block_before i (omega arith) (omega arith) h refl;
      after_weighted = λ i h. weighted_is weighted_after per_block_after i (omega arith) (omega arith) h refl;
    }

    pub summed_holds : PricesPass c → Counted L hs → n ≤ search_limit → (n + 1) * sums_per_place ≤ length sums → Holds sums n
    unfolding term_of
    summed_holds q k few room = record {
      few = few;
      long = room;
      rising = summed_rising;
      none = λ r g. sum_is r 0 g (omega arith) ∙ sum_first r;
      part_most = λ r i g h. omega (arith, part_is r i g h, term_small L c hs i q k r (omega arith));
      fixed_most = λ i g. omega (arith, part_is fixed i (omega arith) g, fixed_small L c hs i q k);
      before_most = λ i g. omega (arith, part_is per_block_before i (omega arith) g, before_small L c hs i q k);
      after_most = λ i g. omega (arith, part_is per_block_after i (omega arith) g, after_small L c hs i q k);
      added_most = λ i g. omega (arith, part_is per_partition_added i (omega arith) g, added_small L c hs i q k);
      saved_most = λ i g. omega (arith, part_is per_partition_saved i (omega arith) g, saved_small L c hs i q k);
    }

-- products of a price and a sum of counts
pub four_products : (a b c d w x y z : ℕ) → a ≡ w → b ≡ x → c ≡ y → d ≡ z → a + b + c + 2 * d ≡ w + x + y + 2 * z
four_products a b c d w x y z e f g h = omega arith
