-- The running sums of some blocks; the price of a partition by them is the sum over its blocks; the test of a partition. Assumes nothing.
use Prim.Native.Nat.{ℕ, zero, suc, ◌+◌, ◌-◌, ◌*◌, ◌^◌, ◌≤◌, ◌<◌}
use mathlib.Core.Path.{◌≡◌, sym, ap, ap₂, ◌∙◌, subst}
use mathlib.Core.Bool.{Bool, false}
use mathlib.Core.List.{List}
use native.Mathlib.Omega.{arith}
use native.Mathlib.Nat.{add-mul, mul-le-mul}
use borrow.Author.Tests.{lt-leb, le-leb}
use Rattle.layout_search.specs.Sums.{sum, upto, span}
use Rattle.layout_search.specs.Task.{search_limit}
use Rattle.layout_search.specs.RunningSums.{sums_per_place, fixed, per_block_before, weighted_before, per_block_after, weighted_after, per_partition_added, per_partition_saved}
use Rattle.layout_search.specs.declared.Sum.{Sum}
use Rattle.layout_search.specs.declared.Sum.TheVariants.{Fixed, PerBlockBefore, WeightedBefore, PerBlockAfter, WeightedAfter, PerPartitionAdded, PerPartitionSaved}
use Rattle.layout_search.specs.RunningSums.{sum_number, sum_at, part_of, sum_over, adds_of, takes_of, Rising, Holds, partition_ok, LocalPrice, Priced}
use Rattle.layout_search.proofs.SumLaws.{sum_cong, sum-add, sum_times, sum_most}

pub number_below : (s : Sum) → sum_number s < sums_per_place
number_below Fixed = omega arith
number_below PerBlockBefore = omega arith
number_below WeightedBefore = omega arith
number_below PerBlockAfter = omega arith
number_below WeightedAfter = omega arith
number_below PerPartitionAdded = omega arith
number_below PerPartitionSaved = omega arith

-- the sums of fewer blocks
rising_less : (sums : List ℕ) (n m : ℕ) → Rising sums n → m ≤ n → Rising sums m
rising_less sums n m h g = record {
  rise = λ q i u k. h.rise q i u (omega arith);
  before_weighted = λ i k. h.before_weighted i (omega arith);
  after_weighted = λ i k. h.after_weighted i (omega arith);
}

pub holds_less : (sums : List ℕ) (n m : ℕ) → Holds sums n → m ≤ n → Holds sums m
holds_less sums n m h g = record {
  few = omega (arith, h.few);
  long = omega (arith, h.long);
  rising = rising_less sums n m h.rising g;
  none = h.none;
  part_most = λ q i u k. h.part_most q i u (omega arith);
  fixed_most = λ i k. h.fixed_most i (omega arith);
  before_most = λ i k. h.before_most i (omega arith);
  after_most = λ i k. h.after_most i (omega arith);
  added_most = λ i k. h.added_most i (omega arith);
  saved_most = λ i k. h.saved_most i (omega arith);
}

pub ok_yes : (longest a e : ℕ) (f : ℕ → Bool) → e + 1 - a ≤ longest → f e ≡ partition_ok longest f a e
ok_yes longest a e f h = rw (le-leb (e + 1 - a) longest h)

pub ok_no : (longest a e : ℕ) (f : ℕ → Bool) → longest < e + 1 - a → false ≡ partition_ok longest f a e
ok_no longest a e f h = rw (lt-leb (e + 1 - a) longest h)

-- a sum by its place, however that was counted
pub sum_as : (sums : List ℕ) (q i j x : ℕ) → x ≡ sum_at sums q i → i ≡ j → x ≡ sum_at sums q j
sum_as sums q i j x e h = e ∙ ap (sum_at sums q) h

-- a partition's price by how many there are from it to the last, however that was counted
pub priced_as : (sums : List ℕ) (a e j k r : ℕ) → j ≡ k → Priced sums a e j r → Priced sums a e k r
priced_as sums a e j k r h p = subst (λ (v : ℕ). Priced sums a e v r) h p

-- a product of numbers that are others
pub product_is : (r p q x y : ℕ) → r ≡ p * x → p ≡ q → x ≡ y → r ≡ q * y
product_is r p q x y e f g = e ∙ ap₂ (λ (u v : ℕ). u * v) f g

-- what a difference makes of a product
pub product_grows : (x y k : ℕ) → x ≤ y → y * k ≡ x * k + (y - x) * k
product_grows x y k h = let e : y ≡ x + (y - x) = omega arith in ap (λ (v : ℕ). v * k) e ∙ add-mul x (y - x) k

pub small_product : (x k b : ℕ) → x ≤ b → k ≤ search_limit → x * k ≤ b * search_limit
small_product x k b h g = mul-le-mul {n₂ = b} {m₂ = search_limit} h g

-- one block, c blocks from the first block a and d before the last
ring : (f b r m w x a c d k : ℕ) → w ≡ b * (a + c) → x ≡ r * (a + c) → f + b * c + r * d + m * k + b * a + x ≡ f + w + r * (a + c + d) + m * k
ring f b r m w x a c d k p q = omega arith

-- the local price by its five parts: it is near 2 ^ 60, and with the partitions' part it is the price
local_bounds : (f b d x y r : ℕ) → f ≤ 2 ^ 49 → b ≤ 2 ^ 49 → d ≤ 2 ^ 49 → x ≤ 2 ^ 57 → y ≤ 2 ^ 57 → r ≡ 2 ^ 60 + f + b + x - y - d → (r ≤ 2 ^ 60 + 2 ^ 58) × (2 ^ 60 ≤ r + 2 ^ 58)
local_bounds f b d x y r h i j k l m = (omega arith, omega arith)

local_added : (f b d x y r s t u v : ℕ) → d ≤ 2 ^ 49 → y ≤ 2 ^ 57 → x ≡ s → y ≡ t → r ≡ 2 ^ 60 + f + b + x - y - d → u + t + d ≡ f + b + s + v → r + v ≡ 2 ^ 60 + u
local_added f b d x y r s t u v h i j k l m = omega arith

add_four : (a b c d w x y z : ℕ) → a ≡ w → b ≡ x → c ≡ y → d ≡ z → a + b + c + d ≡ w + x + y + z
add_four a b c d w x y z e f g h = omega arith

module _ (sums : List ℕ) (n : ℕ) (h : Rising sums n) where
  -- the parts of the blocks between two places are the difference of the sums there
  parts : (q s c : ℕ) → q < sums_per_place → s + c ≤ n → sum_at sums q s + sum (part_of sums q) s c ≡ sum_at sums q (s + c)
  unfolding sum
  parts q s zero g u = let x : s + 0 ≡ s = omega arith in rw x (omega arith)
  parts q s (suc c) g u =
      let x : s + suc c ≡ s + c + 1 = omega arith in
      rw x (omega (arith, parts q s c g (omega arith), h.rise q (s + c) g (omega arith)))

  parts_over : (q a e : ℕ) → q < sums_per_place → a ≤ e + 1 → e < n → sum_at sums q a + sum (part_of sums q) a (e + 1 - a) ≡ sum_at sums q (e + 1)
  parts_over q a e g u v = let x : a + (e + 1 - a) ≡ e + 1 = omega arith in rw x at (parts q a (e + 1 - a) g (omega arith))

  pub rises : (q a e : ℕ) → q < sums_per_place → a ≤ e + 1 → e < n → sum_at sums q a ≤ sum_at sums q (e + 1)
  rises q a e g u v = omega (arith, parts_over q a e g u v)

  -- one block of the partition a to e
  one : (a e k i : ℕ) → a ≤ i → i ≤ e → i < n
      → adds_of sums i (i - a) (e - i) k + part_of sums per_block_before i * a + part_of sums weighted_after i
      ≡ part_of sums fixed i + part_of sums weighted_before i + part_of sums per_block_after i * e + part_of sums per_partition_added i * k
  unfolding adds_of
  one a e k i u v g =
      let y : a + (i - a) ≡ i = omega arith in
      let z : a + (i - a) + (e - i) ≡ e = omega arith in
      rw z at (ring (part_of sums fixed i) (part_of sums per_block_before i) (part_of sums per_block_after i) (part_of sums per_partition_added i) (part_of sums weighted_before i)
      (part_of sums weighted_after i) a (i - a) (e - i) k (rw y (h.before_weighted i g)) (rw y (h.after_weighted i g)))

  module _ (a e : ℕ) (u : a ≤ e) (v : e < n) where
    over_is : (q : ℕ) → q < sums_per_place → sum (part_of sums q) a (e + 1 - a) ≡ sum_over sums q a e
    over_is q g = omega (arith, parts_over q a e g (omega arith) v)

    over_times : (q k : ℕ) → q < sums_per_place → sum (λ i. part_of sums q i * k) a (e + 1 - a) ≡ sum_over sums q a e * k
    over_times q k g = sum_times (part_of sums q) k a (e + 1 - a) ∙ ap (λ (x : ℕ). x * k) (over_is q g)

    -- what the blocks add, by six of the sums
    pub span_by_sums : (k : ℕ) → span (adds_of sums) a e k + sum_over sums per_block_before a e * a + sum_over sums weighted_after a e
        ≡ sum_over sums fixed a e + sum_over sums weighted_before a e + sum_over sums per_block_after a e * e + sum_over sums per_partition_added a e * k
    unfolding span upto
    span_by_sums k =
        let c = e + 1 - a in
        let adds : ℕ → ℕ = λ i. adds_of sums i (i - a) (e - i) k in
        let before : ℕ → ℕ = λ i. part_of sums per_block_before i * a in
        let after : ℕ → ℕ = λ i. part_of sums per_block_after i * e in
        let added : ℕ → ℕ = λ i. part_of sums per_partition_added i * k in
        let part : ℕ → ℕ → ℕ = λ q. part_of sums q in
        ap₂ (λ (x y : ℕ). sum adds a c + x + y) (sym (over_times per_block_before a (omega arith))) (sym (over_is weighted_after (omega arith)))
        ∙ ap (λ (x : ℕ). x + sum (part weighted_after) a c) (sym (sum-add adds before a c))
        ∙ sym (sum-add (λ i. adds i + before i) (part weighted_after) a c)
        ∙ sum_cong _ (λ i. part fixed i + part weighted_before i + after i + added i) a c (λ i w z. one a e k i w (omega arith) (omega arith))
        ∙ sum-add (λ i. part fixed i + part weighted_before i + after i) added a c
        ∙ ap (λ (x : ℕ). x + sum added a c) (sum-add (λ i. part fixed i + part weighted_before i) after a c)
        ∙ ap (λ (x : ℕ). x + sum after a c + sum added a c) (sum-add (part fixed) (part weighted_before) a c)
        ∙ add_four _ _ _ _ _ _ _ _ (over_is fixed (omega arith)) (over_is weighted_before (omega arith)) (over_times per_block_after e (omega arith))
        (over_times per_partition_added k (omega arith))

    -- what they take off, by the seventh
    pub saved_by_sums : (k : ℕ) → span (λ i b f k. takes_of sums i k) a e k ≡ sum_over sums per_partition_saved a e * k
    unfolding span upto takes_of
    saved_by_sums k = over_times per_partition_saved k (omega arith)

module _ (sums : List ℕ) (n : ℕ) (h : Holds sums n) where
  -- a sum is small
  pub sum_small : (q j : ℕ) → q < sums_per_place → j ≤ n → sum_at sums q j ≤ 2 ^ 49
  sum_small q j g u =
      let z : 0 + j ≡ j = omega arith in
      let p : sum_at sums q 0 + sum (part_of sums q) 0 j ≡ sum_at sums q j = rw z at (parts sums n h.rising q 0 j g (omega arith)) in
      omega (arith, p, sum_most (2 ^ 41) (part_of sums q) 0 j (λ i w k. h.part_most q i g (omega arith)), h.none q g, h.few)

  pub sum_times_small : (q j k : ℕ) → q < sums_per_place → j ≤ n → k ≤ search_limit → sum_at sums q j * k ≤ 2 ^ 57
  sum_times_small q j k g u v = omega (arith, small_product (sum_at sums q j) k (2 ^ 49) (sum_small q j g u) v)

  module _ (a e : ℕ) (u : a ≤ e) (v : e < n) where
    pub span_most : (k : ℕ) → k ≤ search_limit → span (adds_of sums) a e k ≤ (e + 1 - a) * 2 ^ 43
    unfolding span upto adds_of
    span_most k g = sum_most (2 ^ 43) _ a (e + 1 - a) (λ i w z.
        let few = h.few in
        omega (
          arith,
          h.fixed_most i (omega arith),
          small_product _ (i - a) (2 ^ 33) (h.before_most i (omega arith)) (omega arith),
          small_product _ (e - i) (2 ^ 33) (h.after_most i (omega arith)) (omega arith),
          small_product _ k (2 ^ 33) (h.added_most i (omega arith)) g,
        ))

    pub saved_most : (k : ℕ) → k ≤ search_limit → span (λ i b f k. takes_of sums i k) a e k ≤ (e + 1 - a) * 2 ^ 43
    unfolding span upto takes_of
    saved_most k g = sum_most (2 ^ 43) _ a (e + 1 - a) (λ i w z. omega (arith, small_product _ k (2 ^ 33) (h.saved_most i (omega arith)) g))

    pub over_small : (q : ℕ) → q < sums_per_place → sum_over sums q a e ≤ 2 ^ 49
    over_small q g = omega (arith, sum_small q (e + 1) g (omega arith))

    -- x and y are the two products of the local price
    pub local_price_is : (x y r : ℕ) → x ≡ sum_over sums per_block_after a e * e → y ≡ sum_over sums per_block_before a e * a → x ≤ 2 ^ 57 → y ≤ 2 ^ 57
        → r ≡ 2 ^ 60 + sum_over sums fixed a e + sum_over sums weighted_before a e + x - y - sum_over sums weighted_after a e → LocalPrice sums a e r
    local_price_is x y r p q g w z =
        let b = local_bounds _ _ _ x y r (over_small fixed (omega arith)) (over_small weighted_before (omega arith)) (over_small weighted_after (omega arith)) g w z in
        record {
          added = λ k. local_added _ _ _ x y r _ _ _ _ (over_small weighted_after (omega arith)) w p q z (span_by_sums sums n h.rising a e u v k);
          saved = saved_by_sums sums n h.rising a e u v;
          high = b.0;
          low = b.1;
        }
