-- A row of the table by local prices and tails: the least of their sums, with the sums of partitions at the first block taken off again, is the row's number. Assumes nothing.
use Prim.Native.Nat.{ℕ, ◌+◌, ◌-◌, ◌*◌, ◌^◌, ◌≤◌, ◌<◌, min}
use mathlib.Core.Path.{◌≡◌, refl, sym, ap, ap₂, ◌∙◌, subst}
use mathlib.Core.Bool.{Bool, true, false, cond}
use mathlib.Core.List.{List, [], ◌∷◌}
use native.Mathlib.Omega.{arith}
use native.Mathlib.Nat.{mul-le-mul, add-mul}
use native.Mathlib.Decide.{ℕ_discrete}
use lib.Dec.{T, leb, leb→le}
use lib.ListN.{length, get_or, set, take, drop, length-set, length-drop}
use lib.Seq.{get_or-set_same, get_or-set_other, get_or-take, get_or-drop, length-take-le}
use Rattle.layout_search.specs.Task.{search_limit, Task, Layout}
use Rattle.layout_search.specs.RunningSums.{sums_per_place, per_partition_added, per_partition_saved, sum_at, sum_over, Holds, LocalPrice, task_of}
use Rattle.layout_search.specs.Table.{Low, Hit, Near, Best, Cand, Kept, LocalRow, LocalPrices, Tail, no_tail, some_tail, Tails, Small, offered_at, LeastOf}
use Rattle.layout_search.proofs.BestLaws.{layout_count, cand_low, cand_hit, cand_near, no_true}
use Rattle.layout_search.proofs.PriceLaws.{product_grows, rises, sum_times_small, span_most, saved_most, ok_yes}
use Rattle.layout_search.proofs.RowLaws.{stored_each, row-place, rows_below}

-- where the local prices of first block a stand
pub local_place : (n a : ℕ) → a < n → n ≤ search_limit → (n * n + a * n + n ≤ 2 * (n * n)) × (n * n + a * n < 2 ^ 32)
local_place n a h g =
    let x : n * n ≤ search_limit * search_limit = mul-le-mul {n₂ = search_limit} {m₂ = search_limit} g g in
    let y : (a + 1) * n ≤ n * n = rows_below n (a + 1) n (omega arith) in
    let z = add-mul a 1 n in
    (omega arith, omega arith)

-- the local prices, place by place

pub local_start : (sums : List ℕ) (n a : ℕ) (old : List ℕ) → LocalRow sums n a a old old
local_start sums n a old = record { long = refl; before = λ i h. refl; here = λ d u v. absurd (omega arith) }

pub local_more : (sums : List ℕ) (n a e v : ℕ) (old new : List ℕ) → LocalRow sums n a e old new → n * n + a * n + e < length old → LocalPrice sums a e v
    → LocalRow sums n a (e + 1) old (set new (n * n + a * n + e) v)
local_more sums n a e v old new f h p = record {
  long = length-set new _ v ∙ f.long;
  before = λ i g. get_or-set_other new (n * n + a * n + e) i v 0 (λ q. absurd (omega arith)) ∙ f.before i g;
  here = λ d u w. go d u w (ℕ_discrete d e);
}
  where
    go : (d : ℕ) → a ≤ d → d < e + 1 → Dec (d ≡ e) → LocalPrice sums a d (get_or (set new (n * n + a * n + e) v) (n * n + a * n + d) 0)
    go d u w (yes q) = rw (q, get_or-set_same new (n * n + a * n + e) v 0 (omega (arith, f.long))) p
    go d u w (no q) = rw (get_or-set_other new (n * n + a * n + e) (n * n + a * n + d) v 0 (λ z. q (omega arith))) (f.here d u (omega arith))

pub locals_more : (sums : List ℕ) (n a : ℕ) (old new : List ℕ) → LocalPrices sums n a old → LocalRow sums n a n old new → LocalPrices sums n (a + 1) new
locals_more sums n a old new f r b e u v w = go (ℕ_discrete b a)
  where
    go : Dec (b ≡ a) → LocalPrice sums b e (get_or new (n * n + b * n + e) 0)
    go (yes q) = rw q (r.here e (omega arith) w)
    go (no q) = rw (r.before (n * n + b * n + e) (omega (arith, row-place n b e w, rows_below n (b + 1) a (omega arith)))) (f b e (omega arith) v w)

-- rows written later leave them
pub locals_kept : (sums : List ℕ) (n k : ℕ) (old new : List ℕ) → Kept n k old new → LocalPrices sums n n old → LocalPrices sums n n new
locals_kept sums n k old new r f b e u v w = rw (r.past (n * n + b * n + e) (omega arith)) (f b e u v w)

-- the tails, end by end

-- a partition that may be is not too long, and its end may stand
pub fits_of : (b c : Bool) → cond b c false ≡ true → T b × (c ≡ true)
fits_of true c e = (tt, e)
fits_of false c e = absurd (subst T (sym e) tt)

module _ (sums : List ℕ) (fits : List Bool) (longest n k e x : ℕ) where
  pub tail_not_ok : get_or fits e false ≡ false → x ≡ 2 ^ 62 → Tail sums (task_of sums fits longest n) (λ i. get_or fits i false) k e x
  tail_not_ok h g = no_tail g (λ a es l p. no_true (sym (fits_of (leb (e + 1 - a) longest) (get_or fits e false) l.2).1 ∙ h))

  pub tail_no_rest : (y : ℕ) → Best (task_of sums fits longest n) (e + 1) k y → 2 ^ 62 ≤ y → x ≡ 2 ^ 62 → Tail sums (task_of sums fits longest n) (λ i. get_or fits i false) k e x
  tail_no_rest y b h g = no_tail g (λ a es l p. omega (arith, (b.low es l.3 p).0))

pub tails_start : (sums : List ℕ) (t : Task) (fits : ℕ → Bool) (k : ℕ) (row : List ℕ) → t.n ≤ length row → Tails sums t fits k 0 row
tails_start sums t fits k row h = record { room = h; here = λ d u. absurd (omega arith) }

pub tails_more : (sums : List ℕ) (t : Task) (fits : ℕ → Bool) (k e v : ℕ) (row : List ℕ) → Tails sums t fits k e row → e < t.n → Tail sums t fits k e v
    → Tails sums t fits k (e + 1) (set row e v)
tails_more sums t fits k e v row s g p = record { room = rw (length-set row e v) s.room; here = stored_each (Tail sums t fits k) 0 v e row (omega (arith, s.room)) p s.here }

-- where a first partition may end: k partitions behind it need k blocks, and it is not too long
pub reach : (sums : List ℕ) (fits : List Bool) (longest n k a d : ℕ) (ds : List ℕ) → Layout (task_of sums fits longest n) a (d ∷ ds) → length ds ≡ k
    → d < a + min (n - k - a) longest
reach sums fits longest n k a d ds l p =
    let c = layout_count (task_of sums fits longest n) (d + 1) ds l.3 in
    let o = leb→le (d + 1 - a) longest (fits_of (leb (d + 1 - a) longest) (get_or fits d false) l.2).0 in
    omega (arith, l.0, l.1)

-- a row's number by tails and local prices
module _ (sums : List ℕ) (fits : List Bool) (longest n k a : ℕ) (table row : List ℕ) (h : Holds sums n) (ha : a < n) (hk : k < n) (prices : LocalPrices sums n n table)
    (tails : Tails sums (task_of sums fits longest n) (λ i. get_or fits i false) k n row) where
  abbrev t : Task
  t = task_of sums fits longest n

  abbrev TailAt : ℕ → Type 0
  TailAt e = Tail sums t (λ i. get_or fits i false) k e (get_or row e 0)

  abbrev pub joined_at : ℕ → ℕ
  joined_at e = get_or row e 0 + get_or table (n * n + a * n + e) 0

  abbrev limit : ℕ
  limit = a + min (n - k - a) longest

  -- the sums of partitions at block j, k + 1 times
  abbrev added : ℕ → ℕ
  added j = sum_at sums per_partition_added j * (k + 1)

  abbrev saved : ℕ → ℕ
  saved j = sum_at sums per_partition_saved j * (k + 1)

  abbrev pub back : ℕ → ℕ
  back x = x + saved a - added a - 2 ^ 60

  few : k + 1 ≤ search_limit
  few = omega (arith, h.few)

  added_small : (j : ℕ) → j ≤ n → added j ≤ 2 ^ 57
  added_small j g = sum_times_small sums n h per_partition_added j (k + 1) (omega arith) g few

  saved_small : (j : ℕ) → j ≤ n → saved j ≤ 2 ^ 57
  saved_small j g = sum_times_small sums n h per_partition_saved j (k + 1) (omega arith) g few

  -- a tail is not large, and far from 2 ^ 62 where there is one
  some_small : (e x y : ℕ) → e < n → Best t (e + 1) k y → y < 2 ^ 62 → x + saved (e + 1) ≡ y + added (e + 1) → x ≤ 2 ^ 60 + 2 ^ 58
  some_small e x y g b s w = omega (arith, (b.near s).0, added_small (e + 1) (omega arith), h.few, w)

  tail_small : (e : ℕ) → e < n → TailAt e → get_or row e 0 ≤ 2 ^ 62
  tail_small e g (no_tail q f) = omega (arith, q)
  tail_small e g (some_tail y q b s w) = omega (arith, some_small e (get_or row e 0) y g b s w)

  -- the tails and the local prices of the ends that block a may have
  abbrev pub tails_from : List ℕ
  tails_from = take (limit - a) (drop a row)

  abbrev pub prices_from : List ℕ
  prices_from = take (n * n + a * n + limit - (n * n + a * n + a)) (drop (n * n + a * n + a) table)

  tails_long : length tails_from ≡ limit - a
  tails_long = length-take-le (limit - a) (drop a row) (omega (arith, length-drop a row, tails.room))

  tail_from : (d : ℕ) → d < limit - a → get_or tails_from d 0 ≡ get_or row (a + d) 0
  tail_from d g = rw (get_or-take (limit - a) (drop a row) d 0 g) (get_or-drop a row d 0)

  price_from : (d : ℕ) → d < limit - a → get_or prices_from d 0 ≡ get_or table (n * n + a * n + (a + d)) 0
  price_from d g =
      let x : d < n * n + a * n + limit - (n * n + a * n + a) = omega arith in
      let y : n * n + a * n + a + d ≡ n * n + a * n + (a + d) = omega arith in
      rw (get_or-take _ (drop (n * n + a * n + a) table) d 0 x, get_or-drop (n * n + a * n + a) table d 0) (ap (λ (v : ℕ). get_or table v 0) y)

  pub all_small : 2 * (n * n) ≤ length table → Small tails_from prices_from
  all_small room = record {
    even = long ∙ sym tails_long;
    few = omega (arith, h.few, tails_long);
    tail = λ d u. let g : d < limit - a = omega (arith, tails_long) in rw (tail_from d g) (tail_small (a + d) (omega arith) (tails.here (a + d) (omega arith)));
    price = λ d u. let g : d < limit - a = omega (arith, tails_long) in rw (price_from d g) (omega (arith, (prices a (a + d) ha (omega arith) (omega arith)).high));
  }
    where
      long : length prices_from ≡ limit - a
      long =
          let x : n * n + a * n + limit - (n * n + a * n + a) ≡ limit - a = omega arith in
          length-take-le _ (drop (n * n + a * n + a) table) (omega (arith, length-drop (n * n + a * n + a) table, local_place n a ha h.few)) ∙ x

  -- a tail and a local price are a candidate's number
  cand : (e y x : ℕ) → a ≤ e → e < limit → get_or fits e false ≡ true → Best t (e + 1) k y → y < 2 ^ 62 → x + saved (e + 1) ≡ y + added (e + 1)
      → (p : ℕ) → LocalPrice sums a e p → Cand t a k e y (back (x + p))
  cand e y x u v q b s w p f = record {
    start = u;
    inside = omega arith;
    okay = sym (ok_yes longest a e (λ i. get_or fits i false) (omega arith)) ∙ q;
    rest = b;
    some = s;
    is = number (added a) (added (e + 1)) (sum_over sums per_partition_added a e * (k + 1)) (saved a) (saved (e + 1)) (sum_over sums per_partition_saved a e * (k + 1)) y x p _ _
        (grows per_partition_added (omega arith)) (grows per_partition_saved (omega arith)) (added_small a (omega arith)) (saved_small (e + 1) (omega arith)) (b.near s).1
        (f.added (k + 1)) (f.saved (k + 1)) f.low w h.few;
    up = span_most sums n h a e u (omega arith) (k + 1) few;
    down = saved_most sums n h a e u (omega arith) (k + 1) few;
    blocks = h.few;
  }
    where
      grows : (r : ℕ) → r < sums_per_place → sum_at sums r (e + 1) * (k + 1) ≡ sum_at sums r a * (k + 1) + sum_over sums r a e * (k + 1)
      grows r g = product_grows (sum_at sums r a) (sum_at sums r (e + 1)) (k + 1) (rises sums n h.rising r a e g (omega arith) (omega arith))

      number : (m0 m1 dm l0 l1 dl y x p up down : ℕ) → m1 ≡ m0 + dm → l1 ≡ l0 + dl → m0 ≤ 2 ^ 57 → l1 ≤ 2 ^ 57 → 2 ^ 60 ≤ y + (n - (e + 1)) * 2 ^ 43
          → p + dm ≡ 2 ^ 60 + up → down ≡ dl → 2 ^ 60 ≤ p + 2 ^ 58 → x + l1 ≡ y + m1 → n ≤ search_limit → x + p + l0 - m0 - 2 ^ 60 + down ≡ y + up
      number m0 m1 dm l0 l1 dl y x p up down a b c d e f g i j k = omega arith

  module _ (m : ℕ) (o : LeastOf (offered_at tails_from prices_from) (length tails_from) m) where
    -- the least by ends
    offered : (d : ℕ) → d < limit - a → offered_at tails_from prices_from d ≡ joined_at (a + d)
    offered d g = ap₂ (λ (x y : ℕ). x + y) (tail_from d g) (price_from d g)

    least_low : (d : ℕ) → a ≤ d → d < limit → m ≤ joined_at d
    least_low d u g =
        let x : a + (d - a) ≡ d = omega arith in
        let y = offered (d - a) (omega arith) in
        let z : m ≤ joined_at (a + (d - a)) = omega (arith, y, o.low (d - a) (omega (arith, tails_long))) in
        rw x at z

    least-hit : m < 2 ^ 62 → (d : ℕ) × (a ≤ d) × (d < limit) × (m ≡ joined_at d)
    least-hit u =
        let r = o.hit u in
        let g : r.0 < limit - a = omega (arith, r.1, tails_long) in
        (a + r.0, omega arith, omega arith, r.2 ∙ offered r.0 g)

    low_at : (d : ℕ) (ds : List ℕ) → Layout t a (d ∷ ds) → length ds ≡ k → TailAt d → (m < 2 ^ 62) × Low t a (back m) (d ∷ ds)
    low_at d ds o p (no_tail q f) = absurd (f a ds o p)
    low_at d ds o p (some_tail y q b s w) =
        let g = reach sums fits longest n k a d ds o p in
        let u = prices a d ha o.0 o.1 in
        let c = cand_low t a k d y _ (cand d y (get_or row d 0) o.0 g q b s w _ u) ds o p in
        let x = least_low d o.0 g in
        let r = some_small d (get_or row d 0) y o.1 b s w in
        (omega (arith, r, u.high, x), (omega (arith, r, u.high, x, saved_small a (omega arith)), omega (arith, x, c.1)))

    low_all : (es : List ℕ) → Layout t a es → length es ≡ k + 1 → (m < 2 ^ 62) × Low t a (back m) es
    low_all [] o p = absurd (omega arith)
    low_all (d ∷ ds) o p = low_at d ds o (omega arith) (tails.here d o.1)

    hit_at : m < 2 ^ 62 → (d : ℕ) → a ≤ d → d < limit → m ≡ joined_at d → TailAt d → Hit t a (k + 1) (back m) × Near t a (back m)
    hit_at u d g v q (no_tail z f) = absurd (omega arith)
    hit_at u d g v q (some_tail y z b s w) =
        let c = cand d y (get_or row d 0) g v z b s w _ (prices a d ha g (omega arith)) in
        rw q (cand_hit t a k d y _ c, cand_near t a k d y _ c)

    hit_all : m < 2 ^ 62 → Hit t a (k + 1) (back m) × Near t a (back m)
    hit_all u = let r = least-hit u in hit_at u r.0 r.1 r.2 r.3 (tails.here r.0 (omega (arith, r.2)))

    pub best_some : m < 2 ^ 62 → Best t a (k + 1) (back m)
    best_some u = record { low = λ es o p. (low_all es o p).1; hit = λ v. (hit_all u).0; near = λ v. (hit_all u).1 }

    pub best_not : 2 ^ 62 ≤ m → Best t a (k + 1) (2 ^ 62)
    best_not u = record { low = λ es o p. absurd (omega (arith, (low_all es o p).0)); hit = λ v. absurd (omega arith); near = λ v. absurd (omega arith) }

    -- the number does not go below 0
    pub back_fits : m < 2 ^ 62 → added a + 2 ^ 60 ≤ m + saved a
    back_fits u = let r = least-hit u in go r.0 r.1 r.2 r.3 (tails.here r.0 (omega (arith, r.2)))
      where
        go : (d : ℕ) → a ≤ d → d < limit → m ≡ joined_at d → TailAt d → added a + 2 ^ 60 ≤ m + saved a
        go d g v q (no_tail z f) = absurd (omega arith)
        go d g v q (some_tail y z b s w) =
            omega (arith, (b.near s).1, (prices a d ha g (omega arith)).low, added_small a (omega arith), saved_small (d + 1) (omega arith), h.few, w)
