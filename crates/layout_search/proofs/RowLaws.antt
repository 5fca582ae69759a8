-- The table row by row, the least of its first column, and the ends read off it. Assumes nothing.
use mathlib.Core.Path.{◌≡◌, refl, sym, ap, ◌∙◌, subst}
use mathlib.Core.Bool.{Bool, true, false, cond}
use mathlib.Core.List.{List, [], ◌∷◌, ◌++◌, append_assoc, append-nil}
use Prim.Native.Nat.{ℕ, ◌+◌, ◌-◌, ◌*◌, ◌^◌, ◌≤◌, ◌<◌}
use native.Mathlib.Omega.{arith}
use native.Mathlib.Nat.{mul-le-mul, add-mul}
use native.Mathlib.Numerals.{add-one}
use native.Mathlib.Decide.{ℕ_discrete}
use borrow.Author.Tests.{eq-eqb, ne_eqb}
use lib.Dec.{T, eqb, eqb_refl}
use lib.ListN.{length, get_or, set, take, drop, length-set}
use lib.Seq.{get_or-set_same, get_or-set_other, take-suc-set, drop-set-lt, drop-drop, length-take-le}
use Rattle.layout_search.specs.Task.{Task, Layout, adds, takes}
use Rattle.layout_search.specs.Table.{Best, First, Chose, Chosen, val_of, Row, Rows, Kept, Lowest, Written}
use Rattle.layout_search.proofs.BestLaws.{best_end, best_none, best_past}
use Rattle.layout_search.proofs.FirstLaws.{chose_first}

-- one place more of a list that a loop fills, each with what holds of its place
pub stored_each : {A : Type 0} (P : ℕ → A → Type 0) (d v : A) (i : ℕ) (l : List A) → i < length l → P i v → ((x : ℕ) → x < i → P x (get_or l x d))
    → (x : ℕ) → x < i + 1 → P x (get_or (set l i v) x d)
stored_each P d v i l h e b x k = go (ℕ_discrete x i)
  where
    go : Dec (x ≡ i) → P x (get_or (set l i v) x d)
    go (yes q) = rw (q, get_or-set_same l i v d h) e
    go (no q) = rw (get_or-set_other l i x v d q) (b x (omega arith))

pub stored_more : {A : Type 0} (f : ℕ → A) (d v : A) (i : ℕ) (l : List A) → i < length l → v ≡ f i → ((x : ℕ) → x < i → get_or l x d ≡ f x)
    → (x : ℕ) → x < i + 1 → get_or (set l i v) x d ≡ f x
stored_more f = stored_each (λ x y. y ≡ f x)

neq : (x y : ℕ) → eqb x y ≡ false → x ≡ y → ⊥
neq x y e h = subst T (ap (eqb x) h ∙ e) (eqb_refl x)

module _ (n : ℕ) (table : List ℕ) (k a : ℕ) where
  pub val_whole : a ≡ n → k ≡ 0 → 2 ^ 60 ≡ val_of n table k a
  unfolding val_of
  val_whole h g = rw (eq-eqb a n h, eq-eqb k 0 g)

  pub val_past : a ≡ n → 0 < k → 2 ^ 62 ≡ val_of n table k a
  unfolding val_of
  val_past h g = rw (eq-eqb a n h, ne_eqb k 0 (λ e. omega arith))

  pub val_none : (a ≡ n → ⊥) → k ≡ 0 → 2 ^ 62 ≡ val_of n table k a
  unfolding val_of
  val_none h g = rw (ne_eqb a n h, eq-eqb k 0 g)

  pub val_row : (a ≡ n → ⊥) → 0 < k → get_or table ((k - 1) * n + a) 0 ≡ val_of n table k a
  unfolding val_of
  val_row h g = rw (ne_eqb a n h, ne_eqb k 0 (λ e. omega arith))

-- a row's places stand before the next row's
pub row-place : (n k a : ℕ) → a < n → k * n + a < (k + 1) * n
row-place n k a h = omega (arith, add-mul k 1 n)

pub rows_below : (n j k : ℕ) → j ≤ k → j * n ≤ k * n
rows_below n j k h = mul-le-mul {n₂ = k} {m₂ = n} h (omega arith)

pub place_below : (n j k a : ℕ) → 0 < j → j ≤ k → a < n → (j - 1) * n + a < k * n
place_below n j k a p h g =
    let x : j - 1 + 1 ≡ j = omega arith in
    let y : (j - 1 + 1) * n ≡ j * n = ap (λ (v : ℕ). v * n) x in
    omega (arith, row-place n (j - 1) a g, rows_below n j k h)

row_zero : (t : Task) (table : List ℕ) → Row t 0 table
row_zero t table a h = go (ℕ_discrete a t.n)
  where
    go : Dec (a ≡ t.n) → Best t a 0 (val_of t.n table 0 a)
    go (yes e) = subst (λ (v : ℕ). Best t a 0 v) (val_whole t.n table 0 a e refl) (subst (λ (v : ℕ). Best t v 0 (2 ^ 60)) (sym e) (best_end t))
    go (no e) = subst (λ (v : ℕ). Best t a 0 v) (val_none t.n table 0 a e refl) (best_none t a (omega arith))

pub rows-zero : (t : Task) (table : List ℕ) → Rows t 0 table
rows-zero t table j h = let x : 0 ≡ j = omega arith in subst (λ (v : ℕ). Row t v table) x (row_zero t table)

val_kept : (n k j a : ℕ) (old new : List ℕ) → Kept n k old new → j ≤ k → a ≤ n → val_of n new j a ≡ val_of n old j a
unfolding val_of
val_kept n k j a old new r h g = go (eqb a n) (eqb j 0) refl refl
  where
    go : (b c : Bool) → eqb a n ≡ b → eqb j 0 ≡ c
        → cond b (cond c (2 ^ 60) (2 ^ 62)) (cond c (2 ^ 62) (get_or new ((j - 1) * n + a) 0)) ≡ cond b (cond c (2 ^ 60) (2 ^ 62)) (cond c (2 ^ 62) (get_or old ((j - 1) * n + a) 0))
    go true true u v = refl
    go true false u v = refl
    go false true u v = refl
    go false false u v =
        let x : (j ≡ 0) → ⊥ = neq j 0 v in
        let y : (a ≡ n) → ⊥ = neq a n u in
        r.same ((j - 1) * n + a) (place_below n j k a (omega arith) h (omega arith))

pub row_kept : (t : Task) (k j : ℕ) (old new : List ℕ) → Kept t.n k old new → j ≤ k → Row t j old → Row t j new
row_kept t k j old new r h s a g = rw (val_kept t.n k j a old new r h g) (s a g)

-- row k + 1 up to before a, by row k
pub record Filling (t : Task) (k a : ℕ) (old new : List ℕ) : Type 0 where
  pub count : a ≤ t.n
  pub kept : Kept t.n k old new
  pub here : (j : ℕ) → j < a → Best t j (k + 1) (get_or new (k * t.n + j) 0)

pub filling_start : (t : Task) (k : ℕ) (old : List ℕ) → Filling t k 0 old old
filling_start t k old = record { count = omega arith; kept = record { long = refl; same = λ i h. refl; past = λ i h. refl }; here = λ j h. absurd (omega arith) }

module _ (t : Task) (k a v : ℕ) (old new : List ℕ) (f : Filling t k a old new) (h : a < t.n) (few : k + 1 ≤ t.n) (room : t.n * t.n ≤ length old)
    (b : Best t a (k + 1) v) where
  below : k * t.n + a < t.n * t.n
  below = omega (arith, row-place t.n k a h, rows_below t.n (k + 1) t.n few)

  inside : k * t.n + a < length new
  inside = omega (arith, below, f.kept.long)

  other : (i : ℕ) → (i ≡ k * t.n + a → ⊥) → get_or (set new (k * t.n + a) v) i 0 ≡ get_or new i 0
  other i g = get_or-set_other new (k * t.n + a) i v 0 g

  here_more : (j : ℕ) → j < a + 1 → Best t j (k + 1) (get_or (set new (k * t.n + a) v) (k * t.n + j) 0)
  here_more j g = go (ℕ_discrete j a)
    where
      go : Dec (j ≡ a) → Best t j (k + 1) (get_or (set new (k * t.n + a) v) (k * t.n + j) 0)
      go (yes e) = rw (e, get_or-set_same new (k * t.n + a) v 0 inside) b
      go (no e) = rw (get_or-set_other new (k * t.n + a) (k * t.n + j) v 0 (λ q. e (omega arith))) (f.here j (omega arith))

  pub filling_more : Filling t k (a + 1) old (set new (k * t.n + a) v)
  filling_more = record {
    count = omega arith;
    kept = record {
      long = length-set new _ v ∙ f.kept.long;
      same = λ i g. other i (λ q. absurd (omega arith)) ∙ f.kept.same i g;
      past = λ i g. other i (λ q. absurd (omega (arith, below))) ∙ f.kept.past i g;
    };
    here = here_more;
  }

pub filling_done : (t : Task) (k a : ℕ) (old new : List ℕ) → Filling t k a old new → t.n ≤ a → Row t (k + 1) new
filling_done t k a old new f g j h = go (ℕ_discrete j t.n)
  where
    go : Dec (j ≡ t.n) → Best t j (k + 1) (val_of t.n new (k + 1) j)
    go (yes e) = subst (λ (v : ℕ). Best t j (k + 1) v) (val_past t.n new (k + 1) j e (omega arith)) (subst (λ (v : ℕ). Best t v (k + 1) (2 ^ 62)) (sym e) (best_past t (k + 1) (omega arith)))
    go (no e) =
        let x : k + 1 - 1 ≡ k = omega arith in
        let y : get_or new (k * t.n + j) 0 ≡ get_or new ((k + 1 - 1) * t.n + j) 0 = ap (λ (v : ℕ). get_or new (v * t.n + j) 0) (sym x) in
        subst (λ (v : ℕ). Best t j (k + 1) v) (y ∙ val_row t.n new (k + 1) j e (omega arith)) (f.here j (omega arith))

pub rows_more : (t : Task) (k : ℕ) (old new : List ℕ) → Rows t k old → Row t (k + 1) new → Kept t.n k old new → Rows t (k + 1) new
rows_more t k old new r s w j h = go (ℕ_discrete j (k + 1))
  where
    go : Dec (j ≡ k + 1) → Row t j new
    go (yes e) = rw e s
    go (no e) = row_kept t k j old new w (omega arith) (r j (omega arith))

-- the least of the first column, fewest partitions first

pub lowest_start : (val : ℕ → ℕ) (m : ℕ) → m ≡ val 0 → Lowest val 0 0 m
lowest_start val m h = record { is = sym h; inside = omega arith; low = λ i g. absurd (omega arith); early = λ i g. absurd (omega arith) }

module _ (val : ℕ → ℕ) (j b m x : ℕ) (l : Lowest val j b m) (h : x ≡ val j) where
  low_more : (y : ℕ) → y ≤ m → y ≤ x → (i : ℕ) → i < j + 1 → y ≤ val i
  low_more y p q i g = go (ℕ_discrete j i)
    where
      go : Dec (j ≡ i) → y ≤ val i
      go (yes e) = subst (λ (v : ℕ). y ≤ val v) e (omega (arith, h))
      go (no e) = omega (arith, l.low i (omega arith))

  pub lowest_keep : m ≤ x → Lowest val (j + 1) b m
  lowest_keep g = record { is = l.is; inside = omega (arith, l.inside); low = low_more m (omega arith) g; early = l.early }

  pub lowest_take : x < m → Lowest val (j + 1) j x
  lowest_take g = record { is = sym h; inside = omega arith; low = low_more x (omega arith) (omega arith); early = λ i u. omega (arith, l.low i u) }

-- the ends read off the table

-- i ends of k are written, and the rest is for the blocks a .. n - 1
pub record Walked (t : Task) (table : List ℕ) (k i a : ℕ) (old out : List ℕ) : Type 0 where
  pub count : i ≤ k
  pub inside : a ≤ t.n
  pub long : length out ≡ length old
  pub kept : drop i out ≡ drop i old
  pub some : val_of t.n table (k - i) a < 2 ^ 62
  pub rest : (es : List ℕ) → length es ≡ k - i → Chosen t (val_of t.n table) a es → Chosen t (val_of t.n table) 0 (take i out ++ es)

pub walked_start : (t : Task) (table : List ℕ) (k : ℕ) (old : List ℕ) → val_of t.n table k 0 < 2 ^ 62 → Walked t table k 0 0 old old
walked_start t table k old h =
    let x : k - 0 ≡ k = omega arith in
    record { count = omega arith; inside = omega arith; long = refl; kept = refl; some = rw x h; rest = λ es p c. c }

drop_next : (i : ℕ) (x y : List ℕ) → drop i x ≡ drop i y → drop (i + 1) x ≡ drop (i + 1) y
drop_next i x y e = sym (drop-drop 1 i x) ∙ ap (drop 1) e ∙ drop-drop 1 i y

-- the next end is the first end of the table's layout
pub walked_first : (t : Task) (table : List ℕ) (k i a m e : ℕ) (old out : List ℕ) → Walked t table k i a old out → i < k → Rows t k table → Chose t (val_of t.n table) a (k - i - 1) m e
    → First t a (k - i - 1) e (val_of t.n table (k - i - 1) (e + 1)) (val_of t.n table (k - i - 1 + 1) a)
walked_first t table k i a m e old out w h r c =
    let x : k - i - 1 + 1 ≡ k - i = omega arith in
    chose_first t (val_of t.n table) a (k - i - 1) m e _ c (r (k - i - 1 + 1) (omega arith) a w.inside) (rw x w.some)

module _ (t : Task) (table : List ℕ) (k i a e : ℕ) (old out : List ℕ) (w : Walked t table k i a old out) (h : i < k) (room : k ≤ length old)
    (f : First t a (k - i - 1) e (val_of t.n table (k - i - 1) (e + 1)) (val_of t.n table (k - i - 1 + 1) a)) where
  pub walked_more : Walked t table k (i + 1) (e + 1) old (set out i e)
  walked_more =
      let x : k - (i + 1) ≡ k - i - 1 = omega arith in
      record {
        count = omega arith;
        inside = omega (arith, f.cand.inside);
        long = length-set out i e ∙ w.long;
        kept = drop-set-lt (i + 1) out i e (omega arith) ∙ drop_next i out old w.kept;
        some = rw x f.cand.some;
        rest = λ es p c.
            let q : length es ≡ k - i - 1 = omega arith in
            let g : First t a (length es) e (val_of t.n table (length es) (e + 1)) (val_of t.n table (length es + 1) a) = rw q f in
            rw (add-one i, take-suc-set out i e (omega (arith, w.long)), append_assoc) (w.rest (e ∷ es) (omega arith) (g, c));
      }

last : (t : Task) (a m : ℕ) → Best t a 0 m → m < 2 ^ 62 → (a ≡ t.n) × (m ≡ 2 ^ 60)
last t a m b h = go (b.hit h).0 (b.hit h).1 (b.hit h).2 (b.hit h).3
  where
    go : (es : List ℕ) → Layout t a es → length es ≡ 0 → m + takes t a es ≡ 2 ^ 60 + adds t a es → (a ≡ t.n) × (m ≡ 2 ^ 60)
    go [] l p q = (l, omega arith)
    go (e ∷ es) l p q = absurd (omega arith)

pub walked_done : (t : Task) (table : List ℕ) (k i a : ℕ) (old out : List ℕ) → Walked t table k i a old out → k ≤ i → k ≤ length old → Written t table k old out
walked_done t table k i a old out w h room =
    let x : i ≡ k = omega (arith, w.count) in
    let z : k - i ≡ 0 = omega arith in
    let v : val_of t.n table 0 a < 2 ^ 62 = rw z at w.some in
    let c = w.rest [] (sym z) (last t a (val_of t.n table 0 a) (row_zero t table a w.inside) v) in
    record { count = length-take-le k out (omega (arith, w.long)); chosen = rw (x, append-nil) at c; kept = rw x at w.kept }
