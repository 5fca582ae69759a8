-- What the table chose is the least layout. Assumes nothing.
use mathlib.Core.Path.{◌≡◌, refl, sym, ap, ap₂, ◌∙◌, subst}
use mathlib.Core.Logic.{◌⊎◌, inl, inr}
use mathlib.Core.List.{List, [], ◌∷◌, ◌++◌}
use Prim.Native.Nat.{ℕ, ◌+◌, ◌^◌, ◌≤◌, ◌<◌, min}
use native.Mathlib.Omega.{arith}
use native.Mathlib.Decide.{dec_lt}
use lib.Dec.{T}
use lib.ListN.{length, take, drop, take-append-drop}
use lib.IntN.{ℤ, pos, sub_ℕ}
use Rattle.model.specs.declared.Planned.{Planned}
use Rattle.model.specs.Plan.{ends_before}
use Rattle.model.proofs.Integers.{is_sub, eq_is}
use Rattle.model.proofs.Order.{decide_intro}
use Rattle.layout_search.specs.Sums.{span}
use Rattle.layout_search.specs.Task.{Task, Layout, adds, takes, Allowed, Ahead, Least}
use Rattle.layout_search.specs.Table.{Best, Chosen, val_of, Rows, Lowest, Written}
use Rattle.layout_search.specs.Answer.{answer, Answered, nothing, tight, found}
use Rattle.layout_search.proofs.BestLaws.{layout_count}
use Rattle.layout_search.proofs.FirstLaws.{Earliest, chosen_layout, chosen_number, chosen_earliest}

-- the order among layouts in as many partitions

abbrev InOrder : Task → ℕ → List ℕ → List ℕ → Type 0
InOrder t a es ds = Layout t a ds → Layout t a es → length ds ≡ length es → adds t a es + takes t a ds ≡ adds t a ds + takes t a es → T (ends_before es ds)

-- of equal costs the earliest layout comes first
earliest_first : (t : Task) (a : ℕ) (es ds : List ℕ) → Earliest t a es → InOrder t a es ds
earliest_first t a [] ds x l m p q = tt
earliest_first t a (e ∷ es) [] x l m p q = absurd (omega (arith, p))
earliest_first t a (e ∷ es) (d ∷ ds) x l m p q = decide_intro e d _ (go (earliest_first t (e + 1) es ds x.1) (dec_lt e d) (dec_lt d e))
  where
    same : length ds ≡ length es
    same = omega (arith, p)

    tail : e ≡ d → InOrder t (e + 1) es ds → T (ends_before es ds)
    tail h ih =
        let u : span t.up a d (length ds + 1) ≡ span t.up a e (length es + 1) = ap₂ (λ (v w : ℕ). span t.up a v (w + 1)) (sym h) same in
        let w : span t.down a d (length ds + 1) ≡ span t.down a e (length es + 1) = ap₂ (λ (v w : ℕ). span t.down a v (w + 1)) (sym h) same in
        let y : adds t (d + 1) ds ≡ adds t (e + 1) ds = ap (λ (v : ℕ). adds t (v + 1) ds) (sym h) in
        let z : takes t (d + 1) ds ≡ takes t (e + 1) ds = ap (λ (v : ℕ). takes t (v + 1) ds) (sym h) in
        ih (subst (λ (v : ℕ). Layout t (v + 1) ds) (sym h) l.3) m.3 same (omega (arith, u, w, y, z, q))

    go : InOrder t (e + 1) es ds → Dec (e < d) → Dec (d < e) → (e < d) ⊎ ((e ≡ d) × T (ends_before es ds))
    go ih (yes h) k = inl h
    go ih (no h) (yes k) = let g = x.0 d ds k l same in absurd (omega (arith, q))
    go ih (no h) (no k) = let r : e ≡ d = omega arith in inr (r, tail r ih)

-- the table's numbers for up to `top` partitions, and b: the fewest partitions whose number is least
pub record Settled (t : Task) (most top : ℕ) (val : ℕ → ℕ → ℕ) (b : ℕ) : Type 0 where
  pub rows : (j : ℕ) → j ≤ top → Best t 0 j (val j 0)
  pub fits : top ≤ most
  pub whole : (j : ℕ) → j ≤ most → j ≤ t.n → j ≤ top
  pub inside : b ≤ top
  pub low : (j : ℕ) → j ≤ top → val b 0 ≤ val j 0
  pub early : (j : ℕ) → j < b → val b 0 < val j 0

module _ (t : Task) (most top : ℕ) (val : ℕ → ℕ → ℕ) (b : ℕ) (w : Settled t most top val b) where
  in_top : (ds : List ℕ) → Allowed t most ds → length ds ≤ top
  in_top ds l = w.whole (length ds) l.1 (omega (arith, layout_count t 0 ds l.0))

  low_number : (ds : List ℕ) → Allowed t most ds → (val (length ds) 0 < 2 ^ 62) × (val (length ds) 0 + takes t 0 ds ≤ 2 ^ 60 + adds t 0 ds)
  low_number ds l = (w.rows (length ds) (in_top ds l)).low ds l.0 refl

  chosen_ahead : (es : List ℕ) → length es ≡ b → Chosen t val 0 es → (ds : List ℕ) → Allowed t most ds → Ahead t es ds
  chosen_ahead es p c ds l = go (dec_lt _ _) (dec_lt b (length ds)) (dec_lt (length ds) b)
    where
      x : val b 0 + takes t 0 es ≡ 2 ^ 60 + adds t 0 es
      x = subst (λ (v : ℕ). val v 0 + takes t 0 es ≡ 2 ^ 60 + adds t 0 es) p (chosen_number t val 0 es c)

      y : val (length ds) 0 + takes t 0 ds ≤ 2 ^ 60 + adds t 0 ds
      y = (low_number ds l).1

      z : val b 0 ≤ val (length ds) 0
      z = w.low (length ds) (in_top ds l)

      go : Dec (adds t 0 es + takes t 0 ds < adds t 0 ds + takes t 0 es) → Dec (b < length ds) → Dec (length ds < b) → Ahead t es ds
      go (yes h) g k = inl h
      go (no h) (yes g) k = inr (omega (arith, x, y, z), inl (omega arith))
      go (no h) (no g) (yes k) = let v = w.early (length ds) k in absurd (omega (arith, x, y))
      go (no h) (no g) (no k) =
          let e : length ds ≡ length es = omega arith in
          let f : adds t 0 es + takes t 0 ds ≡ adds t 0 ds + takes t 0 es = omega (arith, x, y, z) in
          inr (f, inr (sym e, earliest_first t 0 es ds (chosen_earliest t val 0 es c) l.0 (chosen_layout t val 0 es c) e f))

  chosen_least : (es : List ℕ) → length es ≡ b → Chosen t val 0 es → Least t most es
  chosen_least es p c = record { allowed = (chosen_layout t val 0 es c, omega (arith, w.inside, w.fits)); ahead = chosen_ahead es p c }

  chosen_cost : (es : List ℕ) → length es ≡ b → Chosen t val 0 es → sub_ℕ (val b 0) (2 ^ 60) ≡ sub_ℕ (adds t 0 es) (takes t 0 es)
  chosen_cost es p c =
      let x : val b 0 + takes t 0 es ≡ 2 ^ 60 + adds t 0 es = subst (λ (v : ℕ). val v 0 + takes t 0 es ≡ 2 ^ 60 + adds t 0 es) p (chosen_number t val 0 es c) in
      eq_is _ _ _ _ _ _ (is_sub (val b 0) (2 ^ 60)) (is_sub (adds t 0 es) (takes t 0 es)) (omega arith)

  -- nothing is allowed
  none_allowed : 2 ^ 62 ≤ val b 0 → (es : List ℕ) → Allowed t most es → ⊥
  none_allowed h es l = omega (arith, (low_number es l).0, w.low (length es) (in_top es l))

  module _ (h : val b 0 < 2 ^ 62) where
    hit : (es : List ℕ) × Layout t 0 es × (length es ≡ b) × (val b 0 + takes t 0 es ≡ 2 ^ 60 + adds t 0 es)
    hit = (w.rows b w.inside).hit h

    -- something is
    one_allowed : (es : List ℕ) × Allowed t most es
    one_allowed = (hit.0, (hit.1, omega (arith, hit.2, w.inside, w.fits)))

    -- how many partitions the least layout has, without its ends
    least-count : (z : List ℕ) → Least t most z → length z ≡ b
    unfolding hit one_allowed
    least-count z l = cases (l.ahead hit.0 one_allowed.1) (dec_lt (length z) b)
      where
        y : val (length z) 0 + takes t 0 z ≤ 2 ^ 60 + adds t 0 z
        y = (low_number z l.allowed).1

        low : val b 0 ≤ val (length z) 0
        low = w.low (length z) (in_top z l.allowed)

        cases : Ahead t z hit.0 → Dec (length z < b) → length z ≡ b
        cases (inl u) d = absurd (omega (arith, hit.3, y, low))
        cases (inr u) (yes d) = absurd (omega (arith, hit.3, y, w.early (length z) d, u.0))
        cases (inr (u, inl v)) (no d) = omega (arith, hit.2)
        cases (inr (u, inr v)) (no d) = omega (arith, hit.2, v.0)

-- the numbers of a table
pub settled : (t : Task) (most top b : ℕ) (table : List ℕ) → top ≡ min most t.n → Rows t top table
    → Lowest (λ k. val_of t.n table k 0) (top + 1) b (val_of t.n table b 0) → Settled t most top (val_of t.n table) b
settled t most top b table h r l = record {
  rows = λ j g. r j g 0 (omega arith);
  fits = omega arith;
  whole = λ j g k. omega arith;
  inside = omega (arith, l.inside);
  low = λ j g. l.low j (omega arith);
  early = l.early;
}

-- what the search answers
module _ (t : Task) (most top b : ℕ) (table old : List ℕ) (w : Settled t most top (val_of t.n table) b) (r : Planned) where
  pub answered_nothing : 2 ^ 62 ≤ val_of t.n table b 0 → r ≡ answer 11 0 (pos 0) → Answered t most old old r
  answered_nothing h e = nothing (none_allowed t most top (val_of t.n table) b w h) e refl

  pub answered_tight : val_of t.n table b 0 < 2 ^ 62 → length old < b → r ≡ answer 15 0 (pos 0) → Answered t most old old r
  answered_tight h g e =
      let o = one_allowed t most top (val_of t.n table) b w h in
      tight o.0 o.1 (λ ds l. omega (arith, least-count t most top (val_of t.n table) b w h ds l)) e refl

  pub answered_found : (out : List ℕ) (z : ℤ) → b ≤ length old → Written t table b old out → z ≡ sub_ℕ (val_of t.n table b 0) (2 ^ 60) → r ≡ answer 0 b z → Answered t most old out r
  answered_found out z h v e f =
      let x : out ≡ take b out ++ drop b old = sym (take-append-drop b out) ∙ ap (λ (l : List ℕ). take b out ++ l) v.kept in
      let y = chosen_cost t most top (val_of t.n table) b w (take b out) v.count v.chosen in
      let n = v.count in
      found (take b out) (chosen_least t most top (val_of t.n table) b w (take b out) n v.chosen) (omega arith)
      (f ∙ ap₂ {C = Planned} (λ (k : ℕ) (c : ℤ). answer 0 k c) (sym n) (e ∙ y)) (x ∙ ap (λ (k : ℕ). take b out ++ drop k old) (sym n))
