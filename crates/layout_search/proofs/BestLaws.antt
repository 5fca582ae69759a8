-- The numbers of the table: how the least of some layouts comes about, end by end. Assumes nothing.
use mathlib.Core.Path.{◌≡◌, refl, sym, ap, ◌∙◌, subst}
use mathlib.Core.Bool.{true, false}
use mathlib.Core.List.{List, [], ◌∷◌}
use Prim.Native.Nat.{ℕ, ◌+◌, ◌^◌, ◌≤◌, ◌<◌}
use native.Mathlib.Omega.{arith}
use native.Mathlib.Decide.{dec_lt}
use lib.Dec.{T}
use lib.ListN.{length}
use Rattle.layout_search.specs.Sums.{span}
use Rattle.layout_search.specs.Task.{Task, Layout}
use Rattle.layout_search.specs.Table.{Low, Hit, Near, Best, Scan, Cand, Offer, nothing, offered}

pub layout_count : (t : Task) (a : ℕ) (es : List ℕ) → Layout t a es → length es + a ≤ t.n
layout_count t a [] l = omega (arith, l)
layout_count t a (e ∷ es) l = let r = layout_count t (e + 1) es l.3 in omega (arith, l.0)

pub scan_start : (t : Task) (a k : ℕ) → Scan t a k a (2 ^ 62)
scan_start t a k = record {
  low = λ d es h l p. absurd (omega (arith, l.0));
  hit = λ h. absurd (omega arith);
  near = λ h. absurd (omega arith);
}

-- one more end
module _ (t : Task) (a k e m : ℕ) (s : Scan t a k e m) where
  -- given what is known of layouts that end there
  more : (m' : ℕ) → (m < 2 ^ 62 → m' ≤ m) → ((es : List ℕ) → Layout t a (e ∷ es) → length es ≡ k → Low t a m' (e ∷ es))
      → (d : ℕ) (es : List ℕ) → d < e + 1 → Layout t a (d ∷ es) → length es ≡ k → Low t a m' (d ∷ es)
  more m' le at d es h l p = go (dec_lt d e)
    where
      go : Dec (d < e) → Low t a m' (d ∷ es)
      go (yes q) = let r = s.low d es q l p in let x = le r.0 in (omega arith, omega arith)
      go (no q) =
          let x : e ≡ d = omega arith in
          subst (λ (v : ℕ). (es : List ℕ) → Layout t a (v ∷ es) → length es ≡ k → Low t a m' (v ∷ es)) x at es l p

  -- nothing ends there
  scan_without : ((es : List ℕ) → Layout t a (e ∷ es) → length es ≡ k → ⊥) → Scan t a k (e + 1) m
  scan_without f = record { low = more m (λ g. omega arith) (λ es l p. absurd (f es l p)); hit = s.hit; near = s.near }

  scan_drop : (x : ℕ) → ((es : List ℕ) → Layout t a (e ∷ es) → length es ≡ k → ⊥) → 2 ^ 62 ≤ x → x < m → Scan t a k (e + 1) x
  scan_drop x f h g = record { low = more x (λ u. omega arith) (λ es l p. absurd (f es l p)); hit = λ u. absurd (omega arith); near = λ u. absurd (omega arith) }

module _ (t : Task) (a k e y x : ℕ) (c : Cand t a k e y x) where
  pub cand_low : (es : List ℕ) → Layout t a (e ∷ es) → length es ≡ k → Low t a x (e ∷ es)
  cand_low es l p =
      let r = c.rest.low es l.3 p in
      let g = c.rest.near c.some in
      let u : span t.up a e (length es + 1) ≡ span t.up a e (k + 1) = ap (λ (v : ℕ). span t.up a e (v + 1)) p in
      let d : span t.down a e (length es + 1) ≡ span t.down a e (k + 1) = ap (λ (v : ℕ). span t.down a e (v + 1)) p in
      (omega arith, omega arith)

  pub cand_hit : Hit t a (k + 1) x
  cand_hit =
      let r = c.rest.hit c.some in
      let u : span t.up a e (length r.0 + 1) ≡ span t.up a e (k + 1) = ap (λ (v : ℕ). span t.up a e (v + 1)) r.2 in
      let d : span t.down a e (length r.0 + 1) ≡ span t.down a e (k + 1) = ap (λ (v : ℕ). span t.down a e (v + 1)) r.2 in
      (e ∷ r.0, (c.start, c.inside, c.okay, r.1), omega arith, omega arith)

  pub cand_near : Near t a x
  cand_near = let g = c.rest.near c.some in (omega arith, omega arith)

  scan_keep : (m : ℕ) → Scan t a k e m → m ≤ x → Scan t a k (e + 1) m
  scan_keep m s h = record {
    low = more t a k e m s m (λ g. omega arith) (λ es l p. let r = cand_low es l p in (omega arith, omega arith));
    hit = s.hit;
    near = s.near;
  }

  scan_take : (m : ℕ) → Scan t a k e m → x < m → Scan t a k (e + 1) x
  scan_take m s h = record { low = more t a k e m s x (λ g. omega arith) cand_low; hit = λ g. cand_hit; near = λ g. cand_near }

done_low : (t : Task) (a k m : ℕ) → Scan t a k t.n m → (es : List ℕ) → Layout t a es → length es ≡ k + 1 → Low t a m es
done_low t a k m s [] l p = absurd (omega arith)
done_low t a k m s (e ∷ es) l p = s.low e es l.1 l (omega arith)

pub scan_done : (t : Task) (a k m : ℕ) → Scan t a k t.n m → Best t a (k + 1) m
scan_done t a k m s = record { low = done_low t a k m s; hit = s.hit; near = s.near }

-- the row of no partition

last_low : (t : Task) (es : List ℕ) → Layout t t.n es → length es ≡ 0 → Low t t.n (2 ^ 60) es
last_low t [] l p = (omega arith, omega arith)
last_low t (e ∷ es) l p = absurd (omega arith)

pub best_end : (t : Task) → Best t t.n 0 (2 ^ 60)
best_end t = record { low = last_low t; hit = λ h. ([], refl, refl, refl); near = λ h. (omega arith, omega arith) }

none_low : (t : Task) (a : ℕ) → a < t.n → (es : List ℕ) → Layout t a es → length es ≡ 0 → Low t a (2 ^ 62) es
none_low t a h [] l p = absurd (omega (arith, l))
none_low t a h (e ∷ es) l p = absurd (omega arith)

pub best_none : (t : Task) (a : ℕ) → a < t.n → Best t a 0 (2 ^ 62)
best_none t a h = record { low = none_low t a h; hit = λ g. absurd (omega arith); near = λ g. absurd (omega arith) }

-- no blocks are laid out in some partitions
past_low : (t : Task) (k : ℕ) → 0 < k → (es : List ℕ) → Layout t t.n es → length es ≡ k → Low t t.n (2 ^ 62) es
past_low t k h [] l p = absurd (omega (arith, p))
past_low t k h (e ∷ es) l p = absurd (omega (arith, l.0, l.1))

pub best_past : (t : Task) (k : ℕ) → 0 < k → Best t t.n k (2 ^ 62)
best_past t k h = record { low = past_low t k h; hit = λ g. absurd (omega arith); near = λ g. absurd (omega arith) }

-- one end tried

pub no_true : {A : Type 0} → true ≡ false → A
no_true e = absurd (subst T e tt)

pub offer_not_ok : (t : Task) (a k e y x : ℕ) → t.ok a e ≡ false → x ≡ 2 ^ 62 → Offer t a k e y x
offer_not_ok t a k e y x h g = nothing g (λ es l p. no_true (sym l.2 ∙ h))

pub offer_no_rest : (t : Task) (a k e y x : ℕ) → Best t (e + 1) k y → 2 ^ 62 ≤ y → x ≡ 2 ^ 62 → Offer t a k e y x
offer_no_rest t a k e y x b h g = nothing g (λ es l p. omega (arith, (b.low es l.3 p).0))

pub scan_keep_offer : (t : Task) (a k e m y x : ℕ) → Scan t a k e m → Offer t a k e y x → m ≤ x → Scan t a k (e + 1) m
scan_keep_offer t a k e m y x s (nothing g f) h = scan_without t a k e m s f
scan_keep_offer t a k e m y x s (offered c) h = scan_keep t a k e y x c m s h

pub scan_take_offer : (t : Task) (a k e m y x : ℕ) → Scan t a k e m → Offer t a k e y x → x < m → Scan t a k (e + 1) x
scan_take_offer t a k e m y x s (nothing g f) h = scan_drop t a k e m s x f (omega arith) h
scan_take_offer t a k e m y x s (offered c) h = scan_take t a k e y x c m s h
