-- The least of some numbers, one by one and four at a time. Assumes nothing.
use Prim.Native.Nat.{ℕ, ◌+◌, ◌*◌, ◌^◌, ◌≤◌, ◌<◌, min}
use mathlib.Core.Path.{◌≡◌, refl, sym, ap, ◌∙◌}
use native.Mathlib.Omega.{arith}
use native.Mathlib.Decide.{dec_le, ℕ_discrete}
use Rattle.layout_search.specs.Table.{LeastOf}

pub least_start : (f : ℕ → ℕ) → LeastOf f 0 (2 ^ 62)
least_start f = record { top = omega arith; low = λ d u. absurd (omega arith); hit = λ h. absurd (omega arith) }

pub least_more : (f : ℕ → ℕ) (e m x r : ℕ) → LeastOf f e m → x ≡ f e → r ≡ min m x → LeastOf f (e + 1) r
least_more f e m x r l p q = record { top = omega (arith, l.top); low = λ d u. low d u (ℕ_discrete d e); hit = λ h. hit h (dec_le m x) }
  where
    low : (d : ℕ) → d < e + 1 → Dec (d ≡ e) → r ≤ f d
    low d u (yes w) = rw w (omega (arith, p))
    low d u (no w) = omega (arith, l.low d (omega arith))

    hit : r < 2 ^ 62 → Dec (m ≤ x) → (d : ℕ) × (d < e + 1) × (r ≡ f d)
    hit h (yes w) = let k = l.hit (omega arith) in (k.0, omega (arith, k.1), omega (arith, k.2))
    hit h (no w) = (e, omega arith, omega (arith, p))

min_assoc : (x y z : ℕ) → min (min x y) z ≡ min x (min y z)
min_assoc x y z = omega arith

-- a tree of minima is a chain of them
tree : (m w x y z : ℕ) → min m (min (min w x) (min y z)) ≡ min (min (min (min m w) x) y) z
tree m w x y z =
    sym (min_assoc m (min w x) (min y z)) ∙ ap (λ (v : ℕ). min v (min y z)) (sym (min_assoc m w x)) ∙ sym (min_assoc (min (min m w) x) y z)

pub least_four : (f : ℕ → ℕ) (t m w x y z r : ℕ) → LeastOf f (4 * t) m → w ≡ f (4 * t) → x ≡ f (4 * t + 1) → y ≡ f (4 * t + 2) → z ≡ f (4 * t + 3)
    → r ≡ min m (min (min w x) (min y z)) → LeastOf f (4 * (t + 1)) r
least_four f t m w x y z r l a b c d q =
    let e2 : 4 * t + 1 + 1 ≡ 4 * t + 2 = omega arith in
    let e3 : 4 * t + 2 + 1 ≡ 4 * t + 3 = omega arith in
    let e4 : 4 * t + 3 + 1 ≡ 4 * (t + 1) = omega arith in
    let l1 = least_more f (4 * t) m w (min m w) l a refl in
    let l2 = rw e2 at (least_more f (4 * t + 1) (min m w) x (min (min m w) x) l1 b refl) in
    let l3 = rw e3 at (least_more f (4 * t + 2) (min (min m w) x) y (min (min (min m w) x) y) l2 c refl) in
    rw e4 at (least_more f (4 * t + 3) (min (min (min m w) x) y) z r l3 d (q ∙ tree m w x y z))
