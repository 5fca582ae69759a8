-- Of the least layouts the one whose ends come first. Assumes nothing.
use mathlib.Core.Path.{◌≡◌, ap, subst}
use mathlib.Core.List.{List, [], ◌∷◌}
use Prim.Native.Nat.{ℕ, suc, ◌+◌, ◌^◌, ◌≤◌, ◌<◌}
use native.Mathlib.Omega.{arith}
use lib.ListN.{length}
use Rattle.layout_search.specs.Task.{Task, Layout, adds, takes}
use Rattle.layout_search.specs.Table.{Best, Scan, Cand, Offer, nothing, offered, First, Chose, Chosen}
use Rattle.layout_search.proofs.BestLaws.{scan_start, scan_keep_offer, scan_take_offer, scan_done}

-- the ends before e are tried: m is the least number, and b the first end that has it
pub record Tried (t : Task) (val : ℕ → ℕ → ℕ) (a k e m b : ℕ) : Type 0 where
  pub scan : Scan t a k e m
  pub first : m < 2 ^ 62 → First t a k b (val k (b + 1)) m

pub tried_start : (t : Task) (val : ℕ → ℕ → ℕ) (a k b : ℕ) → Tried t val a k a (2 ^ 62) b
tried_start t val a k b = record { scan = scan_start t a k; first = λ h. absurd (omega arith) }

module _ (t : Task) (val : ℕ → ℕ → ℕ) (a k e m b x : ℕ) (s : Tried t val a k e m b) (o : Offer t a k e (val k (e + 1)) x) where
  pub tried_keep : m ≤ x → Tried t val a k (e + 1) m b
  tried_keep h = record { scan = scan_keep_offer t a k e m _ x s.scan o h; first = s.first }

  -- of equal numbers the earlier end was kept
  pub tried_take : x < m → Tried t val a k (e + 1) x e
  tried_take h = record {
    scan = scan_take_offer t a k e m _ x s.scan o h;
    first = λ g. record { cand = go o g; passed = record { more = λ d ds u l p. omega (arith, (s.scan.low d ds u l p).1) } };
  }
    where
      go : Offer t a k e (val k (e + 1)) x → x < 2 ^ 62 → Cand t a k e (val k (e + 1)) x
      go (nothing q f) g = absurd (omega arith)
      go (offered c) g = c

-- no first partition ends at e or later
pub tried_done : (t : Task) (val : ℕ → ℕ → ℕ) (a k e m b : ℕ) → Tried t val a k e m b → ((d : ℕ) (ds : List ℕ) → Layout t a (d ∷ ds) → length ds ≡ k → d < e) → Chose t val a k m b
tried_done t val a k e m b s h = record {
  best = scan_done t a k m (record { low = λ d ds u l p. s.scan.low d ds (h d ds l p) l p; hit = s.scan.hit; near = s.scan.near });
  first = s.first;
}

-- the table's number is one
best_same : (t : Task) (a k m v : ℕ) → Best t a k m → Best t a k v → v < 2 ^ 62 → m ≡ v
best_same t a k m v b c h =
    let r = c.hit h in
    let x = b.low r.0 r.1 r.2 in
    let q = b.hit x.0 in
    let y = c.low q.0 q.1 q.2 in
    omega (arith, x.1, y.1, r.3, q.3)

-- so what was chosen is the first end of the table's layout
pub chose_first : (t : Task) (val : ℕ → ℕ → ℕ) (a k m e v : ℕ) → Chose t val a k m e → Best t a (k + 1) v → v < 2 ^ 62 → First t a k e (val k (e + 1)) v
chose_first t val a k m e v c b h =
    let x = best_same t a (k + 1) m v c.best b h in
    subst (λ (w : ℕ). First t a k e (val k (e + 1)) w) x (c.first (omega arith))

-- es is cheaper than each layout in as many partitions that comes before it in the order of the ends
abbrev pub Earliest : Task → ℕ → List ℕ → Type 0
Earliest t a [] = Unit {0}
Earliest t a (e ∷ es) =
    ((d : ℕ) (ds : List ℕ) → d < e → Layout t a (d ∷ ds) → length ds ≡ length es → adds t a (e ∷ es) + takes t a (d ∷ ds) < adds t a (d ∷ ds) + takes t a (e ∷ es))
    × Earliest t (e + 1) es

pub chosen_layout : (t : Task) (val : ℕ → ℕ → ℕ) (a : ℕ) (es : List ℕ) → Chosen t val a es → Layout t a es
chosen_layout t val a [] c = c.0
chosen_layout t val a (e ∷ es) c = (c.0.cand.start, c.0.cand.inside, c.0.cand.okay, chosen_layout t val (e + 1) es c.1)

pub chosen_number : (t : Task) (val : ℕ → ℕ → ℕ) (a : ℕ) (es : List ℕ) → Chosen t val a es → val (length es) a + takes t a es ≡ 2 ^ 60 + adds t a es
chosen_number t val a [] c = omega (arith, c.1)
chosen_number t val a (e ∷ es) c =
    let r = chosen_number t val (e + 1) es c.1 in
    let x : val (suc (length es)) a ≡ val (length es + 1) a = ap (λ (v : ℕ). val v a) (omega arith) in
    omega (arith, c.0.cand.is)

pub chosen_earliest : (t : Task) (val : ℕ → ℕ → ℕ) (a : ℕ) (es : List ℕ) → Chosen t val a es → Earliest t a es
chosen_earliest t val a [] c = tt
chosen_earliest t val a (e ∷ es) c =
    let b = chosen_number t val a (e ∷ es) c in
    let x : val (suc (length es)) a ≡ val (length es + 1) a = ap (λ (v : ℕ). val v a) (omega arith) in
    (λ d ds h l p. omega (arith, c.0.passed.more d ds h l p), chosen_earliest t val (e + 1) es c.1)
