-- A layout cuts the blocks, and every layout is listed once its ends rise to the last block. Assumes nothing.
use Prim.Native.Nat.{ℕ, zero, suc, ◌+◌, ◌-◌, ◌≤◌, ◌<◌}
use mathlib.Core.Path.{◌≡◌, sym, ap, subst}
use mathlib.Core.Logic.{◌⊎◌, inl, inr}
use mathlib.Core.Bool.{◌&&◌}
use mathlib.Core.List.Memᴰ
use mathlib.Core.List.{List, [], ◌∷◌, map, Memᴰ}
use native.Mathlib.Omega.{arith}
use native.Mathlib.Decide.{ℕ_discrete}
use lib.Dec.{T, leb, ltb, eqb, leb→le, le→leb, ltb→lt, lt→ltb, eqb→eq}
use lib.ListN.{length, get_or}
use Rattle.model.specs.Lists.{rising, every}
use Rattle.model.specs.Blocks.{Set, blocks}
use Rattle.model.specs.Layouts.{end_of, is_layout, separates_none, layout_ok, layouts_from, every_layout}
use Rattle.model.proofs.Tests.{and_fst, and_snd, and_mk, eq→eqb}

-- Ends that cut blocks f to n - 1.

unfoldable pub Cut : ℕ → List ℕ → ℕ → Type 0
Cut f [] n = f ≡ n
Cut f (e ∷ es) n = (f ≤ e) × (e < n) × Cut (e + 1) es n

cut_of : (f a : ℕ) (l : List ℕ) (n : ℕ) → f ≤ a → T (rising (a ∷ l)) → get_or (a ∷ l) (length l) 0 + 1 ≡ n → Cut f (a ∷ l) n
unfolding Cut rising
cut_of f a [] n h r e = (h, omega arith, e)
cut_of f a (b ∷ l) n h r e =
    let w : a < b = ltb→lt _ _ (and_fst (ltb a b) (rising (b ∷ l)) r) in
    let c : Cut (a + 1) (b ∷ l) n = cut_of (a + 1) b l n (omega arith) (and_snd (ltb a b) (rising (b ∷ l)) r) e in
    (h, omega (arith, c.1), c)

cut_layout : (ends : List ℕ) (n : ℕ) → 1 ≤ length ends → T (rising ends) → end_of ends (length ends - 1) + 1 ≡ n → Cut 0 ends n
cut_layout [] n h r e = absurd (omega arith)
cut_layout (a ∷ l) n h r e =
    let q : length (a ∷ l) - 1 ≡ length l = omega arith in
    cut_of 0 a l n (omega arith) r (subst (λ (m : ℕ). get_or (a ∷ l) m 0 + 1 ≡ n) q e)

pub cut_less : (f : ℕ) (ends : List ℕ) (n p : ℕ) → Cut f ends n → p < length ends → get_or ends p 0 < n
unfolding Cut
cut_less f [] n p c h = absurd (omega arith)
cut_less f (e ∷ es) n zero c h = c.1
cut_less f (e ∷ es) n (suc p) c h = cut_less (e + 1) es n p c.2 (omega arith)

pub cut_last : (f : ℕ) (ends : List ℕ) (n p : ℕ) → Cut f ends n → p + 1 ≡ length ends → get_or ends p 0 + 1 ≡ n
unfolding Cut
cut_last f [] n p c h = absurd (omega arith)
cut_last f (e ∷ []) n zero c h = c.2
cut_last f (e ∷ d ∷ es) n zero c h = absurd (omega arith)
cut_last f (e ∷ es) n (suc p) c h = cut_last (e + 1) es n p c.2 (omega arith)

pub cut_early : (f : ℕ) (ends : List ℕ) (n p : ℕ) → Cut f ends n → p + 1 < length ends → get_or ends p 0 + 1 < n
unfolding Cut
cut_early f [] n p c h = absurd (omega arith)
cut_early f (e ∷ []) n p c h = absurd (omega arith)
cut_early f (e ∷ d ∷ es) n zero c h = omega (arith, c.2.0, c.2.1)
cut_early f (e ∷ d ∷ es) n (suc p) c h = cut_early (e + 1) (d ∷ es) n p c.2 (omega arith)

-- there are no more ends than blocks
pub cut_count : (f : ℕ) (ends : List ℕ) (n : ℕ) → Cut f ends n → length ends + f ≤ n
unfolding Cut
cut_count f [] n c = omega arith
cut_count f (e ∷ es) n c = omega (arith, c.0, cut_count (e + 1) es n c.2)

-- the first block of a partition is no later than its end
pub cut_first : (f : ℕ) (ends : List ℕ) (n p : ℕ) → Cut f ends n → p < length ends → get_or (f ∷ map (λ (e : ℕ). e + 1) ends) p 0 ≤ get_or ends p 0
unfolding Cut
cut_first f [] n p c h = absurd (omega arith)
cut_first f (e ∷ es) n zero c h = c.0
cut_first f (e ∷ es) n (suc p) c h = cut_first (e + 1) es n p c.2 (omega arith)

-- A layout of n blocks.

pub layout_cut : (n : ℕ) (ends : List ℕ) → T (is_layout n ends) → (1 ≤ length ends) × Cut 0 ends n
unfolding is_layout
layout_cut n ends h =
    let a = leb 1 (length ends) in
    let c = rising ends in
    let d = eqb (end_of ends (length ends - 1) + 1) n in
    let k = and_fst (a && c) d h in
    let one : 1 ≤ length ends = leb→le _ _ (and_fst a c k) in
    (one, cut_layout ends n one (and_snd a c k) (eqb→eq (end_of ends (length ends - 1) + 1) n (and_snd (a && c) d h)))

-- check 6 of a layout, taken apart
pub record Laid (s : Set) (ends : List ℕ) : Type 0 where
  pub some : 1 ≤ length ends
  pub cut : Cut 0 ends (blocks s)
  pub parted : T (every (separates_none s) ends)

pub laid : (s : Set) (ends : List ℕ) → T (layout_ok s ends) → Laid s ends
unfolding layout_ok
laid s ends h =
    let a = is_layout (blocks s) ends in
    let b = every (separates_none s) ends in
    let c = layout_cut (blocks s) ends (and_fst a b h) in
    record { some = c.0; cut = c.1; parted = and_snd a b h }

-- Every layout is listed, and nothing else.

-- the blocks a onward may begin one earlier
cut_earlier : (a : ℕ) (es : List ℕ) (n : ℕ) → 1 ≤ length es → Cut (a + 1) es n → Cut a es n
unfolding Cut
cut_earlier a [] n h c = absurd (omega arith)
cut_earlier a (e ∷ es) n h c = (omega (arith, c.0), c.1, c.2)

cut_same : (a : ℕ) (es : List ℕ) (m n : ℕ) → m ≡ n → Cut a es m → Cut a es n
cut_same a es m n e c = subst (λ (k : ℕ). Cut a es k) e c

listed-sound : (c a : ℕ) (es : List ℕ) → Memᴰ es (layouts_from a c) → (1 ≤ length es) × Cut a es (a + c + 1)
unfolding layouts_from Cut
listed-sound zero a es m =
    subst (λ (l : List ℕ). (1 ≤ length l) × Cut a l (a + 0 + 1)) (sym (Memᴰ.eq_of_singleton m)) (omega arith, (omega arith, omega arith, omega arith))
listed-sound (suc c) a es m = go (λ ds. listed-sound c (a + 1) ds) (Memᴰ.append_cases (map (λ ds. a ∷ ds) (layouts_from (a + 1) c)) m)
  where
    go : ((ds : List ℕ) → Memᴰ ds (layouts_from (a + 1) c) → (1 ≤ length ds) × Cut (a + 1) ds (a + 1 + c + 1))
        → Memᴰ es (map (λ ds. a ∷ ds) (layouts_from (a + 1) c)) ⊎ Memᴰ es (layouts_from (a + 1) c) → (1 ≤ length es) × Cut a es (a + suc c + 1)
    go ih (inl h) =
        let r = Memᴰ.of_map (λ ds. a ∷ ds) (layouts_from (a + 1) c) h in
        let i = ih r.0 r.1 in
        subst (λ (l : List ℕ). (1 ≤ length l) × Cut a l (a + suc c + 1)) r.2 (omega arith, (omega arith, omega arith, cut_same (a + 1) r.0 _ _ (omega arith) i.1))
    go ih (inr h) = let i = ih es h in (i.0, cut_earlier a es _ i.0 (cut_same (a + 1) es _ _ (omega arith) i.1))

listed_whole : (c a : ℕ) (es : List ℕ) → 1 ≤ length es → Cut a es (a + c + 1) → Memᴰ es (layouts_from a c)
unfolding layouts_from Cut
listed_whole zero a [] h k = absurd (omega arith)
listed_whole zero a (e ∷ []) h k = let x : e ≡ a = omega (arith, k.0, k.1) in Memᴰ.head (ap (λ (v : ℕ). v ∷ []) x)
listed_whole zero a (e ∷ (f ∷ es)) h k = absurd (omega (arith, k.0, k.2.0, k.2.1))
listed_whole (suc c) a [] h k = absurd (omega arith)
listed_whole (suc c) a (e ∷ es) h k = go es k.2 (listed_whole c (a + 1)) (ℕ_discrete a e)
  where
    go : (es : List ℕ) → Cut (e + 1) es (a + suc c + 1)
        → ((ds : List ℕ) → 1 ≤ length ds → Cut (a + 1) ds (a + 1 + c + 1) → Memᴰ ds (layouts_from (a + 1) c)) → Dec (a ≡ e) → Memᴰ (e ∷ es) (layouts_from a (suc c))
    go [] s ih (yes q) = absurd (omega (arith, s))
    go (f ∷ es) s ih (yes q) =
        let i = ih (f ∷ es) (omega arith) (subst (λ (v : ℕ). Cut (v + 1) (f ∷ es) (a + 1 + c + 1)) (sym q) (cut_same (e + 1) (f ∷ es) _ _ (omega arith) s)) in
        Memᴰ.append_left _ (Memᴰ.cast (ap (λ (v : ℕ). v ∷ (f ∷ es)) (sym q)) (Memᴰ.map (λ ds. a ∷ ds) i))
    go es s ih (no q) =
        Memᴰ.append_right (map (λ ds. a ∷ ds) (layouts_from (a + 1) c)) (ih (e ∷ es) (omega arith) (omega (arith, k.0), omega (arith, k.1), cut_same (e + 1) es _ _ (omega arith) s))

cut_rises : (f : ℕ) (es : List ℕ) (n : ℕ) → Cut f es n → T (rising es)
unfolding Cut rising
cut_rises f [] n c = tt
cut_rises f (e ∷ []) n c = tt
cut_rises f (e ∷ (d ∷ es)) n c = and_mk (ltb e d) (rising (d ∷ es)) (lt→ltb e d (omega (arith, c.2.0))) (cut_rises (e + 1) (d ∷ es) n c.2)

pub cut_is_layout : (n : ℕ) (ends : List ℕ) → 1 ≤ length ends → Cut 0 ends n → T (is_layout n ends)
unfolding is_layout
cut_is_layout n ends h c =
    let a = leb 1 (length ends) in
    let b = rising ends in
    let d = eqb (end_of ends (length ends - 1) + 1) n in
    and_mk (a && b) d (and_mk a b (le→leb 1 (length ends) h) (cut_rises 0 ends n c)) (eq→eqb _ _ (cut_last 0 ends n (length ends - 1) c (omega arith)))

-- "every layout": a list of ends is listed just if it is a layout
pub every_layout_lem : (n : ℕ) (ends : List ℕ) → 1 ≤ n → (Memᴰ ends (every_layout n) → T (is_layout n ends)) × (T (is_layout n ends) → Memᴰ ends (every_layout n))
every_layout_lem n ends h = (out, back)
  where
    e : 0 + (n - 1) + 1 ≡ n
    e = omega arith

    out : Memᴰ ends (every_layout n) → T (is_layout n ends)
    out m = let r = listed-sound (n - 1) 0 ends m in cut_is_layout n ends r.0 (cut_same 0 ends _ _ e r.1)

    back : T (is_layout n ends) → Memᴰ ends (every_layout n)
    back t = let r = layout_cut n ends t in listed_whole (n - 1) 0 ends r.0 (cut_same 0 ends _ _ (sym e) r.1)
