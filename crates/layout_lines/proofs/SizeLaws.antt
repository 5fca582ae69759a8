-- How many layouts chosen ends go on to and how long their lines are, added up block by block; of 12 blocks both are small. Assumes nothing.
use Prim.Native.Nat.{ℕ, zero, suc, ◌+◌, ◌-◌, ◌*◌, ◌^◌, ◌≤◌, ◌<◌}
use mathlib.Core.Path.{◌≡◌, refl, sym, ap, ◌∙◌, subst}
use mathlib.Core.Bool.{Bool, true, false, cond}
use mathlib.Core.List.{List, [], ◌∷◌, ◌++◌, map}
use native.Mathlib.Omega.{arith}
use native.Mathlib.Nat.{pow-le-pow_right, two-pow-succ}
use lib.ListN.{length, length-append, length-map}
use Rattle.model.specs.Bounds.{most_listed_blocks}
use Rattle.model.specs.Lists.{sum_of, keep}
use Rattle.model.specs.Layouts.{layouts_from}
use Rattle.model.proofs.ListLaws.{keep_fewer}
use Rattle.layout_lines.specs.Rests.{rest_ok, ok_by, rests, line_bytes, LinesSize, Choosing}
use Rattle.layout_lines.proofs.RestLaws.{Place, followed}

-- the bytes of the lines
abbrev pub total : ℕ → List (List ℕ) → ℕ
total k ls = sum_of (map (line_bytes k) ls)

total_append : (k : ℕ) (x y : List (List ℕ)) → total k (x ++ y) ≡ total k x + total k y
unfolding sum_of
total_append k [] y = omega arith
total_append k (e ∷ x) y = omega (arith, total_append k x y)

-- one end more is chosen
total_chosen : (k i : ℕ) (ls : List (List ℕ)) → total k (map (λ (es : List ℕ). i ∷ es) ls) ≡ total (k + 1) ls
unfolding sum_of
total_chosen k i [] = refl
total_chosen k i (es ∷ ls) = omega (arith, total_chosen k i ls)

-- Bounds.

total_kept : (k : ℕ) (p : List ℕ → Bool) (l : List (List ℕ)) → total k (keep p l) ≤ total k l
unfolding sum_of keep
total_kept k p [] = omega arith
total_kept k p (x ∷ l) = go (p x) (total_kept k p l)
  where
    go : (t : Bool) → total k (keep p l) ≤ total k l → total k (cond t (x ∷ keep p l) (keep p l)) ≤ line_bytes k x + total k l
    go true h = omega arith
    go false h = omega arith

count-layouts : (c i : ℕ) → length (layouts_from i c) ≡ 2 ^ c
unfolding layouts_from
count-layouts zero i = refl
count-layouts (suc c) i =
    let x = layouts_from (i + 1) c in
    omega (arith, length-append (map (λ (es : List ℕ). i ∷ es) x) x, length-map x (λ (es : List ℕ). i ∷ es), count-layouts c (i + 1), two-pow-succ c)

-- a line has at most 12 ends, and 164 bytes
total_layouts : (c k i : ℕ) → k + c + 1 ≤ most_listed_blocks → total k (layouts_from i c) ≤ 164 * 2 ^ c
unfolding layouts_from sum_of
total_layouts zero k i h = omega arith
total_layouts (suc c) k i h =
    let x = layouts_from (i + 1) c in
    omega (
      arith,
      total_append k (map (λ (es : List ℕ). i ∷ es) x) x,
      total_chosen k i x,
      total_layouts c (k + 1) (i + 1) (omega arith),
      total_layouts c k (i + 1) (omega arith),
      two-pow-succ c,
    )

few : (c : ℕ) → c ≤ 11 → 2 ^ c ≤ 2 ^ 11
few c h = pow-le-pow_right {n = 2} (omega arith) {i = c} {j = 11} h

module _ (ok : ℕ → ℕ → Bool) (most n k a i : ℕ) (h : n ≤ most_listed_blocks) (g : i < n) (f : k ≤ i) where
  few_rests : length (rests ok most n k a i) ≤ 2048
  unfolding rests
  few_rests =
      let c = n - 1 - i in
      omega (arith, keep_fewer (rest_ok ok most k a) (layouts_from i c), count-layouts c i, few c (omega arith))

  few_bytes : total k (rests ok most n k a i) ≤ 335872
  unfolding rests
  few_bytes =
      let c = n - 1 - i in
      omega (arith, total_kept k (rest_ok ok most k a) (layouts_from i c), total_layouts c k i (omega arith), few c (omega arith))

-- What the code answers.

pub few_sized : (x : Place) {layouts bytes : ℕ} → x.n ≤ most_listed_blocks → Choosing x.n x.k x.a x.i → LinesSize layouts bytes x.k (followed x) → (layouts ≤ 2048) × (bytes ≤ 335872)
few_sized x h c s =
    let ok = ok_by x.fits x.longest in
    let f : x.k ≤ x.i = omega (arith, c.first, c.count) in (
      omega (arith, s.count, few_rests ok x.most x.n x.k x.a x.i h c.inside f),
      omega (arith, s.size, few_bytes ok x.most x.n x.k x.a x.i h c.inside f),
    )

pub sized_none : {x b k : ℕ} {ls : List (List ℕ)} → x ≡ 0 → b ≡ 0 → ls ≡ [] → LinesSize x b k ls
unfolding sum_of
sized_none {x} {b} {k} p q e = record { count = p ∙ sym (ap length e); size = q ∙ sym (ap (total k) e) }

pub total_one : (k i : ℕ) (ls : List (List ℕ)) → ls ≡ (i ∷ []) ∷ [] → total k ls ≡ 32 + 11 * (k + 1)
unfolding sum_of
total_one k i ls e = let z = ap (total k) e in omega arith

pub sized_one : {x b k i : ℕ} {ls : List (List ℕ)} → x ≡ 1 → b ≡ 32 + 11 * (k + 1) → ls ≡ (i ∷ []) ∷ [] → LinesSize x b k ls
sized_one {x} {b} {k} {i} {ls} p q e = record { count = p ∙ sym (ap length e); size = q ∙ sym (total_one k i ls e) }

pub sized_as : {x b k : ℕ} {ls ms : List (List ℕ)} → LinesSize x b k ls → ms ≡ ls → LinesSize x b k ms
sized_as {x} {b} {k} s e = subst (λ (l : List (List ℕ)). LinesSize x b k l) (sym e) s

pub sized_both : (i : ℕ) {x b y d k : ℕ} {ls here later : List (List ℕ)} → LinesSize x b (k + 1) here → LinesSize y d k later
    → ls ≡ map (λ (es : List ℕ). i ∷ es) here ++ later → LinesSize (x + y) (b + d) k ls
sized_both i {k = k} {here = here} {later} s t e =
    let m = map (λ (es : List ℕ). i ∷ es) here in
    record {
      count = let z = ap length e in omega (arith, s.count, t.count, length-append m later, length-map here (λ (es : List ℕ). i ∷ es));
      size = let z = ap (total k) e in omega (arith, s.size, t.size, total_append k m later, total_chosen k i here);
    }
