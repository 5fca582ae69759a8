-- The settlement sheet's lines: their growers rise, each grower of the bag has one line, and their sums are the totals of the bag: a
-- record is counted in its grower's line and in no other. Assumes nothing.
use Prim.Native.Nat.{ℕ, suc, ◌+◌, ◌*◌, ◌≤◌, ◌<◌}
use mathlib.Core.Path.{◌≡◌, refl, sym, ap, ap₂, ◌∙◌}
use mathlib.Core.Bool.{Bool, true, false, cond, ◌&&◌, ◌||◌}
use mathlib.Core.List.{List, [], ◌∷◌, map, flatten}
use native.Mathlib.Omega.{arith}
use borrow.Author.Tests.{le-leb}
use lib.Dec.{T, leb, ltb, eqb, lt→ltb, eqb→eq, eqb_refl, leb→le}
use lib.ListN.{length, length-append, length-map}
use Rattle.model.specs.declared.Delivery.{Delivery}
use Rattle.model.specs.Lists.{sum_of, keep, rising}
use Rattle.model.specs.Deliveries.{matches, totals_of}
use Rattle.model.specs.Growers.{growers_of}
use Rattle.model.specs.Sheet.{placed_once, each_once, SheetLine, line_grower, line_of, sheet_lines, lines_totals, wide_field, wide_line, totals_row, line_text, sheet_of}
use Rattle.model.specs.Laws.{SheetAddsUp}
use Rattle.model.proofs.Tests.{of_true, is_true, eqb_no, and_mk}
use Rattle.model.proofs.MovesKeep.{All}
use Rattle.model.proofs.GrowerLaws.{all_imply, count_of}
use Rattle.model.proofs.LineLaws.{length_fields}
use Rattle.model.proofs.OnceLaws.{member, Rises, once_rises, member_once, less_none}

-- The growers of the lines.

pub line_growers : (bag : List Delivery) (gs : List ℕ) → map line_grower (map (line_of bag) gs) ≡ gs
line_growers bag [] = refl
line_growers bag (g ∷ gs) = ap (λ (l : List ℕ). g ∷ l) (line_growers bag gs)

rises_rising : (l : List ℕ) → Rises l → T (rising l)
unfolding Rises rising All
rises_rising [] h = tt
rises_rising (a ∷ []) h = tt
rises_rising (a ∷ b ∷ l) h = and_mk (ltb a b) (rising (b ∷ l)) (lt→ltb a b h.0.0) (rises_rising (b ∷ l) h.1)

-- a number that is among numbers that rise is there once
rises_count : (n : ℕ) (l : List ℕ) → Rises l → count_of n l ≡ cond (member n l) 1 0
unfolding Rises keep member
rises_count n [] h = refl
rises_count n (m ∷ l) h = go (eqb n m) refl (rises_count n l h.1)
  where
    go : (t : Bool) → eqb n m ≡ t → count_of n l ≡ cond (member n l) 1 0 → length (cond t (m ∷ keep (eqb n) l) (keep (eqb n) l)) ≡ cond (t || member n l) 1 0
    go true e k = let z : n ≡ m = eqb→eq n m (of_true _ e) in ap suc (k ∙ rw (ap (λ (x : ℕ). member x l) z, less_none m l h.0))
    go false e k = k

member_count : (n : ℕ) (l : List ℕ) → member n l ≡ ltb 0 (count_of n l)
unfolding keep member
member_count n [] = refl
member_count n (m ∷ l) = go (eqb n m) (member_count n l)
  where
    go : (t : Bool) → member n l ≡ ltb 0 (count_of n l) → (t || member n l) ≡ ltb 0 (length (cond t (m ∷ keep (eqb n) l) (keep (eqb n) l)))
    go true k = sym (le-leb 1 (suc (count_of n l)) (omega arith))
    go false k = k

once_count : (n : ℕ) (l : List ℕ) → count_of n (each_once l) ≡ cond (ltb 0 (count_of n l)) 1 0
once_count n l = rises_count n (each_once l) (once_rises l) ∙ ap (λ (b : Bool). cond b 1 0) (member_once n l ∙ member_count n l)

-- Sums. v is what a record counts for: 1, its kg, its oil.

-- a record of grower g
pub its_line : (g : ℕ) (d : Delivery) → matches g g d ≡ eqb d.grower g
its_line g d = go (eqb d.grower g) refl
  where
    go : (t : Bool) → eqb d.grower g ≡ t → (leb g d.grower && leb d.grower g) ≡ t
    go true e = let y : d.grower ≡ g = eqb→eq d.grower g (of_true _ e) in rw (le-leb g d.grower (omega arith), le-leb d.grower g (omega arith))
    go false e = side (leb g d.grower) refl (leb d.grower g) refl
      where
        side : (a : Bool) → leb g d.grower ≡ a → (b : Bool) → leb d.grower g ≡ b → (a && b) ≡ false
        side false p b q = refl
        side true p false q = refl
        side true p true q = let x = leb→le g d.grower (of_true _ p) in let y = leb→le d.grower g (of_true _ q) in let z : ⊥ = eqb_no d.grower g e (omega arith) in absurd z

module _ (v : Delivery → ℕ) where
  abbrev line_sum : List Delivery → ℕ → ℕ
  line_sum bag g = sum_of (map v (keep (matches g g) bag))

  line_next : (d : Delivery) (bag : List Delivery) (g : ℕ) → line_sum (d ∷ bag) g ≡ cond (eqb d.grower g) (v d) 0 + line_sum bag g
  unfolding keep sum_of
  line_next d bag g = rw (its_line g d) (go (eqb d.grower g))
    where
      go : (t : Bool) → sum_of (map v (cond t (d ∷ keep (matches g g) bag) (keep (matches g g) bag))) ≡ cond t (v d) 0 + sum_of (map v (keep (matches g g) bag))
      go true = refl
      go false = omega arith

  -- a record adds to as many lines as have its grower
  lines_next : (d : Delivery) (bag : List Delivery) (gs : List ℕ) → sum_of (map (line_sum (d ∷ bag)) gs) ≡ count_of d.grower gs * v d + sum_of (map (line_sum bag) gs)
  unfolding keep sum_of
  lines_next d bag [] = omega arith
  lines_next d bag (g ∷ gs) = ap₂ ◌+◌ (line_next d bag g) (lines_next d bag gs) ∙ go (eqb d.grower g)
    where
      go : (t : Bool) → cond t (v d) 0 + line_sum bag g + (count_of d.grower gs * v d + sum_of (map (line_sum bag) gs))
          ≡ length (cond t (g ∷ keep (eqb d.grower) gs) (keep (eqb d.grower) gs)) * v d + (line_sum bag g + sum_of (map (line_sum bag) gs))
      go true = omega arith
      go false = omega arith

  no_lines : (gs : List ℕ) → sum_of (map (line_sum []) gs) ≡ 0
  unfolding keep sum_of
  no_lines [] = refl
  no_lines (g ∷ gs) = omega (arith, no_lines gs)

  lines_total : (bag : List Delivery) (gs : List ℕ) → All (λ (d : Delivery). count_of d.grower gs ≡ 1) bag → sum_of (map (line_sum bag) gs) ≡ sum_of (map v bag)
  unfolding sum_of All
  lines_total [] gs h = no_lines gs
  lines_total (d ∷ bag) gs h =
      let e : count_of d.grower gs * v d ≡ 1 * v d = ap (λ (n : ℕ). n * v d) h.0 in
      lines_next d bag gs ∙ omega (arith, e, lines_total bag gs h.1)

covered : (bag : List Delivery) → All (λ (d : Delivery). 0 < count_of d.grower (growers_of bag)) bag
unfolding All keep
covered [] = tt
covered (d ∷ bag) = (
  rw (is_true (eqb d.grower d.grower) (eqb_refl d.grower)) (omega arith),
  all_imply (λ (e : Delivery). 0 < count_of e.grower (growers_of bag)) (λ (e : Delivery). 0 < count_of e.grower (growers_of (d ∷ bag)))
      (λ e p. more e p (eqb e.grower d.grower)) bag (covered bag),
)
  where
    more : (e : Delivery) → 0 < count_of e.grower (growers_of bag) → (t : Bool) → 0 < length (cond t (d.grower ∷ keep (eqb e.grower) (growers_of bag)) (keep (eqb e.grower) (growers_of bag)))
    more e p true = omega arith
    more e p false = p

one_line_each : (bag : List Delivery) → All (λ (d : Delivery). count_of d.grower (each_once (growers_of bag)) ≡ 1) bag
one_line_each bag =
    all_imply (λ (d : Delivery). 0 < count_of d.grower (growers_of bag)) (λ (d : Delivery). count_of d.grower (each_once (growers_of bag)) ≡ 1)
    (λ d p. once_count d.grower (growers_of bag) ∙ rw (le-leb 1 (count_of d.grower (growers_of bag)) p)) bag (covered bag)

length_ones : (l : List Delivery) → length l ≡ sum_of (map (λ (d : Delivery). 1) l)
unfolding sum_of
length_ones [] = refl
length_ones (d ∷ l) = omega (arith, length_ones l)

-- the sums of numbers of the lines, which are the lines' sums
line-sums : (f : SheetLine → ℕ) (bag : List Delivery) (v : Delivery → ℕ) → ((g : ℕ) → f (line_of bag g) ≡ line_sum v bag g) → (gs : List ℕ)
    → sum_of (map f (map (line_of bag) gs)) ≡ sum_of (map (line_sum v bag) gs)
unfolding sum_of
line-sums f bag v h [] = refl
line-sums f bag v h (g ∷ gs) = ap₂ ◌+◌ (h g) (line-sums f bag v h gs)

pub lines-add_up : (bag : List Delivery) → lines_totals (sheet_lines bag) ≡ totals_of bag
unfolding lines_totals sheet_lines totals_of
lines-add_up bag =
    let gs : List ℕ = each_once (growers_of bag) in
    let one = one_line_each bag in
    let oil-of : Delivery → ℕ = λ (d : Delivery). d.weight * d.oil_yield in
    let r
    = line-sums (λ (l : SheetLine). l.totals.records) bag (λ (d : Delivery). 1) (λ g. length_ones (keep (matches g g) bag)) gs ∙ lines_total (λ (d : Delivery). 1) bag gs one
    ∙ sym (length_ones bag) in
    let w = line-sums (λ (l : SheetLine). l.totals.weight) bag (λ (d : Delivery). d.weight) (λ g. refl) gs ∙ lines_total (λ (d : Delivery). d.weight) bag gs one in
    let o = line-sums (λ (l : SheetLine). l.totals.oil) bag oil-of (λ g. refl) gs ∙ lines_total oil-of bag gs one in
    rw (r, w, o)

pub sheet_adds_up : (bag : List Delivery) → SheetAddsUp bag
unfolding sheet_lines
sheet_adds_up bag =
    let gs : List ℕ = each_once (growers_of bag) in
    record {
      rise = rw (line_growers bag gs) (rises_rising gs (once_rises (growers_of bag)));
      once = λ g. ap (λ (l : List ℕ). count_of g l) (line_growers bag gs) ∙ once_count g (growers_of bag);
      add_up = lines-add_up bag;
    }

-- Lengths: four numbers a line, three in the last, each of 20 columns.

pub length_wide : (ns : List ℕ) → length (wide_line ns) ≡ 20 * length ns + 1
unfolding wide_line
length_wide ns = omega (arith, length-append (flatten (map wide_field ns)) (10 ∷ []), length_fields 20 (omega arith) ns)

pub length-lines : (ls : List SheetLine) → length (flatten (map line_text ls)) ≡ 81 * length ls
unfolding flatten
length-lines [] = refl
length-lines (l ∷ ls) = omega (arith, length-append (line_text l) (flatten (map line_text ls)), length_wide (l.grower ∷ totals_row l.totals), length-lines ls)

pub sheet_length : (bag : List Delivery) → length (sheet_of bag) ≡ 81 * length (each_once (growers_of bag)) + 61
unfolding sheet_of sheet_lines
sheet_length bag =
    let n = length-map (each_once (growers_of bag)) (line_of bag) in
    omega (arith, length-append (flatten (map line_text (sheet_lines bag))) (wide_line (totals_row (totals_of bag))), length-lines (sheet_lines bag), length_wide (totals_row (totals_of bag)), n)

placed_longer : (n : ℕ) (l : List ℕ) → length (placed_once n l) ≤ length l + 1
unfolding placed_once
placed_longer n [] = omega arith
placed_longer n (m ∷ l) = go (ltb n m) (eqb n m) (placed_longer n l)
  where
    go : (t u : Bool) → length (placed_once n l) ≤ length l + 1 → length (cond t (n ∷ m ∷ l) (cond u (m ∷ l) (m ∷ placed_once n l))) ≤ suc (length l) + 1
    go true u h = omega arith
    go false true h = omega arith
    go false false h = omega (arith, h)

-- no more growers than records
pub once_fewer : (l : List ℕ) → length (each_once l) ≤ length l
unfolding each_once
once_fewer [] = omega arith
once_fewer (n ∷ l) = omega (arith, placed_longer n (each_once l), once_fewer l)
