-- The slots of each grower together, as lines: where a grower's slots begin, the run is all of them, its totals are his line's, and the lines of the growers
-- that are left, written from here on, make the whole. Assumes nothing.
use Prim.Native.Nat.{ℕ, ◌+◌, ◌*◌, ◌≤◌, ◌<◌}
use mathlib.Core.Path.{◌≡◌, refl, sym, ap, ap₂, ◌∙◌, subst}
use mathlib.Core.Bool.{Bool, true, false, cond, ◌||◌}
use mathlib.Core.List.{List, [], ◌∷◌, ◌++◌, map, flatten}
use native.Mathlib.Omega.{arith}
use borrow.Author.Tests.{eq-eqb, ne_eqb, eqb-true}
use lib.Dec.{T, eqb}
use lib.ListN.{length, get_or, drop, length-append, length-drop, length-map, drop_of_length-le}
use lib.Seq.{drop-drop, drop_at, get_or-drop}
use Rattle.model.specs.declared.Delivery.{Delivery}
use Rattle.model.specs.declared.Totals.{Totals}
use Rattle.model.specs.Bounds.{most_slots}
use Rattle.model.specs.Lists.{sum_of, keep, never_falls}
use Rattle.model.specs.Deliveries.{Slices, matches, LightTotals, plus_totals, no_totals, totals_of, totals_between}
use Rattle.model.specs.Growers.{growers_of}
use Rattle.model.specs.Sheet.{SheetLine, each_once, line_of, sheet_lines, lines_totals, line_text, slots_of, by_grower}
use Rattle.model.proofs.Tests.{of_true, or_snd}
use Rattle.model.proofs.ListLaws.{keep_fewer}
use Rattle.model.proofs.MovesKeep.{All, all_append}
use Rattle.model.proofs.GrowerLaws.{all_imply, all_kept}
use Rattle.model.proofs.OnceLaws.{member, member_first, member_once, Rises, once_rises}
use Rattle.model.proofs.SheetLaws.{its_line, lines-add_up, length_wide, length-lines}
use Rattle.slices.specs.Slices.{Measured}
use Rattle.slices.proofs.Scans.{is_equal}
use Rattle.fields.specs.Writing.{placed}
use Rattle.fields.proofs.Placing.{length-placed, placed_none, placed-joined}
use Rattle.slot_order.proofs.Groups.{sorted_by_grower}
use Rattle.slot_order.specs.Passes.{growers_at}
use Rattle.sheet_lines.specs.Runs.{delivery_at, records_at, InOrder, slots_front, run_from}
use Rattle.sheet_lines.proofs.RunLaws.{totals_by, grower_at, slots_light}

-- the growers of records in slots
pub growers_records : (s : Slices) (is : List ℕ) → growers_of (records_at s is) ≡ growers_at s.growers is
growers_records s [] = refl
growers_records s (i ∷ is) = ap (λ (l : List ℕ). get_or s.growers i 0 ∷ l) (growers_records s is)

pub keep-map : {A B : Type 0} (f : A → B) (p : A → Bool) (q : B → Bool) → ((a : A) → q (f a) ≡ p a) → (l : List A) → map f (keep p l) ≡ keep q (map f l)
unfolding keep
keep-map f p q h [] = refl
keep-map {A} {B} f p q h (x ∷ l) = go (p x) (keep-map f p q h l) ∙ sym (ap (λ (t : Bool). cond t (f x ∷ keep q (map f l)) (keep q (map f l))) (h x))
  where
    go : (t : Bool) → map f (keep p l) ≡ keep q (map f l) → map f (cond t (x ∷ keep p l) (keep p l)) ≡ cond t (f x ∷ keep q (map f l)) (keep q (map f l))
    go true e = ap (λ (r : List B). f x ∷ r) e
    go false e = e

-- a grower's slots hold his records
pub group_records : (s : Slices) (is : List ℕ) (g : ℕ) → records_at s (slots_of s.growers is g) ≡ keep (matches g g) (records_at s is)
group_records s is g =
    keep-map (delivery_at s) (λ (i : ℕ). eqb (get_or s.growers i 0) g) (matches g g) (λ i. its_line g (delivery_at s i)) is

-- Groups one after the other.

abbrev groups : List ℕ → List ℕ → List ℕ → List ℕ
groups gs is es = flatten (map (slots_of gs is) es)

in_group : (gs is : List ℕ) (g : ℕ) → All (λ (i : ℕ). get_or gs i 0 ≡ g) (slots_of gs is g)
in_group gs is g =
    all_imply (λ (i : ℕ). eqb (get_or gs i 0) g ≡ true) (λ (i : ℕ). get_or gs i 0 ≡ g) (λ i e. eqb-true (get_or gs i 0) g e) (slots_of gs is g)
    (all_kept (λ (i : ℕ). eqb (get_or gs i 0) g) is)

in_others : (gs is : List ℕ) (g : ℕ) (es : List ℕ) → All (λ (m : ℕ). g < m) es → All (λ (i : ℕ). get_or gs i 0 ≡ g → ⊥) (groups gs is es)
unfolding All flatten
in_others gs is g [] h = tt
in_others gs is g (m ∷ es) h =
    all_append (λ (i : ℕ). get_or gs i 0 ≡ g → ⊥) (slots_of gs is m) (groups gs is es)
    (all_imply (λ (i : ℕ). get_or gs i 0 ≡ m) (λ (i : ℕ). get_or gs i 0 ≡ g → ⊥) (λ i e z. let f : ⊥ = omega (arith, e, z, h.0) in f) (slots_of gs is m) (in_group gs is m))
    (in_others gs is g es h.1)

-- the front of joined slots, the first of grower g, the others not
front_is : (gs : List ℕ) (g : ℕ) (a b : List ℕ) → All (λ (i : ℕ). get_or gs i 0 ≡ g) a → All (λ (i : ℕ). get_or gs i 0 ≡ g → ⊥) b → slots_front gs g (a ++ b) ≡ a
unfolding slots_front All
front_is gs g [] [] p q = refl
front_is gs g [] (i ∷ b) p q = rw (ne_eqb (get_or gs i 0) g q.0)
front_is gs g (i ∷ a) b p q = rw (eq-eqb (get_or gs i 0) g p.0) (ap (λ (l : List ℕ). i ∷ l) (front_is gs g a b p.1 q))

first_has : (P : ℕ → Type 0) (a b : List ℕ) → 0 < length a → All P a → P (get_or (a ++ b) 0 0)
unfolding All
first_has P [] b h p = absurd (omega arith)
first_has P (x ∷ a) b h p = p.0

-- each grower of the sheet has a slot
all_members : (P : ℕ → Type 0) (l : List ℕ) → ((n : ℕ) → T (member n l) → P n) → All P l
unfolding All member
all_members P [] h = tt
all_members P (n ∷ l) h = (h n (of_true _ (member_first n l)), all_members P l (λ m t. h m (or_snd (eqb m n) (member m l) t)))

has_record : (g : ℕ) (ds : List Delivery) → T (member g (growers_of ds)) → 0 < length (keep (matches g g) ds)
unfolding member keep
has_record g [] t = absurd t
has_record g (d ∷ ds) t = go (eqb g d.grower) refl t (has_record g ds)
  where
    more : (u : Bool) → 0 < length (keep (matches g g) ds) → 0 < length (cond u (d ∷ keep (matches g g) ds) (keep (matches g g) ds))
    more true h = omega arith
    more false h = h

    go : (u : Bool) → eqb g d.grower ≡ u → T (u || member g (growers_of ds)) → (T (member g (growers_of ds)) → 0 < length (keep (matches g g) ds))
        → 0 < length (cond (matches g g d) (d ∷ keep (matches g g) ds) (keep (matches g g) ds))
    go true e x k =
        let z : matches g g d ≡ true = is_equal g d.grower (sym (eqb-true g d.grower e)) in
        rw z (omega arith)
    go false e x k = more (matches g g d) (k x)

-- The lines.

module _ (s : Slices) (order : List ℕ) where
  abbrev gs : List ℕ
  gs = s.growers

  -- the growers of the sheet
  abbrev pub growers_once : List ℕ
  growers_once = each_once (growers_at gs order)

  abbrev lines_of : List ℕ → List SheetLine
  lines_of es = map (line_of (records_at s order)) es

  abbrev text_of : List ℕ → List ℕ
  text_of es = flatten (map line_text (lines_of es))

  length_text : (es : List ℕ) → length (text_of es) ≡ 81 * length es
  length_text es = omega (arith, length-lines (lines_of es), length-map es (line_of (records_at s order)))

  lines_are : sheet_lines (records_at s order) ≡ lines_of growers_once
  unfolding sheet_lines
  lines_are = ap (λ (l : List ℕ). lines_of (each_once l)) (growers_records s order)

  group_totals : (g : ℕ) → totals_of (records_at s (slots_of gs order g)) ≡ totals_between g g (records_at s order)
  group_totals g = ap totals_of (group_records s order g)

  group_size : (g : ℕ) → length (slots_of gs order g) ≡ (totals_between g g (records_at s order)).records
  unfolding totals_of
  group_size g = sym (length-map (slots_of gs order g) (delivery_at s)) ∙ ap length (group_records s order g)

  all_held : All (λ (g : ℕ). 0 < length (slots_of gs order g)) growers_once
  unfolding totals_of
  all_held =
      all_members (λ (g : ℕ). 0 < length (slots_of gs order g)) growers_once
      (λ g t. rw (group_size g) (has_record g (records_at s order) (subst T (member_once g (growers_at gs order) ∙ ap (member g) (sym (growers_records s order))) t)))

  -- slots in order are the groups of the growers in order
  order_groups : T (never_falls (growers_at gs order)) → order ≡ groups gs order growers_once
  unfolding by_grower
  order_groups h = sorted_by_grower gs order h

-- The growers whose lines are left at a place of the order.

pub record LinesLeft (t₀ order : List ℕ) (s : Slices) (t : List ℕ) (sums : Totals) (at i : ℕ) : Type 0 where
  pub ready : Measured s
  pub few : length order ≤ most_slots
  pub growers : List ℕ
  pub rises : Rises growers
  pub held : All (λ (g : ℕ). 0 < length (slots_of s.growers order g)) growers
  pub passed : i ≤ length order
  pub slots : drop i order ≡ groups s.growers order growers
  pub size : length t ≡ length t₀
  pub room : 81 * length (growers_once s order) ≤ length t₀
  pub ends : at + 81 * length growers ≡ 81 * length (growers_once s order)
  pub work : placed at (text_of s order growers) t ≡ placed 0 (text_of s order (growers_once s order)) t₀
  pub added : plus_totals sums (lines_totals (lines_of s order growers)) ≡ totals_of (records_at s order)

module _ {order : List ℕ} {s : Slices} (m : Measured s) (o : InOrder s.growers order) where
  lines-sums : lines_totals (lines_of s order (growers_once s order)) ≡ totals_of (records_at s order)
  lines-sums = ap lines_totals (sym (lines_are s order)) ∙ lines-add_up (records_at s order)

  pub lines_start : {t : List ℕ} {x : Totals} → x ≡ no_totals → 81 * length (growers_once s order) ≤ length t → LinesLeft t order s t x 0 0
  lines_start z h = record {
    ready = m;
    few = o.few;
    growers = growers_once s order;
    rises = once_rises (growers_at s.growers order);
    held = all_held s order;
    passed = omega arith;
    slots = order_groups s order o.falls_not;
    size = refl;
    room = h;
    ends = omega arith;
    work = refl;
    added = ap (λ (x : Totals). plus_totals x (lines_totals (lines_of s order (growers_once s order)))) z ∙ totals_by (omega arith) (omega arith) (omega arith) ∙ lines-sums;
  }

-- the grower of the next line, and those after him
record Next (growers : List ℕ) : Type 0 where
  pub grower : ℕ
  pub more : List ℕ
  pub is : growers ≡ grower ∷ more

module _ {t₀ order : List ℕ} {s : Slices} {t : List ℕ} {sums : Totals} {at i : ℕ} (l : LinesLeft t₀ order s t sums at i) where
  -- the sums so far are at most those of all
  pub sums_light : LightTotals most_slots sums
  sums_light =
      let w = slots_light s l.ready order l.few in
      let e = l.added in
      record {
        few = omega (arith, ap (λ (x : Totals). x.records) e, w.few);
        light = omega (arith, ap (λ (x : Totals). x.weight) e, w.light);
        little = omega (arith, ap (λ (x : Totals). x.oil) e, w.little);
      }

  module _ (h : i < length order) where
    next : Next l.growers
    unfolding flatten
    next = go l.growers refl
      where
        go : (es : List ℕ) → l.growers ≡ es → Next l.growers
        go [] e = absurd (omega (arith, ap length (l.slots ∙ ap (groups s.growers order) e), length-drop i order))
        go (g ∷ more) e = record { grower = g; more = more; is = e }

    abbrev grower : ℕ
    grower = next.grower

    abbrev slots_here : List ℕ
    slots_here = slots_of s.growers order grower

    next_rises : All (λ (n : ℕ). grower < n) next.more × Rises next.more
    unfolding Rises
    next_rises = subst Rises next.is l.rises

    next_held : (0 < length slots_here) × All (λ (g : ℕ). 0 < length (slots_of s.growers order g)) next.more
    unfolding All
    next_held = subst (All (λ (g : ℕ). 0 < length (slots_of s.growers order g))) next.is l.held

    next_slots : drop i order ≡ slots_here ++ groups s.growers order next.more
    unfolding flatten
    next_slots = l.slots ∙ ap (groups s.growers order) next.is

    grower_is : grower_at s.growers order i ≡ grower
    grower_is =
        let z : i + 0 ≡ i = omega arith in
        let e : get_or order i 0 ≡ get_or (slots_here ++ groups s.growers order next.more) 0 0
        = ap (λ (k : ℕ). get_or order k 0) (sym z) ∙ sym (get_or-drop i order 0 0) ∙ ap (λ (l : List ℕ). get_or l 0 0) next_slots in
        ap (λ (j : ℕ). get_or s.growers j 0) e
        ∙ first_has (λ (j : ℕ). get_or s.growers j 0 ≡ grower) slots_here (groups s.growers order next.more) next_held.0 (in_group s.growers order grower)

    run_is : run_from s.growers i order ≡ slots_here
    unfolding run_from
    run_is =
        ap₂ (λ (g : ℕ) (l : List ℕ). slots_front s.growers g l) grower_is next_slots
        ∙ front_is s.growers grower slots_here (groups s.growers order next.more) (in_group s.growers order grower) (in_others s.growers order grower next.more next_rises.0)

    pub run_some : 0 < length (run_from s.growers i order)
    run_some = rw run_is next_held.0

    pub line_room : at + 81 ≤ length t
    line_room = omega (arith, l.ends, ap length next.is, l.room, l.size)

    module _ {x : Totals} (e : x ≡ totals_of (records_at s (run_from s.growers i order))) where
      totals_are : x ≡ totals_between grower grower (records_at s order)
      totals_are = e ∙ ap (λ (r : List ℕ). totals_of (records_at s r)) run_is ∙ group_totals s order grower

      pub run_light : LightTotals most_slots x
      run_light =
          subst (LightTotals most_slots) (sym (e ∙ ap (λ (r : List ℕ). totals_of (records_at s r)) run_is))
          (slots_light s l.ready slots_here (omega (arith, l.few, keep_fewer (λ (j : ℕ). eqb (get_or s.growers j 0) grower) order)))

      pub lines_next : {t' : List ℕ} {sums' : Totals} {n : ℕ} → t' ≡ placed at (line_text (record { grower = grower_at s.growers order i; totals = x })) t
          → sums' ≡ plus_totals sums x → n ≡ i + length (run_from s.growers i order) → LinesLeft t₀ order s t' sums' (at + 81) n
      unfolding flatten lines_totals sum_of
      lines_next {t'} {sums'} {n} q p z =
          let bag : List Delivery = records_at s order in
          let here : List ℕ = line_text (line_of bag grower) in
          let rest : List ℕ = text_of s order next.more in
          let k : n ≡ i + length slots_here = z ∙ ap (λ (r : List ℕ). i + length r) run_is in
          let b : length here ≡ 81 = length_wide _ in
          let f : length rest ≡ 81 * length next.more = length_text s order next.more in
          let q' : t' ≡ placed at here t = q ∙ ap₂ (λ (g : ℕ) (v : Totals). placed at (line_text (record { grower = g; totals = v })) t) grower_is totals_are in
          let w : text_of s order l.growers ≡ here ++ rest = ap (text_of s order) next.is in
          let u : plus_totals sums x ≡ plus_totals sums (totals_between grower grower bag) = ap (plus_totals sums) totals_are in
          let v : plus_totals sums (lines_totals (lines_of s order (grower ∷ next.more))) ≡ totals_of bag
          = ap (λ (es : List ℕ). plus_totals sums (lines_totals (lines_of s order es))) (sym next.is) ∙ l.added in
          record {
            ready = l.ready;
            few = l.few;
            growers = next.more;
            rises = next_rises.1;
            held = next_held.1;
            passed = omega (arith, l.passed, k, ap length next_slots, length-append slots_here (groups s.growers order next.more), length-drop i order);
            slots =
                ap (λ (j : ℕ). drop j order) k ∙ sym (drop-drop (length slots_here) i order) ∙ ap (drop (length slots_here)) next_slots
                ∙ drop_at slots_here (groups s.growers order next.more) (length slots_here) refl;
            size = ap length q' ∙ length-placed at here t (omega (arith, line_room)) ∙ l.size;
            room = l.room;
            ends = omega (arith, l.ends, ap length next.is);
            work =
                ap (placed (at + 81) rest) q'
                ∙ placed-joined at (at + 81) here rest t (omega arith) (omega (arith, l.ends, ap length next.is, l.room, l.size))
                ∙ ap (λ (x : List ℕ). placed at x t) (sym w)
                ∙ l.work;
            added = ap (λ (x : Totals). plus_totals x (lines_totals (lines_of s order next.more))) (p ∙ u) ∙ totals_by (omega arith) (omega arith) (omega arith) ∙ v;
          }

  module _ (h : length order ≤ i) where
    none_left : l.growers ≡ []
    unfolding flatten All
    none_left = go l.growers l.held (sym l.slots ∙ drop_of_length-le order h)
      where
        go : (es : List ℕ) → All (λ (g : ℕ). 0 < length (slots_of s.growers order g)) es → groups s.growers order es ≡ [] → es ≡ []
        go [] p e = refl
        go (g ∷ es) p e = absurd (omega (arith, p.0, ap length e, length-append (slots_of s.growers order g) (groups s.growers order es)))

    pub lines_bytes : at ≡ 81 * length (growers_once s order)
    lines_bytes = omega (arith, l.ends, ap length none_left)

    pub lines_text : t ≡ placed 0 (flatten (map line_text (sheet_lines (records_at s order)))) t₀
    unfolding flatten
    lines_text =
        sym (placed_none at t)
        ∙ ap (λ (es : List ℕ). placed at (text_of s order es) t) (sym none_left)
        ∙ l.work
        ∙ ap (λ (x : List SheetLine). placed 0 (flatten (map line_text x)) t₀) (sym (lines_are s order))

    pub lines-totals : sums ≡ totals_of (records_at s order)
    unfolding lines_totals sum_of
    lines-totals =
        totals_by (omega arith) (omega arith) (omega arith)
        ∙ ap (λ (es : List ℕ). plus_totals sums (lines_totals (lines_of s order es))) (sym none_left)
        ∙ l.added
