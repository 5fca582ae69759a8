-- The first m slots: what is said of them by all numbers of a slice is the same by the first m. Assumes nothing.
use Prim.Native.Nat.{ℕ, zero, suc, ◌+◌, ◌≤◌, ◌<◌}
use mathlib.Core.Path.{◌≡◌, refl, sym, ap, ap₂, ◌∙◌}
use mathlib.Core.List.{List, ◌∷◌, map, flatten}
use native.Mathlib.Omega.{arith}
use lib.Dec.{eqb}
use lib.ListN.{length, get_or, take, drop, drop_of_length-le}
use lib.Seq.{get_or-take, length-take-le}
use Rattle.model.specs.declared.Delivery.{Delivery}
use Rattle.model.specs.Lists.{up_from, keep}
use Rattle.model.specs.Calendar.{Span, is_in}
use Rattle.model.specs.Deliveries.{Slices, zipped, rows, Even, each_slice, on_days}
use Rattle.model.specs.Sheet.{each_once, slots_of, by_grower, slots_during}
use Rattle.model.proofs.Deliveries.{rows_from}
use Rattle.model.proofs.MovesKeep.{All}
use Rattle.model.proofs.GrowerLaws.{all_imply, all_keep, map_agree, keep_agree}
use Rattle.sheet_lines.specs.Runs.{delivery_at, records_at}
use Rattle.sheet_lines.proofs.GroupLines.{keep-map}

pub all_below : (m a n : ℕ) → a + n ≤ m → All (λ (i : ℕ). i < m) (up_from a n)
unfolding All up_from
all_below m a zero h = tt
all_below m a (suc n) h = (omega arith, all_below m (a + 1) n (omega arith))

-- the numbers of slots below m
same_numbers : (l : List ℕ) (m : ℕ) (is : List ℕ) → All (λ (i : ℕ). i < m) is → All (λ (i : ℕ). get_or (take m l) i 0 ≡ get_or l i 0) is
same_numbers l m is h = all_imply (λ (i : ℕ). i < m) (λ (i : ℕ). get_or (take m l) i 0 ≡ get_or l i 0) (λ i k. get_or-take m l i 0 k) is h

module _ (gs : List ℕ) (m : ℕ) (is : List ℕ) (h : All (λ (i : ℕ). i < m) is) where
  same-slots : (g : ℕ) → slots_of (take m gs) is g ≡ slots_of gs is g
  same-slots g =
      keep_agree (λ (i : ℕ). eqb (get_or (take m gs) i 0) g) (λ (i : ℕ). eqb (get_or gs i 0) g) is
      (all_imply (λ (i : ℕ). get_or (take m gs) i 0 ≡ get_or gs i 0) (λ (i : ℕ). eqb (get_or (take m gs) i 0) g ≡ eqb (get_or gs i 0) g) (λ i e. ap (λ (n : ℕ). eqb n g) e) is
      (same_numbers gs m is h))

  part_order : by_grower (take m gs) is ≡ by_grower gs is
  unfolding by_grower
  part_order =
      let f : slots_of (take m gs) is ≡ slots_of gs is = λ j g. same-slots g j in
      let e : map (λ (i : ℕ). get_or (take m gs) i 0) is ≡ map (λ (i : ℕ). get_or gs i 0) is
      = map_agree (λ (i : ℕ). get_or (take m gs) i 0) (λ (i : ℕ). get_or gs i 0) is (same_numbers gs m is h) in
      ap₂ (λ (h : ℕ → List ℕ) (l : List ℕ). flatten (map h (each_once l))) f e

-- the slots of a span of days among the first m
part-during : (s : Span) (ns : List ℕ) (m : ℕ) → slots_during s (take m ns) m ≡ slots_during s ns m
part-during s ns m =
    keep_agree (λ (i : ℕ). is_in s (get_or (take m ns) i 0)) (λ (i : ℕ). is_in s (get_or ns i 0)) (up_from 0 m)
    (all_imply (λ (i : ℕ). get_or (take m ns) i 0 ≡ get_or ns i 0) (λ (i : ℕ). is_in s (get_or (take m ns) i 0) ≡ is_in s (get_or ns i 0)) (λ i e. ap (is_in s) e) (up_from 0 m)
    (same_numbers ns m (up_from 0 m) (all_below m 0 m (omega arith))))

during_below : (s : Span) (ns : List ℕ) (m : ℕ) → All (λ (i : ℕ). i < m) (slots_during s ns m)
during_below s ns m = all_keep (λ (i : ℕ). i < m) (λ (i : ℕ). is_in s (get_or ns i 0)) (up_from 0 m) (all_below m 0 m (omega arith))

-- slots as rows
rows_at : (x : Slices) → Even x → (i n : ℕ) → i + n ≡ length x.growers → records_at x (up_from i n) ≡ rows (each_slice (drop i) x)
unfolding up_from zipped
rows_at x e i zero z =
    sym (ap (λ (l : List ℕ). zipped l (drop i x.weights) (drop i x.yields) (drop i x.days)) (drop_of_length-le x.growers {i = i} (omega arith)))
rows_at x e i (suc n) z =
    ap (λ (l : List Delivery). delivery_at x i ∷ l) (rows_at x e (i + 1) n (omega arith)) ∙ sym (rows_from x i (omega arith) e)

-- The first m slots of slices of one length: the slots of a span of days.

module _ (x : Slices) (m : ℕ) (even : Even x) (h : m ≤ length x.growers) where
  abbrev part : Slices
  part = each_slice (take m) x

  pub long_growers : length (take m x.growers) ≡ m
  long_growers = length-take-le m x.growers h

  pub long_days : length (take m x.days) ≡ m
  long_days = length-take-le m x.days (omega (arith, even.days))

  pub part_even : Even part
  part_even =
      let g = sym long_growers in
      record {
        weights = length-take-le m x.weights (omega (arith, even.weights)) ∙ g;
        yields = length-take-le m x.yields (omega (arith, even.yields)) ∙ g;
        days = long_days ∙ g;
      }

  module _ (s : Span) where
    pub part-slots : (k : ℕ) → k ≡ m → slots_during s (take m x.days) k ≡ slots_during s x.days m
    part-slots k z = ap (slots_during s (take m x.days)) z ∙ part-during s x.days m

    pub part_sorted : by_grower (take m x.growers) (slots_during s x.days m) ≡ by_grower x.growers (slots_during s x.days m)
    part_sorted = part_order x.growers m (slots_during s x.days m) (during_below s x.days m)

    pub part_records : records_at part (slots_during s x.days m) ≡ keep (on_days s) (rows part)
    part_records =
        ap (records_at part) (sym (part-slots (length (take m x.growers)) long_growers))
        ∙ keep-map (delivery_at part) (λ (i : ℕ). is_in s (get_or (take m x.days) i 0)) (on_days s) (λ i. refl) (up_from 0 (length (take m x.growers)))
        ∙ ap (keep (on_days s)) (rows_at part part_even 0 (length (take m x.growers)) (omega arith))
