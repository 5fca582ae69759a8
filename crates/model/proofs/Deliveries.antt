-- Deliveries: one that is among others, and the slots as rows. Assumes nothing.
use Prim.Native.Nat.{ℕ, zero, suc, ◌+◌, ◌-◌, ◌≤◌, ◌<◌, min}
use mathlib.Core.Path.{◌≡◌, refl, sym, ap, ◌∙◌, subst}
use mathlib.Core.Bool.{Bool, true, false, cond, ◌&&◌, ◌||◌}
use mathlib.Core.List.{List, [], ◌∷◌, ◌++◌, map}
use native.Mathlib.Omega.{arith}
use borrow.Author.Tests.{lt-ltb}
use lib.Dec.{T, leb, ltb, eqb, eqb→eq, leb-suc-suc}
use lib.ListN.{length, get_or, take, drop, length-take, length-drop, length-map}
use native.Mathlib.Numerals.{add-one}
use lib.Seq.{get_or-take, get_or-drop, drop-cons}
use Rattle.model.specs.declared.Delivery.{Delivery}
use Rattle.model.specs.Bounds.{most_weight, most_yield, most_day}
use Rattle.model.specs.Lists.{every}
use Rattle.model.specs.Deliveries.{delivery, grower_of, weight_of, yield_of, day_of, Slices, slices_of, zipped, rows, Even, slices_for, each_slice, joined, in_range, day_ok, same, among, first_match}
use Rattle.model.proofs.ListLaws.{map-take}
use Rattle.model.proofs.Tests.{and_fst, and_snd, same_test, pairs_swap, or_fst, or_snd}

abbrev pub nobody : Delivery
nobody = delivery 0 0 0 0

-- deliveries of the same grower, weight, yield and day are equal
pub same_equal : (a b : Delivery) → T (same a b) → a ≡ b
same_equal a b t =
    let g = eqb a.grower b.grower in
    let w = eqb a.weight b.weight in
    let y = eqb a.oil_yield b.oil_yield in
    let n = eqb a.day b.day in
    let v = and_fst (g && w && y) n t in
    let u = and_fst (g && w) y v in
    let eg : a.grower ≡ b.grower = eqb→eq _ _ (and_fst g w u) in
    let ew : a.weight ≡ b.weight = eqb→eq _ _ (and_snd g w u) in
    let ey : a.oil_yield ≡ b.oil_yield = eqb→eq _ _ (and_snd (g && w) y v) in
    let en : a.day ≡ b.day = eqb→eq _ _ (and_snd (g && w && y) n t) in
    λ i. delivery (eg i) (ew i) (ey i) (en i)

pub record Found (d : Delivery) (l : List Delivery) : Type 0 where
  pub index : ℕ
  pub inside : index < length l
  pub equal : T (same d (get_or l index nobody))

pub found : (d : Delivery) (l : List Delivery) → T (among d l) → Found d l
unfolding among
found d [] h = absurd h
found d (r ∷ l) h = go (same d r) refl h (found d l)
  where
    go : (b : Bool) → same d r ≡ b → T (b || among d l) → (T (among d l) → Found d l) → Found d (r ∷ l)
    go true e t f = record { index = 0; inside = omega arith; equal = subst T (sym e) tt }
    go false e t f = let k = f t in record { index = suc k.index; inside = omega (arith, k.inside); equal = k.equal }

found_is : (d : Delivery) (l : List Delivery) (i : ℕ) → i < length l → T (same d (get_or l i nobody)) → T (among d l)
unfolding among
found_is d [] i h e = absurd (omega arith)
found_is d (r ∷ l) zero h e = or_fst (same d r) (among d l) e
found_is d (r ∷ l) (suc i) h e = or_snd (same d r) (among d l) (found_is d l i (omega arith) e)

-- the first match is one of them just if there is one
pub first_among : (d : Delivery) (l : List Delivery) → ltb (first_match d l) (length l) ≡ among d l
unfolding among first_match
first_among d [] = refl
first_among d (r ∷ l) = go (same d r) (first_among d l)
  where
    go : (b : Bool) → ltb (first_match d l) (length l) ≡ among d l → ltb (cond b 0 (first_match d l + 1)) (length (r ∷ l)) ≡ (b || among d l)
    go true e = lt-ltb 0 (suc (length l)) (omega arith)
    go false e = ap (λ (n : ℕ). ltb n (suc (length l))) (add-one (first_match d l)) ∙ leb-suc-suc (suc (first_match d l)) (length l) ∙ e

-- the part of a list that holds every match holds what the list holds
pub among-part : (d : Delivery) (a n m : ℕ) (l : List Delivery) → a + n ≤ m
    → ((i : ℕ) → i < m → i < length l → T (same d (get_or l i nobody)) → (a ≤ i) × (i < a + n)) → among d (take n (drop a l)) ≡ among d (take m l)
among-part d a n m l h only = same_test _ _ out back
  where
    out : T (among d (take n (drop a l))) → T (among d (take m l))
    out t =
        let k = found d (take n (drop a l)) t in
        let i : ℕ = k.index in
        let b : i < min n (length l - a) = rw (length-take, length-drop) at k.inside in
        found_is d (take m l) (a + i) (rw length-take (omega arith)) (rw (get_or-take m l (a + i) nobody (omega arith)) (rw (get_or-take n (drop a l) i nobody (omega arith), get_or-drop) at k.equal))

    back : T (among d (take m l)) → T (among d (take n (drop a l)))
    back t =
        let k = found d (take m l) t in
        let i : ℕ = k.index in
        let b : i < min m (length l) = rw length-take at k.inside in
        let e : T (same d (get_or l i nobody)) = rw (get_or-take m l i nobody (omega arith)) at k.equal in
        let w = only i (omega arith) (omega arith) e in
        let q : a + (i - a) ≡ i = omega arith in
        found_is d (take n (drop a l)) (i - a) (rw (length-take, length-drop) (omega arith)) (rw (get_or-take n (drop a l) (i - a) nobody (omega arith), get_or-drop, q) e)

-- The slots of the slices as rows.

-- the slices that hold deliveries have these as rows
pub rows_for : (l : List Delivery) → rows (slices_for l) ≡ l
unfolding zipped
rows_for [] = refl
rows_for (d ∷ l) = ap (λ (t : List Delivery). d ∷ t) (rows_for l)

even_zipped : (g w y n : List ℕ) → length w ≡ length g → length y ≡ length g → length n ≡ length g → slices_for (zipped g w y n) ≡ slices_of g w y n
unfolding zipped
even_zipped [] [] [] [] p q r = refl
even_zipped [] [] [] (d ∷ n) p q r = absurd (omega arith)
even_zipped [] [] (c ∷ y) n p q r = absurd (omega arith)
even_zipped [] (b ∷ w) y n p q r = absurd (omega arith)
even_zipped (a ∷ g) [] y n p q r = absurd (omega arith)
even_zipped (a ∷ g) (b ∷ w) [] n p q r = absurd (omega arith)
even_zipped (a ∷ g) (b ∷ w) (c ∷ y) [] p q r = absurd (omega arith)
even_zipped (a ∷ g) (b ∷ w) (c ∷ y) (d ∷ n) p q r = ap (joined (slices_for (delivery a b c d ∷ []))) (even_zipped g w y n (omega arith) (omega arith) (omega arith))

-- slices of one length are those that hold their rows
pub slices_for_lem : (s : Slices) → Even s → slices_for (rows s) ≡ s
slices_for_lem s e = even_zipped s.growers s.weights s.yields s.days e.weights e.yields e.days

pub length-rows : (s : Slices) → Even s → length (rows s) ≡ length s.growers
length-rows s e = sym (length-map (rows s) grower_of) ∙ ap (λ (t : Slices). length t.growers) (slices_for_lem s e)

-- the slices that hold the first rows are the front of each
pub slices_front : (m : ℕ) (s : Slices) → Even s → slices_for (take m (rows s)) ≡ each_slice (take m) s
slices_front m s e =
    let l : List Delivery = rows s in
    rw (map-take grower_of m l, map-take weight_of m l, map-take yield_of m l, map-take day_of m l) (ap (each_slice (take m)) (slices_for_lem s e))

pub rows_grower : (s : Slices) (i : ℕ) → i < length (rows s) → (get_or (rows s) i nobody).grower ≡ get_or s.growers i 0
unfolding zipped
rows_grower s = go s.growers s.weights s.yields s.days
  where
    go : (g w y n : List ℕ) (i : ℕ) → i < length (zipped g w y n) → (get_or (zipped g w y n) i nobody).grower ≡ get_or g i 0
    go [] w y n i h = absurd (omega arith)
    go (a ∷ g) [] y n i h = absurd (omega arith)
    go (a ∷ g) (b ∷ w) [] n i h = absurd (omega arith)
    go (a ∷ g) (b ∷ w) (c ∷ y) [] i h = absurd (omega arith)
    go (a ∷ g) (b ∷ w) (c ∷ y) (d ∷ n) zero h = refl
    go (a ∷ g) (b ∷ w) (c ∷ y) (d ∷ n) (suc i) h = go g w y n i (omega arith)

zipped_no_weights : (g y n : List ℕ) → zipped g [] y n ≡ []
unfolding zipped
zipped_no_weights [] y n = refl
zipped_no_weights (x ∷ g) y n = refl

zipped_no_yields : (g w n : List ℕ) → zipped g w [] n ≡ []
unfolding zipped
zipped_no_yields [] w n = refl
zipped_no_yields (x ∷ g) [] n = refl
zipped_no_yields (x ∷ g) (z ∷ w) n = refl

zipped_no_days : (g w y : List ℕ) → zipped g w y [] ≡ []
unfolding zipped
zipped_no_days [] w y = refl
zipped_no_days (x ∷ g) [] y = refl
zipped_no_days (x ∷ g) (z ∷ w) [] = refl
zipped_no_days (x ∷ g) (z ∷ w) (v ∷ y) = refl

zipped-take : (k : ℕ) (g w y n : List ℕ) → zipped (take k g) (take k w) (take k y) (take k n) ≡ take k (zipped g w y n)
unfolding zipped
zipped-take zero g w y n = refl
zipped-take (suc k) [] w y n = refl
zipped-take (suc k) (a ∷ g) [] y n = refl
zipped-take (suc k) (a ∷ g) (b ∷ w) [] n = refl
zipped-take (suc k) (a ∷ g) (b ∷ w) (c ∷ y) [] = refl
zipped-take (suc k) (a ∷ g) (b ∷ w) (c ∷ y) (d ∷ n) = ap (λ (t : List Delivery). delivery a b c d ∷ t) (zipped-take k g w y n)

zipped-drop : (k : ℕ) (g w y n : List ℕ) → zipped (drop k g) (drop k w) (drop k y) (drop k n) ≡ drop k (zipped g w y n)
unfolding zipped
zipped-drop zero g w y n = refl
zipped-drop (suc k) [] w y n = refl
zipped-drop (suc k) (a ∷ g) [] y n = zipped_no_weights (drop k g) _ _
zipped-drop (suc k) (a ∷ g) (b ∷ w) [] n = zipped_no_yields (drop k g) (drop k w) _
zipped-drop (suc k) (a ∷ g) (b ∷ w) (c ∷ y) [] = zipped_no_days (drop k g) (drop k w) (drop k y)
zipped-drop (suc k) (a ∷ g) (b ∷ w) (c ∷ y) (d ∷ n) = zipped-drop k g w y n

-- a part of each slice is a part of the rows
pub rows-part : (k a : ℕ) (s : Slices) → rows (each_slice (λ (l : List ℕ). take k (drop a l)) s) ≡ take k (drop a (rows s))
rows-part k a s =
    zipped-take k (drop a s.growers) (drop a s.weights) (drop a s.yields) (drop a s.days) ∙ ap (take k) (zipped-drop a s.growers s.weights s.yields s.days)

-- row i, and the rows after it
abbrev pub row_at : Slices → ℕ → Delivery
row_at s i = delivery (get_or s.growers i 0) (get_or s.weights i 0) (get_or s.yields i 0) (get_or s.days i 0)

pub rows_from : (s : Slices) (i : ℕ) → i < length s.growers → Even s → rows (each_slice (drop i) s) ≡ row_at s i ∷ rows (each_slice (drop (i + 1)) s)
unfolding zipped
rows_from s i h e =
    rw (
      drop-cons s.growers i 0 h,
      drop-cons s.weights i 0 (omega (arith, e.weights)),
      drop-cons s.yields i 0 (omega (arith, e.yields)),
      drop-cons s.days i 0 (omega (arith, e.days)),
      add-one,
    )

-- deliveries ahead of slices
pub rows-joined : (ds : List Delivery) (s : Slices) → rows (joined (slices_for ds) s) ≡ ds ++ rows s
unfolding zipped
rows-joined [] s = refl
rows-joined (d ∷ ds) s = ap (λ (l : List Delivery). d ∷ l) (rows-joined ds s)

-- Check 8 of rows is check 8 of the two slices.

abbrev weights_ok : List ℕ → Bool
weights_ok w = every (λ (n : ℕ). leb n most_weight) w

abbrev yields_ok : List ℕ → Bool
yields_ok y = every (λ (n : ℕ). leb n most_yield) y

values_for : (l : List Delivery) → every in_range l ≡ weights_ok (map weight_of l) && yields_ok (map yield_of l)
unfolding every
values_for [] = refl
values_for (d ∷ l) =
    ap (λ (t : Bool). in_range d && t) (values_for l) ∙ pairs_swap (leb d.weight most_weight) (leb d.oil_yield most_yield) (weights_ok (map weight_of l)) (yields_ok (map yield_of l))

pub values_rows : (s : Slices) → Even s → every in_range (rows s) ≡ weights_ok s.weights && yields_ok s.yields
values_rows s e = values_for (rows s) ∙ ap (λ (t : Slices). weights_ok t.weights && yields_ok t.yields) (slices_for_lem s e)

-- Check 19 of rows is check 19 of the slice of days.

abbrev days_within : List ℕ → Bool
days_within n = every (λ (k : ℕ). leb k most_day) n

days_for : (l : List Delivery) → every day_ok l ≡ days_within (map day_of l)
unfolding every
days_for [] = refl
days_for (d ∷ l) = ap (λ (t : Bool). day_ok d && t) (days_for l)

pub days_rows : (s : Slices) → Even s → every day_ok (rows s) ≡ days_within s.days
days_rows s e = days_for (rows s) ∙ ap (λ (t : Slices). days_within t.days) (slices_for_lem s e)
