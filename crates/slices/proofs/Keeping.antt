-- Weights that are kept by the days of their records, one after the other, and what records with these weights add up to. Assumes nothing.
use Prim.Native.Nat.{ℕ, zero, suc, ◌+◌, ◌*◌, ◌≤◌, ◌<◌}
use mathlib.Core.Path.{◌≡◌, refl, sym, ap, ◌∙◌}
use mathlib.Core.Bool.{Bool, true, false, cond, ◌&&◌}
use mathlib.Core.List.{List, [], ◌∷◌, ◌++◌, map}
use native.Mathlib.Omega.{arith}
use native.Mathlib.Numerals.{add-one}
use borrow.Author.Tests.{le-leb}
use lib.Dec.{T, leb}
use lib.ListN.{length, get_or, take, set, length-set}
use lib.Seq.{take_all, take-suc, take-suc-set}
use Rattle.model.specs.declared.Delivery.{Delivery}
use Rattle.model.specs.declared.Totals.{Totals}
use Rattle.model.specs.Lists.{sum_of, every, keep}
use Rattle.model.specs.Calendar.{Span, span, is_in}
use Rattle.model.specs.Deliveries.{delivery, Slices, slices_of, zipped, rows, on_days, totals_of}
use Rattle.model.proofs.Tests.{and_fst, and_snd, and_mk, of_true}
use Rattle.slices.specs.Slices.{all_within, count_between, kept_weights, Measured}
use Rattle.slices.proofs.Scans.{inside, Counting, counting_start, counting_yes, counting_no, counting_end}
use Rattle.slices.proofs.Sums.{dated}

pub kept_length : (p : Span) (ws ns : List ℕ) → length ns ≡ length ws → length (kept_weights p ws ns) ≡ length ws
unfolding kept_weights
kept_length p [] ns e = refl
kept_length p (w ∷ ws) [] e = absurd (omega arith)
kept_length p (w ∷ ws) (n ∷ ns) e = ap suc (kept_length p ws ns (omega arith))

kept_at : (p : Span) (ws ns : List ℕ) (i : ℕ) → length ns ≡ length ws → i < length ws → get_or (kept_weights p ws ns) i 0 ≡ cond (is_in p (get_or ns i 0)) (get_or ws i 0) 0
unfolding kept_weights
kept_at p [] ns i e h = absurd (omega arith)
kept_at p (w ∷ ws) [] i e h = absurd (omega arith)
kept_at p (w ∷ ws) (n ∷ ns) zero e h = refl
kept_at p (w ∷ ws) (n ∷ ns) (suc i) e h = kept_at p ws ns i (omega arith) (omega arith)

-- The loop: the weights up to i are kept, and the days up to i counted.

pub record Kept (first last : ℕ) (ws ns old s : List ℕ) (k i : ℕ) : Type 0 where
  pub size : length s ≡ length old
  pub done : take i s ≡ take i (kept_weights (span first last) ws ns)
  pub days : Counting (inside first last) ns k i

pub kept_start : (first last : ℕ) (ws ns s : List ℕ) → Kept first last ws ns s s 0 0
kept_start first last ws ns s = record { size = refl; done = refl; days = counting_start (inside first last) ns }

module _ (first last : ℕ) (ws ns old s : List ℕ) (k i : ℕ) (r : Kept first last ws ns old s k i) (h : i < length ns) (e : length ns ≡ length ws) (o : length old ≡ length ws) where
  abbrev whole : List ℕ
  whole = kept_weights (span first last) ws ns

  stored : (a : ℕ) → a ≡ cond (is_in (span first last) (get_or ns i 0)) (get_or ws i 0) 0 → take (i + 1) (set s i a) ≡ take (i + 1) whole
  stored a v =
      let x : get_or whole i 0 ≡ a = kept_at (span first last) ws ns i e (omega arith) ∙ sym v in
      ap (λ (n : ℕ). take n (set s i a)) (add-one i) ∙ take-suc-set s i a (omega (arith, r.size)) ∙ ap (λ (l : List ℕ). l ++ a ∷ []) r.done
      ∙ ap (λ (y : ℕ). take i whole ++ y ∷ []) (sym x) ∙ sym (take-suc whole i 0 (omega (arith, kept_length (span first last) ws ns e)))
      ∙ ap (λ (n : ℕ). take n whole) (sym (add-one i))

  pub kept_yes : inside first last (get_or ns i 0) ≡ true → Kept first last ws ns old (set s i (get_or ws i 0)) (k + 1) (i + 1)
  kept_yes t =
      let a = get_or ws i 0 in
      record { size = length-set s i a ∙ r.size; done = stored a (rw t); days = counting_yes (inside first last) ns k i h r.days t }

  pub kept_no : inside first last (get_or ns i 0) ≡ false → Kept first last ws ns old (set s i 0) k (i + 1)
  kept_no t = record { size = length-set s i 0 ∙ r.size; done = stored 0 (rw t); days = counting_no (inside first last) ns k i h r.days t }

pub kept_end : (first last : ℕ) (ws ns old s : List ℕ) (k i : ℕ) → Kept first last ws ns old s k i → length ns ≤ i → length ns ≡ length ws → length old ≡ length ws
    → (s ≡ kept_weights (span first last) ws ns) × (k ≡ count_between first last ns)
kept_end first last ws ns old s k i r h e o =
    let whole = kept_weights (span first last) ws ns in (
      sym (take_all i s (omega (arith, r.size))) ∙ r.done ∙ take_all i whole (omega (arith, kept_length (span first last) ws ns e)),
      counting_end (inside first last) ns k i h r.days,
    )

-- Records with the kept weights: none is heavier, and together they weigh, and give as much oil, as those on the days.

kept_within : (m : ℕ) (p : Span) (ws ns : List ℕ) → T (all_within m ws) → T (all_within m (kept_weights p ws ns))
unfolding kept_weights every
kept_within m p [] ns t = tt
kept_within m p (w ∷ ws) [] t = tt
kept_within m p (w ∷ ws) (n ∷ ns) t = go (is_in p n) (kept_within m p ws ns (and_snd (leb w m) (all_within m ws) t))
  where
    go : (b : Bool) → T (all_within m (kept_weights p ws ns)) → T (leb (cond b w 0) m && all_within m (kept_weights p ws ns))
    go true r = and_mk (leb w m) (all_within m (kept_weights p ws ns)) (and_fst (leb w m) (all_within m ws) t) r
    go false r = and_mk (leb 0 m) (all_within m (kept_weights p ws ns)) (of_true (leb 0 m) (le-leb 0 m (omega arith))) r

-- the slices with the kept weights
abbrev pub lightened : Span → Slices → Slices
lightened p s = slices_of s.growers (kept_weights p s.weights s.days) s.yields s.days

pub kept_measured : (p : Span) (s : Slices) → Measured s → Measured (lightened p s)
kept_measured p s m =
    let e = m.even in
    record {
      few = m.few;
      even = record { weights = kept_length p s.weights s.days (e.days ∙ sym e.weights) ∙ e.weights; yields = e.yields; days = e.days };
      good_weights = kept_within 100000 p s.weights s.days m.good_weights;
      good_yields = m.good_yields;
    }

-- what records add up to, by a number of weight and yield that is 0 without weight
module _ (p : Span) (f : ℕ → ℕ → ℕ) (none : (y : ℕ) → f 0 y ≡ 0) where
  abbrev added : List Delivery → ℕ
  added l = sum_of (map (λ (d : Delivery). f d.weight d.oil_yield) l)

  kept_sum : (gs ws ys ns : List ℕ) → added (zipped gs (kept_weights p ws ns) ys ns) ≡ added (keep (on_days p) (zipped gs ws ys ns))
  unfolding kept_weights zipped keep sum_of
  kept_sum [] ws ys ns = refl
  kept_sum (g ∷ gs) [] ys ns = refl
  kept_sum (g ∷ gs) (w ∷ ws) [] [] = refl
  kept_sum (g ∷ gs) (w ∷ ws) (y ∷ ys) [] = refl
  kept_sum (g ∷ gs) (w ∷ ws) [] (n ∷ ns) = refl
  kept_sum (g ∷ gs) (w ∷ ws) (y ∷ ys) (n ∷ ns) = go (is_in p n) (kept_sum gs ws ys ns)
    where
      all : List Delivery
      all = zipped gs (kept_weights p ws ns) ys ns

      some : List Delivery
      some = keep (on_days p) (zipped gs ws ys ns)

      go : (b : Bool) → added all ≡ added some → f (cond b w 0) y + added all ≡ added (cond b (delivery g w y n ∷ some) some)
      go true e = ap (λ (k : ℕ). f w y + k) e
      go false e = omega (arith, none y)

pub kept_totals : (first last : ℕ) (s : Slices) → Measured s → (k : ℕ) → k ≡ count_between first last s.days → (t : Totals) → t ≡ totals_of (rows (lightened (span first last) s))
    → ◌≡◌ {A = Totals} (record { records = k; weight = t.weight; oil = t.oil }) (totals_of (keep (on_days (span first last)) (rows s)))
unfolding totals_of
kept_totals first last s m k e t f =
    let p = span first last in
    let a = e ∙ dated 0 0 first last s m in
    let b = ap (λ (x : Totals). x.weight) f ∙ kept_sum p (λ (x y : ℕ). x) (λ y. refl) s.growers s.weights s.yields s.days in
    let c = ap (λ (x : Totals). x.oil) f ∙ kept_sum p (λ (x y : ℕ). x * y) (λ y. omega arith) s.growers s.weights s.yields s.days in
    λ i. record { records = a i; weight = b i; oil = c i }
