-- A loop over the records of the slices, some after the others, that goes on as long as all pass checks 8 and 19. Assumes nothing.
use Prim.Native.Nat.{ℕ, ◌+◌, ◌-◌, ◌≤◌}
use mathlib.Core.Path.{◌≡◌, refl, sym, ap, ◌∙◌}
use mathlib.Core.Bool.{Bool, true, false, cond, ◌&&◌}
use mathlib.Core.List.{List, ◌++◌}
use Rattle.std.proofs.Common.{Option, Some, None}
use native.Mathlib.Omega.{arith}
use lib.Dec.{T}
use lib.ListN.{length, take, drop, length-take, take-append-drop}
use lib.Seq.{take-add, take_all, length-take-le}
use Rattle.model.specs.declared.Delivery.{Delivery}
use Rattle.model.specs.declared.Totals.{Totals}
use Rattle.model.specs.Bounds.{most_slots}
use Rattle.model.specs.Calendar.{Span}
use Rattle.model.specs.Lent.{slices_part}
use Rattle.model.specs.Lists.{sum_of, every, keep}
use Rattle.model.specs.Deliveries.{Slices, rows, Even, LightTotals, plus_totals, in_range, day_ok, no_totals, totals_of, totals_between, totals_during, first_match}
use Rattle.model.proofs.Tests.{and_fst, and_snd, of_true, is_true}
use Rattle.model.proofs.ListLaws.{every-joined}
use Rattle.model.proofs.Deliveries.{rows-part, length-rows, values_rows}
use Rattle.model.proofs.DayLaws.{every_day_lem}
use Rattle.checks.specs.Values.{all_values_ok}
use Rattle.slices.specs.Slices.{all_within, Measured}
use Rattle.slices.proofs.Sums.{during-joined, during_light}
use Rattle.slices.proofs.Matching.{first_joined}
use Rattle.scan.specs.Scans.{all_fit, if_fit, every_day, sought}

-- What an answer says.

pub fit_some : {A : Type 0} (ds : List Delivery) (x a : A) → Some x ≡ if_fit ds a → (all_fit ds ≡ true) × (x ≡ a)
fit_some ds x a e = go (all_fit ds) e
  where
    go : (t : Bool) → Some x ≡ cond t (Some a) None → (t ≡ true) × (x ≡ a)
    go true h = (refl, cc)
    go false h = absurd (cc)

pub fit_none : {A : Type 0} (ds : List Delivery) (a : A) → None ≡ if_fit ds a → all_fit ds ≡ false
fit_none ds a e = go (all_fit ds) e
  where
    go : (t : Bool) → None ≡ cond t (Some a) None → t ≡ false
    go true h = absurd (cc)
    go false h = refl

pub fit_yes : {A : Type 0} (ds : List Delivery) (x a : A) → all_fit ds ≡ true → x ≡ a → Some x ≡ if_fit ds a
fit_yes ds x a e h = rw (e, h)

pub fit_no : {A : Type 0} (ds : List Delivery) (a : A) → all_fit ds ≡ false → None ≡ if_fit ds a
fit_no ds a e = rw e

-- Records that all pass.

pub values_pass : (ds : List Delivery) → all_fit ds ≡ true → every in_range ds ≡ true
values_pass ds e = is_true _ (and_fst (every in_range ds) (every day_ok ds) (of_true _ e))

pub days_pass : (ds : List Delivery) → all_fit ds ≡ true → every day_ok ds ≡ true
days_pass ds e = is_true _ (and_snd (every in_range ds) (every day_ok ds) (of_true _ e))

pub measured : (s : Slices) → length s.growers ≤ most_slots → Even s → all_fit (rows s) ≡ true → Measured s
measured s h p e =
    let t : T (all_values_ok s.weights s.yields) = of_true _ (sym (values_rows s p) ∙ values_pass (rows s) e) in
    record {
      few = h;
      even = p;
      good_weights = and_fst (all_within 100000 s.weights) (all_within 10000 s.yields) t;
      good_yields = and_snd (all_within 100000 s.weights) (all_within 10000 s.yields) t;
    }

-- over every day no day need be tested
pub over_every_day : (lo hi : ℕ) (ds : List Delivery) → T (every day_ok ds) → totals_between lo hi ds ≡ totals_during lo hi every_day ds
over_every_day lo hi ds t = sym (every_day_lem lo hi ds t)

-- two tests of each of two parts
and_swap : (a b c d : Bool) → (a && b) && (c && d) ≡ (a && c) && (b && d)
and_swap true true c d = refl
and_swap true false true d = refl
and_swap true false false d = refl
and_swap false b c d = refl

pub fit_joined : (a b : List Delivery) → all_fit (a ++ b) ≡ all_fit a && all_fit b
fit_joined a b =
    rw (every-joined in_range a b, every-joined day_ok a b) (and_swap (every in_range a) (every in_range b) (every day_ok a) (every day_ok b))

-- where the first part passes and the second doesn't, the whole doesn't
pub fit_broken : (a b c : List Delivery) → all_fit a ≡ true → all_fit b ≡ false → all_fit ((a ++ b) ++ c) ≡ false
fit_broken a b c e f = fit_joined (a ++ b) c ∙ ap (λ (t : Bool). t && all_fit c) (fit_joined a b ∙ (λ i. e i && f i))

pub totals_small : (lo hi : ℕ) (z : Span) (ds : List Delivery) → all_fit ds ≡ true → length ds ≤ most_slots → (t : Totals) → t ≡ totals_during lo hi z ds
    → LightTotals most_slots t
totals_small lo hi z ds e h t f = rw f (during_light lo hi z most_slots ds (of_true _ (values_pass ds e)) h)

-- The loop: the first i records all pass, and a is what they give.

pub record Fitting {A : Type 0} (all : List Delivery → A) (ss : Slices) (a : A) (i : ℕ) : Type 0 where
  pub at : i ≤ length ss.growers
  pub fit : all_fit (take i (rows ss)) ≡ true
  pub so_far : a ≡ all (take i (rows ss))

module _ {A : Type 0} (all : List Delivery → A) (ss : Slices) (p : Even ss) (a : A) (i : ℕ) (k : Fitting all ss a i) where
  -- the records lent, from i to e
  lent : (e : ℕ) → rows (slices_part i e ss) ≡ take (e - i) (drop i (rows ss))
  lent e = rows-part (e - i) i ss

  -- n records more, by a step `more` that goes on from what the records before gave
  module _ (e : ℕ) (ds : List Delivery) (o : ds ≡ rows (slices_part i e ss)) (h : i ≤ e) (m : e ≤ length ss.growers) where
    upto : take e (rows ss) ≡ take i (rows ss) ++ ds
    upto =
        let z : e ≡ i + (e - i) = omega arith in
        ap (λ (n : ℕ). take n (rows ss)) z ∙ take-add i (e - i) (rows ss) ∙ ap (λ (l : List Delivery). take i (rows ss) ++ l) (sym (o ∙ lent e))

    pub fitting_next : (more : A → ℕ → List Delivery → A) → ((x y : List Delivery) → all (x ++ y) ≡ more (all x) (length x) y)
        → all_fit ds ≡ true → (r : A) → r ≡ more a i ds → Fitting all ss r e
    fitting_next more joined f r q =
        let z : length (take i (rows ss)) ≡ i = length-take-le i (rows ss) (omega (arith, k.at, length-rows ss p)) in
        record {
          at = m;
          fit = ap all_fit upto ∙ fit_joined (take i (rows ss)) ds ∙ (λ j. k.fit j && f j);
          so_far = q ∙ ap (λ (x : A). more x i ds) k.so_far ∙ ap (λ (n : ℕ). more (all (take i (rows ss))) n ds) (sym z) ∙ sym (joined (take i (rows ss)) ds) ∙ ap all (sym upto);
        }

    pub fitting_not : all_fit ds ≡ false → all_fit (rows ss) ≡ false
    fitting_not f =
        ap all_fit (sym (take-append-drop e (rows ss)) ∙ ap (λ (l : List Delivery). l ++ drop e (rows ss)) upto) ∙ fit_broken (take i (rows ss)) ds (drop e (rows ss)) k.fit f

  pub fitting_end : length ss.growers ≤ i → (all_fit (rows ss) ≡ true) × (a ≡ all (rows ss))
  fitting_end h =
      let z : take i (rows ss) ≡ rows ss = take_all i (rows ss) (omega (arith, length-rows ss p)) in
      (rw z at k.fit, k.so_far ∙ ap all z)

pub sum_start : (lo hi : ℕ) (z : Span) (s : Slices) → Fitting (totals_during lo hi z) s no_totals 0
unfolding every keep totals_of sum_of
sum_start lo hi z s = record { at = omega arith; fit = refl; so_far = refl }

pub sum_joined : (lo hi : ℕ) (z : Span) (a b : List Delivery) → totals_during lo hi z (a ++ b) ≡ plus_totals (totals_during lo hi z a) (totals_during lo hi z b)
sum_joined lo hi z a b = during-joined lo hi z a b

-- the totals stay small
pub sum_small : (lo hi : ℕ) (z : Span) (ss : Slices) (p : Even ss) (few : length ss.growers ≤ most_slots) (t : Totals) (i : ℕ)
    → Fitting (totals_during lo hi z) ss t i → LightTotals most_slots t
sum_small lo hi z ss p few t i k = totals_small lo hi z (take i (rows ss)) k.fit (omega (arith, length-take i (rows ss), length-rows ss p)) t k.so_far

pub seek_start : (d : Delivery) (s : Slices) → Fitting (first_match d) s 0 0
unfolding every first_match
seek_start d s = record { at = omega arith; fit = refl; so_far = refl }

-- Records that were lent from i to e, and summed or searched.

module _ {A : Type 0} (all : List Delivery → A) (ss : Slices) (p : Even ss) (a : A) (i : ℕ) (k : Fitting all ss a i)
    (s : Slices) (e : ℕ) (o : s ≡ slices_part i e ss) (h : i ≤ e) (m : e ≤ length ss.growers) where
  -- one fails, and so the whole does
  pub stopped : {B : Type 0} (b : B) → None ≡ if_fit (rows s) b → None ≡ if_fit (rows ss) (all (rows ss))
  stopped b q = fit_no (rows ss) (all (rows ss)) (fitting_not all ss p a i k e (rows s) (ap rows o) h m (fit_none (rows s) b q))

pub sum_next : (lo hi : ℕ) (z : Span) (ss : Slices) (p : Even ss) (t : Totals) (i : ℕ) → Fitting (totals_during lo hi z) ss t i
    → (s : Slices) (e : ℕ) → s ≡ slices_part i e ss → i ≤ e → e ≤ length ss.growers → (x : Totals) → Some x ≡ if_fit (rows s) (totals_during lo hi z (rows s))
    → (r : Totals) → r ≡ plus_totals t x → Fitting (totals_during lo hi z) ss r e
sum_next lo hi z ss p t i k s e o h m x q r f =
    let y = fit_some (rows s) x (totals_during lo hi z (rows s)) q in
    fitting_next (totals_during lo hi z) ss p t i k e (rows s) (ap rows o) h m (λ u j l. plus_totals u (totals_during lo hi z l)) (sum_joined lo hi z) y.0 r (f ∙ ap (plus_totals t) y.1)

pub seek_next : (d : Delivery) (ss : Slices) (p : Even ss) (n i : ℕ) → Fitting (first_match d) ss n i
    → (s : Slices) (e : ℕ) → s ≡ slices_part i e ss → i ≤ e → e ≤ length ss.growers → (r : ℕ)
    → Some r ≡ if_fit (rows s) (sought d n i (rows s)) → Fitting (first_match d) ss r e
seek_next d ss p n i k s e o h m r q =
    let y = fit_some (rows s) r (sought d n i (rows s)) q in
    fitting_next (first_match d) ss p n i k e (rows s) (ap rows o) h m (sought d) (first_joined d) y.0 r y.1

-- the totals of records that were lent are small
pub lent_small : (lo hi : ℕ) (z : Span) (s : Slices) → Even s → length s.growers ≤ most_slots → (x : Totals)
    → Some x ≡ if_fit (rows s) (totals_during lo hi z (rows s)) → LightTotals most_slots x
lent_small lo hi z s p few x q =
    let y = fit_some (rows s) x (totals_during lo hi z (rows s)) q in
    totals_small lo hi z (rows s) y.0 (omega (arith, length-rows s p)) x y.1

-- all records were lent
pub ended : {A : Type 0} (all : List Delivery → A) (ss : Slices) (p : Even ss) (a : A) (i : ℕ) → Fitting all ss a i → length ss.growers ≤ i → Some a ≡ if_fit (rows ss) (all (rows ss))
ended all ss p a i k h = let y = fitting_end all ss p a i k h in fit_yes (rows ss) a (all (rows ss)) y.0 y.1

-- a search of the rest of the records is one of all
pub seek_end : (d : Delivery) (ss : Slices) (p : Even ss) (n i : ℕ) → Fitting (first_match d) ss n i
    → (s : Slices) (e : ℕ) → s ≡ slices_part i e ss → i ≤ e → e ≡ length ss.growers → (r : Option ℕ)
    → r ≡ if_fit (rows s) (sought d n i (rows s)) → r ≡ if_fit (rows ss) (first_match d (rows ss))
seek_end d ss p n i k s e o h m (Some r) q = ended (first_match d) ss p r e (seek_next d ss p n i k s e o h (omega arith) r q) (omega arith)
seek_end d ss p n i k s e o h m None q = stopped (first_match d) ss p n i k s e o h (omega arith) (sought d n i (rows s)) q
