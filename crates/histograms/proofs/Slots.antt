-- Slots that are raised together: test by test, store by store. Assumes nothing.
use Prim.Native.Nat.{ℕ, zero, suc, ◌+◌, ◌-◌, ◌*◌, ◌≤◌, ◌<◌}
use mathlib.Core.Path.{◌≡◌, refl, sym, ap, ◌∙◌}
use mathlib.Core.Bool.{Bool, true, false, ◌&&◌}
use mathlib.Core.List.{List, [], ◌∷◌, map}
use native.Mathlib.Omega.{arith}
use native.Mathlib.Numerals.{add-one}
use borrow.Author.Tests.{lt-ltb, le-ltb}
use lib.Dec.{T, leb, ltb, ltb→lt, lt→ltb, leb→le, le→leb}
use lib.ListN.{length, get_or, set, take, drop, length-set}
use lib.Seq.{drop-cons, get_or-set_other}
use Rattle.model.specs.Bounds.{most_count}
use Rattle.model.specs.Lists.{every, up_from}
use Rattle.model.specs.Histograms.{Entry, at, sc, position, slot, histograms_size, raise, raise_all, room_to_raise}
use Rattle.model.proofs.Tests.{and_fst, and_snd, same_test, of_true}
use Rattle.histograms.specs.Raising.{recorded, raise_slots, room_at, raised_at, span_slots}

-- Check 10, slot by slot.

module _ (hs : List ℕ) where
  pub room_none : room_at hs [] ≡ true
  unfolding room_at every
  room_none = refl

  pub room_no : (k : ℕ) (ks : List ℕ) → most_count ≤ get_or hs k 0 → room_at hs (k ∷ ks) ≡ false
  unfolding room_at every
  room_no k ks h = rw (le-ltb (get_or hs k 0) most_count h)

  pub room_yes : (k : ℕ) (ks : List ℕ) → get_or hs k 0 < most_count → room_at hs (k ∷ ks) ≡ room_at hs ks
  unfolding room_at every
  room_yes k ks h = rw (lt-ltb (get_or hs k 0) most_count h)

  pub not_raised : (ks : List ℕ) → room_at hs ks ≡ false → recorded 10 hs ≡ raised_at hs ks
  unfolding raised_at
  not_raised ks e = rw e

  pub all_raised : (ks ls : List ℕ) → room_at hs ks ≡ true → ls ≡ raise_slots hs ks → recorded 0 ls ≡ raised_at hs ks
  unfolding raised_at
  all_raised ks ls e f = rw (e, f)

  -- one count raised
  abbrev pub plus_one : ℕ → List ℕ
  plus_one k = set hs k (get_or hs k 0 + 1)

  raise_first : (k : ℕ) (ks : List ℕ) → raise_slots (plus_one k) ks ≡ raise_slots hs (k ∷ ks)
  unfolding raise_slots
  raise_first k ks = refl

  pub raise_none : hs ≡ raise_slots hs []
  unfolding raise_slots
  raise_none = refl

  pub raise-on : (ls ms : List ℕ) (k : ℕ) (ks : List ℕ) → ls ≡ plus_one k → ms ≡ raise_slots ls ks → ms ≡ raise_slots hs (k ∷ ks)
  raise-on ls ms k ks e f = f ∙ ap (λ (l : List ℕ). raise_slots l ks) e ∙ raise_first k ks

  -- a store at j leaves what a later slot holds
  other_kept : (j k v : ℕ) → j < k → get_or (set hs j v) k 0 ≡ get_or hs k 0
  other_kept j k v h = get_or-set_other hs j k v 0 (λ e. omega arith)

  pub later_ready : (ls : List ℕ) (j k : ℕ) → ls ≡ plus_one j → j < k → k < length hs → get_or hs k 0 < most_count → (k < length ls) × (get_or ls k 0 < most_count)
  later_ready ls j k e h l m = (rw (e, length-set) l, rw (e, other_kept j k (get_or hs j 0 + 1) h) m)

-- Slots one after the other.

up_next : (i t : ℕ) → i < t → up_from i (t - i) ≡ i ∷ up_from (i + 1) (t - (i + 1))
unfolding up_from
up_next i t h =
    let e : t - i ≡ suc (t - (i + 1)) = omega arith in
    rw e

up_none : (i t : ℕ) → t ≤ i → up_from i (t - i) ≡ []
unfolding up_from
up_none i t h =
    let e : t - i ≡ 0 = omega arith in
    rw e

-- a store ahead of them changes none
pub room_kept : (hs : List ℕ) (k v f n : ℕ) → k < f → room_at (set hs k v) (up_from f n) ≡ room_at hs (up_from f n)
unfolding room_at every up_from
room_kept hs k v f zero h = refl
room_kept hs k v f (suc n) h =
    ap (λ (x : ℕ). ltb x most_count && room_at (set hs k v) (up_from (f + 1) n)) (other_kept hs k f v h)
    ∙ ap (λ (b : Bool). ltb (get_or hs f 0) most_count && b) (room_kept hs k v (f + 1) n (omega arith))

below_million : (x : ℕ) → ltb x most_count ≡ leb x (most_count - 1)
below_million x =
    same_test _ _ (λ t. le→leb x (most_count - 1) (omega (arith, ltb→lt x most_count t))) (λ t. lt→ltb x most_count (omega (arith, leb→le x (most_count - 1) t)))

-- the test of the part that is lent
room_part : (hs : List ℕ) (f n : ℕ) → f + n ≤ length hs → room_at hs (up_from f n) ≡ every (λ (x : ℕ). leb x (most_count - 1)) (take n (drop f hs))
unfolding room_at every up_from
room_part hs f zero h = refl
room_part hs f (suc n) h =
    ap (λ (b : Bool). b && room_at hs (up_from (f + 1) n)) (below_million (get_or hs f 0))
    ∙ ap (λ (b : Bool). leb (get_or hs f 0) (most_count - 1) && b) (room_part hs (f + 1) n (omega arith))
    ∙ sym (ap (λ (l : List ℕ). every (λ (x : ℕ). leb x (most_count - 1)) (take (suc n) l)) (drop-cons hs f 0 (omega arith) ∙ ap (λ (m : ℕ). get_or hs f 0 ∷ drop m hs) (sym (add-one f))))

-- what is left to raise at i
pub record Rest (hs₀ hs : List ℕ) (f t i : ℕ) : Type 0 where
  pub at : i ≤ t
  pub fits : t ≤ length hs₀
  pub size : length hs ≡ length hs₀
  pub room : T (room_at hs (up_from i (t - i)))
  pub same : raise_slots hs (up_from i (t - i)) ≡ raise_slots hs₀ (up_from f (t - f))

pub rest_start : (hs : List ℕ) (f t : ℕ) → f ≤ t → t ≤ length hs → T (room_at hs (up_from f (t - f))) → Rest hs hs f t f
rest_start hs f t h k r = record { at = h; fits = k; size = refl; room = r; same = refl }

module _ (hs₀ hs : List ℕ) (f t i : ℕ) (h : i < t) (w : Rest hs₀ hs f t i) where
  both : T (ltb (get_or hs i 0) most_count && room_at hs (up_from (i + 1) (t - (i + 1))))
  unfolding room_at every
  both = rw (up_next i t h) at w.room

  pub rest_low : get_or hs i 0 < most_count
  rest_low = ltb→lt (get_or hs i 0) most_count (and_fst (ltb (get_or hs i 0) most_count) (room_at hs (up_from (i + 1) (t - (i + 1)))) both)

  pub rest_next : Rest hs₀ (plus_one hs i) f t (i + 1)
  rest_next =
      record {
        at = omega arith;
        fits = w.fits;
        size = length-set hs i (get_or hs i 0 + 1) ∙ w.size;
        room = rw (room_kept hs i (get_or hs i 0 + 1) (i + 1) (t - (i + 1)) (omega arith)) (and_snd (ltb (get_or hs i 0) most_count) (room_at hs (up_from (i + 1) (t - (i + 1)))) both);
        same = raise_first hs i (up_from (i + 1) (t - (i + 1))) ∙ ap (raise_slots hs) (sym (up_next i t h)) ∙ w.same;
      }

pub rest_end : (hs₀ hs : List ℕ) (f t i : ℕ) → t ≤ i → Rest hs₀ hs f t i → hs ≡ raise_slots hs₀ (up_from f (t - f))
rest_end hs₀ hs f t i h w = raise_none hs ∙ ap (raise_slots hs) (sym (up_none i t h)) ∙ w.same

-- L is the block limit: entries as slots, and a range's slots over blocks a to b.

module _ (L : ℕ) where
  pub room_slots : (hs : List ℕ) (es : List Entry) → room_at hs (map (slot L) es) ≡ room_to_raise L hs es
  unfolding room_at room_to_raise every
  room_slots hs [] = refl
  room_slots hs (e ∷ es) = ap (λ (b : Bool). ltb (get_or hs (slot L e) 0) most_count && b) (room_slots hs es)

  pub raise-slots : (hs : List ℕ) (es : List Entry) → raise_slots hs (map (slot L) es) ≡ raise_all L hs es
  unfolding raise_slots raise_all raise
  raise-slots hs [] = refl
  raise-slots hs (e ∷ es) = raise-slots (raise L hs e) es

  scan_slots : (f n : ℕ) → map (slot L) (map (at sc) (up_from f n)) ≡ up_from (3 * L + f) n
  unfolding slot position up_from
  scan_slots f zero = refl
  scan_slots f (suc n) =
      let e : 3 * L + (f + 1) ≡ 3 * L + f + 1 = omega arith in
      ap (λ (l : List ℕ). (3 * L + f) ∷ l) (scan_slots (f + 1) n ∙ ap (λ (k : ℕ). up_from k n) e)

  span-slots : (a b : ℕ) → span_slots L a b ≡ (1 * L + a) ∷ (2 * L + b) ∷ up_from (3 * L + (a + 1)) (b - (a + 1))
  unfolding slot position
  span-slots a b = ap (λ (l : List ℕ). (1 * L + a) ∷ (2 * L + b) ∷ l) (scan_slots (a + 1) (b - (a + 1)))

  -- where the counts of a range stand: its first and last block's at j and k, those between from f to t - 1
  pub record Span (hs : List ℕ) (a b j k f t : ℕ) : Type 0 where
    pub rises : a < b
    pub below : b < L
    pub long : length hs ≡ histograms_size L
    pub first : j ≡ 1 * L + a
    pub last : k ≡ 2 * L + b
    pub from : f ≡ 3 * L + (a + 1)
    pub stop : t ≡ 3 * L + b

  pub the_span : {hs : List ℕ} {a b j k f t : ℕ} → a < b → b < L → length hs ≡ histograms_size L → j ≡ 1 * L + a → k ≡ 2 * L + b → f ≡ 3 * L + (a + 1) → t ≡ 3 * L + b
      → Span hs a b j k f t
  the_span r l n i k f t = record { rises = r; below = l; long = n; first = i; last = k; from = f; stop = t }

  module _ {hs : List ℕ} {a b j k f t : ℕ} (w : Span hs a b j k f t) where
    pub span_inside : (j < length hs) × (j < k) × (k < length hs) × (f ≤ t) × (t ≤ length hs)
    span_inside = omega (arith, w.rises, w.below, w.long, w.first, w.last, w.from, w.stop)

    span_are : span_slots L a b ≡ j ∷ k ∷ up_from f (t - f)
    span_are =
        let e : b - (a + 1) ≡ t - f = omega (arith, w.rises, w.from, w.stop) in
        span-slots a b ∙ rw (sym w.first, sym w.last, sym w.from, e)

    -- check 10, count by count, and the test of the part between the ends
    pub span_room : room_at hs (span_slots L a b) ≡ room_at hs (j ∷ k ∷ up_from f (t - f))
    span_room = ap (room_at hs) span_are

    pub span-part : (r b : Bool) → r ≡ every (λ (x : ℕ). leb x (most_count - 1)) (take (t - f) (drop f hs)) → r ≡ b → room_at hs (up_from f (t - f)) ≡ b
    span-part r b e h = room_part hs f (t - f) (omega (arith, span_inside)) ∙ sym e ∙ h

    module _ {ls ms : List ℕ} (e : ls ≡ plus_one hs j) (g : ms ≡ plus_one ls k) where
      -- with both ends raised, those between have the room that they had
      pub span_ready : room_at hs (up_from f (t - f)) ≡ true → (f ≤ t) × (t ≤ length ms) × T (room_at ms (up_from f (t - f)))
      span_ready r =
          let i = span_inside in
          let n : length ms ≡ length hs = ap length g ∙ length-set ls k _ ∙ ap length e ∙ length-set hs j _ in
          let q : room_at ms (up_from f (t - f)) ≡ true
          = ap (λ (m : List ℕ). room_at m (up_from f (t - f))) g
          ∙ room_kept ls k _ f (t - f) (omega (arith, w.below, w.last, w.from))
          ∙ ap (λ (m : List ℕ). room_at m (up_from f (t - f))) e
          ∙ room_kept hs j _ f (t - f) (omega (arith, w.rises, w.below, w.first, w.from))
          ∙ r in
          (i.3, omega (arith, i.4, n), of_true _ q)

      pub span_raised : (ns : List ℕ) → ns ≡ raise_slots ms (up_from f (t - f)) → ns ≡ raise_slots hs (span_slots L a b)
      span_raised ns r = raise-on hs ls ns j _ e (raise-on ls ms ns k _ g r) ∙ ap (raise_slots hs) (sym span_are)
