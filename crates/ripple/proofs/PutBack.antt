-- A column whose part from a slot on was lent to a ripple, and has come back. Assumes nothing.
use Prim.Native.Nat.{ℕ, zero, suc, ◌+◌, ◌-◌, ◌≤◌, ◌<◌}
use mathlib.Core.Path.{◌≡◌, refl, sym, ap, ◌∙◌}
use mathlib.Core.List.{List, ◌++◌, append-nil}
use native.Mathlib.Omega.{arith}
use lib.ListN.{length, get_or, take, drop, set, length-take, length-drop, drop_of_length-le}
use lib.Seq.{get_or-drop, take-take, take_all, take-set-le, drop-set-add}
use Rattle.model.specs.declared.Delivery.{Delivery}
use Rattle.model.specs.Lists.{sum_of}
use Rattle.model.specs.Deliveries.{Slices, slices_of, Even, each_slice, storing}
use Rattle.model.specs.Partitions.{start_of}
use Rattle.model.specs.Moves.{inserted, deleted, moved}
use Rattle.model.proofs.ListLaws.{sum-span, sum_cut, drop-take}
use Rattle.model.proofs.Parts.{start_rest, start_take}
use Rattle.ripple.proofs.Compose.{inserted_from, deleted_from, forward_law, within_law, backward_law}

-- the part of a list from a on, as it is lent, and the list with it put back
abbrev pub from_slot : {A : Type 0} → ℕ → List A → List A
from_slot a s = take (length s - a) (drop a s)

abbrev pub put_back : {A : Type 0} → ℕ → List A → List A → List A
put_back a s l = take a s ++ (l ++ drop (length s - a) (drop a s))

pub tail_part : {A : Type 0} (a : ℕ) (g : List A) → take (length g - a) (drop a g) ≡ drop a g
tail_part a g = take_all (length g - a) (drop a g) (omega (arith, length-drop a g))

-- the first of the lengths from t on
pub first_from : (t : ℕ) (ns : List ℕ) → get_or (from_slot t ns) 0 0 ≡ get_or ns t 0
first_from t ns =
    let e : t + 0 ≡ t = omega arith in
    rw (tail_part t ns) (get_or-drop t ns 0 0 ∙ rw e)

-- where a later partition starts there, and how long it is
pub start_from : (ns : List ℕ) (u t : ℕ) → u ≤ t → start_of ns u + start_of (from_slot u ns) (t - u) ≡ start_of ns t
unfolding start_of
start_from ns u t h = rw (tail_part u ns) (sym (sum-span ns u t h))

pub nth_from : (ns : List ℕ) (u t : ℕ) → u ≤ t → get_or (from_slot u ns) (t - u) 0 ≡ get_or ns t 0
nth_from ns u t h =
    let e : u + (t - u) ≡ t = omega arith in
    rw (tail_part u ns) (get_or-drop u ns (t - u) 0 ∙ rw e)

-- the partitions from t on, ahead of u
span_of : (ns : List ℕ) (t u : ℕ) → t ≤ u → u ≤ length ns → from_slot t (take u ns) ≡ take (u - t) (from_slot t ns)
span_of ns t u h k =
    let e : t + (u - t) ≡ u = omega arith in
    rw (tail_part t (take u ns), tail_part t ns) (sym (ap (λ (j : ℕ). drop t (take j ns)) e) ∙ drop-take t (u - t) ns)

from_length : (a : ℕ) (l : List ℕ) → length (from_slot a l) ≡ length l - a
from_length a l = simp (length-take, length-drop) (omega arith)

-- the parts from a on of even slices are even
pub from_even : (a : ℕ) (s : Slices) → Even s → Even (each_slice (from_slot a) s)
from_even a s e =
    record {
      weights = from_length a s.weights ∙ ap (λ (k : ℕ). k - a) e.weights ∙ sym (from_length a s.growers);
      yields = from_length a s.yields ∙ ap (λ (k : ℕ). k - a) e.yields ∙ sym (from_length a s.growers);
      days = from_length a s.days ∙ ap (λ (k : ℕ). k - a) e.days ∙ sym (from_length a s.growers);
    }

-- what is lent from the start of partition t on: its lengths, their sum, the slots, and the slices of one length
pub part_is : (ns : List ℕ) (t a : ℕ) (s : Slices) → a ≡ start_of ns t → Even s
    → (length (from_slot t ns) ≡ length ns - t) × (sum_of (from_slot t ns) + a ≡ sum_of ns) × (length (from_slot a s.growers) ≡ length s.growers - a)
    × Even (each_slice (from_slot a) s)
part_is ns t a s e v =
    let k = start_rest ns t in
    (from_length t ns, rw (tail_part t ns) (omega arith), from_length a s.growers, from_even a s v)

module _ {A : Type 0} where
  tail_back : (a : ℕ) (g ys : List A) → put_back a g ys ≡ take a g ++ ys
  tail_back a g ys =
      let h : length (drop a g) ≤ length g - a = omega (arith, length-drop a g) in
      rw (drop_of_length-le (drop a g) h, append-nil)

  put_law : (ns : List ℕ) (t a : ℕ) (x : A) (s l : List A) → a ≡ start_of ns t → l ≡ inserted (from_slot t ns) 0 x (from_slot a s) → put_back a s l ≡ inserted ns t x s
  unfolding start_of
  put_law ns t a x s l e h = rw (tail_back a s l, h, tail_part t ns, tail_part a s, e) (sym (inserted_from ns t x s))

  pull_law : (ns : List ℕ) (t a i : ℕ) (x : A) (s l : List A) → a ≡ start_of ns t → l ≡ deleted (from_slot t ns) 0 i x (from_slot a s) → put_back a s l ≡ deleted ns t i x s
  unfolding start_of
  pull_law ns t a i x s l e h = rw (tail_back a s l, h, tail_part t ns, tail_part a s, e) (sym (deleted_from ns t i x s))

  on_law : (ns : List ℕ) (t a i u : ℕ) (x : A) (s l : List A) → t < u → u < length ns → a ≡ start_of ns t → l ≡ moved (from_slot t ns) 0 i (u - t) x (from_slot a s)
      → put_back a s l ≡ moved ns t i u x s
  on_law ns t a i u x s l h k e el =
      let m : u - t < length (from_slot t ns) = simp (length-take, length-drop) (omega arith) in
      let w : l ≡ deleted (from_slot t (take u ns)) 0 i x (from_slot a s)
      = el ∙ forward_law (from_slot t ns) 0 i (u - t) x (from_slot a s) (omega arith) m ∙ ap (λ (r : List ℕ). deleted r 0 i x (from_slot a s)) (sym (span_of ns t u (omega arith) (omega arith))) in
      pull_law (take u ns) t a i x s l (e ∙ sym (start_take ns t u (omega arith))) w ∙ sym (forward_law ns t i u x s h k)

  within_back : (ns : List ℕ) (t a i : ℕ) (x : A) (s l : List A) → t < length ns → a ≡ start_of ns t → l ≡ moved (from_slot t ns) 0 i 0 x (from_slot a s)
      → put_back a s l ≡ moved ns t i t x s
  within_back ns t a i x s l k e el =
      let m : 0 < length (from_slot t ns) = simp (length-take, length-drop) (omega arith) in
      let z : t + 1 - t ≡ 0 + 1 = omega arith in
      let v : from_slot t (take (t + 1) ns) ≡ take (0 + 1) (from_slot t ns) = span_of ns t (t + 1) (omega arith) (omega arith) ∙ ap (λ (j : ℕ). take j (from_slot t ns)) z in
      let w : l ≡ deleted (from_slot t (take (t + 1) ns)) 0 i x (from_slot a s)
      = el ∙ within_law (from_slot t ns) 0 i x (from_slot a s) m ∙ ap (λ (r : List ℕ). deleted r 0 i x (from_slot a s)) (sym v) in
      pull_law (take (t + 1) ns) t a i x s l (e ∙ sym (start_take ns t (t + 1) (omega arith))) w ∙ sym (within_law ns t i x s k)

  back_law : (d : A) (ns : List ℕ) (t b i u a : ℕ) (x : A) (s l : List A) → u < t → t < length ns → i < get_or ns t 0 → sum_of ns ≤ length s
      → b ≡ start_of ns t → a ≡ start_of ns u → l ≡ moved (from_slot u ns) (t - u) i 0 x (from_slot a s) → put_back a s l ≡ moved ns t i u x s
  unfolding start_of
  back_law d ns t b i u a x s l h k m room eb ea el =
      let n : ℕ = b - a in
      let y : A = get_or s b d in
      let le : a ≤ b = omega (arith, sum-span ns u t (omega arith)) in
      let en : a + n ≡ b = omega arith in
      let ei : a + (n + i) ≡ b + i = omega arith in
      let et : u + (t - u) ≡ t = omega arith in
      let es : sum_of (take (t - u) (drop u ns)) ≡ n = omega (arith, sum-span ns u t (omega arith)) in
      let em : get_or (drop u ns) (t - u) 0 ≡ get_or ns t 0 = get_or-drop u ns (t - u) 0 ∙ ap (λ (j : ℕ). get_or ns j 0) et in
      let f₀ : moved (drop u ns) (t - u) i 0 x (drop a s) ≡ inserted (take (t - u) (drop u ns)) 0 x (set (drop a s) (n + i) (get_or (drop a s) n d))
      = rw es at (backward_law d (drop u ns) (t - u) i 0 x (drop a s) (omega arith) (omega (arith, length-drop u ns)) (omega arith)
      (omega (arith, length-drop a s, sum_cut u ns))) in
      let g : get_or (drop a s) n d ≡ y = get_or-drop a s n d ∙ ap (λ (j : ℕ). get_or s j d) en in
      let q : set (drop a s) (n + i) y ≡ drop a (set s (b + i) y) = sym (drop-set-add a s (n + i) y) ∙ ap (λ (j : ℕ). drop a (set s j y)) ei in
      let f : take a (set s (b + i) y) ≡ take a s = take-set-le a s (b + i) y (omega arith) in
      let v : take (t - u) (drop u ns) ≡ drop u (take t ns) = sym (drop-take u (t - u) ns) ∙ ap (λ (j : ℕ). drop u (take j ns)) et in
      let w : sum_of (take u (take t ns)) ≡ a = ap sum_of (take-take u t ns (omega arith)) ∙ sym ea in
      let z : moved ns t i u x s ≡ inserted (take t ns) u x (set s (b + i) y) = rw (sym eb) at (backward_law d ns t i u x s h k m room) in
      let r : inserted (take t ns) u x (set s (b + i) y) ≡ take a s ++ inserted (drop u (take t ns)) 0 x (drop a (set s (b + i) y))
      = rw (w, f) at (inserted_from (take t ns) u x (set s (b + i) y)) in
      rw (tail_back a s l, el, tail_part u ns, tail_part a s, f₀, g, q, v) (sym (z ∙ r))

-- the four slices at once
abbrev pub slices_back : ℕ → Slices → Slices → Slices
slices_back a s p = slices_of (put_back a s.growers p.growers) (put_back a s.weights p.weights) (put_back a s.yields p.yields) (put_back a s.days p.days)

module _ (d : Delivery) (ns : List ℕ) (t a : ℕ) (s p : Slices) (e : a ≡ start_of ns t) where
  pub each_put : p ≡ storing (inserted (from_slot t ns) 0) d (each_slice (from_slot a) s) → slices_back a s p ≡ storing (inserted ns t) d s
  each_put w =
      rw (
        put_law ns t a d.grower s.growers p.growers e (ap (λ (r : Slices). r.growers) w),
        put_law ns t a d.weight s.weights p.weights e (ap (λ (r : Slices). r.weights) w),
        put_law ns t a d.oil_yield s.yields p.yields e (ap (λ (r : Slices). r.yields) w),
        put_law ns t a d.day s.days p.days e (ap (λ (r : Slices). r.days) w),
      )

  pub each_pull : (i : ℕ) → p ≡ storing (deleted (from_slot t ns) 0 i) d (each_slice (from_slot a) s) → slices_back a s p ≡ storing (deleted ns t i) d s
  each_pull i w =
      rw (
        pull_law ns t a i d.grower s.growers p.growers e (ap (λ (r : Slices). r.growers) w),
        pull_law ns t a i d.weight s.weights p.weights e (ap (λ (r : Slices). r.weights) w),
        pull_law ns t a i d.oil_yield s.yields p.yields e (ap (λ (r : Slices). r.yields) w),
        pull_law ns t a i d.day s.days p.days e (ap (λ (r : Slices). r.days) w),
      )

  forward_back : (i u : ℕ) {A : Type 0} (x : A) (q l : List A) → t ≤ u → u < length ns → l ≡ moved (from_slot t ns) 0 i (u - t) x (from_slot a q) → put_back a q l ≡ moved ns t i u x q
  forward_back i u x q l h k w = go (u - t) refl w
    where
      go : (m : ℕ) → m ≡ u - t → l ≡ moved (from_slot t ns) 0 i m x (from_slot a q) → put_back a q l ≡ moved ns t i u x q
      go zero m w' = let z : u ≡ t = omega arith in rw z (within_back ns t a i x q l (omega arith) e w')
      go (suc m) k' w' = on_law ns t a i u x q l (omega arith) k e (rw k' at w')

  pub each_forward_back : (i u : ℕ) → t ≤ u → u < length ns → p ≡ storing (moved (from_slot t ns) 0 i (u - t)) d (each_slice (from_slot a) s) → slices_back a s p ≡ storing (moved ns t i u) d s
  each_forward_back i u h k w =
      rw (
        forward_back i u d.grower s.growers p.growers h k (ap (λ (r : Slices). r.growers) w),
        forward_back i u d.weight s.weights p.weights h k (ap (λ (r : Slices). r.weights) w),
        forward_back i u d.oil_yield s.yields p.yields h k (ap (λ (r : Slices). r.yields) w),
        forward_back i u d.day s.days p.days h k (ap (λ (r : Slices). r.days) w),
      )

  -- t, which starts at a, is the new partition, u, which starts at b, the old one
  pub each_backward_back : (i u b : ℕ) → Even s → t < u → u < length ns → i < get_or ns u 0 → sum_of ns ≤ length s.growers → b ≡ start_of ns u
      → p ≡ storing (moved (from_slot t ns) (u - t) i 0) d (each_slice (from_slot a) s) → slices_back a s p ≡ storing (moved ns u i t) d s
  each_backward_back i u b v h k m room eb w =
      rw (
        back_law 0 ns u b i t a d.grower s.growers p.growers h k m room eb e (ap (λ (r : Slices). r.growers) w),
        back_law 0 ns u b i t a d.weight s.weights p.weights h k m (omega (arith, v.weights)) eb e (ap (λ (r : Slices). r.weights) w),
        back_law 0 ns u b i t a d.oil_yield s.yields p.yields h k m (omega (arith, v.yields)) eb e (ap (λ (r : Slices). r.yields) w),
        back_law 0 ns u b i t a d.day s.days p.days h k m (omega (arith, v.days)) eb e (ap (λ (r : Slices). r.days) w),
      )
