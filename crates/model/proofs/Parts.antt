-- Cutting a column into partitions and joining them again. Assumes nothing.
use Prim.Native.Nat.{ℕ, suc, zero, ◌+◌, ◌-◌, ◌≤◌, ◌<◌}
use mathlib.Core.Path.{◌≡◌, refl, ap, ◌∙◌}
use mathlib.Core.List.{List, [], ◌∷◌, ◌++◌, append_assoc, append-nil, map, flatten}
use native.Mathlib.Omega.{arith}
use native.Mathlib.Numerals.{add-one}
use lib.ListN.{length, get_or, take, drop, length-drop, take-append-drop}
use lib.Seq.{drop-cons, take-add, drop-drop, split_at, length-take-le, take-append_seam, drop-append_seam, drop-append-add, take-take}
use Rattle.model.specs.Lists.{sum_of}
use Rattle.model.specs.Partitions.{parts, free, start_of, between}
use Rattle.model.specs.Partitions.{part}
use Rattle.model.proofs.ListLaws.{sum_cut, sum-span, sum-take_le, sum-take_next}

module _ {A : Type 0} where
  pub flatten-parts : (ns : List ℕ) (s : List A) → flatten (parts ns s) ≡ take (sum_of ns) s
  unfolding flatten parts sum_of
  flatten-parts [] s = refl
  flatten-parts (n ∷ ns) s = rw (flatten-parts ns (drop n s), take-add)

  -- a column is its partitions and its free slots
  pub whole : (ns : List ℕ) (s : List A) → flatten (parts ns s) ++ free ns s ≡ s
  unfolding free
  whole ns s = rw flatten-parts (take-append-drop (sum_of ns) s)

  pub take-parts : (t : ℕ) (ns : List ℕ) (s : List A) → take t (parts ns s) ≡ parts (take t ns) s
  unfolding parts
  take-parts zero ns s = refl
  take-parts (suc t) [] s = refl
  take-parts (suc t) (n ∷ ns) s = ap (λ (r : List (List A)). take n s ∷ r) (take-parts t ns (drop n s))

  pub drop-parts : (t : ℕ) (ns : List ℕ) (s : List A) → drop t (parts ns s) ≡ parts (drop t ns) (drop (sum_of (take t ns)) s)
  unfolding parts sum_of
  drop-parts zero ns s = refl
  drop-parts (suc t) [] s = refl
  drop-parts (suc t) (n ∷ ns) s = rw (drop-parts t ns (drop n s), drop-drop)

  -- partitions p to q are one part of the slots
  pub between_is : (ns : List ℕ) (p q : ℕ) (s : List A) → between ns p q s ≡ take (sum_of (take (q + 1 - p) (drop p ns))) (drop (start_of ns p) s)
  unfolding between start_of
  between_is ns p q s = rw (drop-parts, take-parts, flatten-parts)

  pub length-parts : (ns : List ℕ) (s : List A) → length (parts ns s) ≡ length ns
  unfolding parts
  length-parts [] s = refl
  length-parts (n ∷ ns) s = ap suc (length-parts ns (drop n s))

  pub lengths_parts : (ns : List ℕ) (s : List A) → sum_of ns ≤ length s → map length (parts ns s) ≡ ns
  unfolding parts sum_of
  lengths_parts [] s h = refl
  lengths_parts (n ∷ ns) s h = rw (length-take-le n s (omega arith), lengths_parts ns (drop n s) (omega (arith, length-drop n s)))

  -- partitions that were joined are cut again
  pub parts_again : (ps : List (List A)) (f : List A) → parts (map length ps) (flatten ps ++ f) ≡ ps
  unfolding parts flatten
  parts_again [] f = refl
  parts_again (p ∷ ps) f = rw (append_assoc, take-append_seam, drop-append_seam, parts_again ps f)

  pub free_again : (ps : List (List A)) (f : List A) → free (map length ps) (flatten ps ++ f) ≡ f
  unfolding free sum_of flatten
  free_again [] f = refl
  free_again (p ∷ ps) f = rw (append_assoc, drop-append-add) (free_again ps f)

  pub flatten-take : (t : ℕ) (ns : List ℕ) (s : List A) → flatten (take t (parts ns s)) ≡ take (sum_of (take t ns)) s
  flatten-take t ns s = rw (take-parts, flatten-parts)

  pub free_cut : (t : ℕ) (ns : List ℕ) (s : List A) → free ns s ≡ free (drop t ns) (drop (sum_of (take t ns)) s)
  unfolding free
  free_cut t ns s = rw (drop-drop, sum_cut t ns)

  -- what stands from partition u on
  pub rest_of : (u : ℕ) (ns : List ℕ) (s : List A) → flatten (drop u (parts ns s)) ++ free ns s ≡ drop (sum_of (take u ns)) s
  rest_of u ns s = rw (drop-parts, free_cut u ns s) (whole (drop u ns) (drop (sum_of (take u ns)) s))

  -- a list of partitions, taken apart at t
  pub one : (t : ℕ) (ps : List (List A)) → t < length ps → ps ≡ take t ps ++ part t ps ∷ drop (t + 1) ps
  one t ps h = rw (add-one) (split_at ps t [] h)

-- Where partitions start.

pub start_is : (ns : List ℕ) (t : ℕ) → sum_of (take t ns) ≡ start_of ns t
unfolding start_of
start_is ns t = refl

pub start_le : (ns : List ℕ) (t : ℕ) → start_of ns t ≤ sum_of ns
unfolding start_of
start_le ns t = sum-take_le ns t

pub start_next : (ns : List ℕ) (t : ℕ) → t < length ns → start_of ns (t + 1) ≡ start_of ns t + get_or ns t 0
unfolding start_of
start_next ns t h = sum-take_next ns t h

-- what follows a start
pub start_rest : (ns : List ℕ) (t : ℕ) → sum_of ns ≡ start_of ns t + sum_of (drop t ns)
unfolding start_of
start_rest ns t = sum_cut t ns

-- the slot just past partition t
pub stop_le : (ns : List ℕ) (t : ℕ) → t < length ns → start_of ns t + get_or ns t 0 ≤ sum_of ns
stop_le ns t h = omega (arith, start_next ns t h, start_le ns (t + 1))

-- a later partition starts no earlier
pub start_mono : (ns : List ℕ) (t u : ℕ) → t ≤ u → start_of ns t ≤ start_of ns u
unfolding start_of
start_mono ns t u h = omega (arith, sum-span ns t u h)

-- the partitions ahead of u start where they did
pub start_take : (ns : List ℕ) (t u : ℕ) → t ≤ u → start_of (take u ns) t ≡ start_of ns t
unfolding start_of
start_take ns t u h = ap sum_of (take-take t u ns h)

-- partition t as a part of the slots
pub part-parts : {A : Type 0} (t : ℕ) (ns : List ℕ) (s : List A) → part t (parts ns s) ≡ take (get_or ns t 0) (drop (start_of ns t) s)
unfolding parts sum_of start_of
part-parts zero [] s = refl
part-parts (suc t) [] s = refl
part-parts zero (n ∷ ns) s = refl
part-parts (suc t) (n ∷ ns) s = part-parts t ns (drop n s) ∙ rw drop-drop

pub length_part : {A : Type 0} (t : ℕ) (ns : List ℕ) (s : List A) → t < length ns → sum_of ns ≤ length s → length (part t (parts ns s)) ≡ get_or ns t 0
length_part t ns s h room = ap length (part-parts t ns s) ∙ length-take-le (get_or ns t 0) (drop (start_of ns t) s) (omega (arith, stop_le ns t h, length-drop (start_of ns t) s))

-- an empty partition
pub part_none : {A : Type 0} (t : ℕ) (ns : List ℕ) (s : List A) → get_or ns t 0 ≡ 0 → part t (parts ns s) ≡ []
part_none t ns s e = part-parts t ns s ∙ ap (λ (n : ℕ). take n (drop (start_of ns t) s)) e

-- one partition alone
pub between_one : {A : Type 0} (t : ℕ) (ns : List ℕ) (s : List A) → t < length ns → between ns t t s ≡ part t (parts ns s)
unfolding between flatten
between_one t ns s h =
    let ps = parts ns s in
    let e : t + 1 - t ≡ 1 = omega arith in
    rw (e, drop-cons ps t [] (rw length-parts h)) (append-nil (part t ps))
