-- A search from partition to partition, upward or downward: a partition more, where the partitions of its path lie, and the loop. Assumes nothing.
use Prim.Native.Nat.{ℕ, zero, suc, ◌+◌, ◌-◌, ◌*◌, ◌≤◌, ◌<◌}
use mathlib.Core.Path.{◌≡◌, refl, sym, ap, ◌∙◌}
use mathlib.Core.Bool.{Bool, true, false, cond, ◌&&◌, and-true}
use mathlib.Core.List.{List, [], ◌∷◌}
use native.Mathlib.Omega.{arith}
use native.Mathlib.Numerals.{add-one}
use lib.Dec.{ltb}
use lib.ListN.{length, get_or, drop, drop_of_length-le}
use lib.Seq.{drop-cons}
use borrow.Author.Tests.{lt-ltb, le-ltb}
use Rattle.model.specs.declared.Delivery.{Delivery}
use Rattle.model.specs.declared.GrowerAnswer.{GrowerAnswer}
use Rattle.model.specs.Bounds.{most_slots}
use Rattle.model.specs.Lists.{sum_of, every, keep}
use Rattle.model.specs.Deliveries.{Slices, rows, in_range, day_ok}
use Rattle.model.specs.Partitions.{parts, part, start_of}
use Rattle.model.specs.Accesses.{no_counts, blocks_of, reads_of}
use Rattle.model.specs.Growers.{Direction, up, down, nearest_of, growers_of, holds_one, down_from, path}
use Rattle.model.specs.GrowerCalls.{grower_answer}
use Rattle.model.proofs.ListLaws.{length_up_from, at_up_from}
use Rattle.model.proofs.AccessLaws.{blocks_none, blocks_most}
use Rattle.model.proofs.Parts.{length_part, part_none, start_next, stop_le}
use Rattle.model.proofs.GrowerCounts.{length-down_from}
use Rattle.scan.proofs.Scanning.{lent_part_lem}
use Rattle.growers.specs.declared.Nearest.{Nearest}
use Rattle.growers.specs.Ways.{either, onward, Within, lower}
use Rattle.growers.specs.Searches.{nearest_as, near_all, dated_answer, searched}
use Rattle.std.specs.Prelude.{Some, None}
use Rattle.model.specs.Lent.{slices_part}
use Rattle.growers.proofs.Nearing.{holds_is}

-- One partition more.

module _ (b : ℕ) (w : Direction) (k : ℕ) (ps : List (List Delivery)) (i : ℕ) (is : List ℕ) (d : Bool) (n : ℕ) where
  search_bad : None ≡ near_all w k (part i ps) → grower_answer 8 0 0 no_counts ≡ searched b w k ps (i ∷ is) d n
  unfolding searched near_all
  search_bad e = rw (bad (every in_range (part i ps)) e)
    where
      bad : (t : Bool) → None ≡ cond t (Some (nearest_as (nearest_of w k (growers_of (part i ps))))) None → t ≡ false
      bad true f = cc
      bad false f = refl

  module _ (s : Nearest) (e : Some s ≡ near_all w k (part i ps)) where
    found_in : (every in_range (part i ps) ≡ true) × (s ≡ nearest_as (nearest_of w k (growers_of (part i ps))))
    unfolding near_all
    found_in = go (every in_range (part i ps)) e
      where
        go : (t : Bool) → Some s ≡ cond t (Some (nearest_as (nearest_of w k (growers_of (part i ps))))) None
            → (t ≡ true) × (s ≡ nearest_as (nearest_of w k (growers_of (part i ps))))
        go true f = (refl, cc)
        go false f = cc

    holds : (t : Bool) → ltb 0 s.records ≡ t → holds_one w k (part i ps) ≡ t
    unfolding holds_one
    holds t h = holds_is w k (growers_of (part i ps)) ∙ ap (λ (c : Nearest). ltb 0 c.records) (sym found_in.1) ∙ h

    module _ (m : ℕ) (q : m ≡ blocks_of b (length (part i ps))) (d' : Bool) (x : d' ≡ d && every day_ok (part i ps)) where
      search_hit : 0 < s.records → dated_answer d' (grower_answer 0 s.grower s.records (reads_of (n + m))) ≡ searched b w k ps (i ∷ is) d n
      unfolding searched
      search_hit h = rw (found_in.0, holds true (lt-ltb 0 s.records h), found_in.1, q, x)

      search_miss : s.records ≤ 0 → searched b w k ps (i ∷ is) d n ≡ searched b w k ps is d' (n + m)
      unfolding searched
      search_miss h = rw (found_in.0, holds false (le-ltb 0 s.records h), q, x)

search_none : (b : ℕ) (w : Direction) (k : ℕ) (ps : List (List Delivery)) (d : Bool) (n : ℕ) → dated_answer d (grower_answer 0 0 0 (reads_of n)) ≡ searched b w k ps [] d n
unfolding searched
search_none b w k ps d n = refl

-- an empty partition holds no grower and has no block
search_empty : (b : ℕ) (w : Direction) (k : ℕ) (ps : List (List Delivery)) (i : ℕ) (is : List ℕ) (d : Bool) (n : ℕ) → 1 ≤ b → part i ps ≡ []
    → searched b w k ps (i ∷ is) d n ≡ searched b w k ps is d n
unfolding searched holds_one keep every
search_empty b w k ps i is d n h e =
    let z : n + blocks_of b 0 ≡ n = omega (arith, blocks_none b h) in
    rw (e, z, and-true d)

-- The path from partition t: how many partitions it has, which is the j-th, and the slot at which that is met.

abbrev pub steps_of : Direction → List ℕ → ℕ → ℕ
steps_of w ns t = either w (length ns - t) (t + 1)

abbrev pub edge_at : Direction → List ℕ → ℕ → ℕ → ℕ
edge_at w ns t j = start_of ns (either w (t + j) (t + 1 - j))

abbrev pub path_of : Direction → List ℕ → ℕ → List ℕ
path_of w ns t = path w (length ns) t

at-down_from : (t j : ℕ) → j ≤ t → get_or (down_from t) j 0 ≡ t - j
unfolding down_from
at-down_from zero zero h = omega arith
at-down_from zero (suc j) h = absurd (omega arith)
at-down_from (suc t) zero h = omega arith
at-down_from (suc t) (suc j) h = omega (arith, at-down_from t j (omega arith))

length-path : (w : Direction) (ns : List ℕ) (t : ℕ) → length (path_of w ns t) ≡ steps_of w ns t
unfolding path
length-path up ns t = length_up_from t (length ns - t)
length-path down ns t = length-down_from t

at_path : (w : Direction) (ns : List ℕ) (t j : ℕ) → j < steps_of w ns t → get_or (path_of w ns t) j 0 ≡ onward w t j
unfolding path
at_path up ns t j h = at_up_from t (length ns - t) j h
at_path down ns t j h = at-down_from t j (omega arith)

path-on : (w : Direction) (ns : List ℕ) (t j : ℕ) → j < steps_of w ns t → drop j (path_of w ns t) ≡ onward w t j ∷ drop (j + 1) (path_of w ns t)
path-on w ns t j h =
    let l : j < length (path_of w ns t) = omega (arith, length-path w ns t) in
    rw (add-one j, drop-cons (path_of w ns t) j 0 l, at_path w ns t j h)

path_end : (w : Direction) (ns : List ℕ) (t j : ℕ) → steps_of w ns t ≤ j → drop j (path_of w ns t) ≡ []
path_end w ns t j h = drop_of_length-le (path_of w ns t) {i = j} (omega (arith, length-path w ns t))

-- no path is longer than the partitions
pub steps_most : (w : Direction) (ns : List ℕ) (t : ℕ) → t < length ns → steps_of w ns t ≤ length ns
steps_most up ns t h = omega arith
steps_most down ns t h = omega arith

pub within_more : (w : Direction) (l m a n : ℕ) → l ≤ m → Within w l a n → Within w m a n
within_more up l m a n h k = omega arith
within_more down l m a n h k = (k.0, omega (arith, k.1))

edge_first : (w : Direction) (ns : List ℕ) (t a : ℕ) → t < length ns → a ≡ start_of ns t → either w a (a + get_or ns t 0) ≡ edge_at w ns t 0
edge_first up ns t a h e = e ∙ ap (start_of ns) (omega arith)
edge_first down ns t a h e =
    let z : t + 1 ≡ t + 1 - 0 = omega arith in
    omega (arith, start_next ns t h, ap (start_of ns) z)

-- partition i, the j-th of the path, which is met at an edge: its beginning, downward its end
pub record Met (w : Direction) (ns : List ℕ) (t edge j i : ℕ) : Type 0 where
  pub on-path : j < steps_of w ns t
  pub jth : i ≡ onward w t j
  pub there : i < length ns
  pub within : Within w (sum_of ns) edge (get_or ns i 0)
  pub start : lower w edge (get_or ns i 0) ≡ start_of ns i
  pub next : onward w edge (get_or ns i 0) ≡ edge_at w ns t (j + 1)

pub met : (w : Direction) (ns : List ℕ) (t edge j i : ℕ) → t < length ns → j < steps_of w ns t → edge ≡ edge_at w ns t j → i ≡ onward w t j → Met w ns t edge j i
met up ns t edge j i h k e f =
    let l : i < length ns = omega arith in
    let x : edge ≡ start_of ns i = e ∙ ap (start_of ns) (sym f) in
    record {
      on-path = k;
      jth = f;
      there = l;
      within = omega (arith, stop_le ns i l);
      start = x;
      next = ap (λ (y : ℕ). y + get_or ns i 0) x ∙ sym (start_next ns i l) ∙ ap (start_of ns) (omega arith);
    }
met down ns t edge j i h k e f =
    let l : i < length ns = omega arith in
    let m : t + 1 - j ≡ i + 1 = omega arith in
    let x : edge ≡ start_of ns i + get_or ns i 0 = e ∙ ap (start_of ns) m ∙ start_next ns i l in
    let y : start_of ns i ≡ start_of ns (t + 1 - (j + 1)) = ap (start_of ns) (omega arith) in
    record {
      on-path = k;
      jth = f;
      there = l;
      within = (omega arith, omega (arith, stop_le ns i l));
      start = omega arith;
      next = omega arith;
    }

-- the edge of an empty partition is that of the next
edge_stays : (w : Direction) (edge x : ℕ) → x ≡ 0 → edge ≡ onward w edge x
edge_stays up edge x e = omega arith
edge_stays down edge x e = omega arith

-- The loop: j partitions of the path have been searched, in n blocks, and none holds a grower at or past k.

pub record Searching (b : ℕ) (w : Direction) (k : ℕ) (ns : List ℕ) (ss : Slices) (t edge j n : ℕ) (d : Bool) : Type 0 where
  pub here : edge ≡ edge_at w ns t j
  pub few : n ≤ most_slots * j
  pub so_far : searched b w k (parts ns (rows ss)) (drop j (path_of w ns t)) d n ≡ searched b w k (parts ns (rows ss)) (path_of w ns t) true 0

pub searching_start : (b : ℕ) (w : Direction) (k : ℕ) (ns : List ℕ) (ss : Slices) (t a edge : ℕ) → t < length ns → a ≡ start_of ns t → edge ≡ either w a (a + get_or ns t 0)
    → Searching b w k ns ss t edge 0 0 true
searching_start b w k ns ss t a edge h e f =
    record { here = f ∙ edge_first w ns t a h e; few = omega arith; so_far = refl }

module _ {b : ℕ} {w : Direction} {k : ℕ} {ns : List ℕ} {ss : Slices} {t edge j n : ℕ} {d : Bool} (v : Searching b w k ns ss t edge j n d) where
  abbrev outcome : List ℕ → Bool → ℕ → GrowerAnswer
  outcome is f m = searched b w k (parts ns (rows ss)) is f m

  pub searching_end : steps_of w ns t ≤ j → dated_answer d (grower_answer 0 0 0 (reads_of n)) ≡ outcome (path_of w ns t) true 0
  searching_end h =
      search_none b w k (parts ns (rows ss)) d n ∙ ap (λ (l : List ℕ). outcome l d n) (sym (path_end w ns t j h)) ∙ v.so_far

  on : {i : ℕ} → Met w ns t edge j i → outcome (i ∷ drop (j + 1) (path_of w ns t)) d n ≡ outcome (path_of w ns t) true 0
  on m =
      ap (λ (x : ℕ). outcome (x ∷ drop (j + 1) (path_of w ns t)) d n) m.jth ∙ ap (λ (x : List ℕ). outcome x d n) (sym (path-on w ns t j m.on-path)) ∙ v.so_far

  -- the next partition is empty
  pub searching_skip : {i : ℕ} → Met w ns t edge j i → 1 ≤ b → get_or ns i 0 ≡ 0 → Searching b w k ns ss t edge (j + 1) n d
  searching_skip {i} m one e =
      record {
        here = edge_stays w edge (get_or ns i 0) e ∙ m.next;
        few = omega (arith, v.few);
        so_far = sym (search_empty b w k (parts ns (rows ss)) i _ d n one (part_none i ns (rows ss) e)) ∙ on m;
      }

  -- the slices' parts of partition i
  abbrev pub lent_part : ℕ → Slices
  lent_part i = let a : ℕ = lower w edge (get_or ns i 0) in slices_part a (a + get_or ns i 0) ss

  module _ {i : ℕ} (m : Met w ns t edge j i) (room : sum_of ns ≤ length (rows ss)) where
    part_in : rows (lent_part i) ≡ part i (parts ns (rows ss))
    part_in = lent_part_lem ns i (lower w edge (get_or ns i 0)) (get_or ns i 0) ss m.start refl

    blocks_in : blocks_of b (get_or ns i 0) ≡ blocks_of b (length (part i (parts ns (rows ss))))
    blocks_in = ap (blocks_of b) (sym (length_part i ns (rows ss) m.there room))

    pub searching_bad : None ≡ near_all w k (rows (lent_part i)) → grower_answer 8 0 0 no_counts ≡ outcome (path_of w ns t) true 0
    searching_bad e = search_bad b w k (parts ns (rows ss)) i _ d n (e ∙ ap (near_all w k) part_in) ∙ on m

    module _ {s : Nearest} (e : Some s ≡ near_all w k (rows (lent_part i))) {d' : Bool} (days : d' ≡ d && every day_ok (rows (lent_part i))) {q : ℕ} (p : q ≡ blocks_of b (get_or ns i 0)) where
      days_in : d' ≡ d && every day_ok (part i (parts ns (rows ss)))
      days_in = days ∙ ap (λ (l : List Delivery). d && every day_ok l) part_in

      pub searching_hit : 0 < s.records → dated_answer d' (grower_answer 0 s.grower s.records (reads_of (n + q))) ≡ outcome (path_of w ns t) true 0
      searching_hit r = search_hit b w k (parts ns (rows ss)) i _ d n s (e ∙ ap (near_all w k) part_in) q (p ∙ blocks_in) d' days_in r ∙ on m

      pub searching_next : {next : ℕ} → s.records ≤ 0 → next ≡ onward w edge (get_or ns i 0) → 1 ≤ b → get_or ns i 0 ≤ most_slots → Searching b w k ns ss t next (j + 1) (n + q) d'
      searching_next r x one size =
          record {
            here = x ∙ m.next;
            few = omega (arith, v.few, blocks_most b (get_or ns i 0) one);
            so_far = sym (search_miss b w k (parts ns (rows ss)) i _ d n s (e ∙ ap (near_all w k) part_in) q (p ∙ blocks_in) d' days_in r) ∙ on m;
          }
