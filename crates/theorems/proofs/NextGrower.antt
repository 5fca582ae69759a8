-- The next grower is the ledger's. On a sound column the partitions of the path come one after the other on the way, and the others hold no grower at or past g:
-- so the first that holds one has the nearest of all records. Assumes nothing.
use Prim.Native.Nat.{ℕ, zero, suc, ◌+◌, ◌-◌, ◌≤◌, ◌<◌}
use mathlib.Core.Path.{◌≡◌, refl, sym, ap, ◌∙◌, subst}
use mathlib.Core.Bool.{Bool, false}
use mathlib.Core.List.{List, [], ◌∷◌, ◌++◌, append-nil, map, map-append, flatten}
use mathlib.Core.List.{Permᴰ}
use native.Mathlib.Omega.{arith}
use native.Mathlib.Numerals.{add-one}
use lib.Dec.{T, leb, leb→le, eqb, eqb→eq}
use lib.ListN.{length, get_or, drop, drop_of_length-le}
use lib.Seq.{drop-cons}
use Rattle.model.specs.declared.Delivery.{Delivery}
use Rattle.model.specs.Lists.{up_from, every, keep}
use Rattle.model.specs.Checks.{ask, first_failed}
use Rattle.model.specs.Deliveries.{grower_of, in_range, day_ok}
use Rattle.model.specs.Blocks.{held}
use Rattle.model.specs.Partitions.{parts}
use Rattle.model.specs.Calls.{Call}
use Rattle.model.specs.Column.{Column, slots, in_place, lengths_of, fences_of, target, all_records}
use Rattle.model.specs.Questions.{grower_checks}
use Rattle.model.specs.ColumnCalls.{laid_column, column_call, column_calls}
use Rattle.model.specs.Ledger.{ledger_call, ledger_calls}
use Rattle.model.specs.Growers.{Direction, up, down, at_or_past, GrowerCount, nearest, nearest_of, growers_of, holds_one, down_from, path}
use Rattle.model.specs.Growers.{records_at, scanned_for, records_scanned, scanned_for_ok, scanned_for_days_ok}
use Rattle.model.specs.GrowerCalls.{grower_call, ledger_grower}
use Rattle.model.proofs.Tests.{is_false, leb_no, and_fst, and_snd, and_mk, first_passed, nothing_failed}
use Rattle.model.proofs.ListLaws.{flatten-append, every-joined, bag-length}
use Rattle.model.proofs.Parts.{length-parts}
use Rattle.model.proofs.Places.{placed_mono}
use Rattle.model.proofs.DirectoryLaws.{length_fences}
use Rattle.model.proofs.MovesKeep.{All, Sound, all_append}
use Rattle.model.proofs.GrowerLaws.{Before, all_imply, none_kept, no_hit, no_hit_after, nearest-bag, InTurn, stop_at_first}
use Rattle.theorems.specs.NextGrower.{SameGrowers, NextGrowerAgrees, AllSameGrowers, none, next, NextGrowerAfterCalls}
use Rattle.theorems.proofs.Bags.{bag-keep}
use Rattle.theorems.proofs.ValidColumn.{Valid, valid, in_range_lem, days_in_range, count_lengths, place_of, target_there, sound-slots, lent_pass}
use Rattle.theorems.proofs.LaidColumn.{laid_records, laid_valid, laid_capacity}
use Rattle.theorems.proofs.Ledger.{Steps, step}

-- Lists.

sound-at : {A : Type 0} (P : ℕ → A → Type 0) (ps : List (List A)) (k i : ℕ) → Sound P k ps → All (P (k + i)) (get_or ps i [])
unfolding Sound All
sound-at P [] k i h = tt
sound-at P (p ∷ ps) k zero h = let e : k + 0 ≡ k = omega arith in rw e h.0
sound-at P (p ∷ ps) k (suc i) h = let e : k + suc i ≡ k + 1 + i = omega arith in rw e (sound-at P ps (k + 1) i h.1)

all_mapped : {A B : Type 0} (f : A → B) (Q : B → Type 0) (l : List A) → All (λ (a : A). Q (f a)) l → All Q (map f l)
unfolding All
all_mapped f Q [] h = tt
all_mapped f Q (x ∷ l) h = (h.0, all_mapped f Q l h.1)

all_up : (P : ℕ → Type 0) (a n : ℕ) → ((j : ℕ) → a ≤ j → j < a + n → P j) → All P (up_from a n)
unfolding All up_from
all_up P a zero h = tt
all_up P a (suc n) h = (h a (omega arith) (omega arith), all_up P (a + 1) n (λ j u v. h j (omega arith) (omega arith)))

all_down : (P : ℕ → Type 0) (t : ℕ) → ((j : ℕ) → j ≤ t → P j) → All P (down_from t)
unfolding All down_from
all_down P zero h = (h 0 (omega arith), tt)
all_down P (suc t) h = (h (suc t) (omega arith), all_down P t (λ j u. h j (omega arith)))

up_split : (a n m : ℕ) → up_from a (n + m) ≡ up_from a n ++ up_from (a + n) m
unfolding up_from
up_split a zero m =
    let e : a + 0 ≡ a = omega arith in
    let f : 0 + m ≡ m = omega arith in
    rw (e, f)
up_split a (suc n) m =
    let e : suc n + m ≡ suc (n + m) = omega arith in
    let f : a + suc n ≡ a + 1 + n = omega arith in
    ap (up_from a) e ∙ ap (λ (r : List ℕ). a ∷ r) (up_split (a + 1) n m) ∙ ap (λ (x : ℕ). a ∷ (up_from (a + 1) n ++ up_from x m)) (sym f)

by_index : {A : Type 0} (l : List (List A)) (a n : ℕ) → a + n ≡ length l → map (λ (i : ℕ). get_or l i []) (up_from a n) ≡ drop a l
unfolding up_from
by_index l a zero h = sym (drop_of_length-le l {i = a} (omega arith))
by_index l a (suc n) h =
    ap (λ (r : List _). get_or l a [] ∷ r) (by_index l (a + 1) n (omega arith) ∙ ap (λ (x : ℕ). drop x l) (add-one a)) ∙ sym (drop-cons l a [] (omega arith))

every-at-part : {A : Type 0} (f : A → Bool) (ps : List (List A)) (i : ℕ) → T (every f (flatten ps)) → T (every f (get_or ps i []))
unfolding flatten every
every-at-part f [] i h = tt
every-at-part f (p ∷ ps) zero h = and_fst (every f p) (every f (flatten ps)) (subst T (every-joined f p (flatten ps)) h)
every-at-part f (p ∷ ps) (suc i) h = every-at-part f ps i (and_snd (every f p) (every f (flatten ps)) (subst T (every-joined f p (flatten ps)) h))

every-of-parts : {A : Type 0} (f : A → Bool) (r : ℕ → List A) → ((i : ℕ) → T (every f (r i))) → (is : List ℕ) → T (every f (flatten (map r is)))
unfolding flatten every
every-of-parts f r h [] = tt
every-of-parts f r h (i ∷ is) =
    subst T (sym (every-joined f (r i) (flatten (map r is)))) (and_mk (every f (r i)) (every f (flatten (map r is))) (h i) (every-of-parts f r h is))

growers_flat : (r : ℕ → List Delivery) (is : List ℕ) → growers_of (flatten (map r is)) ≡ flatten (map (λ (i : ℕ). growers_of (r i)) is)
unfolding flatten
growers_flat r [] = refl
growers_flat r (i ∷ is) = map-append grower_of (r i) (flatten (map r is)) ∙ ap (λ (x : List ℕ). growers_of (r i) ++ x) (growers_flat r is)

-- the order of the growers does not matter
bag-nearest : (w : Direction) (g : ℕ) {a b : List ℕ} → Permᴰ a b → nearest_of w g a ≡ nearest_of w g b
unfolding nearest_of
bag-nearest w g {a} {b} p =
    let k : Permᴰ (keep (at_or_past w g) a) (keep (at_or_past w g) b) = bag-keep (at_or_past w g) p in
    rw (nearest-bag w k, bag-length (bag-keep (eqb (nearest w (keep (at_or_past w g) b))) k))

-- The growers of each partition, for partitions in some order.
module _ (rec : ℕ → List ℕ) where
  abbrev growers_at : List ℕ → List ℕ
  growers_at is = flatten (map rec is)

  flat_all : (Q : ℕ → Type 0) (is : List ℕ) → All (λ (j : ℕ). All Q (rec j)) is → All Q (growers_at is)
  unfolding flatten All
  flat_all Q [] h = tt
  flat_all Q (i ∷ is) h = all_append Q (rec i) (growers_at is) h.0 (flat_all Q is h.1)

  flat_split : (a b : List ℕ) → growers_at (a ++ b) ≡ growers_at a ++ growers_at b
  flat_split a b = ap flatten (map-append rec a b) ∙ flatten-append (map rec a) (map rec b)

  -- partitions a to a + n + m, cut after n
  up_cut : (a n m : ℕ) → growers_at (up_from a (n + m)) ≡ growers_at (up_from a n) ++ growers_at (up_from (a + n) m)
  up_cut a n m = ap growers_at (up_split a n m) ∙ flat_split (up_from a n) (up_from (a + n) m)

  -- downward the same growers in another order
  down_bag : (t : ℕ) → Permᴰ (growers_at (down_from t)) (growers_at (up_from 0 (t + 1)))
  unfolding down_from up_from flatten
  down_bag zero = mathlib.Core.List.Permᴰ.refl _
  down_bag (suc t) =
      let e : suc t + 1 ≡ t + 1 + 1 = omega arith in
      let f : 0 + (t + 1) ≡ suc t = omega arith in
      let front : List ℕ = growers_at (up_from 0 (t + 1)) in
      let whole : growers_at (up_from 0 (suc t + 1)) ≡ front ++ rec (suc t)
      = ap (λ (n : ℕ). growers_at (up_from 0 n)) e ∙ up_cut 0 (t + 1) 1 ∙ ap (λ (n : ℕ). front ++ growers_at (up_from n 1)) f
      ∙ ap (λ (l : List ℕ). front ++ l) (append-nil (rec (suc t))) in
      subst (λ (l : List ℕ). Permᴰ (rec (suc t) ++ growers_at (down_from t)) l) (sym whole)
      (mathlib.Core.List.Permᴰ.trans (mathlib.Core.List.Permᴰ.append_left (rec (suc t)) (down_bag t)) (mathlib.Core.List.Permᴰ.append_comm (rec (suc t)) front))

-- each number comes before those after it
unfoldable Sorted : Direction → List ℕ → Type 0
Sorted w [] = Unit {0}
Sorted w (i ∷ is) = All (Before w i) is × Sorted w is

below : (i j : ℕ) → i < j → leb j i ≡ false
below i j h = is_false (leb j i) (λ t. omega (arith, leb→le j i t))

sorted_up : (a n : ℕ) → Sorted up (up_from a n)
unfolding Sorted up_from
sorted_up a zero = tt
sorted_up a (suc n) = (all_up (Before up a) (a + 1) n (λ j u v. below a j (omega arith)), sorted_up (a + 1) n)

sorted_down : (t : ℕ) → Sorted down (down_from t)
unfolding Sorted down_from All
sorted_down zero = (tt, tt)
sorted_down (suc t) = (all_down (Before down (suc t)) t (λ j u. below j (suc t) (omega arith)), sorted_down t)

sorted_path : (w : Direction) (k t : ℕ) → Sorted w (path w k t)
unfolding path
sorted_path up k t = sorted_up t (k - t)
sorted_path down k t = sorted_down t

module _ (L : ℕ) (c : Column) (v : Valid L c) where
  abbrev growers_in : ℕ → List ℕ
  growers_in i = growers_of (records_at L c i)

  in_part : (i : ℕ) → All (λ (x : ℕ). target L c x ≡ i) (growers_in i)
  in_part i =
      all_mapped grower_of (λ (x : ℕ). target L c x ≡ i) (records_at L c i)
      (all_imply (λ (d : Delivery). T (in_place (fences_of L c) (0 + i) d.grower)) (λ (d : Delivery). target L c d.grower ≡ i)
      (λ d t. let e : target L c d.grower ≡ 0 + i = eqb→eq (target L c d.grower) (0 + i) t in omega arith) (records_at L c i)
      (sound-at (λ (p : ℕ) (d : Delivery). T (in_place (fences_of L c) p d.grower)) (parts (lengths_of L c) (slots c)) 0 i (sound-slots L c v)))

  -- a smaller grower has no later partition
  mono : (x y : ℕ) → T (leb x y) → target L c x ≤ target L c y
  mono x y t = placed_mono (fences_of L c) x y _ _ (leb→le x y t) (place_of L c v x) (place_of L c v y)

  -- a grower of an earlier partition comes first
  place-before : (w : Direction) (x y : ℕ) → Before w (target L c x) (target L c y) → Before w x y
  place-before up x y e = is_false (leb y x) (λ t. omega (arith, leb_no (target L c y) (target L c x) e, mono y x t))
  place-before down x y e = is_false (leb x y) (λ t. omega (arith, leb_no (target L c x) (target L c y) e, mono x y t))

  -- partition i lies before the partitions is, and so do its growers
  all_before : (w : Direction) (x i : ℕ) → target L c x ≡ i → (is : List ℕ) → All (Before w i) is → All (Before w x) (flatten (map growers_in is))
  all_before w x i e is h =
      flat_all growers_in (Before w x) is
      (all_imply (Before w i) (λ (j : ℕ). All (Before w x) (growers_in j))
      (λ j u. all_imply (λ (y : ℕ). target L c y ≡ j) (Before w x) (λ y f. place-before w x y (rw (e, f) u)) (growers_in j) (in_part j)) is h)

  in_turn : (w : Direction) (g : ℕ) (is : List ℕ) → Sorted w is → InTurn w g growers_in is
  unfolding Sorted InTurn
  in_turn w g [] h = tt
  in_turn w g (i ∷ is) h =
      (all_imply (λ (x : ℕ). target L c x ≡ i) (λ (x : ℕ). All (Before w x) (flatten (map growers_in is))) (λ x e. all_before w x i e is h.0) (growers_in i) (in_part i), in_turn w g is h.1)

  -- partitions that lie before g's hold none
  nothing_in : (w : Direction) (g : ℕ) (is : List ℕ) → All (λ (j : ℕ). Before w j (target L c g)) is → keep (at_or_past w g) (flatten (map growers_in is)) ≡ []
  nothing_in w g is h =
      none_kept (λ (x : ℕ). Before w x g) (at_or_past w g) (λ x e. e) (flatten (map growers_in is))
      (flat_all growers_in (λ (x : ℕ). Before w x g) is
      (all_imply (λ (j : ℕ). Before w j (target L c g)) (λ (j : ℕ). All (λ (x : ℕ). Before w x g) (growers_in j))
      (λ j u. all_imply (λ (x : ℕ). target L c x ≡ j) (λ (x : ℕ). Before w x g) (λ x e. place-before w x g (rw e u)) (growers_in j) (in_part j)) is h))

  all_growers : flatten (map growers_in (up_from 0 (length (lengths_of L c)))) ≡ growers_of (all_records L c)
  all_growers =
      sym (growers_flat (records_at L c) (up_from 0 (length (lengths_of L c))))
      ∙ ap (λ (ps : List (List Delivery)). growers_of (flatten ps))
      (by_index (parts (lengths_of L c) (slots c)) 0 (length (lengths_of L c)) (omega (arith, length-parts (lengths_of L c) (slots c))))

  -- all growers, cut after n partitions
  cut_after : (n : ℕ) → n ≤ length (lengths_of L c)
      → growers_of (all_records L c) ≡ flatten (map growers_in (up_from 0 n)) ++ flatten (map growers_in (up_from n (length (lengths_of L c) - n)))
  cut_after n h =
      let k : ℕ = length (lengths_of L c) in
      let e : k ≡ n + (k - n) = omega arith in
      let z : 0 + n ≡ n = omega arith in
      sym all_growers ∙ ap (λ (m : ℕ). flatten (map growers_in (up_from 0 m))) e ∙ up_cut growers_in 0 n (k - n)
      ∙ ap (λ (m : ℕ). flatten (map growers_in (up_from 0 n)) ++ flatten (map growers_in (up_from m (k - n)))) z

  -- the path to the column's end or beginning has the nearest of all
  whole_path : (w : Direction) (g : ℕ) → nearest_of w g (flatten (map growers_in (path w (length (lengths_of L c)) (target L c g)))) ≡ nearest_of w g (growers_of (all_records L c))
  unfolding path
  whole_path up g =
      let t : ℕ = target L c g in
      let ahead = nothing_in up g (up_from 0 t) (all_up (λ (j : ℕ). Before up j t) 0 t (λ j u x. below j t (omega arith))) in
      sym (ap (nearest_of up g) (cut_after t (omega (arith, target_there L c v g))) ∙ no_hit up g (flatten (map growers_in (up_from 0 t))) _ ahead)
  whole_path down g =
      let t : ℕ = target L c g in
      let n : ℕ = length (lengths_of L c) - (t + 1) in
      let behind = nothing_in down g (up_from (t + 1) n) (all_up (λ (j : ℕ). Before down j t) (t + 1) n (λ j u x. below t j (omega arith))) in
      bag-nearest down g (down_bag growers_in t)
      ∙ sym (ap (nearest_of down g) (cut_after (t + 1) (omega (arith, target_there L c v g))) ∙ no_hit_after down g (flatten (map growers_in (up_from 0 (t + 1)))) _ behind)

  as_many : length (fences_of L c) ≡ length (lengths_of L c)
  as_many = length_fences L _ _ v.shape ∙ sym (count_lengths L c v)

  -- what the call finds is what all records hold
  scanned_nearest : (w : Direction) (g : ℕ) → nearest_of w g (growers_of (records_scanned L c (scanned_for L c w g))) ≡ nearest_of w g (growers_of (all_records L c))
  unfolding scanned_for holds_one
  scanned_nearest w g =
      ap (nearest_of w g) (growers_flat (records_at L c) (scanned_for L c w g))
      ∙ stop_at_first w g growers_in (path w (length (fences_of L c)) (target L c g)) (in_turn w g _ (sorted_path w (length (fences_of L c)) (target L c g)))
      ∙ rw as_many (whole_path w g)

  accepted : (w : Direction) (g : ℕ) → first_failed (grower_checks L c w g) ≡ 0
  unfolding grower_checks scanned_for_ok scanned_for_days_ok
  accepted w g =
      lent_pass L c v (ask 8 (every in_range found) ∷ ask 19 (every day_ok found) ∷ [])
      ∙ first_passed 8 (every in_range found) (ask 19 (every day_ok found) ∷ []) (all_pass in_range (in_range_lem L c v))
      ∙ first_passed 19 (every day_ok found) [] (all_pass day_ok (days_in_range L c v)) ∙ nothing_failed
    where
      found : List Delivery
      found = records_scanned L c (scanned_for L c w g)

      -- a test that every record passes
      all_pass : (f : Delivery → Bool) → T (every f (all_records L c)) → T (every f found)
      all_pass f t = every-of-parts f (records_at L c) (λ i. every-at-part f (parts (lengths_of L c) (slots c)) i t) (scanned_for L c w g)

  same_growers : (bag : List Delivery) → Permᴰ (all_records L c) bag → SameGrowers L c bag
  unfolding grower_call ledger_grower
  same_growers bag p w g =
      let e : nearest_of w g (growers_of (records_scanned L c (scanned_for L c w g))) ≡ nearest_of w g (growers_of bag) =
      scanned_nearest w g ∙ bag-nearest w g (mathlib.Core.List.Permᴰ.map grower_of p) in
      rw (accepted w g) (record { refusal = refl; grower = ap (λ (n : GrowerCount). n.grower) e; records = ap (λ (n : GrowerCount). n.records) e })

pub next_grower_agrees : NextGrowerAgrees
next_grower_agrees L c bag h s x n p = same_growers L c (valid L c h s x n) bag p

-- a list of calls, from any bag of the column's records
after-calls : (calls : List Call) (L : ℕ) (c : Column) → Valid L c → (n : ℕ) → length c.slices.growers ≡ n → (bag : List Delivery) → Permᴰ (all_records L c) bag
    → AllSameGrowers L (column_calls L c calls) (ledger_calls n bag calls)
unfolding column_calls ledger_calls
after-calls [] L c v n e bag p = none
after-calls (k ∷ calls) L c v n e bag p =
    let s : Steps L c (column_call L c k) (ledger_call n bag k) = rw e at (step L c v bag p k) in
    let f = s.follows in
    next (same_growers L (column_call L c k).column f.valid (ledger_call n bag k).bag f.bag)
    (after-calls calls L (column_call L c k).column f.valid n (f.capacity ∙ e) (ledger_call n bag k).bag f.bag)

pub next_grower_after-calls : NextGrowerAfterCalls
next_grower_after-calls calls L s ends h =
    after-calls calls L (laid_column L s ends) (laid_valid L s ends h) (length s.slices.growers) (laid_capacity L s ends h) (held s)
    (rw (laid_records L s ends h) (mathlib.Core.List.Permᴰ.refl (held s)))
