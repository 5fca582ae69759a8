-- The first grower of records, some after the others: the first of the two parts' first growers, with his records in both. Assumes nothing.
use Prim.Native.Nat.{ℕ, suc, ◌+◌, ◌-◌, ◌≤◌, ◌<◌}
use mathlib.Core.Path.{◌≡◌, refl, sym, ap, ◌∙◌, subst}
use mathlib.Core.Bool.{Bool, true, false, cond, not, ◌&&◌, and-true, and-false, and_comm}
use mathlib.Core.List.{List, [], ◌∷◌, ◌++◌, append-nil, map-append}
use native.Mathlib.Omega.{arith}
use native.Mathlib.Decide.{ℕ_discrete, dec_le}
use lib.Dec.{leb, eqb}
use lib.ListN.{length, get_or, take, drop, length-append, length-map, length-take, length-drop, drop_of_length-le, take-append-drop}
use borrow.Author.Tests.{lt-leb, leb-true, lt-ltb, le-ltb, eq-eqb, ne_eqb, eqb-true, eqb-false}
use Rattle.model.specs.declared.Delivery.{Delivery}
use Rattle.model.specs.Bounds.{most_slots, most_number}
use Rattle.model.specs.Lists.{every, keep}
use Rattle.model.specs.Deliveries.{grower_of, Slices, rows, Even, in_range}
use Rattle.model.specs.Growers.{Direction, up, down, at_or_past, nearer, nearest_from, nearest, GrowerCount, nearest_of, growers_of}
use Rattle.model.specs.Laws.{IsNearest}
use Rattle.model.proofs.Tests.{of_true, is_true, is_false, no_such}
use Rattle.model.proofs.ListLaws.{keep_append, every-joined}
use Rattle.model.proofs.Deliveries.{length-rows}
use Rattle.model.proofs.MovesKeep.{All}
use Rattle.model.proofs.GrowerLaws.{Before, before_past, past_self, past_trans, before_other, nearer_comm, nearer_swap, all_keep, all_imply, none_kept}
use Rattle.model.proofs.GrowerLaws.{nearest-append, one_of, all_past, first_counted, nearest_is, none_left}
use Rattle.slices.specs.Slices.{count_between}
use Rattle.slices.proofs.Strides.{Strides, strides_next, strides_end, BackStrides, back_strides_next, back_strides_end}
use Rattle.std.specs.Prelude.{Option, Some, None}
use Rattle.model.specs.Lent.{slices_part}
use Rattle.growers.specs.Ways.{either, onward, lower}
use Rattle.growers.specs.declared.Nearest.{Nearest}
use Rattle.growers.specs.Searches.{last_number, nearest_or, from_to, none_from_to, last_wanted, joined_count}
use Rattle.growers.specs.Searches.{nearest_as, Fits, near_more, near_all}
use Rattle.growers.proofs.Nearing.{last_past, records_found, grower_found, records_most, holds_is}

-- The order of growers on the way.

-- of two that are not equal one comes before the other
other_before : (w : Direction) (a b : ℕ) → (a ≡ b → ⊥) → at_or_past w a b ≡ true → Before w a b
other_before up a b h e = lt-leb b a (omega (arith, leb-true a b e))
other_before down a b h e = lt-leb a b (omega (arith, leb-true b a e))

nearer_assoc : (w : Direction) (a b c : ℕ) → nearer w (nearer w a b) c ≡ nearer w a (nearer w b c)
nearer_assoc w a b c = ap (λ (x : ℕ). nearer w x c) (nearer_comm w a b) ∙ nearer_swap w b a c ∙ nearer_comm w (nearer w b c) a

module _ (w : Direction) where
  nearer_from : (n y : ℕ) (q : List ℕ) → nearest_from w (nearer w n y) q ≡ nearer w n (nearest_from w y q)
  unfolding nearest_from
  nearer_from n y [] = refl
  nearer_from n y (z ∷ q) = ap (λ (x : ℕ). nearest_from w x q) (nearer_assoc w n y z) ∙ nearer_from n (nearer w y z) q

-- the first of a list, and how many he is
abbrev first_of : Direction → List ℕ → GrowerCount
first_of w l = record { grower = nearest w l; records = length (keep (eqb (nearest w l)) l) }

abbrev AllPast : Direction → List ℕ → Type 0
AllPast w l = All (λ (x : ℕ). at_or_past w (nearest w l) x ≡ true) l

none_counted : (k : ℕ) → length (keep (eqb k) []) ≡ 0
unfolding keep
none_counted k = refl

-- one that comes before the first of a list is not in it
not_in : (w : Direction) (k : ℕ) (l : List ℕ) → Before w k (nearest w l) → AllPast w l → keep (eqb k) l ≡ []
not_in w k l h =
    none_kept (λ (x : ℕ). at_or_past w (nearest w l) x ≡ true) (eqb k)
    (λ x e. ne_eqb k x (λ q. no_such (of_true (at_or_past w (nearest w l) k) (rw q e)) h)) l

-- Two counts joined.

module _ (w : Direction) (a b : GrowerCount) where
  join_first : b.records < 1 → joined_count w a b ≡ a
  unfolding joined_count
  join_first h = rw (le-ltb 0 b.records (omega arith))

  join_second : 1 ≤ b.records → a.records < 1 → joined_count w a b ≡ b
  unfolding joined_count
  join_second h k = rw (lt-ltb 0 b.records h, le-ltb 0 a.records (omega arith))

  abbrev joined_both : GrowerCount
  joined_both =
      cond (eqb a.grower b.grower) (record { grower = a.grower; records = a.records + b.records }) (cond (at_or_past w a.grower b.grower) a b)

  join_both : 1 ≤ b.records → 1 ≤ a.records → joined_count w a b ≡ joined_both
  unfolding joined_count
  join_both h k = rw (lt-ltb 0 b.records h, lt-ltb 0 a.records k)

-- two lists that are not empty
module _ (w : Direction) (a b : List ℕ) (past-a : AllPast w a) (past-b : AllPast w b) (both : nearest w (a ++ b) ≡ nearer w (nearest w a) (nearest w b)) where
  counts-joined : (k : ℕ) → nearest w (a ++ b) ≡ k → first_of w (a ++ b) ≡ record { grower = k; records = length (keep (eqb k) a) + length (keep (eqb k) b) }
  counts-joined k e = rw (e, keep_append (eqb k) a b, length-append)

  some_joined : first_of w (a ++ b) ≡ joined_both w (first_of w a) (first_of w b)
  some_joined = go (eqb n m) refl (at_or_past w n m) refl
    where
      n : ℕ
      n = nearest w a

      m : ℕ
      m = nearest w b

      go : (t : Bool) → eqb n m ≡ t → (u : Bool) → at_or_past w n m ≡ u
          → first_of w (a ++ b) ≡ cond t (record { grower = n; records = length (keep (eqb n) a) + length (keep (eqb m) b) }) (cond u (first_of w a) (first_of w b))
      go true e u f =
          let q : n ≡ m = eqb-true n m e in
          let past : at_or_past w n m ≡ true = rw (← q) (past_self w n) in
          counts-joined n (both ∙ rw past) ∙ rw q
      go false e true f =
          let none : keep (eqb n) b ≡ [] = not_in w n b (other_before w n m (eqb-false n m e) f) past-b in
          counts-joined n (both ∙ rw f) ∙ ap (λ (r : ℕ). record { grower = n; records = r }) (omega (arith, ap length none))
      go false e false f =
          let none : keep (eqb m) a ≡ [] = not_in w m a f past-a in
          counts-joined m (both ∙ rw f) ∙ ap (λ (r : ℕ). record { grower = m; records = r }) (omega (arith, ap length none))

first_joined : (w : Direction) (p q : List ℕ) → first_of w (p ++ q) ≡ joined_count w (first_of w p) (first_of w q)
unfolding nearest nearest_from
first_joined w p [] = rw append-nil (sym (join_first w (first_of w p) (first_of w []) (omega (arith, none_counted 0))))
first_joined w [] (y ∷ q) = sym (join_second w (first_of w []) (first_of w (y ∷ q)) (first_counted w y q) (omega (arith, none_counted 0)))
first_joined w (x ∷ p) (y ∷ q) =
    some_joined w (x ∷ p) (y ∷ q) (all_past w x p) (all_past w y q) (nearest-append w x p (y ∷ q) ∙ nearer_from w (nearest_from w x p) y q)
    ∙ sym (join_both w (first_of w (x ∷ p)) (first_of w (y ∷ q)) (first_counted w y q) (first_counted w x p))

pub nearest-joined : (w : Direction) (g : ℕ) (a b : List ℕ) → nearest_of w g (a ++ b) ≡ joined_count w (nearest_of w g a) (nearest_of w g b)
unfolding nearest_of
nearest-joined w g a b = rw (keep_append (at_or_past w g) a b) (first_joined w (keep (at_or_past w g) a) (keep (at_or_past w g) b))

-- A stride more: m is its first grower or the last number, and n of its growers are m.

-- n records of m, who comes no later than the grower so far
module _ (w : Direction) (a : GrowerCount) (m n : ℕ) (h : 1 ≤ n) where
  abbrev more : GrowerCount
  more = record { grower = m; records = n }

  join_same : a.grower ≡ m → joined_count w a more ≡ record { grower = m; records = a.records + n }
  join_same e = go (dec_le 1 a.records)
    where
      go : Dec (1 ≤ a.records) → joined_count w a more ≡ record { grower = m; records = a.records + n }
      go (yes k) = join_both w a more h k ∙ rw (eq-eqb a.grower m e, e)
      go (no k) = join_second w a more h (omega arith) ∙ ap (λ (r : ℕ). record { grower = m; records = r }) (omega arith)

  join_other : (a.grower ≡ m → ⊥) → (1 ≤ a.records → at_or_past w m a.grower ≡ true) → joined_count w a more ≡ more
  join_other e f = go (dec_le 1 a.records)
    where
      go : Dec (1 ≤ a.records) → joined_count w a more ≡ more
      go (yes k) = join_both w a more h k ∙ rw (ne_eqb a.grower m e, other_before w m a.grower (λ q. e (sym q)) (f k))
      go (no k) = join_second w a more h (omega arith)

-- Numbers from g to last on the way.
module _ (w : Direction) (g last : ℕ) where
  -- of one at or past g it is asked whether last is at or past him; no other is one
  to_last : (x : ℕ) → at_or_past w g x ≡ true → from_to w g last x ≡ at_or_past w x last
  to_last x e = go w e
    where
      go : (v : Direction) → at_or_past v g x ≡ true → from_to v g last x ≡ at_or_past v x last
      go up f = rw f
      go down f = rw f (and-true (leb last x))

  not_from : (x : ℕ) → at_or_past w g x ≡ false → from_to w g last x ≡ false
  not_from x e = go w e
    where
      go : (v : Direction) → at_or_past v g x ≡ false → from_to v g last x ≡ false
      go up f = rw f
      go down f = rw f (and-false (leb last x))

  none_after : (gs : List ℕ) → none_from_to w g last gs ≡ true → All (Before w last) (keep (at_or_past w g) gs)
  unfolding every keep All
  none_after [] e = tt
  none_after (x ∷ gs) e = go (at_or_past w g x) refl (from_to w g last x) refl e (none_after gs)
    where
      go : (t : Bool) → at_or_past w g x ≡ t → (u : Bool) → from_to w g last x ≡ u → not u && none_from_to w g last gs ≡ true
          → (none_from_to w g last gs ≡ true → All (Before w last) (keep (at_or_past w g) gs))
          → All (Before w last) (cond t (x ∷ keep (at_or_past w g) gs) (keep (at_or_past w g) gs))
      go t p true q f ih = absurd (no_such (of_true _ f) refl)
      go true p false q f ih = (sym (to_last x p) ∙ q, ih f)
      go false p false q f ih = ih f

  after_none : (gs : List ℕ) → All (Before w last) (keep (at_or_past w g) gs) → none_from_to w g last gs ≡ true
  unfolding every keep All
  after_none [] h = refl
  after_none (x ∷ gs) h = go (at_or_past w g x) refl h (after_none gs)
    where
      go : (t : Bool) → at_or_past w g x ≡ t → All (Before w last) (cond t (x ∷ keep (at_or_past w g) gs) (keep (at_or_past w g) gs))
          → (All (Before w last) (keep (at_or_past w g) gs) → none_from_to w g last gs ≡ true) → not (from_to w g last x) && none_from_to w g last gs ≡ true
      go true p k ih = rw (to_last x p, k.0) (ih k.1)
      go false p k ih = rw (not_from x p) (ih k)

-- what comes before m comes before all at or past m
before_all : (w : Direction) (n m x : ℕ) → Before w n m → at_or_past w m x ≡ true → Before w n x
before_all w n m x e f = is_false (at_or_past w x n) (λ t. no_such (of_true _ (past_trans w m x n f (is_true _ t))) e)

pub all_fit : (gs : List ℕ) → ((i : ℕ) → get_or gs i 0 ≤ most_number) → All (λ (x : ℕ). x ≤ most_number) gs
unfolding All
all_fit [] h = tt
all_fit (x ∷ gs) h = (h 0, all_fit gs (λ i. h (suc i)))

-- the last wanted is at or past g
pub wanted_past : (w : Direction) (g : ℕ) (a : GrowerCount) → g ≤ most_number → (1 ≤ a.records → at_or_past w g a.grower ≡ true) → at_or_past w g (last_wanted w a) ≡ true
wanted_past w g a h past = go (dec_le 1 a.records)
  where
    go : Dec (1 ≤ a.records) → at_or_past w g (last_wanted w a) ≡ true
    go (yes k) = rw (lt-ltb 0 a.records k) (past k)
    go (no k) = rw (le-ltb 0 a.records (omega arith)) (last_past w g h)

-- A stride gs after a search that found a: where none of gs is g to the last wanted, a stays.
module _ (w : Direction) (g : ℕ) (gs : List ℕ) (fits : All (λ (x : ℕ). x ≤ most_number) gs) (a : GrowerCount) where
  abbrev past : List ℕ
  past = keep (at_or_past w g) gs

  abbrev last : ℕ
  last = last_wanted w a

  abbrev his : GrowerCount
  his = nearest_of w g gs

  last_found : 1 ≤ a.records → last ≡ a.grower
  last_found k = rw (lt-ltb 0 a.records k)

  last_none : a.records < 1 → last ≡ last_number w
  last_none k = rw (le-ltb 0 a.records (omega arith))

  -- what each at or past g has, the first has; and each is at or past him
  he_has : (P : ℕ → Type 0) → All P past → 1 ≤ his.records → P his.grower
  unfolding nearest_of nearest keep All
  he_has P all h = go past all h
    where
      go : (l : List ℕ) → All P l → 1 ≤ length (keep (eqb (nearest w l)) l) → P (nearest w l)
      go [] k h = absurd (omega arith)
      go (x ∷ l) k h = one_of w P x l k.0 k.1

  he_first : All (λ (x : ℕ). at_or_past w his.grower x ≡ true) past
  unfolding nearest_of nearest All
  he_first = go past
    where
      go : (l : List ℕ) → AllPast w l
      go [] = tt
      go (x ∷ l) = all_past w x l

  none_past : his.records < 1 → past ≡ []
  none_past h = none_left past (holds_is w g gs ∙ le-ltb 0 his.records (omega arith))

  pub passed_over : none_from_to w g last gs ≡ true → joined_count w a his ≡ a
  passed_over e = go (dec_le 1 his.records) (dec_le 1 a.records)
    where
      after : 1 ≤ his.records → Before w last his.grower
      after = he_has (Before w last) (none_after w g last gs e)

      go : Dec (1 ≤ his.records) → Dec (1 ≤ a.records) → joined_count w a his ≡ a
      go (no h) d = join_first w a his (omega arith)
      go (yes h) (yes k) =
          let b : Before w a.grower his.grower = rw (last_found k) at (after h) in
          join_both w a his h k ∙ rw (before_other w a.grower his.grower b, before_past w a.grower his.grower b)
      go (yes h) (no k) =
          let b : Before w (last_number w) his.grower = rw (last_none (omega arith)) at (after h) in
          let f : his.grower ≤ most_number = he_has (λ (x : ℕ). x ≤ most_number) (all_keep (λ (x : ℕ). x ≤ most_number) (at_or_past w g) gs fits) h in
          absurd (no_such (of_true _ (last_past w his.grower f)) b)

  -- else there is one at or past g, and the first comes no later than the last wanted
  pub wanted : none_from_to w g last gs ≡ false → (1 ≤ his.records) × (at_or_past w his.grower last ≡ true)
  unfolding All
  wanted e = go (dec_le 1 his.records) (at_or_past w his.grower last) refl
    where
      not_all : All (Before w last) past → ⊥
      not_all h = no_such (of_true _ (after_none w g last gs h)) e

      go : Dec (1 ≤ his.records) → (t : Bool) → at_or_past w his.grower last ≡ t → (1 ≤ his.records) × (at_or_past w his.grower last ≡ true)
      go (no h) t f = absurd (not_all (subst (All (Before w last)) (sym (none_past (omega arith))) tt))
      go (yes h) true f = (h, f)
      go (yes h) false f =
          absurd (not_all (all_imply (λ (x : ℕ). at_or_past w his.grower x ≡ true) (Before w last) (λ x k. before_all w last his.grower x f k) past he_first))

  -- n records of m, who is the first, are joined to a
  module _ (m n : ℕ) (g-fits : g ≤ most_number) (first : m ≡ nearest_or w (last_number w) past) (count : n ≡ count_between m m gs) (e : none_from_to w g last gs ≡ false) where
    some : 1 ≤ n
    some = omega (arith, (wanted e).0, records_found w g gs m n g-fits first count)

    found : his ≡ record { grower = m; records = n }
    found = λ i. record { grower = grower_found w g gs m n g-fits first count some i; records = records_found w g gs m n g-fits first count i }

    no_later : 1 ≤ a.records → at_or_past w m a.grower ≡ true
    no_later k = rw (last_found k, grower_found w g gs m n g-fits first count some) at (wanted e).1

    -- a's records are before these where he is m
    pub first_joins : (before : ℕ) → (a.grower ≡ m → before ≡ a.records) → ((a.grower ≡ m → ⊥) → before ≡ 0)
        → ◌≡◌ {A = Nearest} (record { grower = m; records = before + n }) (nearest_as (joined_count w a his))
    first_joins before same other = go (ℕ_discrete a.grower m)
      where
        go : Dec (a.grower ≡ m) → ◌≡◌ {A = Nearest} (record { grower = m; records = before + n }) (nearest_as (joined_count w a his))
        go (yes q) = ap (λ (x : ℕ). record { grower = m; records = x + n }) (same q) ∙ ap nearest_as (sym (rw found (join_same w a m n some q)))
        go (no q) =
            let z : before + n ≡ n = omega (arith, other q) in
            ap (λ (x : ℕ). record { grower = m; records = x }) z ∙ ap nearest_as (sym (rw found (join_other w a m n some q no_later)))

-- Counts joined in the other order: where neither has a record they are to be equal.
joined_comm : (w : Direction) (a b : GrowerCount) → (a.records < 1 → b.records < 1 → a ≡ b) → joined_count w a b ≡ joined_count w b a
joined_comm w a b none = go (dec_le 1 a.records) (dec_le 1 b.records)
  where
    both : (t : Bool) → eqb a.grower b.grower ≡ t → (u : Bool) → at_or_past w a.grower b.grower ≡ u → joined_both w a b ≡ joined_both w b a
    both true e u f =
        let q : a.grower ≡ b.grower = eqb-true a.grower b.grower e in
        let sum : a.records + b.records ≡ b.records + a.records = omega arith in
        rw (e, eq-eqb b.grower a.grower (sym q)) (λ i. record { grower = q i; records = sum i })
    both false e true f =
        let o = eqb-false a.grower b.grower e in
        rw (e, ne_eqb b.grower a.grower (λ q. o (sym q)), f, other_before w a.grower b.grower o f)
    both false e false f =
        let o = eqb-false a.grower b.grower e in
        rw (e, ne_eqb b.grower a.grower (λ q. o (sym q)), f, before_past w b.grower a.grower f)

    go : Dec (1 ≤ a.records) → Dec (1 ≤ b.records) → joined_count w a b ≡ joined_count w b a
    go (yes h) (yes k) = join_both w a b k h ∙ both (eqb a.grower b.grower) refl (at_or_past w a.grower b.grower) refl ∙ sym (join_both w b a h k)
    go (yes h) (no k) = join_first w a b (omega arith) ∙ sym (join_second w b a h (omega arith))
    go (no h) (yes k) = join_second w a b k (omega arith) ∙ sym (join_first w b a (omega arith))
    go (no h) (no k) = join_first w a b (omega arith) ∙ none (omega arith) (omega arith) ∙ sym (join_first w b a (omega arith))

nearest-behind : (w : Direction) (g : ℕ) (a b : List ℕ) → nearest_of w g (b ++ a) ≡ joined_count w (nearest_of w g a) (nearest_of w g b)
nearest-behind w g a b =
    nearest-joined w g b a
    ∙ joined_comm w (nearest_of w g b) (nearest_of w g a) (λ h k. nothing (nearest_of w g b) (nearest_is w g b) h ∙ sym (nothing (nearest_of w g a) (nearest_is w g a) k))
  where
    nothing : {gs : List ℕ} (n : GrowerCount) → IsNearest w g gs n → n.records < 1 → n ≡ record { grower = 0; records = 0 }
    nothing n v h = let z : n.records ≡ 0 = omega arith in λ i. record { grower = v.none z i; records = z i }

-- Strides.

module _ (d : Direction) (k : ℕ) where
  -- a search that may have met a value out of range goes on
  abbrev on : Option Nearest → List Delivery → Option Nearest
  on None b = None
  on (Some n) b = near_more d k n b

  near_none : near_all d k [] ≡ Some (record { grower = 0; records = 0 })
  unfolding near_all every keep nearest_of nearest
  near_none = refl

  near_joined : (a b : List Delivery) → near_all d k (a ++ b) ≡ on (near_all d k a) b
  unfolding near_all near_more
  near_joined a b = rw (every-joined, map-append, nearest-joined) (go (every in_range a))
    where
      go : (t : Bool) → cond (t && every in_range b) (Some (nearest_as (joined_count d (nearest_of d k (growers_of a)) (nearest_of d k (growers_of b))))) None
          ≡ on (cond t (Some (nearest_as (nearest_of d k (growers_of a)))) None) b
      go true = refl
      go false = refl

  near_behind : (a b : List Delivery) → near_all d k (b ++ a) ≡ on (near_all d k a) b
  unfolding near_all near_more
  near_behind a b = rw (every-joined, map-append, nearest-behind, and_comm (every in_range b) (every in_range a)) (go (every in_range a))
    where
      go : (t : Bool) → cond (t && every in_range b) (Some (nearest_as (joined_count d (nearest_of d k (growers_of a)) (nearest_of d k (growers_of b))))) None
          ≡ on (cond t (Some (nearest_as (nearest_of d k (growers_of a)))) None) b
      go true = refl
      go false = refl

  near_fits : (ds : List Delivery) (s : Nearest) → length ds ≤ most_slots → Some s ≡ near_all d k ds → Fits d k s
  unfolding near_all
  near_fits ds s h e = go (every in_range ds) e
    where
      go : (t : Bool) → Some s ≡ cond t (Some (nearest_as (nearest_of d k (growers_of ds)))) None → Fits d k s
      go true f =
          let n : Fits d k (nearest_as (nearest_of d k (growers_of ds))) = record {
            few = omega (arith, records_most d k (growers_of ds), length-map ds grower_of);
            past = λ u. is_true _ ((nearest_is d k (growers_of ds)).there u).1;
          } in
          let q : s ≡ nearest_as (nearest_of d k (growers_of ds)) = cc in
          rw q n
      go false f = cc

-- n records of the way are behind the search and it has found o: upward the first n, downward the last
abbrev pub Onward : Direction → ℕ → Slices → Option Nearest → ℕ → Type 0
Onward up k ss o n = Strides (near_all up k) ss o n
Onward down k ss o n = (n ≤ length ss.growers) × BackStrides (near_all down k) ss o (length ss.growers - n)

-- the edge between what is behind a search and what is ahead
abbrev pub edge_of : Direction → ℕ → ℕ → ℕ
edge_of d m n = onward d (either d 0 m) n

module _ (d : Direction) (k : ℕ) (ss : Slices) (p : Even ss) where
  pub onward_start : Onward d k ss (Some (record { grower = 0; records = 0 })) 0
  onward_start = go d
    where
      go : (v : Direction) → Onward v k ss (Some (record { grower = 0; records = 0 })) 0
      go up = record { at = omega arith; so_far = sym (near_none up k) }
      go down =
          let z : drop (length ss.growers - 0) (rows ss) ≡ [] = drop_of_length-le (rows ss) {i = length ss.growers - 0} (omega (arith, length-rows ss p)) in
          (omega arith, record { at = omega arith; so_far = rw z (sym (near_none down k)) })

  -- the rest are its last
  pub onward_end : (o : Option Nearest) (i : ℕ) → Onward d k ss o i → length ss.growers ≤ i → o ≡ near_all d k (rows ss)
  onward_end o i t h = go d t
    where
      go : (v : Direction) → Onward v k ss o i → o ≡ near_all v k (rows ss)
      go up w = strides_end (near_all up k) ss p o i w h
      go down w =
          let z : length ss.growers - i ≡ 0 = omega arith in
          back_strides_end (near_all down k) ss o (rw z at w.1)

  -- a value out of range is not made good by what follows
  pub onward_bad : (i : ℕ) → Onward d k ss None i → None ≡ near_all d k (rows ss)
  onward_bad i t = go d t
    where
      go : (v : Direction) → Onward v k ss None i → None ≡ near_all v k (rows ss)
      go up w =
          ap (λ (o : Option Nearest). on up k o (drop i (rows ss))) w.so_far
          ∙ sym (near_joined up k (take i (rows ss)) (drop i (rows ss))) ∙ ap (near_all up k) (take-append-drop i (rows ss))
      go down w =
          let e : ℕ = length ss.growers - i in
          ap (λ (o : Option Nearest). on down k o (take e (rows ss))) w.1.so_far
          ∙ sym (near_behind down k (drop e (rows ss)) (take e (rows ss))) ∙ ap (near_all down k) (take-append-drop e (rows ss))

  module _ (s : Nearest) (i : ℕ) (t : Onward d k ss (Some s) i) where
    pub onward_fits : length ss.growers ≤ most_slots → Fits d k s
    onward_fits h = go d t
      where
        short : length (rows ss) ≤ most_slots
        short = omega (arith, length-rows ss p)

        go : (v : Direction) → Onward v k ss (Some s) i → Fits v k s
        go up w = near_fits up k (take i (rows ss)) s (omega (arith, length-take i (rows ss), short)) w.so_far
        go down w = near_fits down k (drop (length ss.growers - i) (rows ss)) s (omega (arith, length-drop (length ss.growers - i) (rows ss), short)) w.1.so_far

    -- n records more, which are those next to the edge
    onward_next : (n : ℕ) (o : Option Nearest) → i + n ≤ length ss.growers
        → o ≡ near_more d k s (rows (slices_part (lower d (edge_of d (length ss.growers) i) n) (lower d (edge_of d (length ss.growers) i) n + n) ss))
        → Onward d k ss o (i + n)
    onward_next n o h e = go d t e
      where
        go : (v : Direction) → Onward v k ss (Some s) i
            → o ≡ near_more v k s (rows (slices_part (lower v (edge_of v (length ss.growers) i) n) (lower v (edge_of v (length ss.growers) i) n + n) ss))
            → Onward v k ss o (i + n)
        go up w f =
            let z : 0 + i ≡ i = omega arith in
            let y : i + n - i ≡ n = omega arith in
            strides_next (near_all up k) (λ (x : Option Nearest) (j : ℕ) (ds : List Delivery). on up k x ds) (near_joined up k) ss p (Some s) i w n o h
            (rw (z, y) at f)
        go down w f =
            let a : ℕ = length ss.growers - (i + n) in
            let z : length ss.growers - i - n ≡ a = omega arith in
            let y : a + n - a ≡ n = omega arith in (
              h,
              back_strides_next (near_all down k) (on down k) (near_behind down k) ss (Some s) (length ss.growers - i) w.1 n a o
                  (omega (arith, w.0)) (rw (z, y) at f),
            )

    -- the same as the code has it
    pub onward_part : (m q n : ℕ) (first edge : ℕ) (part : Slices) (o : Option Nearest) → m ≡ length ss.growers → first ≡ either d 0 m → q ≡ i → edge ≡ onward d first q
        → part ≡ slices_part (lower d edge n) (lower d edge n + n) ss → i + n ≤ m → o ≡ near_more d k s (rows part) → Onward d k ss o (i + n)
    onward_part m q n first edge part o em ef eq ee ep h e =
        let at : edge ≡ edge_of d (length ss.growers) i = ee ∙ rw (eq, ef, em) in
        onward_next n o (omega arith) (rw at at (e ∙ ap (λ (x : Slices). near_more d k s (rows x)) ep))
