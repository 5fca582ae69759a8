-- Lists and numbers: the lemmas that every other file shares. Assumes nothing.
use Prim.Native.Nat.{ℕ, zero, suc, ◌+◌, ◌-◌, ◌*◌, ◌≤◌, ◌<◌}
use mathlib.Core.Path.{◌≡◌, refl, sym, ap, ◌∙◌, subst}
use mathlib.Core.Bool.{Bool, true, false, cond, ◌&&◌, and_assoc}
use mathlib.Core.List.{List, [], ◌∷◌, ◌++◌, append_assoc, map, flatten, Permᴰ}
use native.Mathlib.Omega.{arith}
use native.Mathlib.Numerals.{add-one}
use native.Mathlib.Nat.{div-add-mod', mod-lt, div-eq_of_lt-le, mul-le-mul_right}
use native.Mathlib.Decide.{ℕ_discrete, dec_le}
use lib.Dec.{T, leb, ltb, leb→le, le→leb, ltb→lt, lt→ltb}
use lib.ListN.{length, get_or, take, drop, set, take-append-drop}
use lib.Seq.{take-suc, take-nil, take-add, drop-cons, set_split}
use Rattle.model.specs.Lists.{sum_of, ceil_div, up_from, every, keep, rising, never_falls}
use Rattle.model.proofs.Tests.{and_fst, and_snd, and_mk}

-- Sums.

pub sum-append : (a b : List ℕ) → sum_of (a ++ b) ≡ sum_of a + sum_of b
unfolding sum_of
sum-append [] b = omega arith
sum-append (n ∷ a) b = omega (arith, sum-append a b)

-- a list's sum, cut at t
pub sum_cut : (t : ℕ) (l : List ℕ) → sum_of l ≡ sum_of (take t l) + sum_of (drop t l)
sum_cut t l = ap sum_of (sym (take-append-drop t l)) ∙ sum-append (take t l) (drop t l)

pub sum-take_next : (l : List ℕ) (i : ℕ) → i < length l → sum_of (take (i + 1) l) ≡ sum_of (take i l) + get_or l i 0
unfolding sum_of
sum-take_next l i h = rw (add-one, take-suc l i 0, sum-append) (omega arith)

pub sum-take_le : (l : List ℕ) (i : ℕ) → sum_of (take i l) ≤ sum_of l
sum-take_le l i = omega (arith, sum_cut i l)

-- a part of a list is at most its sum
pub elem_le : (l : List ℕ) (i : ℕ) → get_or l i 0 ≤ sum_of l
unfolding sum_of
elem_le [] i = omega arith
elem_le (n ∷ l) zero = omega arith
elem_le (n ∷ l) (suc i) = omega (arith, elem_le l i)

-- a sum in two
pub sum-span : (l : List ℕ) (t k : ℕ) → t ≤ k → sum_of (take k l) ≡ sum_of (take t l) + sum_of (take (k - t) (drop t l))
sum-span l t k h =
    let e : k ≡ t + (k - t) = omega arith in
    ap (λ (n : ℕ). sum_of (take n l)) e ∙ ap sum_of (take-add t (k - t) l) ∙ sum-append _ _

-- Lists that were mapped, joined, or changed at one place.

pub map-take : {A B : Type 0} (f : A → B) (n : ℕ) (l : List A) → map f (take n l) ≡ take n (map f l)
map-take f zero l = refl
map-take f (suc n) [] = refl
map-take {B = B} f (suc n) (x ∷ l) = ap (λ (r : List B). f x ∷ r) (map-take f n l)

pub map-drop : {A B : Type 0} (f : A → B) (n : ℕ) (l : List A) → map f (drop n l) ≡ drop n (map f l)
map-drop f zero l = refl
map-drop f (suc n) [] = refl
map-drop f (suc n) (x ∷ l) = map-drop f n l

module _ {A : Type 0} where
  pub flatten-append : (a b : List (List A)) → flatten (a ++ b) ≡ flatten a ++ flatten b
  unfolding flatten
  flatten-append [] b = refl
  flatten-append (p ∷ a) b = rw (flatten-append a b, append_assoc)

  -- one partition among others, joined
  pub flatten-at : (a : List (List A)) (p : List A) (b : List (List A)) → flatten (a ++ p ∷ b) ≡ flatten a ++ (p ++ flatten b)
  unfolding flatten
  flatten-at a p b = flatten-append a (p ∷ b)

-- what is left of the first a + b elements after the first a
pub drop-take : {A : Type 0} (a b : ℕ) (l : List A) → drop a (take (a + b) l) ≡ take b (drop a l)
drop-take zero b l =
    let e : 0 + b ≡ b = omega arith in
    rw e
drop-take (suc a) b [] = rw (take-nil (suc a + b), take-nil b)
drop-take (suc a) b (x ∷ l) =
    let e : suc a + b ≡ suc (a + b) = omega arith in
    rw e (drop-take a b l)

-- what follows a place, its element first
pub drop_next : (l : List ℕ) (i : ℕ) → i < length l → drop i l ≡ get_or l i 0 ∷ drop (i + 1) l
drop_next l i h = rw (drop-cons l i 0 h, add-one)

-- a list in which one element is new
pub set_one : {A : Type 0} (t : ℕ) (a : A) (l : List A) → t < length l → set l t a ≡ take t l ++ a ∷ drop (t + 1) l
set_one t a l h = rw add-one (set_split l t a h)

-- Lists by their elements.

pub at_map : (f : ℕ → ℕ) (l : List ℕ) (i : ℕ) → i < length l → get_or (map f l) i 0 ≡ f (get_or l i 0)
at_map f [] i h = absurd (omega arith)
at_map f (x ∷ l) zero h = refl
at_map f (x ∷ l) (suc i) h = at_map f l i (omega arith)

pub at_up_from : (a n i : ℕ) → i < n → get_or (up_from a n) i 0 ≡ a + i
unfolding up_from
at_up_from a zero i h = absurd (omega arith)
at_up_from a (suc n) zero h = omega arith
at_up_from a (suc n) (suc i) h = omega (arith, at_up_from (a + 1) n i (omega arith))

pub length_up_from : (a n : ℕ) → length (up_from a n) ≡ n
unfolding up_from
length_up_from a zero = refl
length_up_from a (suc n) = ap suc (length_up_from (a + 1) n)

-- where neighbours stand in a transitive relation, any two elements do
module _ (r : ℕ → ℕ → Bool) (linked : List ℕ → Bool) (next : (a b : ℕ) (l : List ℕ) → T (linked (a ∷ b ∷ l)) → T (r a b) × T (linked (b ∷ l)))
    (across : (a b c : ℕ) → T (r a b) → T (r b c) → T (r a c)) where
  from_first : (a : ℕ) (l : List ℕ) (j : ℕ) → T (linked (a ∷ l)) → j < length l → T (r a (get_or l j 0))
  from_first a [] j h k = absurd (omega arith)
  from_first a (b ∷ l) zero h k = (next a b l h).0
  from_first a (b ∷ l) (suc j) h k = across a b (get_or l j 0) (next a b l h).0 (from_first b l j (next a b l h).1 (omega arith))

  any_two : (l : List ℕ) (i j : ℕ) → T (linked l) → i < j → j < length l → T (r (get_or l i 0) (get_or l j 0))
  any_two [] i j h k m = absurd (omega arith)
  any_two (a ∷ l) i zero h k m = absurd (omega arith)
  any_two (a ∷ l) zero (suc j) h k m = from_first a l j h (omega arith)
  any_two (a ∷ []) (suc i) (suc j) h k m = absurd (omega arith)
  any_two (a ∷ b ∷ l) (suc i) (suc j) h k m = any_two (b ∷ l) i j (next a b l h).1 (omega arith) (omega arith)

pub rises : (l : List ℕ) (i j : ℕ) → T (rising l) → i < j → j < length l → get_or l i 0 < get_or l j 0
unfolding rising
rises l i j h k m =
    ltb→lt _ _
    (any_two ltb rising (λ a b l t. (and_fst (ltb a b) (rising (b ∷ l)) t, and_snd (ltb a b) (rising (b ∷ l)) t))
    (λ a b c x y. lt→ltb a c (omega (arith, ltb→lt a b x, ltb→lt b c y))) l i j h k m)

pub sorted : (l : List ℕ) (i j : ℕ) → T (never_falls l) → i ≤ j → j < length l → get_or l i 0 ≤ get_or l j 0
unfolding never_falls
sorted l i j h k m = go (ℕ_discrete i j)
  where
    go : Dec (i ≡ j) → get_or l i 0 ≤ get_or l j 0
    go (yes e) = rw e (omega arith)
    go (no n) =
        leb→le _ _
        (any_two leb never_falls (λ a b l t. (and_fst (leb a b) (never_falls (b ∷ l)) t, and_snd (leb a b) (never_falls (b ∷ l)) t))
        (λ a b c x y. le→leb a c (omega (arith, leb→le a b x, leb→le b c y))) l i j h (omega arith) m)

pub every-at : (f : ℕ → Bool) (l : List ℕ) (p : ℕ) → T (every f l) → p < length l → T (f (get_or l p 0))
unfolding every
every-at f [] p h k = absurd (omega arith)
every-at f (x ∷ l) zero h k = and_fst (f x) (every f l) h
every-at f (x ∷ l) (suc p) h k = every-at f l p (and_snd (f x) (every f l) h) (omega arith)

pub every_of : (f : ℕ → Bool) (l : List ℕ) → ((p : ℕ) → p < length l → T (f (get_or l p 0))) → T (every f l)
unfolding every
every_of f [] h = tt
every_of f (x ∷ l) h = and_mk (f x) (every f l) (h 0 (omega arith)) (every_of f l (λ p k. h (suc p) (omega arith)))

every_take : {A : Type 0} (f : A → Bool) (n m : ℕ) (l : List A) → n ≤ m → T (every f (take m l)) → T (every f (take n l))
unfolding every
every_take f zero m l h t = tt
every_take f (suc n) zero l h t = absurd (omega arith)
every_take f (suc n) (suc m) [] h t = tt
every_take f (suc n) (suc m) (x ∷ l) h t = and_mk (f x) (every f (take n l)) (and_fst (f x) (every f (take m l)) t) (every_take f n m l (omega arith) (and_snd (f x) (every f (take m l)) t))

pub every-part : {A : Type 0} (f : A → Bool) (a n m : ℕ) (l : List A) → a + n ≤ m → T (every f (take m l)) → T (every f (take n (drop a l)))
unfolding every
every-part f zero n m l h t = every_take f n m l (omega arith) t
every-part f (suc a) n zero l h t = absurd (omega arith)
every-part f (suc a) zero (suc m) [] h t = tt
every-part f (suc a) (suc n) (suc m) [] h t = tt
every-part f (suc a) n (suc m) (x ∷ l) h t = every-part f a n m l (omega arith) (and_snd (f x) (every f (take m l)) t)

-- Division rounded up.

pub ceil_least : (n b : ℕ) → 1 ≤ b → n ≤ ceil_div n b * b
unfolding ceil_div
ceil_least n b h = omega (arith, div-add-mod' (n + (b - 1)) b, mod-lt (n + (b - 1)) h)

pub ceil_most : (n b : ℕ) → 1 ≤ b → ceil_div n b * b < n + b
unfolding ceil_div
ceil_most n b h = omega (arith, div-add-mod' (n + (b - 1)) b)

pub ceil_only : (n b q : ℕ) → 1 ≤ b → n ≤ q * b → q * b < n + b → ceil_div n b ≡ q
unfolding ceil_div
ceil_only n b q h l m = div-eq_of_lt-le b (omega arith) (omega arith)

pub ceil_some : (n b : ℕ) → 1 ≤ b → 1 ≤ n → 1 ≤ ceil_div n b
ceil_some n b h k = go (ceil_div n b) (ceil_least n b h)
  where
    go : (q : ℕ) → n ≤ q * b → 1 ≤ q
    go zero l = absurd (omega arith)
    go (suc q) l = omega arith

pub ceil_within : (q n b : ℕ) → 1 ≤ b → n ≤ q * b → ceil_div n b ≤ q
ceil_within q n b h k = go (dec_le (ceil_div n b) q)
  where
    go : Dec (ceil_div n b ≤ q) → ceil_div n b ≤ q
    go (yes l) = l
    go (no l) =
        let m : (q + 1) * b ≤ ceil_div n b * b = mul-le-mul_right b (omega arith) in
        absurd (omega (arith, m, ceil_most n b h))

-- Tests of lists that were joined.

module _ {A : Type 0} (f : A → Bool) where
  pub keep_append : (a b : List A) → keep f (a ++ b) ≡ keep f a ++ keep f b
  unfolding keep
  keep_append [] b = refl
  keep_append (x ∷ a) b = rw (keep_append a b) (go (f x))
    where
      go : (t : Bool) → cond t (x ∷ (keep f a ++ keep f b)) (keep f a ++ keep f b) ≡ cond t (x ∷ keep f a) (keep f a) ++ keep f b
      go true = refl
      go false = refl

  pub every-joined : (a b : List A) → every f (a ++ b) ≡ every f a && every f b
  unfolding every
  every-joined [] b = refl
  every-joined (x ∷ a) b = rw (every-joined a b) (sym (and_assoc (f x) (every f a) (every f b)))

  pub keep_fewer : (l : List A) → length (keep f l) ≤ length l
  unfolding keep
  keep_fewer [] = omega arith
  keep_fewer (x ∷ l) = go (f x) (keep_fewer l)
    where
      go : (t : Bool) → length (keep f l) ≤ length l → length (cond t (x ∷ keep f l) (keep f l)) ≤ length (x ∷ l)
      go true h = omega arith
      go false h = omega arith

  pub every_cut : (n : ℕ) (l : List A) → every f l ≡ every f (take n l) && every f (drop n l)
  every_cut n l = ap (every f) (sym (take-append-drop n l)) ∙ every-joined (take n l) (drop n l)

  pub every_front : (n : ℕ) (l : List A) → T (every f l) → T (every f (take n l))
  every_front n l t = and_fst (every f (take n l)) (every f (drop n l)) (subst T (every_cut n l) t)

  pub every_back : (n : ℕ) (l : List A) → T (every f l) → T (every f (drop n l))
  every_back n l t = and_snd (every f (take n l)) (every f (drop n l)) (subst T (every_cut n l) t)

-- set behind a front
pub set-append-add : (p q : List ℕ) (i x : ℕ) → set (p ++ q) (length p + i) x ≡ p ++ set q i x
set-append-add [] q i x =
    let e : 0 + i ≡ i = omega arith in
    rw e
set-append-add (a ∷ p) q i x =
    let e : suc (length p) + i ≡ suc (length p + i) = omega arith in
    rw e (ap (λ (l : List ℕ). a ∷ l) (set-append-add p q i x))

-- what is kept of elements that all pass
pub every_kept : {A : Type 0} (f p : A → Bool) (l : List A) → T (every f l) → T (every f (keep p l))
unfolding every keep
every_kept f p [] t = tt
every_kept f p (x ∷ l) t = go (p x) (every_kept f p l (and_snd (f x) (every f l) t))
  where
    go : (b : Bool) → T (every f (keep p l)) → T (every f (cond b (x ∷ keep p l) (keep p l)))
    go true h = and_mk (f x) (every f (keep p l)) (and_fst (f x) (every f l) t) h
    go false h = h

-- two tests one after the other are both at once, and in either order
pub keep_both : {A : Type 0} (f g : A → Bool) (l : List A) → keep f (keep g l) ≡ keep (λ (x : A). f x && g x) l
unfolding keep
keep_both f g [] = refl
keep_both {A} f g (x ∷ l) = rw (← keep_both f g l) (go (f x) (g x) refl)
  where
    go : (a b : Bool) → f x ≡ a → keep f (cond b (x ∷ keep g l) (keep g l)) ≡ cond (a && b) (x ∷ keep f (keep g l)) (keep f (keep g l))
    go true true e = rw e
    go false true e = rw e
    go true false e = refl
    go false false e = refl

pub keep_swap : {A : Type 0} (f g : A → Bool) (l : List A) → keep f (keep g l) ≡ keep g (keep f l)
unfolding keep
keep_swap f g [] = refl
keep_swap {A} f g (x ∷ l) = go (f x) (g x) refl refl (keep_swap f g l)
  where
    go : (a b : Bool) → f x ≡ a → g x ≡ b → keep f (keep g l) ≡ keep g (keep f l)
        → keep f (cond b (x ∷ keep g l) (keep g l)) ≡ keep g (cond a (x ∷ keep f l) (keep f l))
    go true true e k h = rw (e, k, h)
    go true false e k h = rw (k, h)
    go false true e k h = rw (e, h)
    go false false e k h = h

-- lists with the same elements in some order
pub bag-length : {A : Type 0} {a b : List A} → Permᴰ a b → length a ≡ length b
bag-length Permᴰ.nil = refl
bag-length (Permᴰ.cons e p) = ap suc (bag-length p)
bag-length (Permᴰ.swap e f) = refl
bag-length (Permᴰ.trans p q) = bag-length p ∙ bag-length q
