-- The nearest grower: he is the first at or past g; records further on do not change him, nor does their order. Assumes nothing.
use Prim.Native.Nat.{ℕ, ◌<◌, min, max}
use mathlib.Core.Path.{◌≡◌, refl, sym, ap, ap₂, ◌∙◌, subst}
use mathlib.Core.Logic.{◌⊎◌, inl, inr}
use mathlib.Core.Bool.{Bool, true, false, cond}
use mathlib.Core.List.Memᴰ
use mathlib.Core.List.{List, [], ◌∷◌, ◌++◌, append-nil, append_assoc, map, flatten, Memᴰ}
use mathlib.Core.List.{Permᴰ}
use native.Mathlib.Omega.{arith}
use borrow.Author.Tests.{le-leb, leb-true}
use lib.Dec.{T, leb, ltb, eqb, eqb→eq, eqb_refl, ltb→lt}
use lib.ListN.{length, length-append}
use Rattle.model.specs.Lists.{keep}
use Rattle.model.specs.Growers.{Direction, up, down, at_or_past, nearer, nearest_from, nearest, nearest_of, up_to_first}
use Rattle.model.specs.Laws.{IsNearest}
use Rattle.model.proofs.Tests.{of_true, is_true, is_false, leb_no, no_such}
use Rattle.model.proofs.ListLaws.{keep_append}
use Rattle.model.proofs.MovesKeep.{All}

-- Numbers on the way.

-- n comes before m
abbrev pub Before : Direction → ℕ → ℕ → Type 0
Before w n m = at_or_past w m n ≡ false

pub before_past : (w : Direction) (n m : ℕ) → Before w n m → at_or_past w n m ≡ true
before_past up n m e = le-leb n m (omega (arith, leb_no m n e))
before_past down n m e = le-leb m n (omega (arith, leb_no n m e))

pub past_self : (w : Direction) (n : ℕ) → at_or_past w n n ≡ true
past_self up n = le-leb n n (omega arith)
past_self down n = le-leb n n (omega arith)

pub past_trans : (w : Direction) (a b c : ℕ) → at_or_past w a b ≡ true → at_or_past w b c ≡ true → at_or_past w a c ≡ true
past_trans up a b c h k = le-leb a c (omega (arith, leb-true a b h, leb-true b c k))
past_trans down a b c h k = le-leb c a (omega (arith, leb-true b a h, leb-true c b k))

pub before_other : (w : Direction) (n m : ℕ) → Before w n m → eqb n m ≡ false
before_other w n m e = is_false (eqb n m) (λ t. no_such (of_true _ (ap (λ (x : ℕ). at_or_past w x n) (sym (eqb→eq n m t)) ∙ past_self w n)) e)

nearer_up : (a b : ℕ) → nearer up a b ≡ min a b
nearer_up a b = go (leb a b) refl
  where
    go : (t : Bool) → leb a b ≡ t → cond t a b ≡ min a b
    go true e = omega (arith, leb-true a b e)
    go false e = omega (arith, leb_no a b e)

nearer_down : (a b : ℕ) → nearer down a b ≡ max a b
nearer_down a b = go (leb b a) refl
  where
    go : (t : Bool) → leb b a ≡ t → cond t a b ≡ max a b
    go true e = omega (arith, leb-true b a e)
    go false e = omega (arith, leb_no b a e)

pub nearer_comm : (w : Direction) (a b : ℕ) → nearer w a b ≡ nearer w b a
nearer_comm up a b = rw (nearer_up a b, nearer_up b a) (omega arith)
nearer_comm down a b = rw (nearer_down a b, nearer_down b a) (omega arith)

pub nearer_swap : (w : Direction) (n a b : ℕ) → nearer w (nearer w n a) b ≡ nearer w (nearer w n b) a
nearer_swap up n a b = rw (nearer_up n a, nearer_up n b, nearer_up (min n a) b, nearer_up (min n b) a) (omega arith)
nearer_swap down n a b = rw (nearer_down n a, nearer_down n b, nearer_down (max n a) b, nearer_down (max n b) a) (omega arith)

-- of two the nearer is one of them, and both are at or past him
nearer_one : (w : Direction) (P : ℕ → Type 0) (a b : ℕ) → P a → P b → P (nearer w a b)
nearer_one w P a b p q = go (at_or_past w a b)
  where
    go : (t : Bool) → P (cond t a b)
    go true = p
    go false = q

nearer_first : (w : Direction) (a b : ℕ) → (at_or_past w (nearer w a b) a ≡ true) × (at_or_past w (nearer w a b) b ≡ true)
nearer_first w a b = go (at_or_past w a b) refl
  where
    go : (t : Bool) → at_or_past w a b ≡ t → (at_or_past w (cond t a b) a ≡ true) × (at_or_past w (cond t a b) b ≡ true)
    go true e = (past_self w a, e)
    go false e = (before_past w b a e, past_self w b)

-- Lists of which each element has a property.

module _ {A : Type 0} (P : A → Type 0) where
  pub all_keep : (f : A → Bool) (l : List A) → All P l → All P (keep f l)
  unfolding All keep
  all_keep f [] h = tt
  all_keep f (x ∷ l) h = go (f x) (all_keep f l h.1)
    where
      go : (t : Bool) → All P (keep f l) → All P (cond t (x ∷ keep f l) (keep f l))
      go true k = (h.0, k)
      go false k = k

  pub all_imply : (Q : A → Type 0) → ((a : A) → P a → Q a) → (l : List A) → All P l → All Q l
  unfolding All
  all_imply Q k [] h = tt
  all_imply Q k (x ∷ l) h = (k x h.0, all_imply Q k l h.1)

  pub none_kept : (f : A → Bool) → ((a : A) → P a → f a ≡ false) → (l : List A) → All P l → keep f l ≡ []
  unfolding keep All
  none_kept f k [] h = refl
  none_kept f k (x ∷ l) h = rw (k x h.0) (none_kept f k l h.1)

  pub all_members : (l : List A) → ((x : A) → Memᴰ x l → P x) → All P l
  unfolding All
  all_members [] h = tt
  all_members (x ∷ l) h = (h x (Memᴰ.head refl), all_members l (λ y m. h y (Memᴰ.tail m)))

  all_member : (l : List A) → All P l → (x : A) → Memᴰ x l → P x
  unfolding All
  all_member [] h x m = absurd (Memᴰ.not-nil m)
  all_member (y ∷ l) h x m = go (λ k. all_member l h.1 x k) (Memᴰ.cases_cons m)
    where
      go : (Memᴰ x l → P x) → (x ≡ y) ⊎ Memᴰ x l → P x
      go ih (inl e) = subst P (sym e) h.0
      go ih (inr k) = ih k

-- functions that agree on a list
pub map_agree : {A B : Type 0} (f g : A → B) (l : List A) → All (λ (x : A). f x ≡ g x) l → map f l ≡ map g l
unfolding All
map_agree f g [] h = refl
map_agree {B = B} f g (x ∷ l) h = ap₂ (λ (y : B) (r : List B). y ∷ r) h.0 (map_agree f g l h.1)

pub keep_agree : {A : Type 0} (p q : A → Bool) (l : List A) → All (λ (x : A). p x ≡ q x) l → keep p l ≡ keep q l
unfolding All keep
keep_agree p q [] h = refl
keep_agree {A} p q (x ∷ l) h = ap₂ (λ (t : Bool) (r : List A). cond t (x ∷ r) r) h.0 (keep_agree p q l h.1)

-- all are kept
pub keep_whole : {A : Type 0} (f : A → Bool) (l : List A) → All (λ (x : A). f x ≡ true) l → keep f l ≡ l
unfolding keep All
keep_whole f [] h = refl
keep_whole f (x ∷ l) h = rw h.0 (ap (λ (r : List _). x ∷ r) (keep_whole f l h.1))

pub all_kept : {A : Type 0} (f : A → Bool) (s : List A) → All (λ (x : A). f x ≡ true) (keep f s)
unfolding All keep
all_kept f [] = tt
all_kept f (x ∷ s) = go (f x) refl (all_kept f s)
  where
    go : (t : Bool) → f x ≡ t → All (λ (y : _). f y ≡ true) (keep f s) → All (λ (y : _). f y ≡ true) (cond t (x ∷ keep f s) (keep f s))
    go true e h = (e, h)
    go false e h = h

-- how many are m
abbrev pub count_of : ℕ → List ℕ → ℕ
count_of m s = length (keep (eqb m) s)

-- those that are m are all kept
pub keep-twice : (f : ℕ → Bool) (m : ℕ) → f m ≡ true → (s : List ℕ) → keep (eqb m) (keep f s) ≡ keep (eqb m) s
unfolding keep
keep-twice f m e [] = refl
keep-twice f m e (x ∷ s) = go (f x) refl (eqb m x) refl (keep-twice f m e s)
  where
    go : (t : Bool) → f x ≡ t → (u : Bool) → eqb m x ≡ u → keep (eqb m) (keep f s) ≡ keep (eqb m) s
        → keep (eqb m) (cond t (x ∷ keep f s) (keep f s)) ≡ cond u (x ∷ keep (eqb m) s) (keep (eqb m) s)
    go true p true q k = rw q (ap (λ (l : List ℕ). x ∷ l) k)
    go true p false q k = rw q k
    go false p true q k = absurd (no_such (of_true (f x) (ap f (sym (eqb→eq m x (of_true _ q))) ∙ e)) p)
    go false p false q k = k

-- each of them is counted
pub all_counted : (a b : List ℕ) → All (λ (x : ℕ). 0 < count_of x (a ++ b)) b
unfolding All keep
all_counted a [] = tt
all_counted a (x ∷ b) =
    let here : 0 < count_of x (a ++ x ∷ b) = rw (keep_append (eqb x) a (x ∷ b), length-append, is_true (eqb x x) (eqb_refl x)) (omega arith) in
    (here, subst (λ (l : List ℕ). All (λ (y : ℕ). 0 < count_of y l) b) (append_assoc a (x ∷ []) b) (all_counted (a ++ x ∷ []) b))

-- one of which is counted is a member of the list, and a member of what is kept is one of the whole
counted_member : (m : ℕ) (s : List ℕ) → 0 < count_of m s → Memᴰ m s
unfolding keep
counted_member m [] h = absurd (omega arith)
counted_member m (x ∷ s) h = go (eqb m x) refl h (counted_member m s)
  where
    go : (t : Bool) → eqb m x ≡ t → 0 < length (cond t (x ∷ keep (eqb m) s) (keep (eqb m) s)) → (0 < count_of m s → Memᴰ m s) → Memᴰ m (x ∷ s)
    go true e k ih = Memᴰ.head (eqb→eq m x (of_true _ e))
    go false e k ih = Memᴰ.tail (ih k)

kept_member : (f : ℕ → Bool) (s : List ℕ) (m : ℕ) → Memᴰ m s → T (f m) → Memᴰ m (keep f s)
unfolding keep
kept_member f [] m h t = absurd (Memᴰ.not-nil h)
kept_member f (x ∷ s) m h t = go (f x) refl (λ k. kept_member f s m k t) (Memᴰ.cases_cons h)
  where
    go : (b : Bool) → f x ≡ b → (Memᴰ m s → Memᴰ m (keep f s)) → (m ≡ x) ⊎ Memᴰ m s → Memᴰ m (cond b (x ∷ keep f s) (keep f s))
    go true e ih (inl p) = Memᴰ.head p
    go true e ih (inr k) = Memᴰ.tail (ih k)
    go false e ih (inl p) = absurd (no_such (subst (λ (y : ℕ). T (f y)) p t) e)
    go false e ih (inr k) = ih k

module _ (w : Direction) where
  pub nearest-append : (n : ℕ) (a b : List ℕ) → nearest_from w n (a ++ b) ≡ nearest_from w (nearest_from w n a) b
  unfolding nearest_from
  nearest-append n [] b = refl
  nearest-append n (m ∷ a) b = nearest-append (nearer w n m) a b

  -- the first of them is one of them, and all are at or past him
  pub one_of : (P : ℕ → Type 0) (n : ℕ) (a : List ℕ) → P n → All P a → P (nearest_from w n a)
  unfolding nearest_from All
  one_of P n [] p h = p
  one_of P n (m ∷ a) p h = one_of P (nearer w n m) a (nearer_one w P n m p h.0) h.1

  pub all_past : (n : ℕ) (a : List ℕ) → All (λ (m : ℕ). at_or_past w (nearest_from w n a) m ≡ true) (n ∷ a)
  unfolding nearest_from All
  all_past n [] = (past_self w n, tt)
  all_past n (m ∷ a) =
      let h = all_past (nearer w n m) a in
      let z : ℕ = nearest_from w (nearer w n m) a in
      let k = nearer_first w n m in
      (past_trans w z (nearer w n m) n h.0 k.0, (past_trans w z (nearer w n m) m h.0 k.1, h.1))

  stays : (n : ℕ) (b : List ℕ) → All (Before w n) b → nearest_from w n b ≡ n
  unfolding nearest_from All
  stays n [] h = refl
  stays n (m ∷ b) h = rw (before_past w n m h.0) (stays n b h.1)

  nearest_one_of : (P : ℕ → Type 0) (a : List ℕ) → 0 < length a → All P a → P (nearest w a)
  unfolding nearest All
  nearest_one_of P [] h k = absurd (omega arith)
  nearest_one_of P (n ∷ a) h k = one_of P n a k.0 k.1

  nearest_first : (a b : List ℕ) → 0 < length a → All (λ (x : ℕ). All (Before w x) b) a → nearest w (a ++ b) ≡ nearest w a
  unfolding nearest All
  nearest_first [] b h k = absurd (omega arith)
  nearest_first (n ∷ a) b h k = nearest-append n a b ∙ stays (nearest_from w n a) b (one_of (λ (x : ℕ). All (Before w x) b) n a k.0 k.1)

  -- he has records just where there is one
  pub first_counted : (x : ℕ) (l : List ℕ) → 0 < count_of (nearest_from w x l) (x ∷ l)
  unfolding All
  first_counted x l =
      let a = all_counted [] (x ∷ l) in
      one_of (λ (y : ℕ). 0 < count_of y (x ∷ l)) x l a.0 a.1

  -- what IsNearest says, of the growers at or past g
  of_kept : (g : ℕ) (s l : List ℕ) → l ≡ keep (at_or_past w g) s → IsNearest w g s (record { grower = nearest w l; records = count_of (nearest w l) l })
  unfolding nearest keep All
  of_kept g s [] e = record {
    there = λ h. absurd (omega arith);
    first = λ m h t. absurd (Memᴰ.not-nil (subst (Memᴰ m) (sym e) (kept_member (at_or_past w g) s m h t)));
    counted = λ h. absurd (omega arith);
    none = λ h. refl;
  }
  of_kept g s (x ∷ l) e =
      let n : ℕ = nearest_from w x l in
      let some : 0 < count_of n (x ∷ l) = first_counted x l in
      let kept = subst (All (λ (m : ℕ). at_or_past w g m ≡ true)) (sym e) (all_kept (at_or_past w g) s) in
      let past : at_or_past w g n ≡ true = one_of (λ (m : ℕ). at_or_past w g m ≡ true) x l kept.0 kept.1 in
      let among : (m : ℕ) → Memᴰ m s → T (at_or_past w g m) → Memᴰ m (x ∷ l) = λ m h t. subst (Memᴰ m) (sym e) (kept_member (at_or_past w g) s m h t) in
      let same : count_of n (x ∷ l) ≡ count_of n s = ap (count_of n) e ∙ ap length (keep-twice (at_or_past w g) n past s) in
      record {
        there = λ h. (counted_member n s (omega arith), of_true _ past);
        first = λ m h t. (some, of_true _ (all_member (λ (k : ℕ). at_or_past w n k ≡ true) (x ∷ l) (all_past x l) m (among m h t)));
        counted = λ h. same;
        none = λ h. absurd (omega arith);
      }

  pub nearest_is : (g : ℕ) (s : List ℕ) → IsNearest w g s (nearest_of w g s)
  unfolding nearest_of
  nearest_is g s = of_kept g s (keep (at_or_past w g) s) refl

  -- records further on do not matter once one is found
  pub first_hit : (g : ℕ) (p r : List ℕ) → 0 < length (keep (at_or_past w g) p) → All (λ (x : ℕ). All (Before w x) r) p → nearest_of w g (p ++ r) ≡ nearest_of w g p
  unfolding nearest_of
  first_hit g p r h k =
      let f : ℕ → Bool = at_or_past w g in
      let a : List ℕ = keep f p in
      let b : List ℕ = keep f r in
      let all : All (λ (x : ℕ). All (Before w x) b) a
      = all_keep (λ (x : ℕ). All (Before w x) b) f p
      (all_imply (λ (x : ℕ). All (Before w x) r) (λ (x : ℕ). All (Before w x) b) (λ x u. all_keep (Before w x) f r u) p k) in
      let e : nearest w (a ++ b) ≡ nearest w a = nearest_first a b h all in
      let m : ℕ = nearest w a in
      let none : keep (eqb m) b ≡ []
      = none_kept (Before w m) (eqb m) (λ x u. before_other w m x u) b (nearest_one_of (λ (x : ℕ). All (Before w x) b) a h all) in
      rw (keep_append f p r, e, keep_append (eqb m) a b, none, append-nil)

  pub no_hit : (g : ℕ) (p r : List ℕ) → keep (at_or_past w g) p ≡ [] → nearest_of w g (p ++ r) ≡ nearest_of w g r
  unfolding nearest_of
  no_hit g p r h = rw (keep_append (at_or_past w g) p r, h)

  pub no_hit_after : (g : ℕ) (p r : List ℕ) → keep (at_or_past w g) r ≡ [] → nearest_of w g (p ++ r) ≡ nearest_of w g p
  unfolding nearest_of
  no_hit_after g p r h = rw (keep_append (at_or_past w g) p r, h, append-nil)

  -- the order of the records does not matter
  from_bag : (n : ℕ) {a b : List ℕ} → Permᴰ a b → nearest_from w n a ≡ nearest_from w n b
  unfolding nearest_from
  from_bag n Permᴰ.nil = refl
  from_bag n (Permᴰ.cons {a} {b} e p) = rw e (from_bag (nearer w n b) p)
  from_bag n (Permᴰ.swap {a} {b} {l = l} e g) = rw (← e, ← g) (ap (λ (x : ℕ). nearest_from w x l) (nearer_swap w n a b))
  from_bag n (Permᴰ.trans p q) = from_bag n p ∙ from_bag n q

  pub nearest-bag : {a b : List ℕ} → Permᴰ a b → nearest w a ≡ nearest w b
  unfolding nearest nearest_from
  nearest-bag Permᴰ.nil = refl
  nearest-bag (Permᴰ.cons {a} {b} e p) = rw e (from_bag b p)
  nearest-bag (Permᴰ.swap {a} {b} {l = l} e g) = rw (← e, ← g) (ap (λ (x : ℕ). nearest_from w x l) (nearer_comm w a b))
  nearest-bag (Permᴰ.trans p q) = nearest-bag p ∙ nearest-bag q

-- no number is left where none is counted
pub none_left : {A : Type 0} (l : List A) → ltb 0 (length l) ≡ false → l ≡ []
none_left [] u = refl
none_left (x ∷ l) u = absurd (omega (arith, leb_no 1 (length (x ∷ l)) u))

-- Partitions in the order in which they are scanned: rec i are the growers of partition i.
module _ (w : Direction) (g : ℕ) (rec : ℕ → List ℕ) where
  abbrev growers_at : List ℕ → List ℕ
  growers_at is = flatten (map rec is)

  abbrev holds : ℕ → Bool
  holds i = ltb 0 (length (keep (at_or_past w g) (rec i)))

  -- each partition's growers come before those of the partitions after it
  unfoldable pub InTurn : List ℕ → Type 0
  InTurn [] = Unit {0}
  InTurn (i ∷ is) = All (λ (x : ℕ). All (Before w x) (growers_at is)) (rec i) × InTurn is

  -- the partitions after the first that holds one do not matter
  pub stop_at_first : (is : List ℕ) → InTurn is → nearest_of w g (growers_at (up_to_first holds is)) ≡ nearest_of w g (growers_at is)
  unfolding up_to_first InTurn flatten
  stop_at_first [] h = refl
  stop_at_first (i ∷ is) h = go (holds i) refl (stop_at_first is h.1)
    where
      go : (t : Bool) → holds i ≡ t → nearest_of w g (growers_at (up_to_first holds is)) ≡ nearest_of w g (growers_at is)
          → nearest_of w g (rec i ++ growers_at (cond t [] (up_to_first holds is))) ≡ nearest_of w g (rec i ++ growers_at is)
      go true e k =
          ap (nearest_of w g) (append-nil (rec i))
          ∙ sym (first_hit w g (rec i) (growers_at is) (ltb→lt 0 (length (keep (at_or_past w g) (rec i))) (of_true _ e)) h.0)
      go false e k =
          let none : keep (at_or_past w g) (rec i) ≡ [] = none_left (keep (at_or_past w g) (rec i)) e in
          no_hit w g (rec i) _ none ∙ k ∙ sym (no_hit w g (rec i) (growers_at is) none)
