-- The order of layouts is total, and the least of a list is the only one that comes before each of it. Assumes nothing.
use mathlib.Core.Path.{◌≡◌, refl, sym, ap, subst}
use mathlib.Core.Logic.{◌⊎◌, inl, inr, ⊎_elim}
use mathlib.Core.Bool.{Bool, true, false, not, cond}
use mathlib.Core.Option.{Option, none, some}
use mathlib.Core.List.Memᴰ
use mathlib.Core.List.{List, [], ◌∷◌, Memᴰ}
use Prim.Native.Nat.{ℕ, ◌+◌, ◌≤◌, ◌<◌}
use native.Mathlib.Omega.{arith}
use lib.Dec.{T, ltb, ltb→lt, nltb→le}
use lib.ListN.{length}
use lib.IntN.{ℤ, pos, negsuc}
use lib.Signed.{lt_z}
use Rattle.model.specs.Plan.{decide, ends_before, comes_before, earlier, least}
use Rattle.model.proofs.Integers.{Is, is_exists, is_le, nlt_le}
use Rattle.model.proofs.Tests.{of_true}

-- what the tests say

decide_elim : (x y : ℕ) (r : Bool) → T (decide (ltb x y) (ltb y x) r) → (x < y) ⊎ ((x ≡ y) × T r)
decide_elim x y r h = go (ltb x y) (ltb y x) refl refl h
  where
    go : (b c : Bool) → ltb x y ≡ b → ltb y x ≡ c → T (decide b c r) → (x < y) ⊎ ((x ≡ y) × T r)
    go true c p q h = inl (ltb→lt x y (of_true _ p))
    go false true p q h = absurd h
    go false false p q h =
        let u : y ≤ x = nltb→le x y (subst (λ (t : Bool). T (not t)) (sym p) tt) in
        let v : x ≤ y = nltb→le y x (subst (λ (t : Bool). T (not t)) (sym q) tt) in
        inr (omega arith, h)

pub decide_intro : (x y : ℕ) (r : Bool) → (x < y) ⊎ ((x ≡ y) × T r) → T (decide (ltb x y) (ltb y x) r)
decide_intro x y r h = go (ltb x y) (ltb y x) refl refl h
  where
    go : (b c : Bool) → ltb x y ≡ b → ltb y x ≡ c → (x < y) ⊎ ((x ≡ y) × T r) → T (decide b c r)
    go true c p q h = tt
    go false true p q (inl h) = let u : y < x = ltb→lt y x (of_true _ q) in absurd (omega arith)
    go false true p q (inr h) = let u : y < x = ltb→lt y x (of_true _ q) in absurd (omega arith)
    go false false p q (inl h) = let u : y ≤ x = nltb→le x y (subst (λ (t : Bool). T (not t)) (sym p) tt) in absurd (omega arith)
    go false false p q (inr h) = h.1

-- the same of two integers, by their pairs
lt_is : (x y : ℤ) (p m q n : ℕ) → Is x p m → Is y q n → lt_z x y ≡ true → p + n < q + m
unfolding Is
lt_is (pos a) (pos b) p m q n h k e = let g : a < b = ltb→lt a b (of_true _ e) in omega arith
lt_is (pos a) (negsuc b) p m q n h k e = absurd (of_true _ e)
lt_is (negsuc a) (pos b) p m q n h k e = omega arith
lt_is (negsuc a) (negsuc b) p m q n h k e = let g : b < a = ltb→lt b a (of_true _ e) in omega arith

nlt_is : (x y : ℤ) (p m q n : ℕ) → Is x p m → Is y q n → lt_z x y ≡ false → q + m ≤ p + n
nlt_is x y p m q n h k e = is_le y x q n p m k h (nlt_le x y e)

module _ (x y : ℤ) (p m q n : ℕ) (h : Is x p m) (k : Is y q n) (r : Bool) where
  decideℤ_elim : T (decide (lt_z x y) (lt_z y x) r) → (p + n < q + m) ⊎ ((p + n ≡ q + m) × T r)
  decideℤ_elim s = go (lt_z x y) (lt_z y x) refl refl s
    where
      go : (b c : Bool) → lt_z x y ≡ b → lt_z y x ≡ c → T (decide b c r) → (p + n < q + m) ⊎ ((p + n ≡ q + m) × T r)
      go true c u v s = inl (lt_is x y p m q n h k u)
      go false true u v s = absurd s
      go false false u v s =
          let i = nlt_is x y p m q n h k u in
          let j = nlt_is y x q n p m k h v in
          inr (omega arith, s)

  decideℤ_intro : (p + n < q + m) ⊎ ((p + n ≡ q + m) × T r) → T (decide (lt_z x y) (lt_z y x) r)
  decideℤ_intro s = go (lt_z x y) (lt_z y x) refl refl s
    where
      go : (b c : Bool) → lt_z x y ≡ b → lt_z y x ≡ c → (p + n < q + m) ⊎ ((p + n ≡ q + m) × T r) → T (decide b c r)
      go true c u v s = tt
      go false true u v (inl s) = let i = lt_is y x q n p m k h v in absurd (omega arith)
      go false true u v (inr s) = let i = lt_is y x q n p m k h v in absurd (omega arith)
      go false false u v (inl s) = let i = nlt_is x y p m q n h k u in absurd (omega arith)
      go false false u v (inr s) = s.1

-- the order is total

ends_total : (x y : List ℕ) → T (ends_before x y) ⊎ T (ends_before y x)
ends_total [] y = inl tt
ends_total (x ∷ xs) [] = inr tt
ends_total (x ∷ xs) (y ∷ ys) = go (ltb x y) (ltb y x) (ends_total xs ys)
  where
    go : (b c : Bool) → T (ends_before xs ys) ⊎ T (ends_before ys xs) → T (decide b c (ends_before xs ys)) ⊎ T (decide c b (ends_before ys xs))
    go true c i = inl tt
    go false true i = inr tt
    go false false i = i

ends_trans : (x y z : List ℕ) → T (ends_before x y) → T (ends_before y z) → T (ends_before x z)
ends_trans [] y z h k = tt
ends_trans (x ∷ xs) [] z h k = absurd h
ends_trans (x ∷ xs) (y ∷ ys) [] h k = absurd k
ends_trans (x ∷ xs) (y ∷ ys) (z ∷ zs) h k = decide_intro x z _ (go (ends_trans xs ys zs) (decide_elim x y _ h) (decide_elim y z _ k))
  where
    go : (T (ends_before xs ys) → T (ends_before ys zs) → T (ends_before xs zs)) → (x < y) ⊎ ((x ≡ y) × T (ends_before xs ys))
        → (y < z) ⊎ ((y ≡ z) × T (ends_before ys zs)) → (x < z) ⊎ ((x ≡ z) × T (ends_before xs zs))
    go ih (inl u) (inl v) = inl (omega arith)
    go ih (inl u) (inr v) = inl (omega arith)
    go ih (inr u) (inl v) = inl (omega arith)
    go ih (inr u) (inr v) = inr (omega arith, ih u.1 v.1)

ends_antisym : (x y : List ℕ) → T (ends_before x y) → T (ends_before y x) → x ≡ y
ends_antisym [] [] h k = refl
ends_antisym [] (y ∷ ys) h k = absurd k
ends_antisym (x ∷ xs) [] h k = absurd h
ends_antisym (x ∷ xs) (y ∷ ys) h k = go (ends_antisym xs ys) (decide_elim x y _ h) (decide_elim y x _ k)
  where
    go : (T (ends_before xs ys) → T (ends_before ys xs) → xs ≡ ys) → (x < y) ⊎ ((x ≡ y) × T (ends_before xs ys)) → (y < x) ⊎ ((y ≡ x) × T (ends_before ys xs)) → x ∷ xs ≡ y ∷ ys
    go ih (inl u) (inl v) = absurd (omega arith)
    go ih (inl u) (inr v) = absurd (omega arith)
    go ih (inr u) (inl v) = absurd (omega arith)
    go ih (inr u) (inr v) = let e = ih u.1 v.1 in let f = u.0 in cc

-- cost x below cost y; or equal, and fewer; or both equal, and the ends
abbrev pub Said : List ℕ → List ℕ → ℕ → ℕ → ℕ → ℕ → Type 0
Said x y p m q n = (p + n < q + m) ⊎ ((p + n ≡ q + m) × ((length x < length y) ⊎ ((length x ≡ length y) × T (ends_before x y))))

module _ (cost : List ℕ → ℤ) (x y : List ℕ) (p m q n : ℕ) (h : Is (cost x) p m) (k : Is (cost y) q n) where
  pub comes_before_elim : T (comes_before cost x y) → Said x y p m q n
  comes_before_elim s = go (decideℤ_elim (cost x) (cost y) p m q n h k _ s)
    where
      go : (p + n < q + m) ⊎ ((p + n ≡ q + m) × T (decide (ltb (length x) (length y)) (ltb (length y) (length x)) (ends_before x y))) → Said x y p m q n
      go (inl u) = inl u
      go (inr u) = inr (u.0, decide_elim (length x) (length y) _ u.1)

  pub comes_before_intro : Said x y p m q n → T (comes_before cost x y)
  comes_before_intro (inl u) = decideℤ_intro (cost x) (cost y) p m q n h k _ (inl u)
  comes_before_intro (inr u) = decideℤ_intro (cost x) (cost y) p m q n h k _ (inr (u.0, decide_intro (length x) (length y) _ u.1))

pub comes_before_total : (cost : List ℕ → ℤ) (x y : List ℕ) → T (comes_before cost x y) ⊎ T (comes_before cost y x)
comes_before_total cost x y = go (lt_z (cost x) (cost y)) (lt_z (cost y) (cost x)) (ltb (length x) (length y)) (ltb (length y) (length x)) (ends_total x y)
  where
    go : (b c d e : Bool) → T (ends_before x y) ⊎ T (ends_before y x) → T (decide b c (decide d e (ends_before x y))) ⊎ T (decide c b (decide e d (ends_before y x)))
    go true c d e i = inl tt
    go false true d e i = inr tt
    go false false true e i = inl tt
    go false false false true i = inr tt
    go false false false false i = i

pub comes_before_trans : (cost : List ℕ → ℤ) (x y z : List ℕ) → T (comes_before cost x y) → T (comes_before cost y z) → T (comes_before cost x z)
comes_before_trans cost x y z h k =
    let i = is_exists (cost x) in
    let j = is_exists (cost y) in
    let l = is_exists (cost z) in
    let a = comes_before_elim cost x y _ _ _ _ i.2 j.2 h in
    let b = comes_before_elim cost y z _ _ _ _ j.2 l.2 k in
    comes_before_intro cost x z _ _ _ _ i.2 l.2 (go i.0 i.1 j.0 j.1 l.0 l.1 a b)
  where
    go : (p m q n r o : ℕ) → Said x y p m q n → Said y z q n r o → Said x z p m r o
    go p m q n r o (inl u) (inl v) = inl (omega arith)
    go p m q n r o (inl u) (inr v) = inl (omega (arith, v.0))
    go p m q n r o (inr u) (inl v) = inl (omega (arith, u.0))
    go p m q n r o (inr (u, inl a)) (inr (v, inl b)) = inr (omega arith, inl (omega arith))
    go p m q n r o (inr (u, inl a)) (inr (v, inr b)) = inr (omega arith, inl (omega (arith, b.0)))
    go p m q n r o (inr (u, inr a)) (inr (v, inl b)) = inr (omega arith, inl (omega (arith, a.0)))
    go p m q n r o (inr (u, inr a)) (inr (v, inr b)) = inr (omega arith, inr (omega (arith, a.0, b.0), ends_trans x y z a.1 b.1))

pub comes_before_antisym : (cost : List ℕ → ℤ) (x y : List ℕ) → T (comes_before cost x y) → T (comes_before cost y x) → x ≡ y
comes_before_antisym cost x y h k =
    let i = is_exists (cost x) in
    let j = is_exists (cost y) in
    go i.0 i.1 j.0 j.1 (comes_before_elim cost x y _ _ _ _ i.2 j.2 h) (comes_before_elim cost y x _ _ _ _ j.2 i.2 k)
  where
    go : (p m q n : ℕ) → Said x y p m q n → Said y x q n p m → x ≡ y
    go p m q n (inl u) (inl v) = absurd (omega arith)
    go p m q n (inl u) (inr v) = absurd (omega (arith, v.0))
    go p m q n (inr u) (inl v) = absurd (omega (arith, u.0))
    go p m q n (inr (u, inl a)) (inr (v, inl b)) = absurd (omega arith)
    go p m q n (inr (u, inl a)) (inr (v, inr b)) = absurd (omega (arith, b.0))
    go p m q n (inr (u, inr a)) (inr (v, inl b)) = absurd (omega (arith, a.0))
    go p m q n (inr (u, inr a)) (inr (v, inr b)) = ends_antisym x y a.1 b.1

comes_before_refl : (cost : List ℕ → ℤ) (x : List ℕ) → T (comes_before cost x x)
comes_before_refl cost x = ⊎_elim (λ h. h) (λ h. h) (comes_before_total cost x x)

-- the least of a list is in it, at most each of it, and the only one

pick_in : (cost : List ℕ → ℤ) (x : List ℕ) (xs : List (List ℕ)) (o : Option (List ℕ)) → ((z : List ℕ) → o ≡ some z → Memᴰ z xs) → Memᴰ (earlier cost x o) (x ∷ xs)
pick_in cost x xs none h = Memᴰ.head refl
pick_in cost x xs (some y) h = go (comes_before cost x y)
  where
    go : (b : Bool) → Memᴰ (cond b x y) (x ∷ xs)
    go true = Memᴰ.head refl
    go false = Memᴰ.tail (h y refl)

some_same : (x y : List ℕ) → some x ≡ some y → x ≡ y
some_same x y e = cc

not_none : (x : List ℕ) → none ≡ some x → ⊥
not_none x e = let z : ◌≡◌ {A = ℕ} 0 1 = cc in omega arith

pub least_in : (cost : List ℕ → ℤ) (xs : List (List ℕ)) (z : List ℕ) → least cost xs ≡ some z → Memᴰ z xs
least_in cost [] z e = absurd (not_none z e)
least_in cost (x ∷ xs) z e = subst (λ (l : List ℕ). Memᴰ l (x ∷ xs)) (some_same _ _ e) (pick_in cost x xs (least cost xs) (least_in cost xs))

pick_low : (cost : List ℕ → ℤ) (x : List ℕ) (xs : List (List ℕ)) (o : Option (List ℕ)) → o ≡ least cost xs
    → ((z y : List ℕ) → least cost xs ≡ some z → Memᴰ y xs → T (comes_before cost z y)) → (y : List ℕ) → (y ≡ x) ⊎ Memᴰ y xs → T (comes_before cost (earlier cost x o) y)
pick_low cost x [] none e ih y (inl m) = subst (λ (l : List ℕ). T (comes_before cost x l)) (sym m) (comes_before_refl cost x)
pick_low cost x [] none e ih y (inr m) = absurd (Memᴰ.not-nil m)
pick_low cost x (w ∷ xs) none e ih y m = absurd (not_none _ e)
pick_low cost x xs (some z) e ih y m = go (comes_before cost x z) refl m
  where
    go : (b : Bool) → comes_before cost x z ≡ b → (y ≡ x) ⊎ Memᴰ y xs → T (comes_before cost (cond b x z) y)
    go true q (inl m) = subst (λ (l : List ℕ). T (comes_before cost x l)) (sym m) (comes_before_refl cost x)
    go true q (inr m) = comes_before_trans cost x z y (of_true _ q) (ih z y (sym e) m)
    go false q (inl m) = subst (λ (l : List ℕ). T (comes_before cost z l)) (sym m) (⊎_elim (λ h. absurd (subst T q h)) (λ h. h) (comes_before_total cost x z))
    go false q (inr m) = ih z y (sym e) m

pub least_low : (cost : List ℕ → ℤ) (xs : List (List ℕ)) (z y : List ℕ) → least cost xs ≡ some z → Memᴰ y xs → T (comes_before cost z y)
least_low cost [] z y e m = absurd (Memᴰ.not-nil m)
least_low cost (x ∷ xs) z y e m = subst (λ (l : List ℕ). T (comes_before cost l y)) (some_same _ _ e) (pick_low cost x xs (least cost xs) refl (λ z y. least_low cost xs z y) y (Memᴰ.cases_cons m))

-- what is in the list and at most each of it is the least
pub least_is : (cost : List ℕ → ℤ) (xs : List (List ℕ)) (z : List ℕ) → Memᴰ z xs → ((y : List ℕ) → Memᴰ y xs → T (comes_before cost z y)) → least cost xs ≡ some z
least_is cost [] z m h = absurd (Memᴰ.not-nil m)
least_is cost (x ∷ xs) z m h =
    let w = earlier cost x (least cost xs) in
    let a = least_in cost (x ∷ xs) w refl in
    let b = least_low cost (x ∷ xs) w z refl m in
    ap some (comes_before_antisym cost w z b (h w a))

pub least_some : (cost : List ℕ → ℤ) (xs : List (List ℕ)) (y : List ℕ) → Memᴰ y xs → least cost xs ≡ none → ⊥
least_some cost [] y m e = Memᴰ.not-nil m
least_some cost (x ∷ xs) y m e = not_none _ (sym e)
