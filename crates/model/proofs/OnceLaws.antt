-- The numbers of a list in rising order, each once: they rise, they are the members of the list, and no other rising list has these members.
-- Assumes nothing.
use Prim.Native.Nat.{ℕ, suc, ◌<◌}
use mathlib.Core.Path.{◌≡◌, refl, sym, ap, ap₂, ◌∙◌, subst}
use mathlib.Core.Bool.{Bool, true, false, cond, ◌||◌}
use mathlib.Core.List.{List, [], ◌∷◌, ◌++◌}
use native.Mathlib.Omega.{arith}
use borrow.Author.Tests.{ne_eqb}
use lib.Dec.{T, ltb, eqb, ltb→lt, eqb→eq, eqb_refl}
use Rattle.model.specs.Sheet.{placed_once, each_once}
use Rattle.model.proofs.Tests.{of_true, is_true, leb_no, eqb_no, no_such}
use Rattle.model.proofs.MovesKeep.{All}
use Rattle.model.proofs.GrowerLaws.{all_imply}

-- is n among these?
unfoldable pub member : ℕ → List ℕ → Bool
member n [] = false
member n (m ∷ l) = eqb n m || member n l

pub member_append : (n : ℕ) (a b : List ℕ) → member n (a ++ b) ≡ (member n a || member n b)
unfolding member
member_append n [] b = refl
member_append n (m ∷ a) b = ap (λ (t : Bool). eqb n m || t) (member_append n a b) ∙ go (eqb n m)
  where
    go : (t : Bool) → (t || (member n a || member n b)) ≡ ((t || member n a) || member n b)
    go true = refl
    go false = refl

pub member_all : (P : ℕ → Type 0) (n : ℕ) (l : List ℕ) → All P l → T (member n l) → P n
unfolding member All
member_all P n [] h t = absurd t
member_all P n (m ∷ l) h t = go (eqb n m) refl t (member_all P n l h.1)
  where
    go : (b : Bool) → eqb n m ≡ b → T (b || member n l) → (T (member n l) → P n) → P n
    go true e u k = subst P (sym (eqb→eq n m (of_true _ e))) h.0
    go false e u k = k u

pub member_first : (n : ℕ) (l : List ℕ) → member n (n ∷ l) ≡ true
unfolding member
member_first n l = rw (is_true (eqb n n) (eqb_refl n))

-- each number is less than all after it
unfoldable pub Rises : List ℕ → Type 0
Rises [] = Unit {0}
Rises (n ∷ ns) = All (λ (m : ℕ). n < m) ns × Rises ns

pub less_none : (n : ℕ) (l : List ℕ) → All (λ (m : ℕ). n < m) l → member n l ≡ false
unfolding member All
less_none n [] h = refl
less_none n (m ∷ l) h =
    let o : eqb n m ≡ false = ne_eqb n m (λ e. let f : ⊥ = omega (arith, e, h.0) in f) in
    rw o (less_none n l h.1)

-- One number put in its place.

all_placed : (P : ℕ → Type 0) (n : ℕ) (l : List ℕ) → P n → All P l → All P (placed_once n l)
unfolding All placed_once
all_placed P n [] p h = (p, tt)
all_placed P n (m ∷ l) p h = go (ltb n m) (eqb n m) (all_placed P n l p h.1)
  where
    go : (t u : Bool) → All P (placed_once n l) → All P (cond t (n ∷ m ∷ l) (cond u (m ∷ l) (m ∷ placed_once n l)))
    go true u k = (p, h)
    go false true k = h
    go false false k = (h.0, k)

less_no : (n m : ℕ) → ltb n m ≡ false → eqb n m ≡ false → m < n
less_no n m e f = let x = leb_no (suc n) m e in let y = eqb_no n m f in omega arith

less_all : (n m : ℕ) (l : List ℕ) → n < m → All (λ (y : ℕ). m < y) l → All (λ (y : ℕ). n < y) l
less_all n m l x h = all_imply (λ (y : ℕ). m < y) (λ (y : ℕ). n < y) (λ y z. omega (arith, x, z)) l h

placed_rises : (n : ℕ) (l : List ℕ) → Rises l → Rises (placed_once n l)
unfolding Rises placed_once All
placed_rises n [] h = (tt, tt)
placed_rises n (m ∷ l) h = go (ltb n m) refl (eqb n m) refl (placed_rises n l h.1)
  where
    go : (t : Bool) → ltb n m ≡ t → (u : Bool) → eqb n m ≡ u → Rises (placed_once n l) → Rises (cond t (n ∷ m ∷ l) (cond u (m ∷ l) (m ∷ placed_once n l)))
    go true e u f k = let x : n < m = ltb→lt n m (of_true _ e) in ((x, less_all n m l x h.0), h)
    go false e true f k = h
    go false e false f k = (all_placed (λ (y : ℕ). m < y) n l (less_no n m e f) h.0, k)

pub or_swap : (a b c : Bool) → (a || (b || c)) ≡ (b || (a || c))
or_swap true true c = refl
or_swap true false c = refl
or_swap false b c = refl

placed_member : (x n : ℕ) (l : List ℕ) → member x (placed_once n l) ≡ (eqb x n || member x l)
unfolding member placed_once
placed_member x n [] = refl
placed_member x n (m ∷ l) = go (ltb n m) (eqb n m) refl (placed_member x n l)
  where
    twice : (a b c : Bool) → a ≡ b → (b || c) ≡ (a || (b || c))
    twice true b c e = rw (sym e)
    twice false b c e = refl

    go : (t u : Bool) → eqb n m ≡ u → member x (placed_once n l) ≡ (eqb x n || member x l)
        → member x (cond t (n ∷ m ∷ l) (cond u (m ∷ l) (m ∷ placed_once n l))) ≡ (eqb x n || (eqb x m || member x l))
    go true u e k = refl
    go false true e k = twice (eqb x n) (eqb x m) (member x l) (ap (eqb x) (eqb→eq n m (of_true _ e)))
    go false false e k = ap (λ (b : Bool). eqb x m || b) k ∙ or_swap (eqb x m) (eqb x n) (member x l)

-- All of them.

pub once_rises : (l : List ℕ) → Rises (each_once l)
unfolding Rises each_once
once_rises [] = tt
once_rises (n ∷ l) = placed_rises n (each_once l) (once_rises l)

pub member_once : (n : ℕ) (l : List ℕ) → member n (each_once l) ≡ member n l
unfolding member each_once
member_once n [] = refl
member_once n (m ∷ l) = placed_member n m (each_once l) ∙ ap (λ (b : Bool). eqb n m || b) (member_once n l)

-- rising lists with the same members are the same
pub rises_same : (a b : List ℕ) → Rises a → Rises b → ((n : ℕ) → member n a ≡ member n b) → a ≡ b
unfolding Rises member
rises_same [] [] p q h = refl
rises_same [] (y ∷ b) p q h = absurd (no_such (of_true _ (member_first y b)) (sym (h y)))
rises_same (x ∷ a) [] p q h = absurd (no_such (of_true _ (member_first x a)) (h x))
rises_same (x ∷ a) (y ∷ b) p q h = ap₂ (λ (n : ℕ) (l : List ℕ). n ∷ l) heads (rises_same a b p.1 q.1 tails)
  where
    -- a first number is the other's first, or behind it
    behind : (m n : ℕ) (l : List ℕ) → All (λ (k : ℕ). n < k) l → member m (n ∷ l) ≡ true → (m ≡ n → ⊥) → n < m
    behind m n l r t o = member_all (λ (k : ℕ). n < k) m l r (of_true _ (sym (ap (λ (b : Bool). b || member m l) (ne_eqb m n o)) ∙ t))

    heads : x ≡ y
    heads = go (eqb x y) refl
      where
        go : (t : Bool) → eqb x y ≡ t → x ≡ y
        go true e = eqb→eq x y (of_true _ e)
        go false e =
            let o = eqb_no x y e in
            let u : y < x = behind x y b q.0 (sym (h x) ∙ member_first x a) o in
            let v : x < y = behind y x a p.0 (h y ∙ member_first y b) (λ z. o (sym z)) in
            absurd (omega (arith, u, v))

    tails : (n : ℕ) → member n a ≡ member n b
    tails n = go (eqb n x) refl
      where
        go : (t : Bool) → eqb n x ≡ t → member n a ≡ member n b
        go true e =
            let z : n ≡ x = eqb→eq n x (of_true _ e) in
            subst (λ (m : ℕ). member m a ≡ member m b) (sym z) (less_none x a p.0 ∙ sym (subst (λ (m : ℕ). member m b ≡ false) (sym heads) (less_none y b q.0)))
        go false e =
            let f : eqb n y ≡ false = subst (λ (m : ℕ). eqb n m ≡ false) heads e in
            sym (ap (λ (t : Bool). t || member n a) e) ∙ h n ∙ ap (λ (t : Bool). t || member n b) f

pub once_same : (a b : List ℕ) → ((n : ℕ) → member n a ≡ member n b) → each_once a ≡ each_once b
once_same a b h = rises_same (each_once a) (each_once b) (once_rises a) (once_rises b) (λ n. member_once n a ∙ h n ∙ sym (member_once n b))

pub once_rising : (l : List ℕ) → Rises l → each_once l ≡ l
once_rising l r = rises_same (each_once l) l (once_rises l) r (λ n. member_once n l)
