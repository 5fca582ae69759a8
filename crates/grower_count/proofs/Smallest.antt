-- Numbers in rising order, each once: one more number, the first m of them, and those past one of them. Assumes nothing.
use Prim.Native.Nat.{ℕ, zero, suc, ◌+◌, ◌≤◌, ◌<◌}
use mathlib.Core.Path.{◌≡◌, refl, sym, ap, ◌∙◌, subst}
use mathlib.Core.Bool.{Bool, true, false, cond, ◌&&◌, ◌||◌, and-false, or-true, or-false, or_comm}
use mathlib.Core.List.{List, [], ◌∷◌, ◌++◌}
use native.Mathlib.Omega.{arith}
use borrow.Author.Tests.{lt-ltb, le-leb, lt-leb, leb-true}
use lib.Dec.{T, leb, ltb, eqb, eqb→eq, eqb_refl, leb→le}
use lib.ListN.{length, get_or, take, drop}
use lib.Seq.{take-take, take-length}
use Rattle.model.specs.Lists.{keep}
use Rattle.model.specs.Sheet.{placed_once, each_once}
use Rattle.model.proofs.Tests.{and_fst, of_true, is_true, or_fst, or_snd}
use Rattle.model.proofs.MovesKeep.{All, all_take}
use Rattle.model.proofs.GrowerLaws.{all_keep, all_imply, keep_whole}
use Rattle.model.proofs.OnceLaws.{member, member_append, Rises, once_rises, member_once, rises_same, once_same, once_rising}

-- Members of parts of a list.

member_keep : (f : ℕ → Bool) (n : ℕ) (l : List ℕ) → member n (keep f l) ≡ (f n && member n l)
unfolding member keep
member_keep f n [] = sym (and-false (f n))
member_keep f n (x ∷ l) = go (f x) refl (eqb n x) refl (member_keep f n l)
  where
    go : (t : Bool) → f x ≡ t → (u : Bool) → eqb n x ≡ u → member n (keep f l) ≡ (f n && member n l)
        → member n (cond t (x ∷ keep f l) (keep f l)) ≡ (f n && (u || member n l))
    go true p true q k = rw (q, ap f (eqb→eq n x (of_true _ q)) ∙ p)
    go true p false q k = rw q k
    go false p true q k =
        let e : f n ≡ false = ap f (eqb→eq n x (of_true _ q)) ∙ p in
        k ∙ ap (λ (b : Bool). b && member n l) e ∙ sym (ap (λ (b : Bool). b && true) e)
    go false p false q k = k

pub member_front : (l : List ℕ) (j i : ℕ) → j < i → j < length l → T (member (get_or l j 0) (take i l))
unfolding member
member_front [] j i h k = absurd (omega arith)
member_front (x ∷ l) j zero h k = absurd (omega arith)
member_front (x ∷ l) zero (suc i) h k = or_fst (eqb x x) (member x (take i l)) (eqb_refl x)
member_front (x ∷ l) (suc j) (suc i) h k = or_snd (eqb (get_or l j 0) x) (member (get_or l j 0) (take i l)) (member_front l j i (omega arith) (omega arith))

pub kept_member : (f : ℕ → Bool) (n : ℕ) (l : List ℕ) → f n ≡ true → T (member n l) → T (member n (keep f l))
kept_member f n l e h = subst T (sym (member_keep f n l ∙ ap (λ (b : Bool). b && member n l) e)) h

-- each element has the property
pub all_by : (P : ℕ → Type 0) (l : List ℕ) → ((p : ℕ) → p < length l → P (get_or l p 0)) → All P l
unfolding All
all_by P [] h = tt
all_by P (x ∷ l) h = (h 0 (omega arith), all_by P l (λ p k. h (suc p) (omega arith)))

all_at : (P : ℕ → Type 0) (l : List ℕ) → All P l → (p : ℕ) → p < length l → P (get_or l p 0)
unfolding All
all_at P [] h p k = absurd (omega arith)
all_at P (x ∷ l) h zero k = h.0
all_at P (x ∷ l) h (suc p) k = all_at P l h.1 p (omega arith)

-- One more number.

pub once_more : (a b c : List ℕ) → each_once a ≡ each_once b → each_once (a ++ c) ≡ each_once (b ++ c)
once_more a b c e =
    once_same (a ++ c) (b ++ c) (λ n. member_append n a c ∙ ap (λ (t : Bool). t || member n c) (same n) ∙ sym (member_append n b c))
  where
    same : (n : ℕ) → member n a ≡ member n b
    same n = sym (member_once n a) ∙ ap (member n) e ∙ member_once n b

pub once_known : (x : ℕ) (l : List ℕ) → T (member x l) → each_once (l ++ x ∷ []) ≡ each_once l
unfolding member
once_known x l h = once_same (l ++ x ∷ []) l (λ n. member_append n l (x ∷ []) ∙ go n (eqb n x) refl)
  where
    go : (n : ℕ) (t : Bool) → eqb n x ≡ t → (member n l || (t || false)) ≡ member n l
    go n true e = or-true (member n l) ∙ sym (is_true (member n l) (subst (λ (m : ℕ). T (member m l)) (sym (eqb→eq n x (of_true _ e))) h))
    go n false e = or-false (member n l)

placed_end : (y x : ℕ) → y < x → (e : List ℕ) → placed_once y (e ++ x ∷ []) ≡ placed_once y e ++ x ∷ []
unfolding placed_once
placed_end y x h [] = rw (lt-ltb y x h)
placed_end y x h (m ∷ e) = go (ltb y m) (eqb y m) (placed_end y x h e)
  where
    go : (t u : Bool) → placed_once y (e ++ x ∷ []) ≡ placed_once y e ++ x ∷ []
        → cond t (y ∷ m ∷ (e ++ x ∷ [])) (cond u (m ∷ (e ++ x ∷ [])) (m ∷ placed_once y (e ++ x ∷ [])))
        ≡ cond t (y ∷ m ∷ e) (cond u (m ∷ e) (m ∷ placed_once y e)) ++ x ∷ []
    go true u k = refl
    go false true k = refl
    go false false k = ap (λ (l : List ℕ). m ∷ l) k

-- a number greater than all comes last
pub once_last : (x : ℕ) (l : List ℕ) → All (λ (m : ℕ). m < x) l → each_once (l ++ x ∷ []) ≡ each_once l ++ x ∷ []
unfolding All placed_once each_once
once_last x [] h = refl
once_last x (y ∷ l) h = ap (placed_once y) (once_last x l h.1) ∙ placed_end y x h.0 (each_once l)

-- The first m: those of a and b are among the first m of a, and b.

rises_take : (m : ℕ) (l : List ℕ) → Rises l → Rises (take m l)
unfolding Rises
rises_take zero l h = tt
rises_take (suc m) [] h = tt
rises_take (suc m) (x ∷ l) h = (all_take (λ (n : ℕ). x < n) m l h.0, rises_take m l h.1)

take_behind : (m y : ℕ) (u : List ℕ) → take m (y ∷ take m u) ≡ take m (y ∷ u)
take_behind zero y u = refl
take_behind (suc m) y u = ap (λ (l : List ℕ). y ∷ l) (take-take m (suc m) u (omega arith))

take-placed : (m x : ℕ) (u : List ℕ) → take m (placed_once x (take m u)) ≡ take m (placed_once x u)
unfolding placed_once
take-placed zero x u = refl
take-placed (suc m) x [] = refl
take-placed (suc m) x (y ∷ u) = go (ltb x y) (eqb x y) (take-placed m x u)
  where
    go : (s t : Bool) → take m (placed_once x (take m u)) ≡ take m (placed_once x u)
        → take (suc m) (cond s (x ∷ y ∷ take m u) (cond t (y ∷ take m u) (y ∷ placed_once x (take m u))))
        ≡ take (suc m) (cond s (x ∷ y ∷ u) (cond t (y ∷ u) (y ∷ placed_once x u)))
    go true t k = ap (λ (l : List ℕ). x ∷ l) (take_behind m y u)
    go false true k = ap (λ (l : List ℕ). y ∷ l) (take-take m m u (omega arith))
    go false false k = ap (λ (l : List ℕ). y ∷ l) k

once_swap : (a b : List ℕ) → each_once (a ++ b) ≡ each_once (b ++ a)
once_swap a b = once_same (a ++ b) (b ++ a) (λ n. member_append n a b ∙ or_comm (member n a) (member n b) ∙ sym (member_append n b a))

front_behind : (m : ℕ) (a b : List ℕ) → take m (each_once (b ++ take m (each_once a))) ≡ take m (each_once (b ++ a))
unfolding each_once
front_behind m a [] =
    ap (take m) (once_rising (take m (each_once a)) (rises_take m (each_once a) (once_rises a))) ∙ take-take m m (each_once a) (omega arith)
front_behind m a (x ∷ b) =
    sym (take-placed m x (each_once (b ++ take m (each_once a))))
    ∙ ap (λ (l : List ℕ). take m (placed_once x l)) (front_behind m a b)
    ∙ take-placed m x (each_once (b ++ a))

pub front_joined : (m : ℕ) (a b : List ℕ) → take m (each_once (take m (each_once a) ++ b)) ≡ take m (each_once (a ++ b))
front_joined m a b = ap (take m) (once_swap (take m (each_once a)) b) ∙ front_behind m a b ∙ ap (take m) (once_swap b a)

-- Those past one of them.

rises_keep : (f : ℕ → Bool) (l : List ℕ) → Rises l → Rises (keep f l)
unfolding Rises keep
rises_keep f [] h = tt
rises_keep f (x ∷ l) h = go (f x) (rises_keep f l h.1)
  where
    go : (t : Bool) → Rises (keep f l) → Rises (cond t (x ∷ keep f l) (keep f l))
    go true k = (all_keep (λ (n : ℕ). x < n) f l h.0, k)
    go false k = k

rises_past : (l : List ℕ) → Rises l → (m : ℕ) → m < length l → keep (leb (get_or l m 0 + 1)) l ≡ drop (suc m) l
unfolding Rises keep
rises_past [] h m k = absurd (omega arith)
rises_past (y ∷ l) h zero k =
    rw (lt-leb (y + 1) y (omega arith))
    (keep_whole (leb (y + 1)) l (all_imply (λ (n : ℕ). y < n) (λ (n : ℕ). leb (y + 1) n ≡ true) (λ n q. le-leb (y + 1) n (omega (arith, q))) l h.0))
rises_past (y ∷ l) h (suc m) k =
    rw (lt-leb (get_or l m 0 + 1) y (omega (arith, all_at (λ (n : ℕ). y < n) l h.0 m (omega arith)))) (rises_past l h.1 m (omega arith))

-- of the numbers at least lo, those past the one at place m
pub once_past : (lo : ℕ) (l : List ℕ) (m : ℕ) → m < length (each_once (keep (leb lo) l))
    → each_once (keep (leb (get_or (each_once (keep (leb lo) l)) m 0 + 1)) l) ≡ drop (suc m) (each_once (keep (leb lo) l))
once_past lo l m h =
    rises_same (each_once (keep (leb (x + 1)) l)) (keep (leb (x + 1)) e) (once_rises (keep (leb (x + 1)) l)) (rises_keep (leb (x + 1)) e rise)
    (λ n. member_once n (keep (leb (x + 1)) l) ∙ member_keep (leb (x + 1)) n l ∙ go n (leb (x + 1) n) refl ∙ sym (member_keep (leb (x + 1)) n e))
    ∙ rises_past e rise m h
  where
    e : List ℕ
    e = each_once (keep (leb lo) l)

    x : ℕ
    x = get_or e m 0

    rise : Rises e
    rise = once_rises (keep (leb lo) l)

    among : (n : ℕ) → member n e ≡ (leb lo n && member n l)
    among n = member_once n (keep (leb lo) l) ∙ member_keep (leb lo) n l

    low : lo ≤ x
    low =
        let t : T (member x e) = subst (λ (k : List ℕ). T (member x k)) (take-length e) (member_front e m (length e) h h) in
        leb→le lo x (and_fst (leb lo x) (member x l) (subst T (among x) t))

    go : (n : ℕ) (t : Bool) → leb (x + 1) n ≡ t → (t && member n l) ≡ (t && member n e)
    go n true p = sym (among n ∙ ap (λ (b : Bool). b && member n l) (le-leb lo n (omega (arith, low, leb-true (x + 1) n p))))
    go n false p = refl
