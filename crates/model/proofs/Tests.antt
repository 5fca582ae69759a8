-- Tests and lists of checks: what a Bool that came out true or false says. Assumes nothing.
use Prim.Native.Nat.{ℕ, suc, ◌<◌}
use mathlib.Core.Path.{◌≡◌, refl, sym, ◌∙◌, subst}
use mathlib.Core.Logic.{◌≢◌}
use mathlib.Core.Bool.{Bool, true, false, not, cond, ◌&&◌, ◌||◌}
use mathlib.Core.List.{List, [], ◌∷◌}
use native.Mathlib.Omega.{arith}
use lib.Dec.{T, leb, eqb, nleb→lt, eqb→eq, eqb_refl}
use Rattle.model.specs.Checks.{Check, ask, first_failed}

pub and_fst : (a b : Bool) → T (a && b) → T a
and_fst true b h = tt
and_fst false b h = absurd h

pub and_snd : (a b : Bool) → T (a && b) → T b
and_snd true b h = h
and_snd false b h = absurd h

pub and_mk : (a b : Bool) → T a → T b → T (a && b)
and_mk true b h k = k
and_mk false b h k = absurd h

pub is_true : (b : Bool) → T b → b ≡ true
is_true true h = refl
is_true false h = absurd h

pub of_true : (b : Bool) → b ≡ true → T b
of_true b e = subst T (sym e) tt

pub is_false : (b : Bool) → (T b → ⊥) → b ≡ false
is_false true h = absurd (h tt)
is_false false h = refl

pub same_test : (a b : Bool) → (T a → T b) → (T b → T a) → a ≡ b
same_test true b f g = sym (is_true b (f tt))
same_test false b f g = sym (is_false b (λ h. g h))

-- a test that came out false
pub leb_no : (m n : ℕ) → leb m n ≡ false → n < m
leb_no m n e = nleb→lt m n (subst (λ (b : Bool). T (not b)) (sym e) tt)

pub eqb_no : (m n : ℕ) → eqb m n ≡ false → m ≢ n
eqb_no m n e h = subst T e (subst (λ (x : ℕ). T (eqb m x)) h (eqb_refl m))

pub eq→eqb : (m n : ℕ) → m ≡ n → T (eqb m n)
eq→eqb m n h = subst (λ (x : ℕ). T (eqb m x)) h (eqb_refl m)

-- a list of checks that is answered by 0
pub nothing_failed : first_failed [] ≡ 0
unfolding first_failed
nothing_failed = refl

pub yes_first : (n : ℕ) (b : Bool) (cs : List Check) → first_failed (ask (suc n) b ∷ cs) ≡ 0 → T b × (first_failed cs ≡ 0)
unfolding first_failed
yes_first n true cs h = (tt, h)
yes_first n false cs h = absurd (omega arith)

pub first_passed : (n : ℕ) (b : Bool) (cs : List Check) → T b → first_failed (ask n b ∷ cs) ≡ first_failed cs
unfolding first_failed
first_passed n b cs h = rw (is_true b h)

-- two pairs of tests in another order
pub pairs_swap : (a b c d : Bool) → a && b && (c && d) ≡ a && c && (b && d)
pairs_swap true true c d = refl
pairs_swap true false true d = refl
pairs_swap true false false d = refl
pairs_swap false b c d = refl

pub or_fst : (a b : Bool) → T a → T (a || b)
or_fst true b h = tt
or_fst false b h = absurd h

pub or_snd : (a b : Bool) → T b → T (a || b)
or_snd true b h = tt
or_snd false b h = h

-- a test cannot come out both ways
pub no_such : {b : Bool} → T b → b ≡ false → ⊥
no_such t e = subst T e t

-- an answer of a call holds the number of the first check that failed
pub refusal_kept : {A : Type 0} (f : A → ℕ) (n : ℕ) (a b : A) → f a ≡ 0 → f b ≡ n → f (cond (eqb n 0) a b) ≡ n
refusal_kept f n a b e g = go (eqb n 0) refl
  where
    go : (t : Bool) → eqb n 0 ≡ t → f (cond t a b) ≡ n
    go true q = e ∙ sym (eqb→eq n 0 (of_true _ q))
    go false q = g
