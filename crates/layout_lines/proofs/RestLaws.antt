-- How chosen ends go on: at each block a layout has an end there and goes on behind it, or its next end is later. Assumes nothing.
use Prim.Native.Nat.{ℕ, zero, suc, ◌+◌, ◌-◌, ◌≤◌, ◌<◌}
use mathlib.Core.Path.{◌≡◌, refl, sym, ap, ap₂, ◌∙◌}
use mathlib.Core.Logic.{◌⊎◌, inl, inr}
use mathlib.Core.Bool.{Bool, true, false, cond, ◌&&◌, and-false}
use mathlib.Core.List.{List, [], ◌∷◌, ◌++◌, map}
use native.Mathlib.Omega.{arith}
use borrow.Author.Tests.{ltb-false, leb-false, lt-leb, le-leb}
use lib.Dec.{leb, ltb, leb→le, ltb→lt}
use lib.ListN.{get_or}
use Rattle.model.specs.Lists.{keep}
use Rattle.model.specs.Layouts.{layouts_from}
use Rattle.model.proofs.Tests.{and_fst, and_snd, of_true}
use Rattle.model.proofs.ListLaws.{keep_append}
use Rattle.layout_search.proofs.PriceLaws.{ok_yes, ok_no}
use Rattle.layout_lines.specs.Rests.{rest_ok, ok_by, rests, Choosing}

keep-map : {A B : Type 0} (f : A → B) (p : B → Bool) (l : List A) → keep p (map f l) ≡ map f (keep (λ (x : A). p (f x)) l)
unfolding keep
keep-map f p [] = refl
keep-map {A} {B} f p (x ∷ l) = go (p (f x)) (keep-map f p l)
  where
    go : (t : Bool) → keep p (map f l) ≡ map f (keep (λ (x : A). p (f x)) l)
        → cond t (f x ∷ keep p (map f l)) (keep p (map f l)) ≡ map f (cond t (x ∷ keep (λ (x : A). p (f x)) l) (keep (λ (x : A). p (f x)) l))
    go true e = ap (λ (r : List B). f x ∷ r) e
    go false e = e

keep_no : {A : Type 0} (l : List A) → keep (λ (x : A). false) l ≡ []
unfolding keep
keep_no [] = refl
keep_no (x ∷ l) = keep_no l

module _ (ok : ℕ → ℕ → Bool) (most : ℕ) where
  -- what follows k ends among the blocks i to i + c
  abbrev from : ℕ → ℕ → ℕ → ℕ → List (List ℕ)
  from k a i c = keep (rest_ok ok most k a) (layouts_from i c)

  -- with an end at block i
  abbrev there : Bool → ℕ → ℕ → ℕ → List (List ℕ)
  there b k i c = keep (λ (es : List ℕ). b && rest_ok ok most (k + 1) (i + 1) es) (layouts_from (i + 1) c)

  -- an end at block i, or later
  by_first : (c k a i : ℕ) → from k a i (suc c) ≡ map (λ (es : List ℕ). i ∷ es) (there (ok a i) k i c) ++ from k a (i + 1) c
  unfolding rest_ok layouts_from
  by_first c k a i =
      keep_append (rest_ok ok most k a) (map (λ (es : List ℕ). i ∷ es) (layouts_from (i + 1) c)) (layouts_from (i + 1) c)
      ∙ ap (λ (l : List (List ℕ)). l ++ from k a (i + 1) c) (keep-map (λ (es : List ℕ). i ∷ es) (rest_ok ok most k a) (layouts_from (i + 1) c))

  none_there : (c k i : ℕ) → there false k i c ≡ []
  none_there c k i = keep_no (layouts_from (i + 1) c)

  later_only : (c k a i : ℕ) → ok a i ≡ false → from k a i (suc c) ≡ from k a (i + 1) c
  later_only c k a i e =
      by_first c k a i
      ∙ ap (λ (b : Bool). map (λ (es : List ℕ). i ∷ es) (there b k i c) ++ from k a (i + 1) c) e
      ∙ ap (λ (l : List (List ℕ)). map (λ (es : List ℕ). i ∷ es) l ++ from k a (i + 1) c) (none_there c k i)

  here_or_later : (c k a i : ℕ) → ok a i ≡ true → from k a i (suc c) ≡ map (λ (es : List ℕ). i ∷ es) (from (k + 1) (i + 1) (i + 1) c) ++ from k a (i + 1) c
  here_or_later c k a i e = by_first c k a i ∙ ap (λ (b : Bool). map (λ (es : List ℕ). i ∷ es) (there b k i c) ++ from k a (i + 1) c) e

  -- the last block
  at_last : (k a i : ℕ) (b : Bool) → ok a i && leb (k + 1) most ≡ b → from k a i 0 ≡ cond b ((i ∷ []) ∷ []) []
  unfolding rest_ok layouts_from keep
  at_last k a i b e = ap (λ (t : Bool). cond t ((i ∷ []) ∷ []) []) e

  -- nothing follows where no end may stand from block i on, or where there are ends enough
  none_follows : (c k a i : ℕ) → ((e : ℕ) → i ≤ e → ok a e ≡ false) ⊎ (most ≤ k) → from k a i c ≡ []
  none_follows zero k a i (inl f) = at_last k a i false (rw (f i (omega arith)) refl)
  none_follows zero k a i (inr h) = at_last k a i false (rw (lt-leb (k + 1) most (omega arith)) (and-false (ok a i)))
  none_follows (suc c) k a i (inl f) = later_only c k a i (f i (omega arith)) ∙ none_follows c k a (i + 1) (inl (λ e h. f e (omega arith)))
  none_follows (suc c) k a i (inr h) = go (ok a i) refl (none_follows c (k + 1) (i + 1) (i + 1) (inr (omega arith))) (none_follows c k a (i + 1) (inr h))
    where
      go : (b : Bool) → ok a i ≡ b → from (k + 1) (i + 1) (i + 1) c ≡ [] → from k a (i + 1) c ≡ [] → from k a i (suc c) ≡ []
      go true e x y = here_or_later c k a i e ∙ ap₂ (λ (l r : List (List ℕ)). map (λ (es : List ℕ). i ∷ es) l ++ r) x y
      go false e x y = later_only c k a i e ∙ y

-- The same for flags and limits, as the code asks them: k ends are chosen, the next partition begins at block a, and its end is block i or later.
pub record Place : Type 0 where
  pub fits : List Bool
  pub longest : ℕ
  pub most : ℕ
  pub n : ℕ
  pub k : ℕ
  pub a : ℕ
  pub i : ℕ

-- past block i, and behind an end there
abbrev pub later : Place → Place
later x = record { fits = x.fits; longest = x.longest; most = x.most; n = x.n; k = x.k; a = x.a; i = x.i + 1 }

abbrev pub behind : Place → Place
behind x = record { fits = x.fits; longest = x.longest; most = x.most; n = x.n; k = x.k + 1; a = x.i + 1; i = x.i + 1 }

module _ (x : Place) where
  abbrev fits : List Bool
  fits = x.fits

  abbrev longest : ℕ
  longest = x.longest

  abbrev most : ℕ
  most = x.most

  abbrev n : ℕ
  n = x.n

  abbrev k : ℕ
  k = x.k

  abbrev a : ℕ
  a = x.a

  abbrev i : ℕ
  i = x.i

  abbrev pub follow : ℕ → ℕ → ℕ → List (List ℕ)
  follow = rests (ok_by fits longest) most n

  abbrev pub followed : List (List ℕ)
  followed = follow k a i

  -- the code's test
  abbrev pub goes_on : Bool
  goes_on = ltb k most && leb (i + 1 - a) longest

  pub stops : goes_on ≡ false → follow k a i ≡ []
  unfolding rests
  stops e = none_follows (ok_by fits longest) most (n - 1 - i) k a i (which (ltb k most) refl e)
    where
      which : (b : Bool) → ltb k most ≡ b → b && leb (i + 1 - a) longest ≡ false → ((e : ℕ) → i ≤ e → ok_by fits longest a e ≡ false) ⊎ (most ≤ k)
      which true q e = inl (λ d g. let h = leb-false (i + 1 - a) longest e in sym (ok_no longest a d (λ i. get_or fits i false) (omega arith)))
      which false q e = inr (ltb-false k most q)

  pub more_fit : goes_on ≡ true → k < most
  more_fit e = ltb→lt k most (and_fst (ltb k most) (leb (i + 1 - a) longest) (of_true _ e))

  pub is_short : goes_on ≡ true → i + 1 - a ≤ longest
  is_short e = leb→le (i + 1 - a) longest (and_snd (ltb k most) (leb (i + 1 - a) longest) (of_true _ e))

  module _ (short : i + 1 - a ≤ longest) where
    flag_is : (b : Bool) → get_or fits i false ≡ b → ok_by fits longest a i ≡ b
    flag_is b e = sym (ok_yes longest a i (λ i. get_or fits i false) short) ∙ e

    -- of the last block
    module _ (last : i + 1 ≡ n) where
      at_end : (b : Bool) → ok_by fits longest a i && leb (k + 1) most ≡ b → follow k a i ≡ cond b ((i ∷ []) ∷ []) []
      unfolding rests
      at_end b e =
          let z : n - 1 - i ≡ 0 = omega arith in
          ap (λ (c : ℕ). keep (rest_ok (ok_by fits longest) most k a) (layouts_from i c)) z ∙ at_last (ok_by fits longest) most k a i b e

      pub no_end : get_or fits i false ≡ false → follow k a i ≡ []
      no_end e = at_end false (rw (flag_is false e) refl)

      pub last_end : k < most → get_or fits i false ≡ true → follow k a i ≡ (i ∷ []) ∷ []
      last_end h e = at_end true (rw (flag_is true e, le-leb (k + 1) most (omega arith)) refl)

    -- of another
    module _ (more : i + 1 < n) where
      blocks_left : n - 1 - i ≡ suc (n - 1 - (i + 1))
      blocks_left = omega arith

      pub passed_over : get_or fits i false ≡ false → follow k a i ≡ follow k a (i + 1)
      unfolding rests
      passed_over e =
          ap (λ (c : ℕ). keep (rest_ok (ok_by fits longest) most k a) (layouts_from i c)) blocks_left
          ∙ later_only (ok_by fits longest) most (n - 1 - (i + 1)) k a i (flag_is false e)

      pub chosen_or_not : get_or fits i false ≡ true → follow k a i ≡ map (λ (es : List ℕ). i ∷ es) (follow (k + 1) (i + 1) (i + 1)) ++ follow k a (i + 1)
      unfolding rests
      chosen_or_not e =
          ap (λ (c : ℕ). keep (rest_ok (ok_by fits longest) most k a) (layouts_from i c)) blocks_left
          ∙ here_or_later (ok_by fits longest) most (n - 1 - (i + 1)) k a i (flag_is true e)

-- Block i is passed over, or is the next end.
module _ {n k a i : ℕ} (c : Choosing n k a i) (more : i + 1 < n) where
  pub choosing_later : Choosing n k a (i + 1)
  choosing_later = record { inside = more; first = omega (arith, c.first); count = c.count }

  pub choosing_behind : Choosing n (k + 1) (i + 1) (i + 1)
  choosing_behind = record { inside = more; first = omega arith; count = omega (arith, c.first, c.count) }
