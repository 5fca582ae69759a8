-- The permitted layouts stand in the order of their first difference, so that none stands twice; and how long their lines are. Assumes nothing.
use Prim.Native.Nat.{ℕ, zero, suc, ◌+◌, ◌-◌, ◌*◌, ◌≤◌, ◌<◌}
use mathlib.Core.Path.{◌≡◌, refl, sym, ap, ◌∙◌, subst}
use mathlib.Core.Logic.{◌⊎◌, inl, inr}
use mathlib.Core.Bool.{Bool, true, false, cond}
use mathlib.Core.List.Memᴰ
use mathlib.Core.List.{List, [], ◌∷◌, ◌++◌, map, flatten, Memᴰ}
use native.Mathlib.Omega.{arith}
use borrow.Author.Tests.{lt-ltb, le-ltb}
use lib.Dec.{T, ltb}
use lib.ListN.{length, length-append}
use lib.IntN.{ℤ}
use Rattle.model.specs.declared.PriceCard.{PriceCard}
use Rattle.model.specs.declared.Limits.{Limits}
use Rattle.model.specs.Lists.{sum_of, every, keep, same_list}
use Rattle.model.specs.Blocks.{Set, blocks}
use Rattle.model.specs.Layouts.{permitted, layouts_from, every_layout}
use Rattle.model.specs.Plan.{permitted_layouts}
use Rattle.model.specs.Fields.{number_field, signed_field, line}
use Rattle.model.specs.Listing.{earlier_end, earlier_first}
use Rattle.model.proofs.Tests.{and_fst, and_snd, and_mk, is_true, of_true}
use Rattle.model.proofs.ListLaws.{every-joined, every_kept}
use Rattle.model.proofs.FieldLaws.{same_self, same_eq, length-number, length_signed}
use Rattle.model.proofs.LineLaws.{length-line}
use Rattle.model.proofs.GrowerLaws.{all_members, none_kept}
use Rattle.model.proofs.PlanLaws.{permitted-listed, listed-permitted}

-- The order of two layouts.

less_self : (n : ℕ) → ltb n n ≡ false
less_self n = le-ltb n n (omega arith)

-- an earlier first end
earlier_first_lem : (i j : ℕ) (x y : List ℕ) → i < j → T (earlier_end (i ∷ x) (j ∷ y))
unfolding earlier_end
earlier_first_lem i j x y h = rw (lt-ltb i j h) tt

-- the same first end
earlier_rest : (i : ℕ) (x y : List ℕ) → earlier_end (i ∷ x) (i ∷ y) ≡ earlier_end x y
unfolding earlier_end
earlier_rest i x y = rw (less_self i) refl

-- a layout has no earlier end than itself
not_earlier : (x : List ℕ) → earlier_end x x ≡ false
unfolding earlier_end
not_earlier [] = refl
not_earlier (i ∷ x) = rw (less_self i) (not_earlier x)

-- Every layout of the blocks i to i + c.

module _ (i : ℕ) where
  abbrev begin : List (List ℕ) → List (List ℕ)
  begin ls = map (λ (es : List ℕ). i ∷ es) ls

  every_rest : (x : List ℕ) (ls : List (List ℕ)) → every (earlier_end (i ∷ x)) (begin ls) ≡ every (earlier_end x) ls
  unfolding every
  every_rest x [] = refl
  every_rest x (y ∷ ls) = rw (earlier_rest i x y, every_rest x ls) refl

  order_rest : (ls : List (List ℕ)) → earlier_first (begin ls) ≡ earlier_first ls
  unfolding earlier_first
  order_rest [] = refl
  order_rest (x ∷ ls) = rw (every_rest x ls, order_rest ls) refl

  -- each begins earlier than all of ms
  order_joined : (ls ms : List (List ℕ)) → T (earlier_first (begin ls)) → T (earlier_first ms) → ((x : List ℕ) → T (every (earlier_end (i ∷ x)) ms)) → T (earlier_first (begin ls ++ ms))
  unfolding earlier_first
  order_joined [] ms h k f = k
  order_joined (x ∷ ls) ms h k f =
      let a = every (earlier_end (i ∷ x)) (begin ls) in
      let b = earlier_first (begin ls) in
      let e = every-joined (earlier_end (i ∷ x)) (begin ls) ms in
      and_mk (every (earlier_end (i ∷ x)) (begin ls ++ ms)) (earlier_first (begin ls ++ ms))
      (subst T (sym e) (and_mk a (every (earlier_end (i ∷ x)) ms) (and_fst a b h) (f x)))
      (order_joined ls ms (and_snd a b h) k f)

every_begins : (i j : ℕ) (x : List ℕ) (ls : List (List ℕ)) → i < j → T (every (earlier_end (i ∷ x)) (begin j ls))
unfolding every
every_begins i j x [] h = tt
every_begins i j x (y ∷ ls) h = and_mk (earlier_end (i ∷ x) (j ∷ y)) (every (earlier_end (i ∷ x)) (begin j ls)) (earlier_first_lem i j x y h) (every_begins i j x ls h)

begins_later : (c i j : ℕ) (x : List ℕ) → i < j → T (every (earlier_end (i ∷ x)) (layouts_from j c))
unfolding layouts_from
begins_later zero i j x h = every_begins i j x ([] ∷ []) h
begins_later (suc c) i j x h =
    let ls = layouts_from (j + 1) c in
    subst T (sym (every-joined (earlier_end (i ∷ x)) (begin j ls) ls))
    (and_mk (every (earlier_end (i ∷ x)) (begin j ls)) (every (earlier_end (i ∷ x)) ls) (every_begins i j x ls h) (begins_later c i (j + 1) x (omega arith)))

layouts_in_order : (c i : ℕ) → T (earlier_first (layouts_from i c))
unfolding layouts_from earlier_first every
layouts_in_order zero i = tt
layouts_in_order (suc c) i =
    let ls = layouts_from (i + 1) c in
    let h = layouts_in_order c (i + 1) in
    order_joined i ls ls (subst T (sym (order_rest i ls)) h) h (λ x. begins_later c i (i + 1) x (omega arith))

-- What is kept of an order is in order.
kept_in_order : (p : List ℕ → Bool) (ls : List (List ℕ)) → T (earlier_first ls) → T (earlier_first (keep p ls))
unfolding keep earlier_first
kept_in_order p [] h = tt
kept_in_order p (x ∷ ls) h =
    go (p x) (kept_in_order p ls (and_snd (every (earlier_end x) ls) (earlier_first ls) h)) (every_kept (earlier_end x) p ls (and_fst (every (earlier_end x) ls) (earlier_first ls) h))
  where
    go : (b : Bool) → T (earlier_first (keep p ls)) → T (every (earlier_end x) (keep p ls)) → T (earlier_first (cond b (x ∷ keep p ls) (keep p ls)))
    go true k e = and_mk (every (earlier_end x) (keep p ls)) (earlier_first (keep p ls)) e k
    go false k e = k

-- How often a layout stands in an order.

none_the_same : (x : List ℕ) (ls : List (List ℕ)) → T (every (earlier_end x) ls) → keep (same_list x) ls ≡ []
unfolding keep every
none_the_same x [] h = refl
none_the_same x (y ∷ ls) h =
    go (same_list x y) refl (none_the_same x ls (and_snd (earlier_end x y) (every (earlier_end x) ls) h)) (and_fst (earlier_end x y) (every (earlier_end x) ls) h)
  where
    go : (b : Bool) → same_list x y ≡ b → keep (same_list x) ls ≡ [] → T (earlier_end x y) → cond b (y ∷ keep (same_list x) ls) (keep (same_list x) ls) ≡ []
    go true e k t = absurd (subst T (ap (earlier_end x) (sym (same_eq x y (of_true _ e))) ∙ not_earlier x) t)
    go false e k t = k

once_in_order : (x : List ℕ) (ls : List (List ℕ)) → T (earlier_first ls) → Memᴰ x ls → length (keep (same_list x) ls) ≡ 1
unfolding keep earlier_first
once_in_order x [] h m = absurd (Memᴰ.not-nil m)
once_in_order x (y ∷ ls) h m =
    go (same_list x y) refl (Memᴰ.cases_cons m) (once_in_order x ls (and_snd (every (earlier_end y) ls) (earlier_first ls) h)) (and_fst (every (earlier_end y) ls) (earlier_first ls) h)
  where
    go : (b : Bool) → same_list x y ≡ b → (x ≡ y) ⊎ Memᴰ x ls → (Memᴰ x ls → length (keep (same_list x) ls) ≡ 1) → T (every (earlier_end y) ls)
        → length (cond b (y ∷ keep (same_list x) ls) (keep (same_list x) ls)) ≡ 1
    go true e m ih t =
        let q : y ≡ x = sym (same_eq x y (of_true _ e)) in
        ap (λ (l : List (List ℕ)). suc (length l)) (none_the_same x ls (subst (λ (z : List ℕ). T (every (earlier_end z) ls)) q t))
    go false e (inl q) ih t = absurd (subst T (sym (ap (same_list x) (sym q) ∙ same_self x) ∙ e) tt)
    go false e (inr k) ih t = ih k

-- The permitted layouts.

module _ (p : PriceCard) (l : Limits) (s : Set) where
  pub permitted_in_order : T (earlier_first (permitted_layouts p l s))
  unfolding permitted_layouts
  permitted_in_order = kept_in_order (permitted p l s) (every_layout (blocks s)) (layouts_in_order (blocks s - 1) 0)

  pub permitted_once : 1 ≤ blocks s → (ends : List ℕ) → length (keep (same_list ends) (permitted_layouts p l s)) ≡ cond (permitted p l s ends) 1 0
  permitted_once h ends = go (permitted p l s ends) refl
    where
      go : (b : Bool) → permitted p l s ends ≡ b → length (keep (same_list ends) (permitted_layouts p l s)) ≡ cond b 1 0
      go true e = once_in_order ends (permitted_layouts p l s) permitted_in_order (permitted-listed p l s h ends (of_true _ e))
      go false e =
          ap length
          (none_kept (λ (x : List ℕ). permitted p l s x ≡ true) (same_list ends) (λ x t. other x t (same_list ends x) refl) (permitted_layouts p l s)
          (all_members (λ (x : List ℕ). permitted p l s x ≡ true) (permitted_layouts p l s) (λ x m. is_true _ (listed-permitted p l s x m))))
        where
          other : (x : List ℕ) → permitted p l s x ≡ true → (b : Bool) → same_list ends x ≡ b → same_list ends x ≡ false
          other x t true q = absurd (subst T (sym t ∙ ap (permitted p l s) (sym (same_eq ends x (of_true _ q))) ∙ e) tt)
          other x t false q = q

-- Lengths.

-- a layout's line, of which the first ends may be written already
pub length-parts : (k : ℕ) (z : ℤ) (front es : List ℕ) → length (number_field k ++ (signed_field z ++ (front ++ line es))) ≡ 32 + length front + 11 * length es
length-parts k z front es =
    omega (
      arith,
      length-append (number_field k) (signed_field z ++ (front ++ line es)),
      length-append (signed_field z) (front ++ line es),
      length-append front (line es),
      length-number k,
      length_signed z,
      length-line es,
    )

pub length-joined : {A : Type 0} (f : A → List ℕ) (g : A → ℕ) → ((x : A) → length (f x) ≡ g x) → (l : List A) → length (flatten (map f l)) ≡ sum_of (map g l)
unfolding flatten sum_of
length-joined f g h [] = refl
length-joined f g h (x ∷ l) = omega (arith, length-append (f x) (flatten (map f l)), h x, length-joined f g h l)
