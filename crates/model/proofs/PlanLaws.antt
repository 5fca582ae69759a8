-- The planner's answer: a layout that is permitted and comes before each permitted one, of which there is one at most. Assumes nothing.
use Prim.Native.Nat.{ℕ, ◌≤◌}
use mathlib.Core.Path.{◌≡◌, refl, sym, subst}
use mathlib.Core.Logic.{◌⊎◌, inl, inr}
use mathlib.Core.Bool.{Bool, true, false, cond, ◌&&◌}
use mathlib.Core.Option.{none, some}
use mathlib.Core.List.Memᴰ
use mathlib.Core.List.{List, [], ◌∷◌, Memᴰ}
use lib.Dec.{T, leb}
use lib.ListN.{length}
use lib.IntN.{ℤ}
use Rattle.model.specs.declared.PriceCard.{PriceCard}
use Rattle.model.specs.declared.Limits.{Limits}
use Rattle.model.specs.Lists.{every, keep}
use Rattle.model.specs.Blocks.{Set, blocks}
use Rattle.model.specs.Layouts.{is_layout, separates_none, layout_ok, block_counts, most_partitions, longest_partition, permitted, every_layout}
use Rattle.model.specs.Cost.{cost_of}
use Rattle.model.specs.Plan.{permitted_layouts, cheapest}
use Rattle.model.specs.Laws.{IsCheapest}
use Rattle.model.proofs.Tests.{and_fst, of_true}
use Rattle.model.proofs.LayoutLaws.{every_layout_lem}
use Rattle.model.proofs.Order.{comes_before_antisym, least_in, least_low, least_is, least_some}

-- what is kept passes, and what passes is kept
kept_passes : {A : Type 0} (p : A → Bool) (x : A) (l : List A) → Memᴰ x (keep p l) → Memᴰ x l × T (p x)
unfolding keep
kept_passes p x [] m = absurd (Memᴰ.not-nil m)
kept_passes {A} p x (y ∷ l) m = go (p y) refl m (kept_passes p x l)
  where
    go : (b : Bool) → p y ≡ b → Memᴰ x (cond b (y ∷ keep p l) (keep p l)) → (Memᴰ x (keep p l) → Memᴰ x l × T (p x)) → Memᴰ x (y ∷ l) × T (p x)
    go true e m ih = head_or (Memᴰ.cases_cons m)
      where
        head_or : (x ≡ y) ⊎ Memᴰ x (keep p l) → Memᴰ x (y ∷ l) × T (p x)
        head_or (inl q) = (Memᴰ.head q, subst (λ (z : A). T (p z)) (sym q) (of_true (p y) e))
        head_or (inr k) = let r = ih k in (Memᴰ.tail r.0, r.1)
    go false e m ih = let r = ih m in (Memᴰ.tail r.0, r.1)

passes_kept : {A : Type 0} (p : A → Bool) (x : A) (l : List A) → Memᴰ x l → T (p x) → Memᴰ x (keep p l)
unfolding keep
passes_kept p x [] m t = absurd (Memᴰ.not-nil m)
passes_kept {A} p x (y ∷ l) m t = go (p y) refl (Memᴰ.cases_cons m) (λ k. passes_kept p x l k t)
  where
    go : (b : Bool) → p y ≡ b → (x ≡ y) ⊎ Memᴰ x l → (Memᴰ x l → Memᴰ x (keep p l)) → Memᴰ x (cond b (y ∷ keep p l) (keep p l))
    go true e (inl q) ih = Memᴰ.head q
    go true e (inr k) ih = Memᴰ.tail (ih k)
    go false e (inl q) ih = absurd (subst T e (subst (λ (z : A). T (p z)) q t))
    go false e (inr k) ih = ih k

module _ (p : PriceCard) (l : Limits) (s : Set) where
  -- a permitted layout passes 6
  pub permitted_ok : (ends : List ℕ) → T (permitted p l s ends) → T (layout_ok s ends)
  unfolding permitted
  permitted_ok ends t =
      let a = layout_ok s ends in
      let b = leb (length ends) (most_partitions p l) in
      and_fst a b (and_fst (a && b) (every (λ (n : ℕ). leb n (longest_partition p l)) (block_counts 0 ends)) t)

  permitted_is_layout : (ends : List ℕ) → T (permitted p l s ends) → T (is_layout (blocks s) ends)
  unfolding layout_ok
  permitted_is_layout ends t = and_fst (is_layout (blocks s) ends) (every (separates_none s) ends) (permitted_ok ends t)

  -- a layout is among the permitted ones just if it is permitted
  pub permitted-listed : 1 ≤ blocks s → (ends : List ℕ) → T (permitted p l s ends) → Memᴰ ends (permitted_layouts p l s)
  unfolding permitted_layouts
  permitted-listed h ends t = passes_kept (permitted p l s) ends (every_layout (blocks s)) ((every_layout_lem (blocks s) ends h).1 (permitted_is_layout ends t)) t

  pub listed-permitted : (ends : List ℕ) → Memᴰ ends (permitted_layouts p l s) → T (permitted p l s ends)
  unfolding permitted_layouts
  listed-permitted ends m = (kept_passes (permitted p l s) ends (every_layout (blocks s)) m).1

  module _ (L : ℕ) (hs : List ℕ) where
    abbrev cost : List ℕ → ℤ
    cost ends = cost_of L p (blocks s) ends hs

    -- there is one at most
    pub cheapest_unique : (x y : List ℕ) → IsCheapest L p l s hs x → IsCheapest L p l s hs y → x ≡ y
    cheapest_unique x y h k = comes_before_antisym cost x y (h.first y k.allowed) (k.first x h.allowed)

    -- what the definition chooses is one
    pub cheapest_chosen : (ends : List ℕ) → 1 ≤ blocks s → cheapest L p l s hs ≡ some ends → IsCheapest L p l s hs ends
    unfolding cheapest
    cheapest_chosen ends h e = record {
      allowed = listed-permitted ends (least_in cost (permitted_layouts p l s) ends e);
      first = λ other t. least_low cost (permitted_layouts p l s) ends other e (permitted-listed h other t);
    }

    -- and what is one is chosen
    pub chosen_cheapest : (ends : List ℕ) → 1 ≤ blocks s → IsCheapest L p l s hs ends → cheapest L p l s hs ≡ some ends
    unfolding cheapest
    chosen_cheapest ends h c = least_is cost (permitted_layouts p l s) ends (permitted-listed h ends c.allowed) (λ other m. c.first other (listed-permitted other m))

    pub none_permitted : 1 ≤ blocks s → cheapest L p l s hs ≡ none → (ends : List ℕ) → T (permitted p l s ends) → ⊥
    unfolding cheapest
    none_permitted h e ends t = least_some cost (permitted_layouts p l s) ends (permitted-listed h ends t) e
