-- The cheapest permitted layout (01: permitted layouts).
use Rattle.std.specs.Prelude.{ℕ, Bool, true, false, cond, List, [], ◌∷◌, length, ltb, ℤ}
use Rattle.std.proofs.Math.Option.{Option, none, some}
use Rattle.std.specs.Int.Signed.{lt_z}
use Rattle.model.specs.declared.PriceCard.{PriceCard}
use Rattle.model.specs.declared.Limits.{Limits}
use Rattle.model.specs.Lists.{keep}
use Rattle.model.specs.Blocks.{Set, blocks}
use Rattle.model.specs.Layouts.{permitted, every_layout}
use Rattle.model.specs.Cost.{cost_of}

-- yes if less, no if more, else what the rest says
abbrev pub decide : Bool → Bool → Bool → Bool
decide true more rest = true
decide false true rest = false
decide false false rest = rest

-- "then the smaller end at the first difference"
abbrev pub ends_before : List ℕ → List ℕ → Bool
ends_before [] ys = true
ends_before (x ∷ xs) [] = false
ends_before (x ∷ xs) (y ∷ ys) = decide (ltb x y) (ltb y x) (ends_before xs ys)

-- "the cheapest; of equal bills the fewest partitions; then the smaller end at the first difference"
abbrev pub comes_before : (List ℕ → ℤ) → List ℕ → List ℕ → Bool
comes_before cost x y = decide (lt_z (cost x) (cost y)) (lt_z (cost y) (cost x)) (decide (ltb (length x) (length y)) (ltb (length y) (length x)) (ends_before x y))

abbrev pub earlier : (List ℕ → ℤ) → List ℕ → Option (List ℕ) → List ℕ
earlier cost x none = x
earlier cost x (some y) = cond (comes_before cost x y) x y

-- the least of a list in that order
abbrev pub least : (List ℕ → ℤ) → List (List ℕ) → Option (List ℕ)
least cost [] = none
least cost (x ∷ xs) = some (earlier cost x (least cost xs))

-- every permitted layout of the set
unfoldable pub permitted_layouts : PriceCard → Limits → Set → List (List ℕ)
permitted_layouts p l s = keep (permitted p l s) (every_layout (blocks s))

-- "of the permitted layouts the planner returns the cheapest", if there is one
unfoldable pub cheapest : ℕ → PriceCard → Limits → Set → List ℕ → Option (List ℕ)
cheapest L p l s hs = least (λ (ends : List ℕ). cost_of L p (blocks s) ends hs) (permitted_layouts p l s)
