-- Every permitted layout of a small set as a text (02: Slip 13).
use Rattle.std.specs.Prelude.{ℕ, Bool, true, false, ◌&&◌, length, leb, ltb, ℤ}
use mathlib.Core.List.{List, [], ◌∷◌, ◌++◌, map, flatten}
use Rattle.model.specs.declared.PriceCard.{PriceCard}
use Rattle.model.specs.declared.Limits.{Limits}
use Rattle.model.specs.Bounds.{most_listed_blocks}
use Rattle.model.specs.Lists.{every}
use Rattle.model.specs.Blocks.{Set, blocks}
use Rattle.model.specs.Cost.{cost_of}
use Rattle.model.specs.Plan.{decide, permitted_layouts}
use Rattle.model.specs.Fields.{number_field, signed_field, line}

-- check 23: "more than 12 blocks"
unfoldable pub few_blocks : Set → Bool
few_blocks s = leb (blocks s) most_listed_blocks

-- "each line .. holds K, the bill in 20 columns (a minus sign just before its first digit if negative) and the end blocks, in the book's number form"
unfoldable pub layout_line : ℤ → List ℕ → List ℕ
layout_line cost ends = number_field (length ends) ++ (signed_field cost ++ line ends)

-- "list every permitted layout and no other, with its bill": a line each, L being the block limit
unfoldable pub listing_text : ℕ → PriceCard → Limits → Set → List ℕ → List ℕ
listing_text L p l s hs = flatten (map (λ (ends : List ℕ). layout_line (cost_of L p (blocks s) ends hs) ends) (permitted_layouts p l s))

-- "those with an earlier end at the first difference first": do two layouts differ, and has x the earlier end where they first do?
unfoldable pub earlier_end : List ℕ → List ℕ → Bool
earlier_end [] ys = false
earlier_end (x ∷ xs) [] = false
earlier_end (x ∷ xs) (y ∷ ys) = decide (ltb x y) (ltb y x) (earlier_end xs ys)

-- has each layout of a list an earlier end than every one behind it?
unfoldable pub earlier_first : List (List ℕ) → Bool
earlier_first [] = true
earlier_first (x ∷ xs) = every (earlier_end x) xs && earlier_first xs
