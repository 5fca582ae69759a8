-- Where a grower belongs: one rule for blocks (by their last growers) and for partitions (by their fences).
use Rattle.std.specs.Prelude.{ℕ, ◌+◌, cond, List, [], ◌∷◌, leb}

-- "the first block whose last grower is at least g; if there is none, the last block",
-- "the first partition whose fence is at least g, else .. the last"
unfoldable pub place : List ℕ → ℕ → ℕ
place [] g = 0
place (k ∷ []) g = 0
place (k ∷ l ∷ ks) g = cond (leb g k) 0 (place (l ∷ ks) g + 1)
