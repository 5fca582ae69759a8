-- The checks of what a plan and a listing are given, and where an end may stand.
use Rattle.std.specs.Prelude.{ℕ, ◌<◌, ◌≡◌, Bool, false, ◌&&◌, List, [], ◌∷◌, ◌++◌, length, get_or}
use Rattle.model.specs.declared.PriceCard.{PriceCard}
use Rattle.model.specs.declared.Limits.{Limits}
use Rattle.model.specs.Checks.{Check, ask}
use Rattle.model.specs.Prices.{prices_ok, limits_ok}
use Rattle.model.specs.Blocks.{Set, values_ok, days_ok}
use Rattle.model.specs.Histograms.{counts_ok}
use Rattle.model.specs.Layouts.{separates_none}
use Rattle.model.specs.Questions.{set_checks}

-- L is the block limit: 1 2 3 4 5 8 19 9, ahead of 11 and 15
abbrev pub given_checks : ℕ → PriceCard → Limits → Set → List ℕ → List Check
given_checks L p l s hs = ask 1 (prices_ok p && limits_ok l) ∷ set_checks L s ++ ask 8 (values_ok s) ∷ ask 19 (days_ok s) ∷ ask 9 (counts_ok L hs) ∷ []

-- the flags before block i say where an end may stand
pub record Marked (s : Set) (i : ℕ) (old fits : List Bool) : Type 0 where
  pub long : length fits ≡ length old
  pub here : (x : ℕ) → x < i → get_or fits x false ≡ separates_none s x
