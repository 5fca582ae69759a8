-- Checks 2 to 5 of a set, and the sizes that they let through.
use Rattle.std.specs.Prelude.{ℕ, ◌*◌, ◌≤◌, Bool, ◌&&◌, List, [], ◌∷◌, ◌++◌}
use Rattle.model.specs.Checks.{Check, ask, first_failed}
use Rattle.model.specs.Bounds.{most_block_length, most_slots}
use Rattle.model.specs.Blocks.{Set, values_ok, days_ok}
use Rattle.model.specs.Histograms.{counts_ok}
use Rattle.model.specs.Questions.{set_checks}

-- L is the block limit: checks 2 to 5 of a set
abbrev pub set_refusal_of : ℕ → Set → ℕ
set_refusal_of L s = first_failed (set_checks L s)

-- 2 3 4 5 7 8 19 9, of a set, a call that offers values and days, and its histograms
abbrev pub counted_checks : ℕ → Set → List ℕ → Bool → Bool → Bool → List Check
counted_checks L s hs ordered offered daysOffered =
    set_checks L s ++ ask 7 ordered ∷ ask 8 (values_ok s && offered) ∷ ask 19 (days_ok s && daysOffered) ∷ ask 9 (counts_ok L hs) ∷ []

-- the sizes that checks 2 to 4 let through: block length, used slots, slots
pub record Sized (L block used slots : ℕ) : Type 0 where
  pub block_least : 1 ≤ block
  pub block_most : block ≤ most_block_length
  pub used_least : 1 ≤ used
  pub used_fits : used ≤ slots
  pub used_most : used ≤ L * block
  pub slots_most : slots ≤ most_slots
