-- Checks 8 and 19 of the records of slices.
use Rattle.std.specs.Prelude.{ℕ, Bool, ◌&&◌, List, eqb}
use Rattle.model.specs.Bounds.{most_weight, most_yield, most_day}
use Rattle.model.specs.Lists.{every}
use Rattle.slices.specs.Slices.{all_within}

-- every weight and every yield is in range
abbrev pub all_values_ok : List ℕ → List ℕ → Bool
all_values_ok ws ys = all_within most_weight ws && all_within most_yield ys

-- every day is in range
abbrev pub all_days_ok : List ℕ → Bool
all_days_ok ns = all_within most_day ns

-- every day is 0
abbrev pub all_undated : List ℕ → Bool
all_undated ns = every (λ (n : ℕ). eqb n 0) ns
