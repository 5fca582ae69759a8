-- Tests of all numbers of a slice and of one record.
use Rattle.std.specs.Prelude.{ℕ, ◌≤◌, Bool, true, cond, ◌&&◌, List, [], ◌∷◌, length, get_or, T, leb, eqb}
use Rattle.model.specs.declared.Delivery.{Delivery}
use Rattle.model.specs.Bounds.{most_weight, most_yield, most_slots}
use Rattle.model.specs.Lists.{every, keep}
use Rattle.model.specs.Calendar.{Span, is_in}
use Rattle.model.specs.Deliveries.{Slices, Even, delivery}

-- none is above m
abbrev pub all_within : ℕ → List ℕ → Bool
all_within m s = every (λ (n : ℕ). leb n m) s

-- all are 0
abbrev pub all_zero : List ℕ → Bool
all_zero s = every (eqb 0) s

-- each number and the one after it pass a test
unfoldable pub chain : (ℕ → ℕ → Bool) → List ℕ → Bool
chain r [] = true
chain r (a ∷ []) = true
chain r (a ∷ b ∷ l) = r a b && chain r (b ∷ l)

-- record i of the slices
abbrev pub record_at : Slices → ℕ → Delivery
record_at s i = delivery (get_or s.growers i 0) (get_or s.weights i 0) (get_or s.yields i 0) (get_or s.days i 0)

-- how many are lo to hi
abbrev pub count_between : ℕ → ℕ → List ℕ → ℕ
count_between lo hi s = length (keep (λ (n : ℕ). leb lo n && leb n hi) s)

-- the weights of records whose days lie in a span, and 0 for each other
unfoldable pub kept_weights : Span → List ℕ → List ℕ → List ℕ
kept_weights p [] ns = []
kept_weights p (w ∷ ws) [] = []
kept_weights p (w ∷ ws) (n ∷ ns) = cond (is_in p n) w 0 ∷ kept_weights p ws ns

-- slices of one length, every weight and yield in range
pub record Measured (s : Slices) : Type 0 where
  pub few : length s.growers ≤ most_slots
  pub even : Even s
  pub good_weights : T (all_within most_weight s.weights)
  pub good_yields : T (all_within most_yield s.yields)
