-- What the search answers.
use Rattle.std.specs.Prelude.{ℕ, ◌≤◌, ◌<◌, ◌≡◌, List, ◌++◌, length, drop, ℤ, pos}
use Rattle.std.proofs.Math.IntN.{sub_ℕ}
use Rattle.model.specs.declared.Planned.{Planned}
use Rattle.layout_search.specs.Task.{Task, adds, takes, Allowed, Least}

abbrev pub answer : ℕ → ℕ → ℤ → Planned
answer n k z = record { refusal = n; count = k; cost = z }

-- 11 where nothing is allowed; 15 where the least layout has more ends than there is room for; else its count and cost, and its ends in front.
-- A refusal writes nothing, and what lies past the ends stays.
pub data Answered (t : Task) (most : ℕ) (old new : List ℕ) (r : Planned) : Type 0 where
  nothing : ((es : List ℕ) → Allowed t most es → ⊥) → r ≡ answer 11 0 (pos 0) → new ≡ old → Answered t most old new r
  tight : (es : List ℕ) → Allowed t most es → ((ds : List ℕ) → Least t most ds → length old < length ds) → r ≡ answer 15 0 (pos 0) → new ≡ old → Answered t most old new r
  found : (es : List ℕ) → Least t most es → length es ≤ length old → r ≡ answer 0 (length es) (sub_ℕ (adds t 0 es) (takes t 0 es)) → new ≡ es ++ drop (length es) old → Answered t most old new r
