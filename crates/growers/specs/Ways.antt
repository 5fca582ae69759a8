-- The two ways of a search, in slots and partitions: upward to greater ones, downward to lesser.
use Rattle.std.specs.Prelude.{ℕ, ◌+◌, ◌-◌, ◌≤◌}
use Rattle.model.specs.Growers.{Direction, up, down}

-- the one upward, the other downward
abbrev pub either : {A : Type 0} → Direction → A → A → A
either up a b = a
either down a b = b

-- n steps on from a
abbrev pub onward : Direction → ℕ → ℕ → ℕ
onward up a n = a + n
onward down a n = a - n

-- n steps on from a do not leave 0 to m
abbrev pub Within : Direction → ℕ → ℕ → ℕ → Type 0
Within up m a n = a + n ≤ m
Within down m a n = (n ≤ a) × (a ≤ m)

-- of a and what is n steps on the lesser
abbrev pub lower : Direction → ℕ → ℕ → ℕ
lower up a n = a
lower down a n = a - n
