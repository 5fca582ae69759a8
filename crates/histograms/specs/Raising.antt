-- Slots of the histograms that are raised together.
use Rattle.std.specs.Prelude.{ℕ, ◌+◌, Bool, cond, List, [], ◌∷◌, map, get_or, set, ltb}
use Rattle.model.specs.Bounds.{most_count}
use Rattle.model.specs.Lists.{every}
use Rattle.model.specs.Histograms.{span_raises, slot}
use Rattle.model.specs.Recorder.{Recorded}

-- what a call answers, and the histograms it leaves
abbrev pub recorded : ℕ → List ℕ → Recorded
recorded n hs = record { refusal = n; histograms = hs }

-- the counts in these slots raised by one, one after the other
unfoldable pub raise_slots : List ℕ → List ℕ → List ℕ
raise_slots hs [] = hs
raise_slots hs (k ∷ ks) = raise_slots (set hs k (get_or hs k 0 + 1)) ks

-- check 10 of these slots
unfoldable pub room_at : List ℕ → List ℕ → Bool
room_at hs ks = every (λ (k : ℕ). ltb (get_or hs k 0) most_count) ks

-- raised if there is room in each; otherwise 10, and nothing is raised
unfoldable pub raised_at : List ℕ → List ℕ → Recorded
raised_at hs ks = cond (room_at hs ks) (recorded 0 (raise_slots hs ks)) (recorded 10 hs)

-- L is the block limit: the slots of a range over blocks a to b
abbrev pub span_slots : ℕ → ℕ → ℕ → List ℕ
span_slots L a b = map (slot L) (span_raises a b)
