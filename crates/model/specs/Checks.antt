-- Checks (01: questions): a number and its answer, and the refusal number that a list of them gives.
use Rattle.std.specs.Prelude.{ℕ, Bool, cond, List, [], ◌∷◌}

pub record Check : Type 0 where
  pub number : ℕ
  pub holds : Bool

abbrev pub ask : ℕ → Bool → Check
ask n b = record { number = n; holds = b }

-- "an accepted call gives 0. The first 'no' is returned as its number"
unfoldable pub first_failed : List Check → ℕ
first_failed [] = 0
first_failed (c ∷ cs) = cond c.holds (first_failed cs) c.number
