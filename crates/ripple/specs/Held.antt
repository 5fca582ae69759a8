-- The four slices that a write moves records in, at one moment.
use Rattle.std.specs.Prelude.{ℕ, ◌≡◌, List, set, get_or}
use Rattle.model.specs.Deliveries.{Slices, slices_of}
use Rattle.ripple.specs.declared.records.RecordsMut.{RecordsMut}

abbrev pub slices_held : RecordsMut → Slices
slices_held r = slices_of r.growers.now r.weights.now r.yields.now r.days.now

-- each still holds the slice that was lent
pub record Keeps (r s : RecordsMut) : Type 0 where
  pub growers : s.growers.ghost_name ≡ r.growers.ghost_name
  pub weights : s.weights.ghost_name ≡ r.weights.ghost_name
  pub yields : s.yields.ghost_name ≡ r.yields.ghost_name
  pub days : s.days.ghost_name ≡ r.days.ghost_name

-- slot p takes what slot q holds
abbrev pub carried : ℕ → ℕ → List ℕ → List ℕ
carried q p l = set l p (get_or l q 0)
