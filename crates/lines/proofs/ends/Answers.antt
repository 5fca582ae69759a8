-- The byte at the cursor, if there is one, decides.
use Rattle.std.proofs.Common.{◌≡◌, ℕ, ◌<◌, ◌≤◌, ◌∙◌, List, length, drop, eqb, Bor}
use Rattle.std.specs.Prelude.{Option, Some, None}
use Rattle.std.specs.Option.{MatchOption, option_eq}
use Rattle.std.specs.List.{HoldsAt}
use Rattle.model.specs.Lists.{is_some}
use Rattle.model.specs.Fields.{after_line_end}
use Rattle.lines.proofs.Reading.{ends_at, ends_past}
use Rattle.lines.proofs.ends.Goals as goal

ends_got : (t : List ℕ) (at : ℕ) (o : Option (Bor ℕ)) (p : ℕ × ℕ) → MatchOption o (length t ≤ at) (λ x. (at < length t) × HoldsAt (λ y. x.now ≡ y) t at)
    → option_eq (λ x y. eqb x.now y.now) o (Some (record { ref_ptr = p; now = 10 })) ≡ is_some (after_line_end (drop at t))
ends_got t at None p h = ends_past t at h
ends_got t at (Some x) p h = rw (h.1 0) (ends_at t at h.0)

pub returns : goal.returns
returns c = c.eq.ensures ∙ ends_got _ _ _ _ c.get.ensures.lookup.3
