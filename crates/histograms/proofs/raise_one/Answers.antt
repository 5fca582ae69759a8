-- `histograms::raise_one` meets its contract: there is room, and the count is raised, or there is none. Assumes nothing.
use Rattle.std.proofs.Common.{ℕ, ◌<◌, ap, [], ◌∷◌, ◌∙◌, length, arith}
use Rattle.histograms.specs.Raising.{raised_at}
use Rattle.histograms.proofs.Numbers.{number_below}
use Rattle.histograms.proofs.Slots.{room_none, room_no, room_yes, not_raised, all_raised, raise-on, raise_none}
use Rattle.histograms.proofs.raise_one.Goals as goal

pub bounds-h-i : goal.bounds-h-i
bounds-h-i c = omega (arith, number_below c.args.j)

pub raise-requires : goal.raise-requires
raise-requires c = (omega (arith, number_below c.args.j), c.if-h-i-lt-MOST_COUNT.true)

pub returns-then-h-i-lt-MOST_COUNT : goal.returns-then-h-i-lt-MOST_COUNT
returns-then-h-i-lt-MOST_COUNT c =
    all_raised _ _ _ (room_yes _ _ _ c.if-h-i-lt-MOST_COUNT.true ∙ room_none _) (raise-on _ _ _ _ _ c.raise.ensures (raise_none _))
    ∙ ap (λ (k : ℕ). raised_at c.args.h.now (k ∷ [])) c.slot-i.ensures

pub returns : goal.returns
returns c = not_raised _ _ (room_no _ _ _ c.if-h-i-lt-MOST_COUNT.false) ∙ ap (λ (k : ℕ). raised_at c.args.h.now (k ∷ [])) c.slot-i.ensures
