-- `histograms::raise_two` meets its contract: where one of the two has no room nothing is raised; the second stands behind the first, which leaves it as
-- it was. Assumes nothing.
use Rattle.std.proofs.Common.{ℕ, List, ◌<◌, ap₂, [], ◌∷◌, ◌∙◌, length, arith}
use Rattle.histograms.specs.Raising.{raised_at}
use Rattle.histograms.proofs.Numbers.{number_below}
use Rattle.histograms.proofs.Slots.{room_none, room_no, room_yes, not_raised, all_raised, raise-on, raise_none, later_ready}
use Rattle.histograms.proofs.raise_two.Goals as goal

pub bounds-h-m : goal.bounds-h-m
bounds-h-m c = omega (arith, number_below c.args.k)

pub bounds-h-n : goal.bounds-h-n
bounds-h-n c = omega (arith, number_below c.args.k)

pub returns-then-h-m-ge-MOST_COUNT : goal.returns-then-h-m-ge-MOST_COUNT
returns-then-h-m-ge-MOST_COUNT c =
    not_raised _ _ (room_no _ _ _ c.if-h-m-ge-MOST_COUNT.true)
    ∙ ap₂ (λ (m n : ℕ). raised_at c.args.h.now (m ∷ n ∷ [])) c.slot-m.ensures c.slot-n.ensures

pub returns-then-h-n-ge-MOST_COUNT : goal.returns-then-h-n-ge-MOST_COUNT
returns-then-h-n-ge-MOST_COUNT c =
    not_raised _ _ (room_yes _ _ _ c.if-h-m-ge-MOST_COUNT.false ∙ room_no _ _ _ c.if-h-n-ge-MOST_COUNT.true)
    ∙ ap₂ (λ (m n : ℕ). raised_at c.args.h.now (m ∷ n ∷ [])) c.slot-m.ensures c.slot-n.ensures

pub raise-requires : goal.raise-requires
raise-requires c = (omega (arith, number_below c.args.k), c.if-h-m-ge-MOST_COUNT.false)

pub raise-requires-2 : goal.raise-requires-2
raise-requires-2 c =
    later_ready c.args.h.now _ _ _ c.raise.ensures (omega arith) (omega (arith, number_below c.args.k)) c.if-h-n-ge-MOST_COUNT.false

pub returns : goal.returns
returns c =
    all_raised _ _ _ (room_yes _ _ _ c.if-h-m-ge-MOST_COUNT.false ∙ room_yes _ _ _ c.if-h-n-ge-MOST_COUNT.false ∙ room_none _)
    (raise-on _ _ _ _ _ c.raise.ensures (raise-on _ _ _ _ _ c.raise-2.ensures (raise_none _)))
    ∙ ap₂ (λ (m n : ℕ). raised_at c.args.h.now (m ∷ n ∷ [])) c.slot-m.ensures c.slot-n.ensures
