-- `histograms::raise_span` meets its contract: where one of the counts has no room nothing is raised; the ends stand ahead of those between, whose room
-- they leave as it was (`Span`). Assumes nothing.
use Rattle.std.proofs.Common.{◌∙◌, arith}
use Rattle.model.specs.Bounds.{block_limit}
use Rattle.histograms.proofs.Slots.{room_no, room_yes, not_raised, all_raised, later_ready, the_span, span_inside, span-part, span_room, span_ready, span_raised}
use Rattle.histograms.proofs.raise_span.Goals as goal

pub returns-then-h-j-ge-MOST_COUNT : goal.returns-then-h-j-ge-MOST_COUNT
returns-then-h-j-ge-MOST_COUNT c =
    let w = the_span block_limit c.requires.0 c.requires.1 c.requires.2 c.slot-j.ensures c.slot-k.ensures c.slot-f.ensures c.slot-t.ensures in
    not_raised _ _ (span_room block_limit w ∙ room_no _ _ _ c.if-h-j-ge-MOST_COUNT.true)

pub returns-then-h-k-ge-MOST_COUNT : goal.returns-then-h-k-ge-MOST_COUNT
returns-then-h-k-ge-MOST_COUNT c =
    let w = the_span block_limit c.requires.0 c.requires.1 c.requires.2 c.slot-j.ensures c.slot-k.ensures c.slot-f.ensures c.slot-t.ensures in
    not_raised _ _ (span_room block_limit w ∙ room_yes _ _ _ c.if-h-j-ge-MOST_COUNT.false ∙ room_no _ _ _ c.if-h-k-ge-MOST_COUNT.true)

pub returns-then-not-within : goal.returns-then-not-within
returns-then-not-within c =
    let w = the_span block_limit c.requires.0 c.requires.1 c.requires.2 c.slot-j.ensures c.slot-k.ensures c.slot-f.ensures c.slot-t.ensures in
    not_raised _ _
    (span_room block_limit w
    ∙ room_yes _ _ _ c.if-h-j-ge-MOST_COUNT.false
    ∙ room_yes _ _ _ c.if-h-k-ge-MOST_COUNT.false
    ∙ span-part block_limit w _ _ c.within.ensures c.if-not-within.true)

pub raise-requires-2 : goal.raise-requires-2
raise-requires-2 c =
    later_ready c.args.h.now _ _ _ c.raise.ensures (omega arith) (omega arith) c.if-h-k-ge-MOST_COUNT.false

pub raise_each-requires : goal.raise_each-requires
raise_each-requires c =
    let w = the_span block_limit c.requires.0 c.requires.1 c.requires.2 c.slot-j.ensures c.slot-k.ensures c.slot-f.ensures c.slot-t.ensures in
    span_ready block_limit w c.raise.ensures c.raise-2.ensures (span-part block_limit w _ _ c.within.ensures c.if-not-within.false)

pub returns : goal.returns
returns c =
    let w = the_span block_limit c.requires.0 c.requires.1 c.requires.2 c.slot-j.ensures c.slot-k.ensures c.slot-f.ensures c.slot-t.ensures in
    all_raised _ _ _
    (span_room block_limit w
    ∙ room_yes _ _ _ c.if-h-j-ge-MOST_COUNT.false
    ∙ room_yes _ _ _ c.if-h-k-ge-MOST_COUNT.false
    ∙ span-part block_limit w _ _ c.within.ensures c.if-not-within.false)
    (span_raised block_limit w c.raise.ensures c.raise-2.ensures _ c.raise_each.ensures)
