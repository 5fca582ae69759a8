-- Each column of a field is a blank or a digit, so that its low four bits are what it adds.
use Rattle.std.proofs.Common.{ℕ, ap, ◌∙◌, ◌-◌, rules, ◌+◌, ◌%◌, arith}
use Rattle.fields.proofs.Columns.{part_byte}
use Rattle.fields.proofs.Spelling.{known, spell_start, spell_next, spell_end}
use Rattle.fields.proofs.spelled_at.Goals as goal

pub overflow_add-b-items : goal.overflow_add-b-items
overflow_add-b-items c = omega (arith, (known _ _ c.requires).fits)

pub slice_bounds-b-items-end : goal.slice_bounds-b-items-end
slice_bounds-b-items-end c = let h = (known _ _ c.requires).fits in search (rules, h)

pub loop-b-init : goal.loop-b-init
loop-b-init c = spell_start _ _ c.requires

pub loop-b-preserved : goal.loop-b-preserved
loop-b-preserved c =
    let l = c.loop-b in
    let g = c.args in
    let q = part_byte g.text.now (g.at + 11 - g.at) g.at l.b-index (g.at + l.b-index) (omega arith) (omega arith) in
    spell_next l.invariant (omega arith) _ (c.from.ensures ∙ ap (λ (b : ℕ). b % 16) q)

pub overflow_cast-result : goal.overflow_cast-result
overflow_cast-result c = let w = c.loop-b.invariant in omega (arith, spell_end w (omega arith), w.known.most)

pub returns : goal.returns
returns c = spell_end c.loop-b.invariant (omega arith)
