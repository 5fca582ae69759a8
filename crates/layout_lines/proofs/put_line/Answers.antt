-- K, the cost, the fields of the ends and LF, one behind the other, are the line.
use Rattle.std.proofs.Common.{arith, ℕ, ◌+◌, ◌*◌, ◌^◌, ◌≤◌, ◌≡◌, sym, ap, ◌∙◌, List, [], length, take}
use lib.Seq.{length-take-le}
use lib.IntN.{ℤ, sub_ℕ}
use Rattle.model.specs.Fields.{signed_field}
use Rattle.fields.specs.Writing.{placed}
use Rattle.layout_search.proofs.Bias.{held-cost}
use Rattle.layout_lines.proofs.LineLaws.{ends_room, byte_room, line_size, line_wrote}
use Rattle.layout_lines.proofs.put_line.Goals as goal
use Rattle.layout_lines.proofs.put_line.Goals.{Start, After-put_signed}

-- the fields of the ends
abbrev ends : Start → List ℕ
ends s = take (11 * s.args.k) s.args.row.now

ends-size : (s : Start) → length (ends s) ≡ 11 * s.args.k
ends-size s = length-take-le (11 * s.args.k) s.args.row.now (omega (arith, s.requires.0, s.requires.1.room))

room : (s : Start) → s.args.at + (32 + length (ends s)) ≤ length s.args.text.now
room s = omega (arith, ends-size s, s.requires.2)

-- the cost arrives as the number that its bits hold
cost_put : (c : After-put_signed) → c.put_signed.new.text ≡ placed (c.args.at + 11) (signed_field (sub_ℕ c.args.number (2 ^ 60))) c.put_number.new.text
cost_put c =
    c.put_signed.ensures
    ∙ ap (λ (y : ℤ). placed (c.args.at + 11) (signed_field y) c.put_number.new.text)
    (held-cost c.args.number (omega (arith, c.requires.0, c.requires.1.high)) _ c.unbiased.ensures)

pub put_bytes-e-requires : goal.put_bytes-e-requires
put_bytes-e-requires c =
    let g = goal.at.put_bytes-e-requires c in
    ends_room c.args.at c.args.k (sub_ℕ c.args.number (2 ^ 60)) (ends g.Start) c.args.text.now _ _ [] 0 c.put_number.ensures (cost_put g.After-put_signed) (room g.Start)

pub bounds-text-e : goal.bounds-text-e
bounds-text-e c =
    let g = goal.at.bounds-text-e c in
    byte_room c.args.at c.args.k (sub_ℕ c.args.number (2 ^ 60)) (ends g.Start) c.args.text.now _ _ _ _ c.put_number.ensures (cost_put g.After-put_signed) (room g.Start) c.put_bytes-e.ensures

pub returns : goal.returns
returns c =
    let g = goal.at.returns c in
    line_wrote c.args.at c.args.k (sub_ℕ c.args.number (2 ^ 60)) (ends g.Start) c.args.text.now _ _ _ _ c.put_number.ensures (cost_put g.After-put_signed) (room g.Start) c.put_bytes-e.ensures
