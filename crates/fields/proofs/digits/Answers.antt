-- A digit keeps the invariant, since no leading 0 stands there; another byte may not follow the columns passed in a field.
use Rattle.std.proofs.Common.{◌≡◌, ◌+◌, ◌-◌, ◌<◌, arith}
use Rattle.fields.proofs.Columns.{digits_start, low, high, digits_next, large, done, part_byte}
use Rattle.fields.proofs.digits.Goals as goal
use Rattle.fields.proofs.digits.Goals.{then-b-lt48-via-then-b-lt48, then-b-lt48-via-else-b-lt48+then-b-gt57}

pub loop-b-init : goal.loop-b-init
loop-b-init c = let z : c.args.first + 0 ≡ c.args.first = omega arith in rw z (digits_start c.requires.0 c.requires.1 c.requires.2)

pub returns-then-b-lt48 : goal.returns-then-b-lt48
returns-then-b-lt48 c =
    let g = c.args in
    let l = c.loop-b in
    let h : g.first + l.b-index < 11 = omega arith in
    let q = part_byte g.text.now (g.at + 11 - (g.at + g.first)) (g.at + g.first) l.b-index (g.at + (g.first + l.b-index)) (omega arith) (omega arith) in
    elim c.then-b-lt48.branch [
      | then-b-lt48-via-then-b-lt48 w ↦ low l.invariant h (omega (arith, q))
      | then-b-lt48-via-else-b-lt48+then-b-gt57 w ↦ high l.invariant h (omega (arith, q))
    ]

pub loop-b-preserved : goal.loop-b-preserved
loop-b-preserved c =
    let g = c.args in
    let l = c.loop-b in
    let h : g.first + l.b-index < 11 = omega arith in
    let q = part_byte g.text.now (g.at + 11 - (g.at + g.first)) (g.at + g.first) l.b-index (g.at + (g.first + l.b-index)) (omega arith) (omega arith) in
    let z : g.first + (l.b-index + 1) ≡ g.first + l.b-index + 1 = omega arith in
    rw z (digits_next l.invariant h (omega (arith, q)) (omega (arith, q)) (omega (arith, q)))

pub returns-then-v-gt-MOST : goal.returns-then-v-gt-MOST
returns-then-v-gt-MOST c = large c.loop-b.invariant (omega arith) c.if-v-gt-MOST.true

pub returns : goal.returns
returns c = done c.loop-b.invariant (omega arith) c.if-v-gt-MOST.false
