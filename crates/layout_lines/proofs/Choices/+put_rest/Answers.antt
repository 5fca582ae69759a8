-- `Choices::put_rest`: what is to be written is nothing, the lines past block i, the line of the last block, or the lines behind an end at i and then those past it.
use Rattle.std.proofs.Common.{◌+◌, ◌*◌, ◌<◌, ◌≤◌, length, sym, ◌∙◌, arith}
use Rattle.std.proofs.Math.Seq.{length-take-le}
use Rattle.layout_lines.proofs.RestLaws.{Place, stops, more_fit, is_short, no_end, last_end, passed_over, chosen_or_not, choosing_later, choosing_behind}
use Rattle.layout_lines.proofs.PutLaws.{none_put, passed_room, passed_put, last_room, last_put, here_room, past_room, both_put}
use Rattle.layout_lines.proofs.Choices.+put_rest.Goals as goal

pub returns-then-not-goes_on : goal.returns-then-not-goes_on
returns-then-not-goes_on t c =
    let a = c.args in
    let x : Place = record { fits = a.self.now.fits.now; longest = a.self.now.rules.longest; most = a.self.now.rules.most; n = a.self.now.rules.blocks; k = a.k; a = a.a; i = a.i } in
    none_put x _ _ _ _ _ (stops x (sym c.goes_on.ensures ∙ c.if-not-goes_on.true))

pub returns-then-i-self : goal.returns-then-i-self
returns-then-i-self t c =
    let a = c.args in
    let x : Place = record { fits = a.self.now.fits.now; longest = a.self.now.rules.longest; most = a.self.now.rules.most; n = a.self.now.rules.blocks; k = a.k; a = a.a; i = a.i } in
    let goes = sym c.goes_on.ensures ∙ c.if-not-goes_on.false in
    let short = is_short x goes in
    none_put x _ _ _ _ _ (no_end x short c.if-i-self.true c.if-not-self-i.true)

pub put_rest-requires : goal.put_rest-requires
put_rest-requires t c =
    let a = c.args in
    let x : Place = record { fits = a.self.now.fits.now; longest = a.self.now.rules.longest; most = a.self.now.rules.most; n = a.self.now.rules.blocks; k = a.k; a = a.a; i = a.i } in
    let goes = sym c.goes_on.ensures ∙ c.if-not-goes_on.false in
    let short = is_short x goes in
    let more : a.i + 1 < a.self.now.rules.blocks = omega (arith, c.requires.choosing.0.inside) in (
      omega arith,
      (c.requires.blocks, ((choosing_later c.requires.choosing.0 more, c.requires.choosing.1), passed_room x _ _ _ _ a.text.now (passed_over x short more c.if-not-self-i.true) c.requires.room)),
    )

pub returns-then-not-self-i : goal.returns-then-not-self-i
returns-then-not-self-i t c =
    let a = c.args in
    let x : Place = record { fits = a.self.now.fits.now; longest = a.self.now.rules.longest; most = a.self.now.rules.most; n = a.self.now.rules.blocks; k = a.k; a = a.a; i = a.i } in
    let goes = sym c.goes_on.ensures ∙ c.if-not-goes_on.false in
    let short = is_short x goes in
    let more : a.i + 1 < a.self.now.rules.blocks = omega (arith, c.requires.choosing.0.inside) in
    passed_put x _ _ _ _ _ (passed_over x short more c.if-not-self-i.true) c.put_rest.ensures

pub put_line-requires : goal.put_line-requires
put_line-requires t c =
    let a = c.args in
    let x : Place = record { fits = a.self.now.fits.now; longest = a.self.now.rules.longest; most = a.self.now.rules.most; n = a.self.now.rules.blocks; k = a.k; a = a.a; i = a.i } in
    let goes = sym c.goes_on.ensures ∙ c.if-not-goes_on.false in
    let short = is_short x goes in
    let rr : 11 * a.k + 11 ≤ length a.row.now = omega (arith, c.requires.choosing.1.room, a.self.now.few, c.requires.choosing.0.inside, c.requires.choosing.0.first, c.requires.choosing.0.count) in
    let front = length-take-le (11 * a.k) a.row.now (omega arith) in (
      omega (arith, a.self.now.few, c.requires.choosing.0.inside, c.requires.choosing.0.first, c.requires.choosing.0.count),
      c.choose-next.ensures.carrying,
      last_room x _ _ _ _ a.text.now c.choose-next.ensures rr (last_end x short c.if-i-self-2.true (more_fit x goes) c.if-not-self-i.false) front c.requires.room,
    )

pub returns-then-i-self-2 : goal.returns-then-i-self-2
returns-then-i-self-2 t c =
    let a = c.args in
    let x : Place = record { fits = a.self.now.fits.now; longest = a.self.now.rules.longest; most = a.self.now.rules.most; n = a.self.now.rules.blocks; k = a.k; a = a.a; i = a.i } in
    let goes = sym c.goes_on.ensures ∙ c.if-not-goes_on.false in
    let short = is_short x goes in
    let rr : 11 * a.k + 11 ≤ length a.row.now = omega (arith, c.requires.choosing.1.room, a.self.now.few, c.requires.choosing.0.inside, c.requires.choosing.0.first, c.requires.choosing.0.count) in
    last_put x _ _ _ _ _ c.choose-next.ensures rr (last_end x short c.if-i-self-2.true (more_fit x goes) c.if-not-self-i.false) c.put_line.ensures

pub put_rest-e-requires : goal.put_rest-e-requires
put_rest-e-requires t c =
    let a = c.args in
    let x : Place = record { fits = a.self.now.fits.now; longest = a.self.now.rules.longest; most = a.self.now.rules.most; n = a.self.now.rules.blocks; k = a.k; a = a.a; i = a.i } in
    let goes = sym c.goes_on.ensures ∙ c.if-not-goes_on.false in
    let short = is_short x goes in
    let rr : 11 * a.k + 11 ≤ length a.row.now = omega (arith, c.requires.choosing.1.room, a.self.now.few, c.requires.choosing.0.inside, c.requires.choosing.0.first, c.requires.choosing.0.count) in
    let more : a.i + 1 < a.self.now.rules.blocks = omega (arith, c.requires.choosing.0.inside) in (
      omega arith,
      (
        c.requires.blocks,
        (
          (choosing_behind c.requires.choosing.0 more, c.choose-next.ensures.carrying),
          here_room x _ _ _ _ a.text.now c.choose-next.ensures rr (chosen_or_not x short more c.if-not-self-i.false) c.requires.room,
        ),
      ),
    )

pub put_rest-requires-2 : goal.put_rest-requires-2
put_rest-requires-2 t c =
    let a = c.args in
    let x : Place = record { fits = a.self.now.fits.now; longest = a.self.now.rules.longest; most = a.self.now.rules.most; n = a.self.now.rules.blocks; k = a.k; a = a.a; i = a.i } in
    let goes = sym c.goes_on.ensures ∙ c.if-not-goes_on.false in
    let short = is_short x goes in
    let rr : 11 * a.k + 11 ≤ length a.row.now = omega (arith, c.requires.choosing.1.room, a.self.now.few, c.requires.choosing.0.inside, c.requires.choosing.0.first, c.requires.choosing.0.count) in
    let more : a.i + 1 < a.self.now.rules.blocks = omega (arith, c.requires.choosing.0.inside) in
    let same = c.put_rest-e.auto.row in
    let v = c.requires.choosing.1 in (
      omega arith,
      (
        c.requires.blocks,
        (
          (choosing_later c.requires.choosing.0 more, record { room = omega (arith, c.choose-next.ensures.carrying.room, same); high = v.high; low = v.low }),
          past_room x _ _ _ _ _ c.choose-next.ensures rr (chosen_or_not x short more c.if-not-self-i.false) c.requires.room c.put_rest-e.ensures,
        ),
      ),
    )

pub returns : goal.returns
returns t c =
    let a = c.args in
    let x : Place = record { fits = a.self.now.fits.now; longest = a.self.now.rules.longest; most = a.self.now.rules.most; n = a.self.now.rules.blocks; k = a.k; a = a.a; i = a.i } in
    let goes = sym c.goes_on.ensures ∙ c.if-not-goes_on.false in
    let short = is_short x goes in
    let rr : 11 * a.k + 11 ≤ length a.row.now = omega (arith, c.requires.choosing.1.room, a.self.now.few, c.requires.choosing.0.inside, c.requires.choosing.0.first, c.requires.choosing.0.count) in
    let more : a.i + 1 < a.self.now.rules.blocks = omega (arith, c.requires.choosing.0.inside) in
    both_put x _ _ _ _ _ c.choose-next.ensures rr (chosen_or_not x short more c.if-not-self-i.false) c.requires.room c.put_rest-e.ensures c.put_rest-2.ensures
