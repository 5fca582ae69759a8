-- `Choices::size_from`: what follows the chosen ends is nothing, the last block alone, what follows past block i, or that and what follows an end at i.
use Rattle.std.proofs.Common.{sym, ◌∙◌, arith}
use Rattle.layout_lines.proofs.RestLaws.{Place, later, behind, stops, more_fit, is_short, no_end, last_end, passed_over, chosen_or_not, choosing_later, choosing_behind}
use Rattle.layout_lines.proofs.SizeLaws.{few_sized, sized_none, sized_one, sized_as, sized_both}
use Rattle.layout_lines.proofs.Choices.+size_from.Goals as goal

pub returns-then-not-goes_on : goal.returns-then-not-goes_on
returns-then-not-goes_on t c =
    let a = c.args in
    let x : Place = record { fits = a.self.now.fits.now; longest = a.self.now.rules.longest; most = a.self.now.rules.most; n = a.self.now.rules.blocks; k = a.k; a = a.a; i = a.i } in
    sized_none c.default.ensures.0 c.default.ensures.1 (stops x (sym c.goes_on.ensures ∙ c.if-not-goes_on.true))

pub returns-then-i-self : goal.returns-then-i-self
returns-then-i-self t c =
    let a = c.args in
    let x : Place = record { fits = a.self.now.fits.now; longest = a.self.now.rules.longest; most = a.self.now.rules.most; n = a.self.now.rules.blocks; k = a.k; a = a.a; i = a.i } in
    let goes = sym c.goes_on.ensures ∙ c.if-not-goes_on.false in
    let short = is_short x goes in
    let d = c.default-then-i-self.ensures in
    sized_none d.0 d.1 (no_end x short c.if-i-self.true c.if-not-self-i.true)

pub returns-then-not-self-i : goal.returns-then-not-self-i
returns-then-not-self-i t c =
    let a = c.args in
    let x : Place = record { fits = a.self.now.fits.now; longest = a.self.now.rules.longest; most = a.self.now.rules.most; n = a.self.now.rules.blocks; k = a.k; a = a.a; i = a.i } in
    let goes = sym c.goes_on.ensures ∙ c.if-not-goes_on.false in
    let short = is_short x goes in
    sized_as c.size_from.ensures (passed_over x short (omega (arith, c.requires.inside)) c.if-not-self-i.true)

pub returns-then-i-self-2 : goal.returns-then-i-self-2
returns-then-i-self-2 t c =
    let a = c.args in
    let x : Place = record { fits = a.self.now.fits.now; longest = a.self.now.rules.longest; most = a.self.now.rules.most; n = a.self.now.rules.blocks; k = a.k; a = a.a; i = a.i } in
    let goes = sym c.goes_on.ensures ∙ c.if-not-goes_on.false in
    let short = is_short x goes in
    sized_one c.of_one.ensures.0 c.of_one.ensures.1 (last_end x short c.if-i-self-2.true (more_fit x goes) c.if-not-self-i.false)

pub overflow_add-result : goal.overflow_add-result
overflow_add-result t c =
    let a = c.args in
    let x : Place = record { fits = a.self.now.fits.now; longest = a.self.now.rules.longest; most = a.self.now.rules.most; n = a.self.now.rules.blocks; k = a.k; a = a.a; i = a.i } in
    let h = few_sized (behind x) a.self.now.few (choosing_behind c.requires (omega arith)) c.size_from-here.ensures in
    let l = few_sized (later x) a.self.now.few (choosing_later c.requires (omega arith)) c.size_from-later.ensures in
    omega (arith, h, l)

pub overflow_add-result-2 : goal.overflow_add-result-2
overflow_add-result-2 t c =
    let a = c.args in
    let x : Place = record { fits = a.self.now.fits.now; longest = a.self.now.rules.longest; most = a.self.now.rules.most; n = a.self.now.rules.blocks; k = a.k; a = a.a; i = a.i } in
    let h = few_sized (behind x) a.self.now.few (choosing_behind c.requires (omega arith)) c.size_from-here.ensures in
    let l = few_sized (later x) a.self.now.few (choosing_later c.requires (omega arith)) c.size_from-later.ensures in
    omega (arith, h, l)

pub returns : goal.returns
returns t c =
    let a = c.args in
    let x : Place = record { fits = a.self.now.fits.now; longest = a.self.now.rules.longest; most = a.self.now.rules.most; n = a.self.now.rules.blocks; k = a.k; a = a.a; i = a.i } in
    let goes = sym c.goes_on.ensures ∙ c.if-not-goes_on.false in
    let short = is_short x goes in
    sized_both x.i c.size_from-here.ensures c.size_from-later.ensures (chosen_or_not x short (omega (arith, c.requires.inside)) c.if-not-self-i.false)
