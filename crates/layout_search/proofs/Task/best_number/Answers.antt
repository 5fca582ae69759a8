-- `Task::best_number`: the least offer, with the products at the first block taken off again, is the row's number (`best_some`).
use Rattle.std.proofs.Common.{refl, arith}
use Rattle.layout_search.proofs.PriceLaws.{product_is}
use Rattle.layout_search.proofs.TailLaws.{all_small, best_some, best_not, back_fits}
use Rattle.layout_search.proofs.Task.best_number.Goals as goal

pub invariant_of-offers : goal.invariant_of-offers
invariant_of-offers c =
    let a = c.args in
    let s = a.self in
    record {
      small =
          rw (c.local_index-at.ensures, c.end_count.ensures)
          (all_small s.sums.places.now s.fits.now s.longest _ a.k a.a a.table.now a.tails.now s.sums.hold (omega arith) (omega arith) c.requires.prices c.requires.tails (omega arith));
    }

pub returns-then-low-ge-NONE : goal.returns-then-low-ge-NONE
returns-then-low-ge-NONE c =
    let a = c.args in
    let s = a.self in
    best_not s.sums.places.now s.fits.now s.longest _ a.k a.a a.table.now a.tails.now s.sums.hold (omega arith) (omega arith) c.requires.prices c.requires.tails _
    (rw (c.local_index-at.ensures, c.end_count.ensures) at c.least-low.ensures) c.if-low-ge-NONE.true

pub overflow_sub-result : goal.overflow_sub-result
overflow_sub-result c =
    let a = c.args in
    let s = a.self in
    let u = product_is _ _ _ _ _ c.times-added.ensures.value c.at.ensures.value refl in
    let d = product_is _ _ _ _ _ c.times-saved.ensures.value c.at-2.ensures.value refl in
    omega (
      arith,
      u,
      d,
      back_fits s.sums.places.now s.fits.now s.longest _ a.k a.a a.table.now a.tails.now s.sums.hold (omega arith) (omega arith) c.requires.prices c.requires.tails _
          (rw (c.local_index-at.ensures, c.end_count.ensures) at c.least-low.ensures) c.if-low-ge-NONE.false,
    )

pub overflow_sub-result-2 : goal.overflow_sub-result-2
overflow_sub-result-2 c =
    let a = c.args in
    let s = a.self in
    let u = product_is _ _ _ _ _ c.times-added.ensures.value c.at.ensures.value refl in
    let d = product_is _ _ _ _ _ c.times-saved.ensures.value c.at-2.ensures.value refl in
    omega (
      arith,
      u,
      d,
      back_fits s.sums.places.now s.fits.now s.longest _ a.k a.a a.table.now a.tails.now s.sums.hold (omega arith) (omega arith) c.requires.prices c.requires.tails _
          (rw (c.local_index-at.ensures, c.end_count.ensures) at c.least-low.ensures) c.if-low-ge-NONE.false,
    )

pub returns : goal.returns
returns c =
    let a = c.args in
    let s = a.self in
    let u = product_is _ _ _ _ _ c.times-added.ensures.value c.at.ensures.value refl in
    let d = product_is _ _ _ _ _ c.times-saved.ensures.value c.at-2.ensures.value refl in
    rw (u, d)
    (best_some s.sums.places.now s.fits.now s.longest _ a.k a.a a.table.now a.tails.now s.sums.hold (omega arith) (omega arith) c.requires.prices c.requires.tails _
    (rw (c.local_index-at.ensures, c.end_count.ensures) at c.least-low.ensures) c.if-low-ge-NONE.false)
