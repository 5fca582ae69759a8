-- `growers::joined`: the search stays where none of the growers is wanted (`passed_over`), and otherwise their first is joined to it (`first_joins`).
use Rattle.std.proofs.Common.{◌≤◌, ℕ, arith, sym, ap, ◌∙◌}
use Rattle.model.specs.Bounds.{most_slots, most_number}
use Rattle.model.specs.Growers.{Direction}
use Rattle.model.proofs.ListLaws.{keep_fewer}
use Rattle.model.proofs.MovesKeep.{All}
use Rattle.slices.proofs.Scans.{inside}
use Rattle.growers.specs.Searches.{nearest_as, count_in}
use Rattle.growers.proofs.Joining.{wanted_past, all_fit, passed_over, first_joins}
use Rattle.growers.proofs.joined.Goals.{then-so_far-nearest, else-so_far-nearest}
use Rattle.growers.proofs.joined.Goals as goal

pub none_from_to-requires : goal.none_from_to-requires
none_from_to-requires g c = rw c.last_wanted.ensures (wanted_past g.W.Way.direction c.args.grower (count_in c.args.so_far) (omega arith) c.requires.1.past)

pub returns-then-none_from_to : goal.returns-then-none_from_to
returns-then-none_from_to g c =
    let none = rw c.last_wanted.ensures at (sym c.none_from_to.ensures ∙ c.if-none_from_to.true) in
    let fits : All (λ (x : ℕ). x ≤ most_number) c.args.growers.now = all_fit _ (λ i. omega (arith, c.type_inv.growers i)) in
    ap nearest_as (sym (passed_over g.W.Way.direction c.args.grower c.args.growers.now fits (count_in c.args.so_far) none))

pub overflow_add-result : goal.overflow_add-result
overflow_add-result g c =
    let m = c.nearest_in-nearest.result in
    let few : c.count_equal-more.result ≤ most_slots = omega (arith, c.count_equal-more.ensures, keep_fewer (inside m m) c.args.growers.now, c.requires.0) in
    let so_few = c.requires.1.few in
    elim c.if-so_far-nearest.branch [ then-so_far-nearest w ↦ omega (arith, few) | else-so_far-nearest w ↦ omega (arith, few) ]

pub returns : goal.returns
returns g c =
    let w : Direction = g.W.Way.direction in
    let some = rw c.last_wanted.ensures at (sym c.none_from_to.ensures ∙ c.if-none_from_to.false) in
    let fits : All (λ (x : ℕ). x ≤ most_number) c.args.growers.now = all_fit _ (λ i. omega (arith, c.type_inv.growers i)) in
    first_joins w c.args.grower c.args.growers.now fits (count_in c.args.so_far) c.nearest_in-nearest.result c.count_equal-more.result (omega arith)
    c.nearest_in-nearest.ensures c.count_equal-more.ensures some c.if-so_far-nearest.before
    (λ q. elim c.if-so_far-nearest.branch [ then-so_far-nearest b ↦ b.before-is | else-so_far-nearest b ↦ absurd (b.if-so_far-nearest.false q) ])
    (λ o. elim c.if-so_far-nearest.branch [ then-so_far-nearest b ↦ absurd (o b.if-so_far-nearest.true) | else-so_far-nearest b ↦ b.before-is ])
