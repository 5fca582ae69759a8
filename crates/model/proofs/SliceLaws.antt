-- The slices move as one: the deliveries afterwards are the move of the deliveries. Assumes nothing.
use Prim.Native.Nat.{ℕ}
use mathlib.Core.Path.{◌≡◌, sym, ap, ◌∙◌}
use mathlib.Core.List.{List, map}
use Rattle.model.specs.declared.Delivery.{Delivery}
use Rattle.model.specs.Deliveries.{grower_of, weight_of, yield_of, day_of, Slices, rows, Even, slices_for, storing}
use Rattle.model.specs.Moves.{inserted, deleted, moved}
use Rattle.model.specs.Column.{Column, slots}
use Rattle.model.specs.ColumnCalls.{move_slices}
use Rattle.model.proofs.MovesMap.{map-inserted, map-deleted, map-moved}
use Rattle.model.proofs.Deliveries.{rows_for, slices_for_lem}

-- a move f of numbers and a move m of deliveries that commute with taking a number of each delivery
module _ (f : ℕ → List ℕ → List ℕ) (m : Delivery → List Delivery → List Delivery) (commute : (k : Delivery → ℕ) (d : Delivery) (l : List Delivery) → map k (m d l) ≡ f (k d) (map k l)) where
  storing_for : (d : Delivery) (l : List Delivery) → storing f d (slices_for l) ≡ slices_for (m d l)
  storing_for d l = rw (commute grower_of d l, commute weight_of d l, commute yield_of d l, commute day_of d l)

  rows_stored : (s : Slices) → Even s → (d : Delivery) → rows (storing f d s) ≡ m d (rows s)
  rows_stored s e d = ap (λ (t : Slices). rows (storing f d t)) (sym (slices_for_lem s e)) ∙ ap rows (storing_for d (rows s)) ∙ rows_for (m d (rows s))

module _ (c : Column) (e : Even c.slices) where
  pub slots-inserted : (ns : List ℕ) (t : ℕ) (d : Delivery) (ms : List ℕ) → slots (move_slices (inserted ns t) d ms c) ≡ inserted ns t d (slots c)
  unfolding move_slices
  slots-inserted ns t d ms = rows_stored (inserted ns t) (inserted ns t) (λ k x l. map-inserted k ns t x l) c.slices e d

  pub slots-deleted : (ns : List ℕ) (t i : ℕ) (d : Delivery) (ms : List ℕ) → slots (move_slices (deleted ns t i) d ms c) ≡ deleted ns t i d (slots c)
  unfolding move_slices
  slots-deleted ns t i d ms = rows_stored (deleted ns t i) (deleted ns t i) (λ k x l. map-deleted k ns t i x l) c.slices e d

  pub slots-moved : (ns : List ℕ) (t i u : ℕ) (d : Delivery) (ms : List ℕ) → slots (move_slices (moved ns t i u) d ms c) ≡ moved ns t i u d (slots c)
  unfolding move_slices
  slots-moved ns t i u d ms = rows_stored (moved ns t i u) (moved ns t i u) (λ k x l. map-moved k ns t i u x l) c.slices e d
