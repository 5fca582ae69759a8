-- What insert, delete and move leave of a valid column: a valid column, of the ledger's bag. Assumes nothing.
use Prim.Native.Nat.{ℕ, ◌<◌}
use mathlib.Core.Path.{◌≡◌, refl, sym, ◌∙◌, subst}
use mathlib.Core.List.{List, ◌∷◌, flatten, Permᴰ}
use native.Mathlib.Omega.{arith}
use lib.Dec.{T, ltb, eqb_refl, ltb→lt}
use lib.ListN.{length, get_or, length-set}
use Rattle.model.specs.declared.Delivery.{Delivery}
use Rattle.model.specs.Lists.{sum_of, every}
use Rattle.model.specs.Deliveries.{with_grower, among}
use Rattle.model.specs.Calls.{insert, delete, move}
use Rattle.model.specs.Partitions.{parts, part, one_more, one_fewer}
use Rattle.model.specs.Moves.{inserted, deleted, moved}
use Rattle.model.specs.Column.{Column, slots, in_place, sound_growers, lengths_of, fences_of, target, records_near, all_records, has_free_slot, has_delivery}
use Rattle.model.specs.ColumnCalls.{freed, slot_of, column_after}
use Rattle.model.specs.Ledger.{remove_one, change_one}
use Rattle.model.proofs.Tests.{and_snd, and_mk}
use Rattle.model.proofs.Deliveries.{nobody}
use Rattle.model.proofs.MovesKeep.{Sound}
use Rattle.model.proofs.MovesLengths.{sum-one_more, sum-one_fewer}
use Rattle.model.proofs.MovesAgain.{inserted-bag, deleted-bag, moved-bag, inserted-sound, deleted-sound, moved-sound, length_inserted, length-deleted, length_moved}
use Rattle.model.proofs.SoundLaws.{sound-every_at}
use Rattle.model.proofs.SliceLaws.{slots-inserted, slots-deleted, slots-moved}
use Rattle.theorems.proofs.Bags.{bag-every}
use Rattle.theorems.proofs.OneDelivery.{InSlot, in_slot, bag_without, bag_changed}
use Rattle.theorems.proofs.ValidColumn.{passes, Valid, even_slices, target_there, room, sound_growers_lem, near_is, length_part}
use Rattle.theorems.proofs.Refusals.{delivery_in_bag, free_in_bag}
use Rattle.theorems.proofs.Changes.{Follows, follows}

-- records of a bag that pass 8 and 19
same_values : {a b : List Delivery} → Permᴰ a b → T (every passes b) → T (every passes a)
same_values p t = subst T (sym (bag-every passes p)) t

one_more_lem : (d : Delivery) (b : List Delivery) → T (passes d) → T (every passes b) → T (every passes (d ∷ b))
unfolding every
one_more_lem d b h k = and_mk (passes d) (every passes b) h k

-- and without one of them
other_values : (d : Delivery) {a b : List Delivery} → Permᴰ (d ∷ a) b → T (every passes b) → T (every passes a)
unfolding every
other_values d {a} p t = and_snd (passes d) (every passes a) (same_values p t)

module _ (L : ℕ) (c : Column) (v : Valid L c) (bag : List Delivery) (p : Permᴰ (all_records L c) bag) where
  bag_values : T (every passes bag)
  bag_values = subst T (bag-every passes p) v.values

  again_sound : (ns gs : List ℕ) → Sound (λ (q g : ℕ). T (in_place (fences_of L c) q g)) 0 (parts ns gs) → T (sound_growers ns (fences_of L c) gs)
  unfolding sound_growers
  again_sound ns gs h = sound-every_at (in_place (fences_of L c)) 0 (parts ns gs) h

  pub after_insert : (d : Delivery) → T (passes d) → T (ltb (length bag) (length c.slices.growers)) → Follows L c (column_after L c (insert d)) (d ∷ bag)
  unfolding column_after has_free_slot
  after_insert d h free =
      let ns = lengths_of L c in
      let t = target L c d.grower in
      let there : t < length ns = target_there L c v d.grower in
      let less : sum_of ns < length c.slices.growers = ltb→lt _ _ (subst T (sym (free_in_bag L c v bag p)) free) in
      let q : Permᴰ (flatten (parts (one_more t ns) (slots (column_after L c (insert d))))) (d ∷ bag)
      = rw (slots-inserted c (even_slices L c v) ns t d (one_more t ns)) (Permᴰ.trans (inserted-bag ns (slots c) (room L c v) t d there) (Permᴰ.cons refl p)) in
      follows L c v (inserted ns t) d (one_more t ns)
      (λ x s e. length_inserted ns s t x there (omega arith) ∙ e)
      (length-set ns t _)
      (omega (arith, sum-one_more t ns there))
      (again_sound (one_more t ns) (inserted ns t d.grower c.slices.growers) (inserted-sound ns c.slices.growers v.shape.room _ t d.grower there (eqb_refl t) (sound_growers_lem L c v)))
      (same_values q (one_more_lem d bag h bag_values))
      (d ∷ bag) q

  module _ (d : Delivery) (held : T (among d bag)) where
    -- the slot that delete and move take holds d
    in_its_slot : InSlot d (records_near L c d.grower) nobody
    unfolding has_delivery
    in_its_slot = in_slot d (records_near L c d.grower) nobody (subst T (sym (delivery_in_bag L c v bag p d)) held)

    slot_there : slot_of L c d < get_or (lengths_of L c) (target L c d.grower) 0
    slot_there =
        let k = subst (λ (l : List Delivery). slot_of L c d < length l) (near_is L c v d.grower) in_its_slot.inside in
        omega (arith, length_part L c v (target L c d.grower))

    slot_holds : get_or (part (target L c d.grower) (parts (lengths_of L c) (slots c))) (slot_of L c d) nobody ≡ d
    slot_holds = subst (λ (l : List Delivery). get_or l (slot_of L c d) nobody ≡ d) (near_is L c v d.grower) in_its_slot.equal

    pub after_delete : Follows L c (column_after L c (delete d)) (remove_one d bag)
    unfolding column_after
    after_delete =
        let ns = lengths_of L c in
        let t = target L c d.grower in
        let i = slot_of L c d in
        let there : t < length ns = target_there L c v d.grower in
        let q : Permᴰ (d ∷ flatten (parts (one_fewer t ns) (slots (column_after L c (delete d))))) bag
        = rw (slots-deleted c (even_slices L c v) ns t i freed (one_fewer t ns)) (Permᴰ.trans (rw slot_holds at (deleted-bag ns (slots c) (room L c v) nobody t i freed there slot_there)) p) in
        follows L c v (deleted ns t i) freed (one_fewer t ns)
        (λ x s e. length-deleted ns s t i x there slot_there (omega (arith, v.shape.room)) ∙ e)
        (length-set ns t _)
        (omega (arith, sum-one_fewer t ns there (omega (arith, slot_there)), v.shape.room))
        (again_sound (one_fewer t ns) (deleted ns t i 0 c.slices.growers) (deleted-sound ns c.slices.growers v.shape.room _ t i 0 there slot_there (sound_growers_lem L c v)))
        (other_values d q bag_values)
        (remove_one d bag) (bag_without d q)

    pub after_move : (g : ℕ) → T (passes d) → Follows L c (column_after L c (move d g)) (change_one d g bag)
    unfolding column_after
    after_move g h =
        let ns = lengths_of L c in
        let t = target L c d.grower in
        let u = target L c g in
        let i = slot_of L c d in
        let x : Delivery = with_grower g d in
        let ms = one_more u (one_fewer t ns) in
        let there : t < length ns = target_there L c v d.grower in
        let new : u < length ns = target_there L c v g in
        let b = rw slot_holds at (moved-bag ns (slots c) (room L c v) nobody t i u x there new slot_there) in
        let q : Permᴰ (d ∷ flatten (parts ms (slots (column_after L c (move d g))))) (x ∷ bag)
        = rw (slots-moved c (even_slices L c v) ns t i u x ms) (Permᴰ.trans b (Permᴰ.cons refl p)) in
        follows L c v (moved ns t i u) x ms
        (λ y s e. length_moved ns s t i u y there new slot_there (omega (arith, v.shape.room)) ∙ e)
        (length-set (one_fewer t ns) u _ ∙ length-set ns t _)
        (omega (arith, sum-one_more u (one_fewer t ns) (rw length-set new), sum-one_fewer t ns there (omega (arith, slot_there)), v.shape.room))
        (again_sound ms (moved ns t i u g c.slices.growers) (moved-sound ns c.slices.growers v.shape.room _ t i u g there new slot_there (eqb_refl u) (sound_growers_lem L c v)))
        (other_values d q (one_more_lem x bag h bag_values))
        (change_one d g bag) (bag_changed d g held q)
