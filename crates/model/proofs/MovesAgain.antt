-- After a call the column is cut into the partitions that the call made of them, so that the next call begins where this one ended. Assumes nothing.
use Prim.Native.Nat.{ℕ, ◌+◌, ◌≤◌, ◌<◌}
use mathlib.Core.Path.{◌≡◌, refl, sym, ap, ◌∙◌}
use mathlib.Core.List.{List, [], ◌∷◌, ◌++◌, map, flatten, Permᴰ}
use native.Mathlib.Omega.{arith}
use lib.ListN.{length, drop, get_or, get_or-map, length-append, length-drop, length-set}
use Rattle.model.specs.Lists.{sum_of}
use Rattle.model.specs.Partitions.{parts, free}
use Rattle.model.specs.Partitions.{part}
use Rattle.model.specs.Moves.{insert_at, delete_at, move_at, inserted, deleted, moved}
use Rattle.model.specs.Laws.{CutAgain}
use Rattle.model.proofs.Parts.{parts_again, free_again, lengths_parts, length-parts}
use Rattle.model.specs.Partitions.{one_more, one_fewer}
use Rattle.model.proofs.MovesLengths.{sum-one_more, sum-one_fewer, insert_at_lengths, delete_at_lengths, move_at_lengths}
use Rattle.model.proofs.MovesBag.{insert_at-bag, delete_at-bag, move_at_bag}
use Rattle.model.proofs.MovesKeep.{Sound, insert_at-sound, delete_at-sound, move_at_sound}

module _ {A : Type 0} where
  holds : (ns : List ℕ) (ps : List (List A)) (f : List A) → map length ps ≡ ns → CutAgain ns (flatten ps ++ f) ps f
  holds ns ps f e = record { partitions = rw (sym e) (parts_again ps f); past = rw (sym e) (free_again ps f) }

  module _ (ns : List ℕ) (s : List A) (room : sum_of ns ≤ length s) where
    there : (t : ℕ) → t < length ns → t < length (parts ns s)
    there t h = rw length-parts h

    slot : (t i : ℕ) → i < get_or ns t 0 → i < length (part t (parts ns s))
    slot t i h = rw (sym (get_or-map length (parts ns s) t []), lengths_parts ns s room) h

    pub inserted_again : (t : ℕ) (x : A) → t < length ns → CutAgain (one_more t ns) (inserted ns t x s) (insert_at t x (parts ns s)) (drop 1 (free ns s))
    unfolding inserted
    inserted_again t x h = holds _ _ _ (insert_at_lengths t x (parts ns s) (there t h) ∙ ap (one_more t) (lengths_parts ns s room))

    pub deleted_again : (t i : ℕ) (z : A) → t < length ns → i < get_or ns t 0 → CutAgain (one_fewer t ns) (deleted ns t i z s) (delete_at t i (parts ns s)) (z ∷ free ns s)
    unfolding deleted
    deleted_again t i z h k = holds _ _ _ (delete_at_lengths t i (parts ns s) (there t h) (slot t i k) ∙ ap (one_fewer t) (lengths_parts ns s room))

    pub moved_again : (t i u : ℕ) (x : A) → t < length ns → u < length ns → i < get_or ns t 0
        → CutAgain (one_more u (one_fewer t ns)) (moved ns t i u x s) (move_at t i u x (parts ns s)) (free ns s)
    unfolding moved
    moved_again t i u x h k l = holds _ _ _ (move_at_lengths t i u x (parts ns s) (there t h) (there u k) (slot t i l) ∙ ap (λ (ms : List ℕ). one_more u (one_fewer t ms)) (lengths_parts ns s room))

  -- What the ledger's step asks of each call: the bag, soundness, and the room for the next call.
  flat_length : (ps : List (List A)) → length (flatten ps) ≡ sum_of (map length ps)
  unfolding flatten sum_of
  flat_length [] = refl
  flat_length (p ∷ ps) = rw (length-append, flat_length ps)

  -- a column of partitions of the lengths ms has as many slots as they hold, and the free ones
  slots : (ms : List ℕ) (ps : List (List A)) (f : List A) → map length ps ≡ ms → length (flatten ps ++ f) ≡ sum_of ms + length f
  slots ms ps f e = rw (length-append, flat_length, e)

  module _ (ns : List ℕ) (s : List A) (room : sum_of ns ≤ length s) where
    pub inserted-bag : (t : ℕ) (x : A) → t < length ns → Permᴰ (flatten (parts (one_more t ns) (inserted ns t x s))) (x ∷ flatten (parts ns s))
    inserted-bag t x h = rw (inserted_again ns s room t x h).partitions (insert_at-bag t x (parts ns s) (there ns s room t h))

    pub deleted-bag : (d : A) (t i : ℕ) (z : A) → t < length ns → i < get_or ns t 0
        → Permᴰ (get_or (part t (parts ns s)) i d ∷ flatten (parts (one_fewer t ns) (deleted ns t i z s))) (flatten (parts ns s))
    deleted-bag d t i z h k = rw (deleted_again ns s room t i z h k).partitions (delete_at-bag d t i (parts ns s) (there ns s room t h) (slot ns s room t i k))

    pub moved-bag : (d : A) (t i u : ℕ) (x : A) → t < length ns → u < length ns → i < get_or ns t 0
        → Permᴰ (get_or (part t (parts ns s)) i d ∷ flatten (parts (one_more u (one_fewer t ns)) (moved ns t i u x s))) (x ∷ flatten (parts ns s))
    moved-bag d t i u x h k l = rw (moved_again ns s room t i u x h k l).partitions (move_at_bag d t i u x (parts ns s) (there ns s room t h) (there ns s room u k) (slot ns s room t i l))

    pub inserted-sound : (P : ℕ → A → Type 0) (t : ℕ) (x : A) → t < length ns → P t x → Sound P 0 (parts ns s) → Sound P 0 (parts (one_more t ns) (inserted ns t x s))
    inserted-sound P t x h hx w = rw (inserted_again ns s room t x h).partitions (insert_at-sound P t x (parts ns s) (there ns s room t h) hx w)

    pub deleted-sound : (P : ℕ → A → Type 0) (t i : ℕ) (z : A) → t < length ns → i < get_or ns t 0 → Sound P 0 (parts ns s) → Sound P 0 (parts (one_fewer t ns) (deleted ns t i z s))
    deleted-sound P t i z h k w = rw (deleted_again ns s room t i z h k).partitions (delete_at-sound P t i (parts ns s) (there ns s room t h) w)

    pub moved-sound : (P : ℕ → A → Type 0) (t i u : ℕ) (x : A) → t < length ns → u < length ns → i < get_or ns t 0 → P u x → Sound P 0 (parts ns s)
        → Sound P 0 (parts (one_more u (one_fewer t ns)) (moved ns t i u x s))
    moved-sound P t i u x h k l hx w = rw (moved_again ns s room t i u x h k l).partitions (move_at_sound P t i u x (parts ns s) (there ns s room t h) (there ns s room u k) hx w)

  -- the number of slots stays
  module _ (ns : List ℕ) (s : List A) where
    pub length_inserted : (t : ℕ) (x : A) → t < length ns → sum_of ns < length s → length (inserted ns t x s) ≡ length s
    unfolding inserted free
    length_inserted t x h room =
        slots _ _ _ (insert_at_lengths t x (parts ns s) (there ns s (omega arith) t h) ∙ ap (one_more t) (lengths_parts ns s (omega arith)))
        ∙ simp (length-drop) (omega (arith, sum-one_more t ns h))

    pub length-deleted : (t i : ℕ) (z : A) → t < length ns → i < get_or ns t 0 → sum_of ns ≤ length s → length (deleted ns t i z s) ≡ length s
    unfolding deleted free
    length-deleted t i z h k room =
        slots _ _ _ (delete_at_lengths t i (parts ns s) (there ns s room t h) (slot ns s room t i k) ∙ ap (one_fewer t) (lengths_parts ns s room))
        ∙ simp (length-drop) (omega (arith, sum-one_fewer t ns h (omega arith)))

    pub length_moved : (t i u : ℕ) (x : A) → t < length ns → u < length ns → i < get_or ns t 0 → sum_of ns ≤ length s → length (moved ns t i u x s) ≡ length s
    unfolding moved free
    length_moved t i u x h k l room =
        slots _ _ _ (move_at_lengths t i u x (parts ns s) (there ns s room t h) (there ns s room u k) (slot ns s room t i l)
        ∙ ap (λ (ms : List ℕ). one_more u (one_fewer t ms)) (lengths_parts ns s room))
        ∙ simp (length-drop) (omega (arith, sum-one_more u (one_fewer t ns) (rw length-set k), sum-one_fewer t ns h (omega arith)))
