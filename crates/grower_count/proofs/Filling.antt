-- A batch that is filled: a slot that is new is added, and a slot that is not does not pass, has a grower less than lo, or one that an earlier slot that passes has. Assumes nothing.
use Prim.Native.Nat.{ℕ, zero, suc, ◌+◌, ◌-◌, ◌≤◌, ◌<◌}
use mathlib.Core.Path.{◌≡◌, refl, sym, ap, ◌∙◌, subst}
use mathlib.Core.Bool.{Bool, true, false, cond, not, ◌&&◌, ◌||◌}
use mathlib.Core.List.{List, [], ◌∷◌, ◌++◌, append-nil, append_assoc}
use native.Mathlib.Omega.{arith}
use native.Mathlib.Numerals.{add-one}
use borrow.Author.Tests.{ltb-true}
use lib.Dec.{T, leb, ltb, eqb, eqb→eq, eqb_refl}
use lib.ListN.{length, get_or, take, set, length-append, length-set}
use lib.Seq.{take-suc-set}
use Rattle.model.specs.Lists.{every, keep}
use Rattle.model.specs.Sheet.{each_once}
use Rattle.slot_order.specs.Passes.{slots_in, growers_at}
use Rattle.model.proofs.Tests.{and_fst, and_snd, or_fst, or_snd, of_true, is_true, no_such}
use Rattle.model.proofs.ListLaws.{keep_append}
use Rattle.model.proofs.OnceLaws.{member, member_append}
use Rattle.slot_order.proofs.Picking.{picked, picked_last}
use Rattle.grower_count.specs.Batches.{growers_before, is_new, FilledUp}
use Rattle.grower_count.proofs.Smallest.{kept_member, once_more, once_known}
use Rattle.grower_count.proofs.Slots.{slots-joined, slot_alone, growers_joined}

module _ (gs : List ℕ) (p : ℕ → Bool) (lo : ℕ) where
  -- One slot more.

  before_next : (i : ℕ) → growers_before gs p lo (i + 1) ≡ growers_before gs p lo i ++ keep (leb lo) (growers_at gs (cond (p i) (i ∷ []) []))
  before_next i =
      ap (λ (l : List ℕ). keep (leb lo) (growers_at gs l)) (picked_last p i)
      ∙ ap (keep (leb lo)) (growers_joined gs (picked p i) (cond (p i) (i ∷ []) []))
      ∙ keep_append (leb lo) (growers_at gs (picked p i)) (growers_at gs (cond (p i) (i ∷ []) []))

  -- what follows slots does not take a grower away
  still : (n : ℕ) (a b : List ℕ) → T (member n (growers_at gs a)) → T (member n (growers_at gs (a ++ b)))
  still n a b t =
      subst T (sym (ap (member n) (growers_joined gs a b) ∙ member_append n (growers_at gs a) (growers_at gs b))) (or_fst (member n (growers_at gs a)) (member n (growers_at gs b)) t)

  -- the grower of a slot that passes is there from the next slot on
  slot_there : (j d : ℕ) → p j ≡ true → T (member (get_or gs j 0) (growers_at gs (picked p (j + 1 + d))))
  unfolding member
  slot_there j zero e =
      let z : j + 1 + 0 ≡ j + 1 = omega arith in
      let x : ℕ = get_or gs j 0 in
      let a : picked p (j + 1 + 0) ≡ picked p j ++ j ∷ [] = ap (picked p) z ∙ picked_last p j ∙ ap (λ (b : Bool). picked p j ++ cond b (j ∷ []) []) e in
      subst T (sym (ap (λ (l : List ℕ). member x (growers_at gs l)) a ∙ ap (member x) (growers_joined gs (picked p j) (j ∷ [])) ∙ member_append x (growers_at gs (picked p j)) (x ∷ [])))
      (or_snd (member x (growers_at gs (picked p j))) (eqb x x || false) (or_fst (eqb x x) false (eqb_refl x)))
  slot_there j (suc d) e =
      let z : j + 1 + suc d ≡ j + 1 + d + 1 = omega arith in
      subst (λ (l : List ℕ). T (member (get_or gs j 0) (growers_at gs l))) (sym (ap (picked p) z ∙ picked_last p (j + 1 + d)))
      (still (get_or gs j 0) (picked p (j + 1 + d)) (cond (p (j + 1 + d)) ((j + 1 + d) ∷ []) []) (slot_there j d e))

  new_slot : (i j : ℕ) → is_new gs p lo i j ≡ true → growers_before gs p lo (i + 1) ≡ growers_before gs p lo i ++ growers_at gs (i ∷ [])
  unfolding keep
  new_slot i j e =
      let x : ℕ = get_or gs i 0 in
      let t = and_fst (p i && leb lo x) _ (of_true _ e) in
      before_next i
      ∙ ap (λ (b : Bool). growers_before gs p lo i ++ keep (leb lo) (growers_at gs (cond b (i ∷ []) []))) (is_true (p i) (and_fst (p i) (leb lo x) t))
      ∙ ap (λ (b : Bool). growers_before gs p lo i ++ cond b (x ∷ []) []) (is_true (leb lo x) (and_snd (p i) (leb lo x) t))

  old_slot : (i j : ℕ) → is_new gs p lo i j ≡ false → each_once (growers_before gs p lo i) ≡ each_once (growers_before gs p lo (i + 1))
  unfolding keep
  old_slot i j e = sym (ap each_once (before_next i) ∙ go (p i) (leb lo x) refl (ltb j i) refl (eqb (get_or gs j 0) x) refl (p j) refl e)
    where
      x : ℕ
      x = get_or gs i 0

      go : (r s : Bool) → leb lo x ≡ s → (t : Bool) → ltb j i ≡ t → (u : Bool) → eqb (get_or gs j 0) x ≡ u → (v : Bool) → p j ≡ v → (r && s && not (t && u && v)) ≡ false
          → each_once (growers_before gs p lo i ++ keep (leb lo) (growers_at gs (cond r (i ∷ []) []))) ≡ each_once (growers_before gs p lo i)
      go false s a t b u c v d k = ap each_once (append-nil (growers_before gs p lo i))
      go true false a t b u c v d k = ap (λ (w : Bool). each_once (growers_before gs p lo i ++ cond w (x ∷ []) [])) a ∙ ap each_once (append-nil (growers_before gs p lo i))
      go true true a false b u c v d k = absurd (no_such {b = true} tt k)
      go true true a true b false c v d k = absurd (no_such {b = true} tt k)
      go true true a true b true c false d k = absurd (no_such {b = true} tt k)
      go true true a true b true c true d k =
          let l : j < i = ltb-true j i b in
          let z : j + 1 + (i - (j + 1)) ≡ i = omega arith in
          let m : T (member (get_or gs j 0) (growers_at gs (picked p i))) = subst (λ (n : ℕ). T (member (get_or gs j 0) (growers_at gs (picked p n)))) z (slot_there j (i - (j + 1)) d) in
          ap (λ (w : Bool). each_once (growers_before gs p lo i ++ cond w (x ∷ []) [])) a
          ∙ once_known x (growers_before gs p lo i)
          (kept_member (leb lo) x (growers_at gs (picked p i)) a (subst (λ (n : ℕ). T (member n (growers_at gs (picked p i)))) (eqb→eq _ x (of_true _ c)) m))

  -- The batch.

  pub filling_start : (from : ℕ) (old : List ℕ) (held : ℕ) → from ≤ length gs → held ≤ length old → FilledUp gs p lo from old held old held from
  unfolding every
  filling_start from old held h k =
      record {
        added = [];
        front = sym (append-nil (take held old));
        many = omega arith;
        same_length = refl;
        room = k;
        inside = h;
        there = tt;
        covers = ap each_once (append-nil (growers_before gs p lo from));
      }

  module _ {from : ℕ} {old : List ℕ} {held : ℕ} {batch : List ℕ} {n i : ℕ} (f : FilledUp gs p lo from old held batch n i) (h : i < length gs) (k : n < length old) where
    -- more is what is added
    filling_on : (after : List ℕ) (m : ℕ) (more : List ℕ) → length after ≡ length batch → take m after ≡ take n batch ++ more → m ≡ n + length more → m ≤ length old → T (slots_in gs more)
        → each_once (growers_before gs p lo i ++ growers_at gs more) ≡ each_once (growers_before gs p lo (i + 1)) → FilledUp gs p lo from old held after m (i + 1)
    filling_on after m more long e z r t c =
        record {
          added = f.added ++ more;
          front = e ∙ ap (λ (l : List ℕ). l ++ more) f.front ∙ append_assoc (take held old) f.added more;
          many = omega (arith, z, f.many, length-append f.added more);
          same_length = long ∙ f.same_length;
          room = r;
          inside = omega arith;
          there = slots-joined gs f.added more f.there t;
          covers =
              ap (λ (l : List ℕ). each_once (growers_before gs p lo from ++ l)) (growers_joined gs f.added more)
              ∙ ap each_once (sym (append_assoc (growers_before gs p lo from) (growers_at gs f.added) (growers_at gs more)))
              ∙ once_more (growers_before gs p lo from ++ growers_at gs f.added) (growers_before gs p lo i) (growers_at gs more) f.covers
              ∙ c;
        }

    pub filling_new : {after : List ℕ} (j m : ℕ) → is_new gs p lo i j ≡ true → after ≡ set batch n i → m ≡ n + 1 → FilledUp gs p lo from old held after m (i + 1)
    filling_new {after} j m e a z =
        let fits : n < length batch = omega (arith, f.same_length) in
        filling_on after m (i ∷ []) (ap length a ∙ length-set batch n i) (rw (a, z, add-one, take-suc-set batch n i)) (omega (arith, z)) (omega (arith, z)) (slot_alone gs i h)
        (ap each_once (sym (new_slot i j e)))

    pub filling_old : {after : List ℕ} (j m : ℕ) → is_new gs p lo i j ≡ false → after ≡ batch → m ≡ n → FilledUp gs p lo from old held after m (i + 1)
    unfolding every
    filling_old {after} j m e a z =
        filling_on after m [] (ap length a) (rw (a, z) (sym (append-nil (take n batch)))) (omega (arith, z)) (omega (arith, z)) tt
        (ap each_once (append-nil (growers_before gs p lo i)) ∙ old_slot i j e)
