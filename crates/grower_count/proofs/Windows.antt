-- A window of growers: filling, sorting and cutting the batch keeps the smallest ones. Assumes nothing.
use Prim.Native.Nat.{ℕ, ◌≤◌, min}
use mathlib.Core.Path.{◌≡◌, refl, sym, ap, ◌∙◌, subst}
use mathlib.Core.Bool.{Bool}
use mathlib.Core.List.{List, ◌++◌}
use native.Mathlib.Omega.{arith}
use native.Mathlib.Decide.{dec_le}
use lib.Dec.{T, ltb}
use lib.ListN.{length, get_or, take, length-map}
use lib.Seq.{take_all, take-take, take-append-le, length-take-le}
use Rattle.model.specs.Lists.{up_from, every, keep, never_falls}
use Rattle.model.specs.Sheet.{each_once, by_grower}
use Rattle.slot_order.specs.Passes.{slots_in, growers_at}
use Rattle.model.proofs.ListLaws.{map-take, every_front}
use Rattle.slot_order.proofs.Groups.{by_grower_length, by_grower_in, by_grower_falls_not, by_grower_growers}
use Rattle.grower_count.specs.Batches.{most_at_once, growers_before, FilledUp, Cut, Smallest, Window}
use Rattle.grower_count.proofs.Smallest.{front_joined}
use Rattle.grower_count.proofs.Slots.{slots-joined, growers_joined}

take_min : (m r : ℕ) (l : List ℕ) → length l ≡ r → take (min r m) l ≡ take m l
take_min m r l h = go (dec_le r m)
  where
    go : Dec (r ≤ m) → take (min r m) l ≡ take m l
    go (yes k) = take_all (min r m) l (omega (arith, h)) ∙ sym (take_all m l (omega (arith, h)))
    go (no k) = let e : min r m ≡ m = omega arith in ap (λ (n : ℕ). take n l) e

-- a batch that is sorted can be cut
pub sorted_ready : (gs old : List ℕ) {sorted : List ℕ} → sorted ≡ by_grower gs old → T (slots_in gs old) → T (slots_in gs sorted) × T (never_falls (growers_at gs sorted))
sorted_ready gs old e t =
    subst (λ (l : List ℕ). T (slots_in gs l) × T (never_falls (growers_at gs l))) (sym e) (by_grower_in gs old t, by_grower_falls_not gs old)

-- a batch that is sorted and cut, of which the front is kept
pub smallest_cut : {gs old sorted batch : List ℕ} {r m : ℕ} → sorted ≡ by_grower gs old → Cut gs sorted batch r → m ≡ min r most_at_once → Smallest gs old batch m
smallest_cut {gs} {old} {sorted} {batch} {r} {m} s c z =
    let h : length sorted ≡ length old = ap length s ∙ by_grower_length gs old in
    let e : each_once (growers_at gs sorted) ≡ each_once (growers_at gs old) = ap (λ (l : List ℕ). each_once (growers_at gs l)) s ∙ by_grower_growers gs old in
    record {
      same_length = c.same_length ∙ h;
      room = omega (arith, z, h, c.room);
      few = omega (arith, z);
      there = subst (λ (l : List ℕ). T (slots_in gs l)) front (every_front (λ (i : ℕ). ltb i (length gs)) m (take r batch) c.there);
      growers =
          ap (growers_at gs) (sym front) ∙ map-take (λ (i : ℕ). get_or gs i 0) m (take r batch) ∙ ap (take m) c.growers
          ∙ ap (λ (k : ℕ). take k (each_once (growers_at gs sorted))) z ∙ take_min most_at_once r (each_once (growers_at gs sorted)) many ∙ ap (take most_at_once) e;
    }
  where
    front : take m (take r batch) ≡ take m batch
    front = take-take m r batch (omega (arith, z))

    many : length (each_once (growers_at gs sorted)) ≡ r
    many = sym (ap length c.growers) ∙ length-map (take r batch) (λ (i : ℕ). get_or gs i 0) ∙ length-take-le r batch (omega (arith, c.room, c.same_length))

module _ {gs : List ℕ} {p : ℕ → Bool} {lo : ℕ} where
  pub window_start : (batch : List ℕ) → Window gs p lo 0 batch 0
  unfolding every keep up_from each_once
  window_start batch = record { few = omega arith; there = tt; growers = refl }

  module _ {i : ℕ} {old : List ℕ} {n : ℕ} {filled : List ℕ} {k next : ℕ} (w : Window gs p lo i old n) (f : FilledUp gs p lo i old n filled k next) where
    pub filled_there : T (slots_in gs (take k filled))
    filled_there = subst (λ (l : List ℕ). T (slots_in gs l)) (sym f.front) (slots-joined gs (take n old) f.added w.there f.there)

    pub window_next : {batch : List ℕ} {m : ℕ} (rest : List ℕ) → Smallest gs (take k filled) batch m → Window gs p lo next (batch ++ rest) m
    window_next {batch} {m} rest s =
        record {
          few = s.few;
          there = subst (λ (l : List ℕ). T (slots_in gs l)) (sym front) s.there;
          growers =
              ap (growers_at gs) front ∙ s.growers ∙ ap (λ (l : List ℕ). take most_at_once (each_once l)) held
              ∙ front_joined most_at_once (growers_before gs p lo i) (growers_at gs f.added) ∙ ap (take most_at_once) f.covers;
        }
      where
        front : take m (batch ++ rest) ≡ take m batch
        front = take-append-le m batch rest (omega (arith, s.room, s.same_length))

        held : growers_at gs (take k filled) ≡ take most_at_once (each_once (growers_before gs p lo i)) ++ growers_at gs f.added
        held = ap (growers_at gs) f.front ∙ growers_joined gs (take n old) f.added ∙ ap (λ (l : List ℕ). l ++ growers_at gs f.added) w.growers

  pub window_all : {i : ℕ} {batch : List ℕ} {n : ℕ} → Window gs p lo i batch n → i ≡ length gs → Window gs p lo (length gs) batch n
  window_all {batch = batch} {n} w e = subst (λ (i : ℕ). Window gs p lo i batch n) e w
