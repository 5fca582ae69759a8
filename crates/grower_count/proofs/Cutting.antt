-- A sorted batch that is cut: the growers of the slots kept are those of the slots read, each once. A slot whose grower is that of the slot read before
-- it adds none, and another's grower is greater than all before it. Assumes nothing.
use Prim.Native.Nat.{ℕ, ◌+◌, ◌-◌, ◌≤◌, ◌<◌}
use mathlib.Core.Path.{◌≡◌, refl, sym, ap, ap₂, ◌∙◌, subst}
use mathlib.Core.List.{List, [], ◌∷◌, ◌++◌}
use native.Mathlib.Omega.{arith}
use native.Mathlib.Numerals.{add-one}
use lib.Dec.{T, ltb, ltb→lt}
use lib.ListN.{length, get_or, take, drop, set, length-set, length-map, length-take}
use lib.Seq.{take_all, drop-drop, drop-set-lt, take-set-le, take-suc-set, get_or-drop, get_or-take}
use Rattle.model.specs.Lists.{every, never_falls}
use Rattle.model.specs.Sheet.{placed_once, each_once}
use Rattle.slot_order.specs.Passes.{slots_in, growers_at}
use Rattle.model.proofs.ListLaws.{map-take, at_map, sorted, every-at, every_front}
use Rattle.model.proofs.OnceLaws.{member}
use Rattle.grower_count.specs.Batches.{Cut}
use Rattle.grower_count.proofs.Smallest.{member_front, all_by, once_known, once_last}
use Rattle.grower_count.proofs.Slots.{slots-joined, slot_alone, growers_joined, growers_next}

-- i slots were read, the last of grower last, and n kept
pub record Cutting (gs old batch : List ℕ) (last n i : ℕ) : Type 0 where
  pub same_length : length batch ≡ length old
  pub some : 1 ≤ i
  pub kept : n ≤ i
  pub inside : i ≤ length old
  pub rest : drop i batch ≡ drop i old
  pub there : T (slots_in gs (take n batch))
  pub growers : growers_at gs (take n batch) ≡ each_once (growers_at gs (take i old))
  pub the_last : last ≡ get_or (growers_at gs old) (i - 1) 0

module _ (gs : List ℕ) where
  pub cut_none : (old : List ℕ) → length old ≡ 0 → Cut gs old old 0
  unfolding every each_once
  cut_none [] h = record { same_length = refl; room = omega arith; there = tt; growers = refl }
  cut_none (s ∷ old) h = absurd (omega arith)

  pub cutting_start : (old : List ℕ) → 0 < length old → T (slots_in gs old) → Cutting gs old old (get_or gs (get_or old 0 0) 0) 1 1
  unfolding each_once placed_once
  cutting_start [] h t = absurd (omega arith)
  cutting_start (s ∷ old) h t =
      record {
        same_length = refl;
        some = omega arith;
        kept = omega arith;
        inside = omega arith;
        rest = refl;
        there = every_front (λ (i : ℕ). ltb i (length gs)) 1 (s ∷ old) t;
        growers = refl;
        the_last = refl;
      }

  pub slot_inside : (is : List ℕ) (i : ℕ) → T (slots_in gs is) → i < length is → get_or is i 0 < length gs
  slot_inside is i t h = ltb→lt _ _ (every-at (λ (k : ℕ). ltb k (length gs)) is i t h)

  module _ {old batch : List ℕ} {last n i : ℕ} (c : Cutting gs old batch last n i) (more : i < length batch) where
    -- the slot that is read has not been written
    unread : get_or batch i 0 ≡ get_or old i 0
    unread =
        let z : i ≡ i + 0 = omega arith in
        ap (λ (k : ℕ). get_or batch k 0) z ∙ sym (get_or-drop i batch 0 0) ∙ ap (λ (l : List ℕ). get_or l 0 0) c.rest ∙ get_or-drop i old 0 0 ∙ ap (λ (k : ℕ). get_or old k 0) (sym z)

    pub slot_read : T (slots_in gs old) → get_or batch i 0 < length gs
    slot_read t = subst (λ (s : ℕ). s < length gs) (sym unread) (slot_inside old i t (omega (arith, c.same_length)))

    abbrev s : ℕ
    s = get_or batch i 0

    abbrev l : List ℕ
    l = growers_at gs old

    within : i < length old
    within = omega (arith, c.same_length)

    -- the growers of the slots read, and the next one
    front : growers_at gs (take i old) ≡ take i l
    front = map-take (λ (k : ℕ). get_or gs k 0) i old

    next : get_or gs s 0 ≡ get_or l i 0
    next = ap (λ (k : ℕ). get_or gs k 0) unread ∙ sym (at_map (λ (k : ℕ). get_or gs k 0) old i within)

    cutting_on : (m : ℕ) → m ≤ i + 1 → T (slots_in gs (take m (set batch n s))) → growers_at gs (take m (set batch n s)) ≡ each_once (take i l ++ get_or l i 0 ∷ [])
        → Cutting gs old (set batch n s) (get_or gs s 0) m (i + 1)
    cutting_on m k t e =
        let z : i + 1 - 1 ≡ i = omega arith in
        record {
          same_length = length-set batch n s ∙ c.same_length;
          some = omega arith;
          kept = k;
          inside = omega (arith, within);
          rest = drop-set-lt (i + 1) batch n s (omega (arith, c.kept)) ∙ sym (drop-drop 1 i batch) ∙ ap (drop 1) c.rest ∙ drop-drop 1 i old;
          there = t;
          growers = e ∙ ap each_once (sym (growers_next gs old i within ∙ ap₂ (λ (a : List ℕ) (x : ℕ). a ++ x ∷ []) front (sym (at_map (λ (k : ℕ). get_or gs k 0) old i within))));
          the_last = next ∙ ap (λ (k : ℕ). get_or l k 0) (sym z);
        }

    pub cutting_new : (m : ℕ) → T (slots_in gs old) → T (never_falls l) → (get_or gs s 0 ≡ last → ⊥) → m ≡ n + 1 → Cutting gs old (set batch n s) (get_or gs s 0) m (i + 1)
    cutting_new m t up o z =
        let room : n < length batch = omega (arith, c.kept, more) in
        let e : take m (set batch n s) ≡ take n batch ++ s ∷ [] = rw (z, add-one, take-suc-set batch n s) in
        cutting_on m (omega (arith, z, c.kept))
        (subst (λ (k : List ℕ). T (slots_in gs k)) (sym e) (slots-joined gs (take n batch) (s ∷ []) c.there (slot_alone gs s (slot_read t))))
        (ap (growers_at gs) e ∙ growers_joined gs (take n batch) (s ∷ [])
        ∙ ap₂ (λ (a : List ℕ) (x : ℕ). a ++ x ∷ []) (c.growers ∙ ap each_once front) next
        ∙ sym (once_last (get_or l i 0) (take i l) (all_by (λ (m : ℕ). m < get_or l i 0) (take i l) less)))
      where
        less : (p : ℕ) → p < length (take i l) → get_or (take i l) p 0 < get_or l i 0
        less p h =
            let q : p < i = omega (arith, h, length-take i l) in
            let r : i < length l = omega (arith, within, length-map old (λ (k : ℕ). get_or gs k 0)) in
            let a : get_or l p 0 ≤ get_or l (i - 1) 0 = sorted l p (i - 1) up (omega arith) (omega arith) in
            let b : get_or l (i - 1) 0 ≤ get_or l i 0 = sorted l (i - 1) i up (omega arith) r in
            omega (arith, get_or-take i l p 0 q, a, b, c.the_last, next, o)

    pub cutting_old : (m : ℕ) → get_or gs s 0 ≡ last → m ≡ n → Cutting gs old (set batch n s) (get_or gs s 0) m (i + 1)
    cutting_old m o z =
        let e : take m (set batch n s) ≡ take n batch = rw z (take-set-le n batch n s (omega arith)) in
        let r : i < length l = omega (arith, within, length-map old (λ (k : ℕ). get_or gs k 0)) in
        let b : T (member (get_or l (i - 1) 0) (take i l)) = member_front l (i - 1) i (omega (arith, c.some)) (omega (arith, r)) in
        let k : T (member (get_or l i 0) (take i l)) = subst (λ (x : ℕ). T (member x (take i l))) (sym c.the_last ∙ sym o ∙ next) b in
        cutting_on m (omega (arith, z, c.kept)) (subst (λ (k : List ℕ). T (slots_in gs k)) (sym e) c.there)
        (ap (growers_at gs) e ∙ c.growers ∙ ap each_once front ∙ sym (once_known (get_or l i 0) (take i l) k))

  pub cutting_end : {old batch : List ℕ} {last n i : ℕ} → Cutting gs old batch last n i → length batch ≤ i → Cut gs old batch n
  cutting_end {old} {i = i} c h =
      record {
        same_length = c.same_length;
        room = omega (arith, c.kept, c.inside);
        there = c.there;
        growers = c.growers ∙ ap (λ (l : List ℕ). each_once (growers_at gs l)) (take_all i old (omega (arith, h, c.same_length)));
      }
