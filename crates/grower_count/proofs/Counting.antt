-- Growers counted a window at a time: what is counted and what is left are all, and what is left past the last grower of a full window is what the window
-- does not hold. Assumes nothing.
use Prim.Native.Nat.{ℕ, ◌+◌, ◌-◌, ◌≤◌, ◌<◌, min}
use mathlib.Core.Path.{◌≡◌, sym, ap, ◌∙◌, subst}
use mathlib.Core.Bool.{Bool, true}
use mathlib.Core.List.{List, []}
use native.Mathlib.Omega.{arith}
use borrow.Author.Tests.{le-leb, lt-leb}
use lib.Dec.{leb}
use lib.ListN.{length, get_or, take, length-take, length-drop, length-map}
use lib.Seq.{length-take-le, get_or-take}
use Rattle.model.specs.Lists.{keep}
use Rattle.slot_order.proofs.Picking.{picked, picked_few}
use Rattle.model.specs.Sheet.{each_once}
use Rattle.model.proofs.ListLaws.{at_map}
use Rattle.model.proofs.GrowerLaws.{none_kept}
use Rattle.slot_order.specs.Passes.{growers_at}
use Rattle.grower_count.specs.Batches.{most_at_once, Window}
use Rattle.model.proofs.GrowerLaws.{keep_whole}
use Rattle.model.proofs.SheetLaws.{once_fewer}
use Rattle.grower_count.proofs.Smallest.{all_by, once_past}
use Rattle.grower_count.proofs.Cutting.{slot_inside}

-- the growers of the slots that pass, and of these the ones that are at least lo
abbrev pub held : List ℕ → (ℕ → Bool) → List ℕ
held gs p = growers_at gs (picked p (length gs))

abbrev pub left : List ℕ → ℕ → List ℕ
left hs lo = each_once (keep (leb lo) hs)

held_few : (gs : List ℕ) (p : ℕ → Bool) → length (each_once (held gs p)) ≤ length gs
held_few gs p = omega (arith, once_fewer (held gs p), length-map (picked p (length gs)) (λ (i : ℕ). get_or gs i 0), picked_few p (length gs))

left_all : (gs : List ℕ) → left gs 0 ≡ each_once gs
left_all gs = ap each_once (keep_whole (leb 0) gs (all_by (λ (n : ℕ). leb 0 n ≡ true) gs (λ p h. le-leb 0 (get_or gs p 0) (omega arith))))

left_none : (gs is : List ℕ) (x : ℕ) → ((p : ℕ) → get_or gs p 0 < x) → left (growers_at gs is) x ≡ []
unfolding each_once
left_none gs is x h =
    ap each_once
    (none_kept (λ (n : ℕ). n < x) (leb x) (λ n k. lt-leb x n k) (growers_at gs is)
    (all_by (λ (n : ℕ). n < x) (growers_at gs is)
    (λ p k. subst (λ (n : ℕ). n < x) (sym (at_map (λ (i : ℕ). get_or gs i 0) is p (omega (arith, k, length-map is (λ (i : ℕ). get_or gs i 0))))) (h (get_or is p 0)))))

-- total growers are less than lo
abbrev pub Counted : List ℕ → (ℕ → Bool) → ℕ → ℕ → Type 0
Counted gs p total lo = total + length (left (held gs p) lo) ≡ length (each_once (held gs p))

pub counted_none : (gs : List ℕ) (p : ℕ → Bool) → Counted gs p 0 0
counted_none gs p = omega (arith, ap length (left_all (held gs p)))

-- and n are in the window
pub record Counting (gs : List ℕ) (p : ℕ → Bool) (batch : List ℕ) (total lo n : ℕ) : Type 0 where
  pub sum : Counted gs p total lo
  pub window : Window gs p lo (length gs) batch n

module _ {gs : List ℕ} {p : ℕ → Bool} {batch : List ℕ} {total lo n : ℕ} (c : Counting gs p batch total lo n) (long : n ≤ length batch) where
  in_window : growers_at gs (take n batch) ≡ take most_at_once (left (held gs p) lo)
  in_window = c.window.growers

  size : length (take n batch) ≡ n
  size = length-take-le n batch long

  many : n ≡ min most_at_once (length (left (held gs p) lo))
  many = sym size ∙ sym (length-map (take n batch) (λ (i : ℕ). get_or gs i 0)) ∙ ap length in_window ∙ length-take most_at_once (left (held gs p) lo)

  pub counting_fits : total + n ≤ length gs
  counting_fits = omega (arith, c.sum, many, held_few gs p)

  pub counting_end : (n ≡ most_at_once → ⊥) → total + n ≡ length (each_once (held gs p))
  counting_end o = omega (arith, c.sum, many, o)

  -- a full window: the grower of its last slot
  module _ (full : n ≡ most_at_once) where
    abbrev last : ℕ
    last = get_or gs (get_or batch 8191 0) 0

    pub last_slot : get_or batch 8191 0 < length gs
    last_slot =
        subst (λ (s : ℕ). s < length gs) (get_or-take n batch 8191 0 (omega (arith, full)))
        (slot_inside gs (take n batch) 8191 c.window.there (omega (arith, full, size)))

    last_left : last ≡ get_or (left (held gs p) lo) 8191 0
    last_left =
        ap (λ (s : ℕ). get_or gs s 0) (sym (get_or-take n batch 8191 0 (omega (arith, full))))
        ∙ sym (at_map (λ (i : ℕ). get_or gs i 0) (take n batch) 8191 (omega (arith, full, size)))
        ∙ ap (λ (l : List ℕ). get_or l 8191 0) in_window
        ∙ get_or-take most_at_once (left (held gs p) lo) 8191 0 (omega arith)

    -- what is left past him
    past : length (left (held gs p) (last + 1)) ≡ length (left (held gs p) lo) - most_at_once
    past =
        ap (λ (x : ℕ). length (left (held gs p) (x + 1))) last_left ∙ ap length (once_past lo (held gs p) 8191 (omega (arith, full, many))) ∙ length-drop most_at_once (left (held gs p) lo)

    pub counting_less : {x : ℕ} → x ≡ last + 1 → length (left (held gs p) x) < length (left (held gs p) lo)
    counting_less e = omega (arith, past, full, many, ap (λ (x : ℕ). length (left (held gs p) x)) e)

    pub counting_more : {x : ℕ} → x ≡ last + 1 → Counted gs p (total + n) x
    counting_more e = omega (arith, c.sum, past, full, many, ap (λ (x : ℕ). length (left (held gs p) x)) e)

    pub counting_last : ((p : ℕ) → get_or gs p 0 < last + 1) → total + n ≡ length (each_once (held gs p))
    counting_last h = omega (arith, c.sum, past, full, many, ap length (left_none gs (picked p (length gs)) (last + 1) h))
