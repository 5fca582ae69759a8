-- A loop over the records of the slices, a stride at a time: what it has found is what the records passed give. Assumes nothing.
use Prim.Native.Nat.{ℕ, ◌+◌, ◌≤◌}
use mathlib.Core.Path.{◌≡◌, sym, ap, ◌∙◌}
use mathlib.Core.List.{List, ◌++◌}
use native.Mathlib.Omega.{arith}
use lib.ListN.{length, take, drop, take-append-drop}
use lib.Seq.{take-add, take_all, drop-drop, length-take-le}
use Rattle.model.specs.declared.Delivery.{Delivery}
use Rattle.model.specs.Deliveries.{Slices, each_slice, rows, Even}
use Rattle.model.proofs.Deliveries.{rows-part, length-rows}

pub record Strides {A : Type 0} (all : List Delivery → A) (ss : Slices) (s : A) (i : ℕ) : Type 0 where
  pub at : i ≤ length ss.growers
  pub so_far : s ≡ all (take i (rows ss))

-- n records more, by a step `more` that goes on from what the records before gave
module _ {A : Type 0} (all : List Delivery → A) (more : A → ℕ → List Delivery → A) (joined : (a b : List Delivery) → all (a ++ b) ≡ more (all a) (length a) b)
    (ss : Slices) (p : Even ss) (s : A) (i : ℕ) (k : Strides all ss s i) where
  pub strides_next : (n : ℕ) (r : A) → i + n ≤ length ss.growers → r ≡ more s i (rows (each_slice (λ (l : List ℕ). take n (drop i l)) ss)) → Strides all ss r (i + n)
  strides_next n r h e =
      let ds : List Delivery = rows ss in
      let z : length (take i ds) ≡ i = length-take-le i ds (omega (arith, k.at, length-rows ss p)) in
      record {
        at = h;
        so_far = e ∙ ap (more s i) (rows-part n i ss) ∙ ap (λ (x : A). more x i (take n (drop i ds))) k.so_far
            ∙ ap (λ (x : ℕ). more (all (take i ds)) x (take n (drop i ds))) (sym z)
            ∙ sym (joined (take i ds) (take n (drop i ds))) ∙ ap all (sym (take-add i n ds));
      }

pub strides_end : {A : Type 0} (all : List Delivery → A) (ss : Slices) (p : Even ss) (s : A) (i : ℕ) → Strides all ss s i → length ss.growers ≤ i → s ≡ all (rows ss)
strides_end all ss p s i k h = k.so_far ∙ ap all (take_all i (rows ss) (omega (arith, length-rows ss p)))

-- The same from the back: e records are still ahead, and a step `more` goes on from what the records behind them gave.
pub record BackStrides {A : Type 0} (all : List Delivery → A) (ss : Slices) (s : A) (e : ℕ) : Type 0 where
  pub at : e ≤ length ss.growers
  pub so_far : s ≡ all (drop e (rows ss))

module _ {A : Type 0} (all : List Delivery → A) (more : A → List Delivery → A) (behind : (a b : List Delivery) → all (b ++ a) ≡ more (all a) b)
    (ss : Slices) (s : A) (e : ℕ) (k : BackStrides all ss s e) where
  pub back_strides_next : (n i : ℕ) (r : A) → i + n ≡ e → r ≡ more s (rows (each_slice (λ (l : List ℕ). take n (drop i l)) ss)) → BackStrides all ss r i
  back_strides_next n i r h q =
      let ds : List Delivery = rows ss in
      let z : drop n (drop i ds) ≡ drop e ds = drop-drop n i ds ∙ ap (λ (m : ℕ). drop m ds) h in
      record {
        at = omega (arith, k.at);
        so_far = q ∙ ap (more s) (rows-part n i ss) ∙ ap (λ (x : A). more x (take n (drop i ds))) k.so_far ∙ sym (behind (drop e ds) (take n (drop i ds)))
            ∙ ap (λ (l : List Delivery). all (take n (drop i ds) ++ l)) (sym z) ∙ ap all (take-append-drop n (drop i ds));
      }

pub back_strides_end : {A : Type 0} (all : List Delivery → A) (ss : Slices) (s : A) → BackStrides all ss s 0 → s ≡ all (rows ss)
back_strides_end all ss s k = k.so_far
