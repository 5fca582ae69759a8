-- A column whose lengths are new and whose slices a move has changed: what it takes to be valid again. Assumes nothing.
use Prim.Native.Nat.{ℕ, ◌≤◌}
use mathlib.Core.Path.{◌≡◌, refl, sym, ap, ◌∙◌, subst}
use mathlib.Core.List.{List, flatten, Permᴰ}
use lib.Dec.{T}
use lib.ListN.{length, get_or}
use Rattle.model.specs.declared.Delivery.{Delivery}
use Rattle.model.specs.Lists.{sum_of, every}
use Rattle.model.specs.Deliveries.{Slices, storing}
use Rattle.model.specs.Blocks.{slices_ok}
use Rattle.model.specs.Partitions.{parts}
use Rattle.model.specs.Directory.{Directory, directory_of, directory_block_ok, with_lengths}
use Rattle.model.specs.Column.{Column, slots, sound_growers, lengths_of, fences_of, all_records, sound}
use Rattle.model.specs.ColumnCalls.{move_slices}
use Rattle.model.proofs.DirectoryLaws.{Kept, with_lengths_lem, shaped_with}
use Rattle.theorems.proofs.ValidColumn.{passes, Valid, even_slices, count_lengths}

-- the column afterwards, and what is kept of the one before
pub record Follows (L : ℕ) (c after : Column) (b : List Delivery) : Type 0 where
  pub valid : Valid L after
  pub bag : Permᴰ (all_records L after) b
  pub capacity : length after.slices.growers ≡ length c.slices.growers

-- check 3 asks for lengths alone
slices_again : (s t : Slices) → length t.growers ≡ length s.growers → length t.weights ≡ length s.weights → length t.yields ≡ length s.yields
    → length t.days ≡ length s.days → T (slices_ok s) → T (slices_ok t)
unfolding slices_ok
slices_again s t g w y n k = rw (g, w, y, n) k

module _ (L : ℕ) (c : Column) (v : Valid L c) where
  -- new lengths, as many as there were, and slices of the same length, each of which the move f has changed
  module _
      (f : ℕ → List ℕ → List ℕ) (d : Delivery) (ns : List ℕ)
      (kept_length : (x : ℕ) (s : List ℕ) → length s ≡ length c.slices.growers → length (f x s) ≡ length c.slices.growers)
      (count : length ns ≡ length (lengths_of L c))
      (fits : sum_of ns ≤ length c.slices.growers)
    where
      kept : Kept L ns c.directory
      kept = with_lengths_lem L ns c.directory v.shape.size (count ∙ count_lengths L c v) v.shape.few

      lengths_after : lengths_of L (move_slices f d ns c) ≡ ns
      unfolding move_slices
      lengths_after = ap (λ (r : Directory). r.lengths) kept.directory

      block_after : T (directory_block_ok L (with_lengths ns c.directory))
      unfolding directory_block_ok directory_of
      block_after =
          let e : get_or (with_lengths ns c.directory) 0 0 ≡ get_or c.directory 0 0 = ap (λ (r : Directory). r.block) kept.directory in
          rw (kept.size, e) v.block_ok

      sized : (x : ℕ) (s : List ℕ) → length s ≡ length c.slices.growers → length (f x s) ≡ length s
      sized x s e = kept_length x s e ∙ sym e

      pub follows : T (sound_growers ns (fences_of L c) (f d.grower c.slices.growers))
          → T (every passes (flatten (parts ns (slots (move_slices f d ns c)))))
          → (b : List Delivery) → Permᴰ (flatten (parts ns (slots (move_slices f d ns c)))) b
          → Follows L c (move_slices f d ns c) b
      unfolding move_slices sound
      follows snd vals b p =
          let e : length (f d.grower c.slices.growers) ≡ length c.slices.growers = kept_length d.grower c.slices.growers refl in
          let a : flatten (parts ns (slots (move_slices f d ns c))) ≡ all_records L (move_slices f d ns c)
          = ap (λ (ms : List ℕ). flatten (parts ms (slots (move_slices f d ns c)))) (sym lengths_after) in
          record {
            valid = record {
              block_ok = block_after;
              slices_ok_lem =
                  let q = even_slices L c v in
                  slices_again c.slices (storing f d c.slices) e (sized d.weight c.slices.weights q.weights) (sized d.oil_yield c.slices.yields q.yields)
                  (sized d.day c.slices.days q.days) v.slices_ok_lem;
              shape = rw e (shaped_with L _ ns c.directory v.shape (count ∙ count_lengths L c v) fits);
              sound = subst (λ (r : Directory). T (sound_growers r.lengths r.fences (f d.grower c.slices.growers))) (sym kept.directory) snd;
              values = subst (λ (l : List Delivery). T (every passes l)) a vals;
            };
            bag = subst (λ (l : List Delivery). Permᴰ l b) a p;
            capacity = e;
          }
