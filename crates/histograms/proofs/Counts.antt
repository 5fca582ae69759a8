-- Check 9, test by test. Assumes nothing.
use Prim.Native.Nat.{ℕ}
use mathlib.Core.Path.{◌≡◌}
use mathlib.Core.Bool.{true, false}
use mathlib.Core.List.{List}
use borrow.Author.Tests.{eq-eqb, ne_eqb}
use lib.Dec.{leb, eqb, eqb→eq}
use lib.ListN.{length}
use Rattle.model.specs.Bounds.{most_count}
use Rattle.model.specs.Lists.{every}
use Rattle.model.specs.Histograms.{histograms_size, counts_ok}
use Rattle.model.proofs.Tests.{and_fst, of_true}

module _ (L : ℕ) (hs : List ℕ) where
  pub counts_other : (length hs ≡ histograms_size L → ⊥) → false ≡ counts_ok L hs
  unfolding counts_ok
  counts_other h = rw (ne_eqb (length hs) (histograms_size L) h)

  pub counts_all : length hs ≡ histograms_size L → every (λ (n : ℕ). leb n most_count) hs ≡ counts_ok L hs
  unfolding counts_ok
  counts_all h = rw (eq-eqb (length hs) (histograms_size L) h)

  pub counts_long : counts_ok L hs ≡ true → length hs ≡ histograms_size L
  unfolding counts_ok
  counts_long e = eqb→eq (length hs) (histograms_size L) (and_fst (eqb (length hs) (histograms_size L)) (every (λ (n : ℕ). leb n most_count) hs) (of_true _ e))
