-- The edges of the listing of every layout, each proved by computing. Assumes nothing.
use Prim.Native.Nat.{ℕ}
use mathlib.Core.Path.{refl}
use Rattle.model.specs.ListingExamples.{ListingComputed, ListingQuestions}
use Rattle.model.proofs.Computing.{computed}

pub listing_questions : (L : ℕ) → ListingQuestions L
unfolding computed
listing_questions L = record { asked = λ p l s hs room. refl }

pub listing_computed : ListingComputed
unfolding computed
listing_computed = record {
  twelve = refl;
  thirteen = refl;
  one_line = refl;
  below_zero = refl;
  main_case = refl;
  limited = refl;
  not-parted = refl;
  one_block = refl;
  earlier = refl;
  later = refl;
  the_same = refl;
  in_order = refl;
  twice = refl;
  too_many = refl;
  none = refl;
  byte_short = refl;
  exact = refl;
  left_alone = refl;
  past_the_lines = refl;
}
