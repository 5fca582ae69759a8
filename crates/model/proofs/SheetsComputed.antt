-- The settlement sheet's edges, each proved by computing. Assumes nothing.
use Prim.Native.Nat.{ℕ}
use mathlib.Core.Path.{refl}
use Rattle.model.specs.SheetExamples.{SheetComputed, SheetQuestions}
use Rattle.model.proofs.Computing.{computed}

pub sheet_computed : SheetComputed
unfolding computed
sheet_computed = record {
  put_first = refl;
  there_already = refl;
  none = refl;
  each_once_lem = refl;
  two_records = refl;
  no_kg = refl;
  no_lines = refl;
  lines = refl;
  no_sums = refl;
  sums = refl;
  of_the_records = refl;
  zero = refl;
  widest = refl;
  one_line = refl;
  of_four = refl;
  of_three = refl;
  empty = refl;
  whole = refl;
  no_slot = refl;
  his_slots = refl;
  in_their_order = refl;
  in_order = refl;
  exact = refl;
  byte_short = refl;
  order_short = refl;
  work_short = refl;
  unsound = refl;
  left_alone = refl;
  order_left = refl;
  work_left = refl;
  no_book = refl;
  too_many = refl;
  book_of_none = refl;
  book_of_two = refl;
}

pub sheet_questions : (L : ℕ) → SheetQuestions L
unfolding computed
sheet_questions L = record { asked = λ c room orderRoom workRoom. refl }
