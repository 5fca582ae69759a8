-- The book's edges, each proved by computing. Assumes nothing.
use mathlib.Core.Path.{refl}
use Rattle.model.specs.SnapshotExamples.{NumberFields, BooksRead, BooksWritten}
use Rattle.model.proofs.Computing.{computed}

pub number_fields : NumberFields
unfolding computed
number_fields = record {
  zero-written = refl;
  greatest_written = refl;
  minus-written = refl;
  bill_written = refl;
  greatest = refl;
  above = refl;
  leading-zero = refl;
  two_zeros = refl;
  blank-behind = refl;
  blank_within = refl;
  signed = refl;
  no_digit = refl;
  short = refl;
}

pub books_read : BooksRead
unfolding computed
books_read = record {
  empty = refl;
  above_the_last_fence = refl;
  no_partition = refl;
  carriage_return = refl;
  fourth_number = refl;
  too_many = refl;
  line_left = refl;
  no_line_end = refl;
  unsound = refl;
  heavy = refl;
  rich = refl;
  wide = refl;
  equal_fences = refl;
  zero-ahead = refl;
  other_sum = refl;
  too_few_slots = refl;
  too_few_and_bad = refl;
  no_slots = refl;
}

pub books_written : BooksWritten
unfolding computed
books_written = record { answered = refl; written = refl; past = refl; just_room = refl; one_byte_short = refl; read_again = refl; unsound = refl }
