-- The weighbridge file's edges, each proved by computing. Assumes nothing.
use mathlib.Core.Path.{refl}
use Rattle.model.specs.CsvExamples.{CsvFields, CsvNumbers, CsvLineEnds, CsvColumns, CsvQuotes, CsvRows, CsvSlots, CsvWritten, CsvQuestions}
use Rattle.model.proofs.Computing.{computed}

pub csv_fields : CsvFields
unfolding computed
csv_fields = record {
  doubled = refl;
  closed = refl;
  doubled_last = refl;
  to_a_quote = refl;
  carriage_kept = refl;
  nothing_left = refl;
  broken_last = refl;
  no_record = refl;
}

pub csv_numbers : CsvNumbers
unfolding computed
csv_numbers = record { zeros-ahead = refl; one_above = refl; no_digit = refl; other_byte = refl }

pub csv_line_ends : CsvLineEnds
unfolding computed
csv_line_ends = record {
  empty_text = refl;
  no_rows = refl;
  no_last_end = refl;
  one_row = refl;
  row_no_last_end = refl;
  line_feeds = refl;
  mixed_ends = refl;
  carriage_alone = refl;
  carriage_inside = refl;
  two_carriages = refl;
  empty_line = refl;
  empty_line_last = refl;
}

pub csv_columns : CsvColumns
unfolding computed
csv_columns = record {
  other_order = refl;
  other_order_yield = refl;
  quoted_names = refl;
  upper_case = refl;
  blank_name = refl;
  doubled_in_name = refl;
  absent = refl;
  twice = refl;
  twice_unneeded = refl;
  sixteen_first = refl;
  seventeen_first = refl;
}

pub csv_quotes : CsvQuotes
unfolding computed
csv_quotes = record {
  quoted_row = refl;
  quoted_comma = refl;
  never_closed = refl;
  quote_inside = refl;
  behind-quote = refl;
  carriage_behind-quote = refl;
  row_never_closed = refl;
  row_only_quote = refl;
  row-quote_inside = refl;
  row-behind-quote = refl;
  row_closed = refl;
  empty_quoted = refl;
}

pub csv_rows : CsvRows
unfolding computed
csv_rows = record {
  one_short = refl;
  one_long = refl;
  empty_number = refl;
  signed = refl;
  blank-number = refl;
  leading_zeros = refl;
  grower_above = refl;
  weight_above = refl;
  yield_above = refl;
  wrapped = refl;
}

pub csv_slots : CsvSlots
unfolding computed
csv_slots = record {
  too_many = refl;
  twelve_behind = refl;
  refused_stays = refl;
  no_slots = refl;
  counted = refl;
  slots_past = refl;
  no_row_counted = refl;
  bad_rows_counted = refl;
}

pub csv_written : CsvWritten
unfolding computed
csv_written = record {
  no_delivery = refl;
  two_deliveries = refl;
  no_slot = refl;
  one_slot = refl;
  one_byte_short = refl;
  heavy = refl;
  past_the_slots = refl;
  no_slices = refl;
}

pub csv_questions : CsvQuestions
unfolding computed
csv_questions = record { importing = λ text s. refl; exporting = λ m room s. refl }
