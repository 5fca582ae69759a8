-- What computes a call from its arguments: an example proved by computing says `unfolding computed`, and with it every definition on the way.
use mathlib.Core.List.{flatten}
use Rattle.model.specs.Lists.{sum_of, ceil_div, up_from, every, keep, rising, never_falls, same_list}
use Rattle.model.specs.Checks.{first_failed}
use Rattle.model.specs.Place.{place}
use Rattle.model.specs.Calendar.{is_leap, month_lengths, month_days, days_before_month, year_days, days_before_year, day_number, next_date, date_of}
use Rattle.model.specs.SettlementTerms.{term, term_at, term_of}
use Rattle.model.specs.Deliveries.{zipped, among, first_match, totals_of}
use Rattle.model.specs.Blocks.{block_of, block_length_ok, slots_ok, slices_ok, used_ok, growers_ok, values_ok, days_ok}
use Rattle.model.specs.Calls.{ordered, offered_ok, offered_days_ok}
use Rattle.model.specs.Histograms.{position, range_raises, move_raises, raises, slot, raise, raise_all, counts_ok, room_to_raise}
use Rattle.model.specs.Prices.{prices_ok, limits_ok, priced}
use Rattle.model.specs.Layouts.{before, after, trailing, is_layout, layout_ok, block_counts, most_partitions, longest_partition, permitted, layouts_from}
use Rattle.model.specs.Cost.{point_price, ripple_price, price, sum_blocks, sum_histograms, cost_of}
use Rattle.model.specs.Plan.{permitted_layouts, cheapest}
use Rattle.model.specs.Partitions.{parts, free, start_of, between, every_at}
use Rattle.model.specs.Moves.{rotate_left, rotate_right, fill_from_end, fill_from_front, insert_at, delete_at, move_forward, move_backward, move_within, move_at, inserted, deleted, moved}
use Rattle.model.specs.Directory.{directory_of, unused_numbers, directory_numbers, directory_block_ok, directory_ok, with_lengths}
use Rattle.model.specs.Column.{sound_growers, sound, scanned_ok, scanned_days_ok, has_free_slot, has_delivery, lengths_from, directory_for}
use Rattle.model.specs.Accesses.{blocks_of, blocks_scanned, reads_of, scan_counts, scan_near, call_counts, miss_counts}
use Rattle.model.specs.Growers.{nearest_from, nearest, nearest_of, holds_one, down_from, path, up_to_first, counts_scanned, scanned_for, scanned_for_ok, scanned_for_days_ok}
use Rattle.model.specs.Fields.{leading, justified, signed_field, spelled, read_field, line, take_numbers, after_line_end, take_line, take_lines}
use Rattle.model.specs.Snapshot.{partition_rows, book_text, header_ok, take_header, book_ok, read_book, is_book, slots_for_book}
use Rattle.model.specs.Sheet.{placed_once, each_once, sheet_lines, lines_totals, wide_line, sheet_of, by_grower}
use Rattle.model.specs.Listing.{few_blocks, layout_line, listing_text, earlier_end, earlier_first}
use Rattle.model.specs.Csv.{after_end, behind, take_plain, take_quoted, take_field, take_fields, take_records}
use Rattle.model.specs.Weighbridge.{times_named, column_named, header_named, header_once, number_in, row_of, rows_of, read_rows, row_count, digits, plain_number, csv_text}
use Rattle.model.specs.Questions.{recorder_checks, cost_checks, planner_checks, apply_checks, call_checks, column_checks, grower_checks, partition_checks}
use Rattle.model.specs.Questions.{listing_checks, write_checks, sheet_checks, term_sheet_checks, read_checks, import_checks, export_checks, ledger_checks}
use Rattle.model.specs.Recorder.{recorder_refusal, record_call, record_calls, accepted_calls}
use Rattle.model.specs.Planner.{cost_call, planned_ends, planner_refusal, plan_call}
use Rattle.model.specs.ListingCalls.{list_call}
use Rattle.model.specs.ColumnCalls.{move_slices, apply_call, laid_column, call_totals, column_after, column_refusal, refused_counts, column_call, column_calls, report_alone, partition_call}
use Rattle.model.specs.Ledger.{ledger_call, ledger_totals, bag_after, remove_one, change_one}
use Rattle.model.specs.GrowerCalls.{grower_call, ledger_grower}
use Rattle.model.specs.SnapshotCalls.{read_call, column_read, write_call}
use Rattle.model.specs.CsvCalls.{import_call, export_call}
use Rattle.model.specs.Tallies.{tally_checks}
use Rattle.model.specs.Program.{call_of, calls_of, sizes_ok, take_sizes, read_week, record_until_refused, partition_texts, plan_text, week_text, layplan}
use Rattle.model.specs.SheetCalls.{sheet_call, term_sheet_call, settlement}
use Rattle.model.specs.Text.{bytes_of}

unfoldable pub computed : Unit {0}
unfolding flatten sum_of ceil_div up_from every keep rising never_falls same_list first_failed place zipped among first_match totals_of block_of block_length_ok slots_ok
    slices_ok used_ok growers_ok values_ok days_ok ordered offered_ok offered_days_ok position range_raises move_raises raises slot raise raise_all counts_ok room_to_raise prices_ok limits_ok
    priced before after trailing is_layout layout_ok block_counts most_partitions longest_partition permitted layouts_from point_price ripple_price price sum_blocks
    sum_histograms cost_of permitted_layouts cheapest parts free start_of between every_at rotate_left rotate_right fill_from_end fill_from_front insert_at delete_at
    move_forward move_backward move_within move_at inserted deleted moved directory_of unused_numbers directory_numbers directory_block_ok directory_ok with_lengths
    sound_growers sound scanned_ok scanned_days_ok has_free_slot has_delivery lengths_from directory_for blocks_of blocks_scanned reads_of scan_counts scan_near call_counts miss_counts
    leading justified signed_field spelled read_field line take_numbers after_line_end take_line take_lines partition_rows book_text header_ok take_header book_ok read_book
    is_book slots_for_book recorder_checks cost_checks planner_checks apply_checks call_checks column_checks partition_checks write_checks read_checks ledger_checks
    recorder_refusal record_call record_calls accepted_calls cost_call planned_ends planner_refusal plan_call move_slices apply_call laid_column call_totals column_after
    column_refusal refused_counts column_call column_calls report_alone partition_call read_call column_read write_call tally_checks call_of calls_of sizes_ok take_sizes
    read_week record_until_refused partition_texts plan_text week_text layplan bytes_of after_end behind take_plain take_quoted take_field take_fields take_records times_named
    column_named header_named header_once number_in row_of rows_of read_rows row_count digits plain_number csv_text import_checks export_checks import_call export_call
    nearest_from nearest nearest_of holds_one down_from path up_to_first counts_scanned scanned_for scanned_for_ok scanned_for_days_ok grower_checks grower_call ledger_grower
    placed_once each_once sheet_lines lines_totals wide_line sheet_of by_grower sheet_checks term_sheet_checks sheet_call term_sheet_call settlement few_blocks layout_line listing_text earlier_end
    earlier_first listing_checks list_call is_leap month_lengths month_days days_before_month year_days days_before_year
    day_number next_date date_of term term_at term_of ledger_call ledger_totals bag_after remove_one change_one
computed = tt
