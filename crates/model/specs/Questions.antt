-- Which checks each call puts, in order (01: the questions, in order).
use Rattle.std.specs.Prelude.{ℕ, Bool, true, not, ◌&&◌, List, [], ◌∷◌, ◌++◌, length, leb, ltb, eqb}
use Rattle.model.specs.declared.Delivery.{Delivery}
use Rattle.model.specs.declared.PriceCard.{PriceCard}
use Rattle.model.specs.declared.Limits.{Limits}
use Rattle.model.specs.Bounds.{most_day}
use Rattle.model.specs.Lists.{sum_of, every, is_some}
use Rattle.model.specs.Checks.{Check, ask}
use Rattle.model.specs.Prices.{prices_ok, limits_ok}
use Rattle.model.specs.Deliveries.{Slices, first_slots, in_range, day_ok, no_day, among}
use Rattle.model.specs.Blocks.{Set, block_length_ok, slots_ok, slices_ok, used_ok, growers_ok, values_ok, days_ok}
use Rattle.model.specs.Calls.{Call, find, range, range_days, insert, delete, move, ordered, offered_ok, span_ok, offered_days_ok}
use Rattle.model.specs.Histograms.{raises, counts_ok, room_to_raise}
use Rattle.model.specs.Layouts.{layout_ok}
use Rattle.model.specs.Plan.{permitted_layouts}
use Rattle.model.specs.Directory.{directory_block_ok, directory_ok}
use Rattle.model.specs.Column.{Column, lengths_of, all_records, sound, scanned_ok, scanned_days_ok, has_free_slot, has_delivery}
use Rattle.model.specs.Growers.{Direction, scanned_for_ok, scanned_for_days_ok}
use Rattle.model.specs.Snapshot.{snapshot_text, slots_for_book, is_book}
use Rattle.model.specs.Sheet.{sheet_text, term_sheet_text, term_slots}
use Rattle.model.specs.Listing.{few_blocks, listing_text}
use Rattle.model.specs.Weighbridge.{header_named, header_once, read_rows, row_count, csv_text}

-- L is the block limit
module _ (L : ℕ) where
  -- "recorder, bill, planner and laying are given the whole unlaid set": 2 3 4 5, and later 8 and 19
  abbrev pub set_checks : Set → List Check
  set_checks s = ask 2 (block_length_ok s.block) ∷ ask 3 (slices_ok s.slices) ∷ ask 4 (used_ok L s) ∷ ask 5 (growers_ok s) ∷ []

  -- recorder: 2 3 4 5 7 8 19 9 10
  unfoldable pub recorder_checks : Set → List ℕ → Call → List Check
  recorder_checks s hs c =
      set_checks s
      ++ ask 7 (ordered c)
      ∷ ask 8 (values_ok s && offered_ok c)
      ∷ ask 19 (days_ok s && offered_days_ok c)
      ∷ ask 9 (counts_ok L hs)
      ∷ ask 10 (room_to_raise L hs (raises s c))
      ∷ []

  -- cost of a layout (01: bill): 1 2 3 4 5 6 8 19 9
  unfoldable pub cost_checks : PriceCard → Set → List ℕ → List ℕ → List Check
  cost_checks p s ends hs = ask 1 (prices_ok p) ∷ set_checks s ++ ask 6 (layout_ok s ends) ∷ ask 8 (values_ok s) ∷ ask 19 (days_ok s) ∷ ask 9 (counts_ok L hs) ∷ []

  -- planner: 1 2 3 4 5 8 19 9 11 15; `needed` is how many ends there are to write, `room` how many can be written
  unfoldable pub planner_checks : PriceCard → Limits → Set → List ℕ → ℕ → ℕ → List Check
  planner_checks p l s hs needed room =
      ask 1 (prices_ok p && limits_ok l)
      ∷ set_checks s
      ++ ask 8 (values_ok s)
      ∷ ask 19 (days_ok s)
      ∷ ask 9 (counts_ok L hs)
      ∷ ask 11 (not (eqb (length (permitted_layouts p l s)) 0))
      ∷ ask 15 (leb needed room)
      ∷ []

  -- every layout of a small set (02: Slip 13): 1 2 3 4 5 8 19 9 23 11 15, "(23: more than 12 blocks; placed just before 11)"
  unfoldable pub listing_checks : PriceCard → Limits → Set → List ℕ → ℕ → List Check
  listing_checks p l s hs room =
      ask 1 (prices_ok p && limits_ok l)
      ∷ set_checks s
      ++ ask 8 (values_ok s)
      ∷ ask 19 (days_ok s)
      ∷ ask 9 (counts_ok L hs)
      ∷ ask 23 (few_blocks s)
      ∷ ask 11 (not (eqb (length (permitted_layouts p l s)) 0))
      ∷ ask 15 (leb (length (listing_text L p l s hs)) room)
      ∷ []

  -- applying a layout (01: laying): 2 3 4 5 6 8 19
  unfoldable pub apply_checks : Set → List ℕ → List Check
  apply_checks s ends = set_checks s ++ ask 6 (layout_ok s ends) ∷ ask 8 (values_ok s) ∷ ask 19 (days_ok s) ∷ []

  -- a call that is lent a directory and the slices: 2 3 6
  abbrev pub lent_checks : Column → List Check
  lent_checks c = ask 2 (directory_block_ok L c.directory) ∷ ask 3 (slices_ok c.slices) ∷ ask 6 (directory_ok L (length c.slices.growers) c.directory) ∷ []

  -- delete and move, which take a delivery out: 8 19 13
  abbrev pub taking_checks : Column → Delivery → List Check
  taking_checks c d =
      ask 8 (in_range d && scanned_ok L c d.grower d.grower)
      ∷ ask 19 (day_ok d && scanned_days_ok L c d.grower d.grower)
      ∷ ask 13 (has_delivery L c d)
      ∷ []

  -- find 8 19; range 7 8 19, over days too; insert 8 19 12; delete and move 8 19 13
  unfoldable pub call_checks : Column → Call → List Check
  call_checks c (find g) = ask 8 (scanned_ok L c g g) ∷ ask 19 (scanned_days_ok L c g g) ∷ []
  call_checks c (range lo hi) = ask 7 (leb lo hi) ∷ ask 8 (scanned_ok L c lo hi) ∷ ask 19 (scanned_days_ok L c lo hi) ∷ []
  call_checks c (range_days lo hi s) = ask 7 (leb lo hi) ∷ ask 8 (scanned_ok L c lo hi) ∷ ask 19 (span_ok s && scanned_days_ok L c lo hi) ∷ []
  call_checks c (insert d) = ask 8 (in_range d) ∷ ask 19 (day_ok d) ∷ ask 12 (has_free_slot L c) ∷ []
  call_checks c (delete d) = taking_checks c d
  call_checks c (move d g) = taking_checks c d

  unfoldable pub column_checks : Column → Call → List Check
  column_checks c k = lent_checks c ++ call_checks c k

  -- the next or previous grower (02: Slip 3): 2 3 6 8 19
  unfoldable pub grower_checks : Column → Direction → ℕ → List Check
  grower_checks c w g = lent_checks c ++ ask 8 (scanned_for_ok L c w g) ∷ ask 19 (scanned_for_days_ok L c w g) ∷ []

  -- partition slice (01: the run call), given the growers alone: 2 3 6
  unfoldable pub partition_checks : List ℕ → List ℕ → List Check
  partition_checks ns gs = ask 2 (directory_block_ok L ns) ∷ ask 3 (slots_ok (length gs)) ∷ ask 6 (directory_ok L (length gs) ns) ∷ []

  -- writing a snapshot (01: book): 2 3 6 6 8 19 15; 02, Slip 7: "until Slip 9, a book can be written only if every day is 0"
  unfoldable pub write_checks : Column → ℕ → List Check
  write_checks c room =
      lent_checks c ++ ask 6 (sound L c) ∷ ask 8 (every in_range (all_records L c)) ∷ ask 19 (every no_day (all_records L c)) ∷ ask 15 (leb (length (snapshot_text L c)) room) ∷ []

  -- a settlement sheet (02: Slip 4) of m records whose text is t: 2 3 6 6 8 19 15; 15 is put of the text and of the two slices that are sorted in.
  -- `named` says that the day which names a term is one: 19 is put of it and of every record, in the term or not.
  abbrev pub sheet_checks_of : Column → Bool → ℕ → List ℕ → ℕ → ℕ → ℕ → List Check
  sheet_checks_of c named m t room orderRoom workRoom =
      lent_checks c
      ++ ask 6 (sound L c)
      ∷ ask 8 (every in_range (all_records L c))
      ∷ ask 19 (named && every day_ok (all_records L c))
      ∷ ask 15 (leb (length t) room && (leb m orderRoom && leb m workRoom))
      ∷ []

  unfoldable pub sheet_checks : Column → ℕ → ℕ → ℕ → List Check
  sheet_checks c room orderRoom workRoom = sheet_checks_of c true (sum_of (lengths_of L c)) (sheet_text L c) room orderRoom workRoom

  -- of "the term that holds a given day" (02: Slip 7)
  unfoldable pub term_sheet_checks : Column → ℕ → ℕ → ℕ → ℕ → List Check
  term_sheet_checks c day room orderRoom workRoom = sheet_checks_of c (leb day most_day) (length (term_slots L c day)) (term_sheet_text L c day) room orderRoom workRoom

  -- reading a snapshot: 3 12 14
  unfoldable pub read_checks : List ℕ → Slices → List Check
  read_checks text s = ask 3 (slices_ok s) ∷ ask 12 (slots_for_book L text (length s.growers)) ∷ ask 14 (is_book L text) ∷ []

-- importing (02: Slip 1): "(16 .. 17 .. 18 ..) All three come after 3, in this order, and then 12"
unfoldable pub import_checks : List ℕ → Slices → List Check
import_checks text s =
    ask 3 (slices_ok s)
    ∷ ask 16 (header_named text)
    ∷ ask 17 (header_once text)
    ∷ ask 18 (is_some (read_rows text))
    ∷ ask 12 (leb (row_count text) (length s.growers))
    ∷ []

-- exporting the first m slots: 3 4 8 19 15, "M 0 to C, else 4"
unfoldable pub export_checks : ℕ → Slices → ℕ → List Check
export_checks m s room =
    ask 3 (slices_ok s)
    ∷ ask 4 (leb m (length s.growers))
    ∷ ask 8 (every in_range (first_slots m s))
    ∷ ask 19 (every day_ok (first_slots m s))
    ∷ ask 15 (leb (length (csv_text (first_slots m s))) room)
    ∷ []

-- the ledger, a bag of at most c deliveries: range 7; range over days 7 19; insert 8 19 12; delete and move 8 19 13
unfoldable pub ledger_checks : ℕ → List Delivery → Call → List Check
ledger_checks c bag (find g) = []
ledger_checks c bag (range lo hi) = ask 7 (leb lo hi) ∷ []
ledger_checks c bag (range_days lo hi s) = ask 7 (leb lo hi) ∷ ask 19 (span_ok s) ∷ []
ledger_checks c bag (insert d) = ask 8 (in_range d) ∷ ask 19 (day_ok d) ∷ ask 12 (ltb (length bag) c) ∷ []
ledger_checks c bag (delete d) = ask 8 (in_range d) ∷ ask 19 (day_ok d) ∷ ask 13 (among d bag) ∷ []
ledger_checks c bag (move d g) = ask 8 (in_range d) ∷ ask 19 (day_ok d) ∷ ask 13 (among d bag) ∷ []
