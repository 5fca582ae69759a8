-- The settlement sheet (02: Slip 4; of a term by Slip 7): its lines, its text, and the used slots in the order of its lines.
use Rattle.std.specs.Prelude.{ℕ, cond, get_or, ltb, eqb}
use mathlib.Core.List.{List, [], ◌∷◌, ◌++◌, map, flatten}
use Rattle.model.specs.declared.Delivery.{Delivery}
use Rattle.model.specs.declared.Totals.{Totals}
use Rattle.model.specs.Lists.{sum_of, up_from, keep}
use Rattle.model.specs.Calendar.{Span, is_in}
use Rattle.model.specs.SettlementTerms.{term_of}
use Rattle.model.specs.Deliveries.{on_days, totals_of, totals_between}
use Rattle.model.specs.Column.{Column, lengths_of, all_records}
use Rattle.model.specs.Growers.{growers_of}
use Rattle.model.specs.Fields.{blank, line_end, justified}

-- n put in its place among rising numbers, unless it is there
unfoldable pub placed_once : ℕ → List ℕ → List ℕ
placed_once n [] = n ∷ []
placed_once n (m ∷ ms) = cond (ltb n m) (n ∷ m ∷ ms) (cond (eqb n m) (m ∷ ms) (m ∷ placed_once n ms))

-- the numbers of a list "in rising order", each once
unfoldable pub each_once : List ℕ → List ℕ
each_once [] = []
each_once (n ∷ ns) = placed_once n (each_once ns)

-- "grower, records, kg and oil"
pub record SheetLine : Type 0 where
  pub grower : ℕ
  pub totals : Totals

abbrev pub line_grower : SheetLine → ℕ
line_grower l = l.grower

-- a grower's line
abbrev pub line_of : List Delivery → ℕ → SheetLine
line_of bag g = record { grower = g; totals = totals_between g g bag }

-- "a line per grower in rising order"
unfoldable pub sheet_lines : List Delivery → List SheetLine
sheet_lines bag = map (line_of bag) (each_once (growers_of bag))

-- the sums of lines
unfoldable pub lines_totals : List SheetLine → Totals
lines_totals ls = record {
  records = sum_of (map (λ (l : SheetLine). l.totals.records) ls);
  weight = sum_of (map (λ (l : SheetLine). l.totals.weight) ls);
  oil = sum_of (map (λ (l : SheetLine). l.totals.oil) ls);
}

-- "each right-justified in 20 columns"
abbrev pub wide_width : ℕ
wide_width = 20

abbrev pub wide_field : ℕ → List ℕ
wide_field n = justified blank wide_width n

unfoldable pub wide_line : List ℕ → List ℕ
wide_line ns = flatten (map wide_field ns) ++ line_end ∷ []

-- the numbers of totals
abbrev pub totals_row : Totals → List ℕ
totals_row t = t.records ∷ t.weight ∷ t.oil ∷ []

abbrev pub line_text : SheetLine → List ℕ
line_text l = wide_line (l.grower ∷ totals_row l.totals)

-- "and a last line with the three totals in the same width"; "an empty column prints only a line of zeros"
unfoldable pub sheet_of : List Delivery → List ℕ
sheet_of bag = flatten (map line_text (sheet_lines bag)) ++ wide_line (totals_row (totals_of bag))

-- the sheet of a column, L being the block limit
abbrev pub sheet_text : ℕ → Column → List ℕ
sheet_text L c = sheet_of (all_records L c)

-- 02, Slip 7: the sheet "for the term that holds a given day, from that term's records alone"
abbrev pub term_sheet_text : ℕ → Column → ℕ → List ℕ
term_sheet_text L c n = sheet_of (keep (on_days (term_of n)) (all_records L c))

-- Slots by grower: those of each grower together, in the order in which they are listed, the growers in rising order.

-- those of grower g among slots that hold the growers gs
abbrev pub slots_of : List ℕ → List ℕ → ℕ → List ℕ
slots_of gs is g = keep (λ (i : ℕ). eqb (get_or gs i 0) g) is

unfoldable pub by_grower : List ℕ → List ℕ → List ℕ
by_grower gs is = flatten (map (slots_of gs is) (each_once (map (λ (i : ℕ). get_or gs i 0) is)))

-- the first m slots in rising order of grower, those of one grower in rising order
abbrev pub slots_in_order : List ℕ → ℕ → List ℕ
slots_in_order gs m = by_grower gs (up_from 0 m)

-- those of the first m slots whose day lies in a span; a term's records are in such slots
abbrev pub slots_during : Span → List ℕ → ℕ → List ℕ
slots_during s ns m = keep (λ (i : ℕ). is_in s (get_or ns i 0)) (up_from 0 m)

abbrev pub term_slots : ℕ → Column → ℕ → List ℕ
term_slots L c n = slots_during (term_of n) c.slices.days (sum_of (lengths_of L c))
