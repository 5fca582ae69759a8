-- The snapshot (01: the book): its text, and a text read.
use Rattle.std.specs.Prelude.{ℕ, Bool, true, ◌&&◌, List, [], ◌∷◌, ◌++◌, map, length, leb, eqb}
use Rattle.std.proofs.Math.Option.{Option, some}
use Rattle.model.specs.declared.Delivery.{Delivery}
use Rattle.model.specs.Bounds.{most_slots}
use Rattle.model.specs.Lists.{sum_of, every, rising, only_if, and_then, value_or, is_some}
use Rattle.model.specs.Deliveries.{delivery, grower_of, weight_of, yield_of, in_range}
use Rattle.model.specs.Blocks.{block_length_ok}
use Rattle.model.specs.Directory.{Directory, directory_of}
use Rattle.model.specs.Column.{Column, sound_growers, all_records}
use Rattle.model.specs.Fields.{Taken, taken, line, lines, take_line, take_lines, nth}

-- what a text holds
pub record Header : Type 0 where
  pub block : ℕ
  pub used : ℕ
  pub count : ℕ

pub record Book : Type 0 where
  pub directory : Directory
  pub deliveries : List Delivery

-- "K lines: length, fence": the numbers of each
unfoldable pub partition_rows : List ℕ → List ℕ → List (List ℕ)
partition_rows [] fences = []
partition_rows (n ∷ ns) [] = []
partition_rows (n ∷ ns) (f ∷ fs) = (n ∷ f ∷ []) ∷ partition_rows ns fs

-- "M lines: grower, weight, yield": the numbers of one
abbrev pub delivery_row : Delivery → List ℕ
delivery_row d = grower_of d ∷ weight_of d ∷ yield_of d ∷ []

-- "line 1: B, M, K", then the partitions and the deliveries
unfoldable pub book_text : Book → List ℕ
book_text b =
    let d : Directory = b.directory in
    line (d.block ∷ sum_of d.lengths ∷ length d.lengths ∷ [])
    ++ lines (partition_rows d.lengths d.fences)
    ++ lines (map delivery_row b.deliveries)

-- the book of a column
abbrev pub book_in : ℕ → Column → Book
book_in L c = record { directory = directory_of L c.directory; deliveries = all_records L c }

abbrev pub snapshot_text : ℕ → Column → List ℕ
snapshot_text L c = book_text (book_in L c)

-- "line 1 is three such numbers in range", for the block limit L
unfoldable pub header_ok : ℕ → Header → Bool
header_ok L h = block_length_ok h.block && leb h.used most_slots && leb 1 h.count && leb h.count L

abbrev pub header_of : List ℕ → Header
header_of ns = record { block = nth 0 ns; used = nth 1 ns; count = nth 2 ns }

unfoldable pub take_header : ℕ → List ℕ → Option (Taken Header)
take_header L t = and_then (take_line 3 t) (λ r. only_if (header_ok L (header_of r.value)) (taken (header_of r.value) r.rest))

-- the values of a text whose line 1 is h: "a value out of range, .. the shape of question 6, .. unsound, .. M is not the sum of the lengths"
unfoldable pub book_ok : Header → Book → Bool
book_ok h b =
    eqb (sum_of b.directory.lengths) h.used
    && rising b.directory.fences
    && every in_range b.deliveries
    && sound_growers b.directory.lengths b.directory.fences (map grower_of b.deliveries)

-- the delivery of a line: "old books .. give day 0"
abbrev pub delivery_of : List ℕ → Delivery
delivery_of l = delivery (nth 0 l) (nth 1 l) (nth 2 l) 0

-- the book of a header, its partition lines and its delivery lines
abbrev pub book_of : Header → List (List ℕ) → List (List ℕ) → Book
book_of h ps ds = record {
  directory = record { block = h.block; lengths = map (nth 0) ps; fences = map (nth 1) ps };
  deliveries = map delivery_of ds;
}

-- a text is a book just if its lines are there, nothing is left over and its values are right
unfoldable pub read_book : ℕ → List ℕ → Option Book
read_book L t =
    and_then (take_header L t) (λ h.
    and_then (take_lines h.value.count 2 h.rest) (λ ps.
    and_then (take_lines h.value.used 3 ps.rest) (λ ds.
    let b : Book = book_of h.value ps.value ds.value in
    only_if (eqb (length ds.rest) 0 && book_ok h.value b) b)))

-- check 14: "is the text a book?"
unfoldable pub is_book : ℕ → List ℕ → Bool
is_book L t = is_some (read_book L t)

-- check 12 of reading: "are there M" slots? It "goes ahead of 14 only if line 1 is three such numbers in range".
unfoldable pub slots_for_book : ℕ → List ℕ → ℕ → Bool
slots_for_book L t c = value_or true (and_then (take_header L t) (λ h. some (leb h.value.used c)))
