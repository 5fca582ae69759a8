-- Where each of the ten histograms stands.
use Rattle.std.specs.Prelude.{ℕ}
use Rattle.histograms.specs.declared.Histogram.{Histogram}
use Rattle.histograms.specs.declared.Histogram.TheVariants.{Pq, Rs, Re, Sc, De, In, Udf, Utf, Udb, Utb}

-- "in the order pq, rs, re, sc, de, in, udf, utf, udb, utb"
abbrev pub histogram_number : Histogram → ℕ
histogram_number Pq = 0
histogram_number Rs = 1
histogram_number Re = 2
histogram_number Sc = 3
histogram_number De = 4
histogram_number In = 5
histogram_number Udf = 6
histogram_number Utf = 7
histogram_number Udb = 8
histogram_number Utb = 9
