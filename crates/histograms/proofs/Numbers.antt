-- There are ten histograms. Assumes nothing.
use Prim.Native.Nat.{◌<◌}
use native.Mathlib.Omega.{arith}
use Rattle.histograms.specs.declared.Histogram.{Histogram}
use Rattle.histograms.specs.declared.Histogram.TheVariants.{Pq, Rs, Re, Sc, De, In, Udf, Utf, Udb, Utb}
use Rattle.histograms.specs.Numbers.{histogram_number}

pub number_below : (j : Histogram) → histogram_number j < 10
number_below Pq = omega arith
number_below Rs = omega arith
number_below Re = omega arith
number_below Sc = omega arith
number_below De = omega arith
number_below In = omega arith
number_below Udf = omega arith
number_below Utf = omega arith
number_below Udb = omega arith
number_below Utb = omega arith
