-- The deliveries of rows are on day 0. Assumes nothing.
use Prim.Native.Nat.{ℕ}
use mathlib.Core.Path.{◌≡◌, refl, sym, ap, ap₂, ◌∙◌}
use mathlib.Core.Option.{Option, none, some}
use mathlib.Core.List.{List, [], ◌∷◌, map}
use native.Mathlib.Omega.{arith}
use lib.Dec.{eqb}
use lib.ListN.{length, replicate}
use Rattle.model.specs.declared.Delivery.{Delivery}
use Rattle.model.specs.Bounds.{most_number, most_weight, most_yield}
use Rattle.model.specs.Lists.{only_if, and_then}
use Rattle.model.specs.Deliveries.{delivery, day_of}
use Rattle.model.specs.Csv.{Bytes}
use Rattle.model.specs.Weighbridge.{grower_name, weight_name, yield_name, number_named, row_of, rows_of}

not_some : {A B : Type 0} {a : A} → none ≡ some a → B
not_some e = let z : ◌≡◌ {A = ℕ} 0 1 = cc in absurd (omega arith)

-- a delivery of three numbers
of_numbers : (g w y : Option ℕ) (d : Delivery) → and_then g (λ a. and_then w (λ b. and_then y (λ c. some (delivery a b c 0)))) ≡ some d → day_of d ≡ 0
of_numbers none w y d e = not_some e
of_numbers (some a) none y d e = not_some e
of_numbers (some a) (some b) none d e = not_some e
of_numbers (some a) (some b) (some c) d e = let z : delivery a b c 0 ≡ d = cc in sym (ap day_of z)

of_fields : (o : Option (List Bytes)) (g w y : List Bytes → Option ℕ) (d : Delivery)
    → and_then o (λ fs. and_then (g fs) (λ a. and_then (w fs) (λ b. and_then (y fs) (λ c. some (delivery a b c 0))))) ≡ some d → day_of d ≡ 0
of_fields none g w y d e = not_some e
of_fields (some fs) g w y d e = of_numbers (g fs) (w fs) (y fs) d e

row-undated : (h fs : List Bytes) (d : Delivery) → row_of h fs ≡ some d → day_of d ≡ 0
unfolding row_of
row-undated h fs d e =
    of_fields (only_if (eqb (length fs) (length h)) fs) (number_named grower_name most_number h) (number_named weight_name most_weight h) (number_named yield_name most_yield h) d e

pub rows-undated : (h : List Bytes) (rs : List (Option (List Bytes))) (ds : List Delivery) → rows_of h rs ≡ some ds → map day_of ds ≡ replicate (length ds) 0
unfolding rows_of
rows-undated h [] ds e = let z : [] ≡ ds = cc in ap (λ (l : List Delivery). map day_of l) (sym z) ∙ ap (λ (l : List Delivery). replicate (length l) 0) z
rows-undated h (none ∷ rs) ds e = not_some e
rows-undated h (some fs ∷ rs) ds e = row (row_of h fs) (rows_of h rs) (row-undated h fs) (rows-undated h rs) ds e
  where
    row : (r : Option Delivery) (o : Option (List Delivery))
        → ((d : Delivery) → r ≡ some d → day_of d ≡ 0)
        → ((es : List Delivery) → o ≡ some es → map day_of es ≡ replicate (length es) 0)
        → (ds : List Delivery)
        → and_then r (λ d. and_then o (λ es. some (d ∷ es))) ≡ some ds
        → map day_of ds ≡ replicate (length ds) 0
    row none o here more ds e = not_some e
    row (some d) none here more ds e = not_some e
    row (some d) (some es) here more ds e =
        let z : d ∷ es ≡ ds = cc in
        ap (λ (l : List Delivery). map day_of l) (sym z)
        ∙ ap₂ (λ (n : ℕ) (l : List ℕ). n ∷ l) (here d refl) (more es refl)
        ∙ ap (λ (l : List Delivery). replicate (length l) 0) z
