-- Deliveries (01: deliveries and blocks; their days by 02, Slip 7).
use Rattle.std.specs.Prelude.{ℕ, ◌+◌, ◌*◌, ◌≤◌, Bool, false, cond, ◌&&◌, ◌||◌, ◌≡◌, List, [], ◌∷◌, ◌++◌, map, length, take, leb, eqb}
use Rattle.model.specs.declared.Delivery.{Delivery}
use Rattle.model.specs.declared.Totals.{Totals}
use Rattle.model.specs.Bounds.{most_weight, most_yield, most_day}
use Rattle.model.specs.Lists.{sum_of, keep}
use Rattle.model.specs.Calendar.{Span, is_in}

-- grower, weight, yield and day
abbrev pub delivery : ℕ → ℕ → ℕ → ℕ → Delivery
delivery g w y n = record { grower = g; weight = w; oil_yield = y; day = n }

-- the numbers of a delivery
abbrev pub grower_of : Delivery → ℕ
grower_of d = d.grower

abbrev pub weight_of : Delivery → ℕ
weight_of d = d.weight

abbrev pub yield_of : Delivery → ℕ
yield_of d = d.oil_yield

abbrev pub day_of : Delivery → ℕ
day_of d = d.day

-- "three lent slices .. hold them", and "a day number in a fourth slice"
pub record Slices : Type 0 where
  pub growers : List ℕ
  pub weights : List ℕ
  pub yields : List ℕ
  pub days : List ℕ

abbrev pub slices_of : List ℕ → List ℕ → List ℕ → List ℕ → Slices
slices_of gs ws ys ns = record { growers = gs; weights = ws; yields = ys; days = ns }

-- slices that all hold the same
abbrev pub alike : List ℕ → Slices
alike l = slices_of l l l l

-- ".. slot by slot"
unfoldable pub zipped : List ℕ → List ℕ → List ℕ → List ℕ → List Delivery
zipped [] ws ys ns = []
zipped (g ∷ gs) [] ys ns = []
zipped (g ∷ gs) (w ∷ ws) [] ns = []
zipped (g ∷ gs) (w ∷ ws) (y ∷ ys) [] = []
zipped (g ∷ gs) (w ∷ ws) (y ∷ ys) (n ∷ ns) = delivery g w y n ∷ zipped gs ws ys ns

abbrev pub rows : Slices → List Delivery
rows s = zipped s.growers s.weights s.yields s.days

-- "the first M slots"
abbrev pub first_slots : ℕ → Slices → List Delivery
first_slots m s = take m (rows s)

-- slices of one length (01: C)
pub record Even (s : Slices) : Type 0 where
  pub weights : length s.weights ≡ length s.growers
  pub yields : length s.yields ≡ length s.growers
  pub days : length s.days ≡ length s.growers

-- the slices that hold just these deliveries; each slice changed by f; two sets of slices joined end to end
abbrev pub slices_for : List Delivery → Slices
slices_for ds = slices_of (map grower_of ds) (map weight_of ds) (map yield_of ds) (map day_of ds)

abbrev pub each_slice : (List ℕ → List ℕ) → Slices → Slices
each_slice f s = slices_of (f s.growers) (f s.weights) (f s.yields) (f s.days)

abbrev pub joined : Slices → Slices → Slices
joined s t = slices_of (s.growers ++ t.growers) (s.weights ++ t.weights) (s.yields ++ t.yields) (s.days ++ t.days)

-- each slice changed by f, which stores a number of d
abbrev pub storing : (ℕ → List ℕ → List ℕ) → Delivery → Slices → Slices
storing f d s = slices_of (f d.grower s.growers) (f d.weight s.weights) (f d.oil_yield s.yields) (f d.day s.days)

-- check 8, of one delivery: "are weight and yield in range?"
abbrev pub in_range : Delivery → Bool
in_range d = leb d.weight most_weight && leb d.oil_yield most_yield

-- check 19, of one delivery: "a day above 36,524"
abbrev pub day_ok : Delivery → Bool
day_ok d = leb d.day most_day

-- check 19 of writing, until 02's Slip 9: "a day that the book cannot hold"
abbrev pub no_day : Delivery → Bool
no_day d = eqb d.day 0

-- an equal delivery: grower, weight, yield and day together
abbrev pub same : Delivery → Delivery → Bool
same a b = eqb a.grower b.grower && eqb a.weight b.weight && eqb a.oil_yield b.oil_yield && eqb a.day b.day

-- "move changes one grower", and nothing else
abbrev pub with_grower : ℕ → Delivery → Delivery
with_grower g d = delivery g d.weight d.oil_yield d.day

-- is the delivery among these?
unfoldable pub among : Delivery → List Delivery → Bool
among d [] = false
among d (r ∷ rs) = same d r || among d rs

-- "the lowest matching slot"
unfoldable pub first_match : Delivery → List Delivery → ℕ
first_match d [] = 0
first_match d (r ∷ rs) = cond (same d r) 0 (first_match d rs + 1)

-- "range lo to hi, both ends included"
abbrev pub matches : ℕ → ℕ → Delivery → Bool
matches lo hi d = leb lo d.grower && leb d.grower hi

-- 02, Slip 7: "a range call may also name a first and a last day, both counted; if the last is earlier, it matches nothing"
abbrev pub on_days : Span → Delivery → Bool
on_days s d = is_in s d.day

abbrev pub no_totals : Totals
no_totals = record { records = 0; weight = 0; oil = 0 }

-- the totals of two lists of records together
abbrev pub plus_totals : Totals → Totals → Totals
plus_totals a b = record { records = a.records + b.records; weight = a.weight + b.weight; oil = a.oil + b.oil }

-- totals of at most m records
pub record LightTotals (m : ℕ) (t : Totals) : Type 0 where
  pub few : t.records ≤ m
  pub light : t.weight ≤ most_weight * m
  pub little : t.oil ≤ most_weight * most_yield * m

-- "the number of matching records, their total weight and their total oil (weight × yield)"
unfoldable pub totals_of : List Delivery → Totals
totals_of ds = record { records = length ds; weight = sum_of (map weight_of ds); oil = sum_of (map (λ (d : Delivery). d.weight * d.oil_yield) ds) }

abbrev pub totals_between : ℕ → ℕ → List Delivery → Totals
totals_between lo hi ds = totals_of (keep (matches lo hi) ds)

abbrev pub totals_during : ℕ → ℕ → Span → List Delivery → Totals
totals_during lo hi s ds = totals_between lo hi (keep (on_days s) ds)
